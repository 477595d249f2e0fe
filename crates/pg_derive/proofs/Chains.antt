-- A chain answers as its operand followed by `rest`, `choice(seq(separator, operand, rest), seq())`: each run of the one is made
-- into a run of the other, round by round.
use Rattle.std.proofs.Common.{◌≡◌, ◌+◌, ◌<◌, ℕ, zero, suc, List, [], ◌∷◌, Bool, true, false, ◌||◌, refl, sym, ◌∙◌, ap, subst, length, Some, slice_get, arith, le_refl}
use Rattle.std.proofs.lemmas.Bool.{or_parts}
use Rattle.pg_text.specs.Position.{start}
use Rattle.pg_tree.specs.Trees.{Tree}
use Rattle.pg_tree.specs.declared.shape.Shape.{Shape}
use Rattle.pg_grammar_form.specs.Forms.{Node}
use Rattle.pg_grammar_form.specs.declared.form.Form.TheVariants as form
use Rattle.pg_grammar_value.specs.declared.grammar.Rule as declared
use Rattle.pg_grammar_form.specs.declared.side.Side.{Side}
use Rattle.pg_grammar_value.specs.declared.trail.TrailItem.{TrailItem}
use Rattle.pg_grammar_value.specs.declared.trail.TrailItem.TheVariants.{Alt, Rounds}
use Rattle.pg_grammar_form.specs.declared.used.ChainBuilder.{ChainBuilder}
use Rattle.pg_message.proofs.Nothing.{merged-nothing}
use Rattle.pg_language.proofs.Unique.{same}
use Rattle.pg_language.specs.Answers as answers
use Rattle.pg_language.specs.Answers.{Given, Answers, entered, AnswersForm, nothing, seq, choice, rule, AnswersParts, part, AfterPart, part_last, part_failed, part_stuck, part_ok, AnswersAlternatives, no_alternative, alternative, AfterAlternative, alternative_consumed, alternative_stands, alternative_waits, alternative_commits, alternative_failed, alternative_stuck, first_operand, AfterFirst, first_failed, first_stuck, first_ok, AnswersLinks, link, AfterSeparator, separator_failed, separator_stuck, separator_ok, AfterOperand, operand_failed, operand_stuck, operand_ok}
use Rattle.pg_language.specs.Derives.{Spot, carried, folded}
use Rattle.pg_language.specs.Errors.{Error, with_position, without_position, merge, no_messages_at}
use Rattle.pg_language.specs.Outcomes.{Outcome, ok, failed, empty_round}
use Rattle.pg_language.specs.Reactions.{error_after, then_rest, noted, after_failure, as_finished, unless_begun}
use Rattle.pg_language.specs.declared.reading.Reading.{Reading}
use Rattle.pg_language.specs.declared.reading.Reading.TheVariants.{Library, Report}
use Rattle.pg_derive.specs.Chains.{AreCopies, IsRest, Round, OkRounds, no_round, ok_round, links_of, forest_of, trail_of, rest_trail, AreAlike, both_ok, both_failed, both_stuck, SomeRun, ChainsAreOperandsAndRests}
use Rattle.pg_derive.proofs.Still.{stays}

-- what says nothing twice says nothing
nothing_twice : (i : ℕ) → merge (no_messages_at i) (no_messages_at i) ≡ no_messages_at i
nothing_twice i = ap without_position (merged-nothing (with_position start (no_messages_at i)) (with_position start (no_messages_at i)) refl (le_refl i))

-- where one of two consumed, all three did together
all_consumed : (c d x : Bool) → (c || d) ≡ true → (c || (d || x)) ≡ true
all_consumed true d x h = refl
all_consumed false true x h = refl
all_consumed false false x h = absurd cc

-- what stands at a node answers as the node does, with a node less
record AtForm (G : Given) (n : Node) (a : Spot) (o : Outcome) (m : ℕ) : Type 0 where
  count : ℕ
  entered_too : m ≡ suc count
  run : AnswersForm G n a o count

at_form : {G : Given} {p : ℕ} {n : Node} {a : Spot} {o : Outcome} {m : ℕ} → Answers G p a o m → slice_get G.grammar.nodes p ≡ Some n → AtForm G n a o m
at_form {G = G} {n = n} {a = a} {o = o} (entered {m = m} {n = k} e d) h =
    let same : k ≡ n = cc in record { count = m; entered_too = refl; run = subst (λ (f : Node). AnswersForm G f a o m) same d }

copied : {G : Given} {p q : ℕ} {a : Spot} {o : Outcome} {m : ℕ} → AreCopies G.grammar p q → Answers G q a o m → Answers G p a o m
copied e (entered h d) = entered (e ∙ h) d

-- ---- rounds beside rest

-- the outcome of the links after a forest, with the given number of ok ones, beside the outcome of rest
data LinksAlike (G : Given) (side : Side) (shape : Shape) (p s : ℕ) (left : List Tree) (a : Spot) : ℕ → Outcome → Outcome → Type 0 where
  links_ok : {x : Bool} {b : Spot} {e : Error} {rounds : List Round} → OkRounds G p s rounds a b →
      LinksAlike G side shape p s left a (length rounds) (ok x b (folded side shape left (links_of rounds)) (trail_of rounds) e) (ok x b (forest_of rounds) (rest_trail rounds) e)
  links_failed : {k : ℕ} {x : Bool} {e : Error} → LinksAlike G side shape p s left a k (failed x e) (failed x e)
  links_stuck : {k : ℕ} → LinksAlike G side shape p s left a k empty_round empty_round

module _ (G : Given) (side : Side) (shape : Shape) (p s node : ℕ) (is : IsRest G.grammar p s node) where
  -- rest, and its first alternative
  abbrev Rest : Spot → Outcome → ℕ → Type 0
  Rest a o m = AnswersForm G (form.Rule is.rule) a o m

  abbrev First : Spot → Outcome → ℕ → Type 0
  First a o m = AnswersParts G is.first (is.second ∷ is.third ∷ []) a o m

  abbrev AfterFirstOne : Spot → Outcome → Outcome → ℕ → Type 0
  AfterFirstOne a x o m = AfterAlternative G 1 (is.nothing ∷ []) a x o m

  rest_by : {a : Spot} {x o : Outcome} {m n : ℕ} → First a x m → AfterFirstOne a x o n → Rest a o (suc (suc m + n))
  rest_by run after = rule is.is_rule (entered is.is_choice (choice (alternative (entered is.is_round (seq run)) after)))

  -- the second alternative
  second : (a : Spot) → (m : ℕ) × AnswersAlternatives G 2 (is.nothing ∷ []) a (ok false a [] (Alt 2 ∷ []) (no_messages_at a.place)) m
  second a = go G.reading refl
    where
      empty : Answers G is.nothing a (ok false a [] [] (no_messages_at a.place)) 1
      empty = entered is.is_nothing nothing

      go : (reading : Reading) → G.reading ≡ reading → (m : ℕ) × AnswersAlternatives G 2 (is.nothing ∷ []) a (ok false a [] (Alt 2 ∷ []) (no_messages_at a.place)) m
      go Library h = (_, alternative empty (alternative_stands h))
      go Report h =
          let run = alternative empty (alternative_waits h no_alternative) in
          (_, subst (λ e. AnswersAlternatives G 2 (is.nothing ∷ []) a (ok false a [] (Alt 2 ∷ []) e) 1) (nothing_twice a.place) run)

  -- ---- from links to rest

  record RestRun (left : List Tree) (a : Spot) (k : ℕ) (o : Outcome) : Type 0 where
    outcome : Outcome
    count : ℕ
    run : Rest a outcome count
    alike : LinksAlike G side shape p s left a k o outcome

  -- no link comes any more
  rest_ends : (x : Bool) (e : Error) (m : ℕ) (left : List Tree) (a : Spot) → First a (failed x e) m → RestRun left a zero (unless_begun x a left e)
  rest_ends true e m left a run = record { outcome = failed true e; count = _; run = rest_by run alternative_commits; alike = links_failed }
  rest_ends false e m left a run = record {
    outcome = ok false a [] (Alt 2 ∷ []) (merge e (no_messages_at a.place));
    count = _;
    run = rest_by run (alternative_failed (second a).1);
    alike = links_ok no_round;
  }

  rest_stuck : (k m : ℕ) (left : List Tree) (a : Spot) → First a empty_round m → RestRun left a k empty_round
  rest_stuck k m left a run = record { outcome = empty_round; count = _; run = rest_by run alternative_stuck; alike = links_stuck }

  -- a round that consumed is the first alternative
  first_taken : (x : Bool) → x ≡ true → {a b : Spot} {v : List Tree} {t : List TrailItem} {e : Error} {m : ℕ} → First a (ok x b v t e) m → Rest a (ok x b v (Alt 1 ∷ t) e) (suc (suc m + zero))
  first_taken true h run = rest_by run alternative_consumed
  first_taken false h run = absurd cc

  first_commits : (x : Bool) → x ≡ true → {a : Spot} {e : Error} {m : ℕ} → First a (failed x e) m → Rest a (failed x e) (suc (suc m + zero))
  first_commits true h run = rest_by run alternative_commits
  first_commits false h run = absurd cc

  rest_goes_on : {left v w : List Tree} {t u : List TrailItem} {a b c : Spot} {x y : Bool} {e f : Error} {i j k l : ℕ} {o q : Outcome} → (x || y) ≡ true →
      Answers G is.first a (ok x b v t e) i → Answers G is.second b (ok y c w u f) j → Rest c q l → LinksAlike G side shape p s (carried side shape left v w) c k o q →
      RestRun left a (suc k) (then_rest x [] t e (then_rest y [] u f (as_finished side shape left v o)))
  rest_goes_on {x = x} {y = y} h one two rest (links_ok {x = z} rounds) = record {
    outcome = _;
    count = _;
    run = first_taken (x || (y || z)) (all_consumed x y z h) (part one (part_ok (part two (part_ok (part (entered (is.is_rest ∙ is.is_use) rest) part_last)))));
    alike = links_ok (ok_round (copied (sym is.is_separator) one) (copied (sym is.is_operand) two) rounds);
  }
  rest_goes_on {x = x} {y = y} h one two rest (links_failed {x = z}) = record {
    outcome = _;
    count = _;
    run = first_commits (x || (y || z)) (all_consumed x y z h) (part one (part_ok (part two (part_ok (part (entered (is.is_rest ∙ is.is_use) rest) part_last)))));
    alike = links_failed;
  }
  rest_goes_on h one two rest links_stuck =
      rest_stuck _ _ _ _ (part one (part_ok (part two (part_ok (part (entered (is.is_rest ∙ is.is_use) rest) part_last)))))

  mutual
    rest_of : {left : List Tree} {k : ℕ} {a : Spot} {o : Outcome} {m : ℕ} → AnswersLinks G side shape p s left k a o m → RestRun left a k o
    rest_of (link d r) = after_separator r (copied is.is_separator d)

    after_separator : {left : List Tree} {k : ℕ} {a : Spot} {x o : Outcome} {m n : ℕ} → AfterSeparator G side shape p s left k a x o m → Answers G is.first a x n → RestRun left a k o
    after_separator (separator_failed {left = left} {a = a} {c = x} {e = e}) one = rest_ends x e _ left a (part one part_failed)
    after_separator (separator_stuck {left = left} {a = a}) one = rest_stuck _ _ left a (part one part_stuck)
    after_separator (separator_ok d r) one = after_operand r one (copied is.is_operand d)

    after_operand : {left : List Tree} {k : ℕ} {a b : Spot} {c : Bool} {v : List Tree} {t : List TrailItem} {e : Error} {x o : Outcome} {m n l : ℕ} →
        AfterOperand G side shape p s left k a c v t e x o m → Answers G is.first a (ok c b v t e) n → Answers G is.second b x l → RestRun left a k o
    after_operand (operand_failed {left = left} {a = a} {c = x} {d = y} {e = e} {f = f}) one two = rest_ends (x || y) (error_after y e f) _ left a (part one (part_ok (part two part_failed)))
    after_operand (operand_stuck {left = left} {a = a}) one two = rest_stuck _ _ left a (part one (part_ok (part two part_stuck)))
    after_operand (operand_ok h d) one two = let rest = rest_of d in rest_goes_on h one two rest.run rest.alike

  -- ---- from rest to links

  -- links after the forest that come to what rest came to
  record LinksRun (left : List Tree) (a : Spot) (q : Outcome) : Type 0 where
    rounds : ℕ
    outcome : Outcome
    count : ℕ
    run : AnswersLinks G side shape p s left rounds a outcome count
    alike : LinksAlike G side shape p s left a rounds outcome q

  -- what rest ran first
  record RestFirst (a : Spot) (q : Outcome) (m : ℕ) : Type 0 where
    outcome : Outcome
    count : ℕ
    more : ℕ
    run : First a outcome count
    after : AfterFirstOne a outcome q more
    fewer : count < m

  rest_first : {a : Spot} {q : Outcome} {m : ℕ} → Rest a q m → RestFirst a q m
  rest_first {a} {q} {m} (rule {named = named} e d) =
      let same : named ≡ is.named = cc in from (at_form (subst (λ (n : declared.Rule). Answers G n.body a q m) same d) is.is_choice)
    where
      parts : {x : Outcome} {k i : ℕ} → AnswersForm G (form.Seq (is.first ∷ is.second ∷ is.third ∷ [])) a x i → AfterFirstOne a x q k → i < m → RestFirst a q m
      parts (seq run) after l = record { outcome = _; count = _; more = _; run = run; after = after; fewer = l }

      alternatives : {k : ℕ} → m ≡ suc k → AnswersForm G (form.Choice (is.round ∷ is.nothing ∷ [])) a q k → RestFirst a q m
      alternatives h (choice (alternative d after)) = let round = at_form d is.is_round in let counted = round.entered_too in parts round.run after (omega arith)

      from : AtForm G (form.Choice (is.round ∷ is.nothing ∷ [])) a q m → RestFirst a q m
      from run = alternatives run.entered_too run.run

  -- the second alternative answers as it does
  nothing_else : (a : Spot) {o : Outcome} {m : ℕ} → AnswersAlternatives G 2 (is.nothing ∷ []) a o m → ok false a [] (Alt 2 ∷ []) (no_messages_at a.place) ≡ o
  nothing_else a (alternative d r) = let empty = at_form d is.is_nothing in go empty.run r
    where
      go : {x o : Outcome} {m n : ℕ} → AnswersForm G (form.Seq []) a x m → AfterAlternative G 2 [] a x o n → ok false a [] (Alt 2 ∷ []) (no_messages_at a.place) ≡ o
      go nothing (alternative_stands h) = refl
      go nothing (alternative_waits h no_alternative) = ap (λ e. ok false a [] (Alt 2 ∷ []) e) (sym (nothing_twice a.place))

  -- what comes after a first alternative that failed
  links_end : (x : Bool) (e : Error) (left : List Tree) (a : Spot) (q : Outcome) (m n : ℕ) → AfterFirstOne a (failed x e) q m → AnswersLinks G side shape p s left zero a (unless_begun x a left e) n →
      LinksRun left a q
  links_end true e left a q m n alternative_commits run = record { rounds = zero; outcome = failed true e; count = n; run = run; alike = links_failed }
  links_end false e left a q m n (alternative_failed {o = o} d) run = record {
    rounds = zero;
    outcome = ok false a left [] (merge e (no_messages_at a.place));
    count = n;
    run = run;
    alike = subst (λ o. LinksAlike G side shape p s left a zero (ok false a left [] (merge e (no_messages_at a.place))) (after_failure e o)) (nothing_else a d) (links_ok no_round);
  }

  -- what a first alternative that consumed, or met an empty round, makes of rest
  taken_as : (x : Bool) → x ≡ true → {a b : Spot} {v : List Tree} {t : List TrailItem} {e : Error} {q : Outcome} {m : ℕ} → AfterFirstOne a (ok x b v t e) q m → ok x b v (Alt 1 ∷ t) e ≡ q
  taken_as true h alternative_consumed = refl
  taken_as false h after = absurd cc

  commits_as : (x : Bool) → x ≡ true → {a : Spot} {e : Error} {q : Outcome} {m : ℕ} → AfterFirstOne a (failed x e) q m → failed x e ≡ q
  commits_as true h alternative_commits = refl
  commits_as false h after = absurd cc

  stuck_as : {a : Spot} {q : Outcome} {m : ℕ} → AfterFirstOne a empty_round q m → empty_round ≡ q
  stuck_as alternative_stuck = refl

  links_stop : (left : List Tree) (a : Spot) (q : Outcome) (k m n : ℕ) → AfterFirstOne a empty_round q m → AnswersLinks G side shape p s left k a empty_round n → LinksRun left a q
  links_stop left a q k m n after run = record { rounds = k; outcome = empty_round; count = n; run = run; alike = subst (LinksAlike G side shape p s left a k empty_round) (stuck_as after) links_stuck }

  links_go_on : {left v w : List Tree} {t u : List TrailItem} {a b c : Spot} {x y : Bool} {e f : Error} {i j k l m : ℕ} {o z q : Outcome} → (x || y) ≡ true →
      Answers G s a (ok x b v t e) i → Answers G p b (ok y c w u f) j → AnswersLinks G side shape p s (carried side shape left v w) k c o l → LinksAlike G side shape p s (carried side shape left v w) c k o z →
      AfterFirstOne a (then_rest x v t e (then_rest y w u f z)) q m → LinksRun left a q
  links_go_on {left} {a = a} {x = x} {y = y} h one two run (links_ok {x = z} rounds) after = record {
    rounds = _;
    outcome = _;
    count = _;
    run = link one (separator_ok two (operand_ok h run));
    alike = subst (LinksAlike G side shape p s left a _ _) (taken_as (x || (y || z)) (all_consumed x y z h) after) (links_ok (ok_round one two rounds));
  }
  links_go_on {left} {a = a} {x = x} {y = y} h one two run (links_failed {x = z}) after = record {
    rounds = _;
    outcome = _;
    count = _;
    run = link one (separator_ok two (operand_ok h run));
    alike = subst (LinksAlike G side shape p s left a _ _) (commits_as (x || (y || z)) (all_consumed x y z h) after) links_failed;
  }
  links_go_on {left} {a = a} h one two run links_stuck after = links_stop left a _ _ _ _ after (link one (separator_ok two (operand_ok h run)))

  -- a round that consumes nothing would come again and again
  no_loop : {a b c : Spot} {v w : List Tree} {t u : List TrailItem} {e f : Error} {o q : Outcome} {i j m n : ℕ} → n < m → Rest a o m →
      Answers G is.first a (ok false b v t e) i → Answers G is.second b (ok false c w u f) j → Rest c q n → ⊥
  no_loop {q = q} {n = n} l rest one two more =
      let there = subst (λ (z : Spot). Rest z q n) (stays G two ∙ stays G one) more in
      let counted = (same (entered is.is_use rest) (entered is.is_use there)).count in
      omega arith

  abbrev Shorter : ℕ → Type 0
  Shorter n = (left : List Tree) (a : Spot) (q : Outcome) (m : ℕ) → m < n → Rest a q m → LinksRun left a q

  by_rounds : {n : ℕ} → Shorter n → {left v w : List Tree} {t u : List TrailItem} {a b c : Spot} {x y : Bool} {e f : Error} {i j k l m : ℕ} {o z q : Outcome} → m < suc n → Rest a o m →
      Answers G is.first a (ok x b v t e) i → Answers G is.second b (ok y c w u f) j → l < m → Rest c z l → AfterFirstOne a (then_rest x v t e (then_rest y w u f z)) q k → LinksRun left a q
  by_rounds shorter {left} {v} {w} {t} {u} {a} {b} {c} {x} {y} {e} {f} {i} {j} {k} {l} {m} {o} {z} {q} near rest one two less more after = go (x || y) refl
    where
      go : (both : Bool) → (x || y) ≡ both → LinksRun left a q
      go true h =
          let links = shorter (carried side shape left v w) c z l (omega arith) more in
          links_go_on h (copied (sym is.is_separator) one) (copied (sym is.is_operand) two) links.run links.alike after
      go false h =
          let none = or_parts x y h in
          absurd (no_loop less rest (subst (λ d. Answers G is.first a (ok d b v t e) i) none.0 one) (subst (λ d. Answers G is.second b (ok d c w u f) j) none.1 two) more)

  by_operand : {n : ℕ} → Shorter n → {left v : List Tree} {t : List TrailItem} {a b : Spot} {x : Bool} {e : Error} {i j k l m : ℕ} {o y z q : Outcome} → m < suc n → Rest a o m → j + l < m →
      Answers G is.first a (ok x b v t e) i → Answers G is.second b y j → AfterPart G (is.third ∷ []) y z l → AfterFirstOne a (then_rest x v t e z) q k → LinksRun left a q
  by_operand shorter {left} {a = a} {x = x} {e = e} near rest less one two (part_failed {c = y} {e = f}) after =
      links_end (x || y) (error_after y e f) left a _ _ _ after (link (copied (sym is.is_separator) one) (separator_ok (copied (sym is.is_operand) two) operand_failed))
  by_operand shorter {left} {a = a} near rest less one two part_stuck after =
      links_stop left a _ _ _ _ after (link (copied (sym is.is_separator) one) (separator_ok (copied (sym is.is_operand) two) operand_stuck))
  by_operand shorter near rest less one two (part_ok (part three part_last)) after =
      let more = at_form three (is.is_rest ∙ is.is_use) in
      let counted = more.entered_too in
      by_rounds shorter near rest one two (omega arith) more.run after

  by_separator : {n : ℕ} → Shorter n → {left : List Tree} {a : Spot} {i j k m : ℕ} {o x y q : Outcome} → m < suc n → Rest a o m → i + j < m →
      Answers G is.first a x i → AfterPart G (is.second ∷ is.third ∷ []) x y j → AfterFirstOne a y q k → LinksRun left a q
  by_separator shorter {left} {a} near rest less one (part_failed {c = x} {e = e}) after = links_end x e left a _ _ _ after (link (copied (sym is.is_separator) one) separator_failed)
  by_separator shorter {left} {a} near rest less one part_stuck after = links_stop left a _ _ _ _ after (link (copied (sym is.is_separator) one) separator_stuck)
  by_separator shorter near rest less one (part_ok (part two r)) after = by_operand shorter near rest (omega arith) one two r after

  by_first : {n : ℕ} → Shorter n → {left : List Tree} {a : Spot} {i k m : ℕ} {o x q : Outcome} → m < suc n → Rest a o m → i < m → First a x i → AfterFirstOne a x q k → LinksRun left a q
  by_first shorter near rest less (part one r) after = by_separator shorter near rest less one r after

  links_below : (n : ℕ) → Shorter n
  links_below zero left a q m l rest = absurd (omega arith)
  links_below (suc n) left a q m l rest =
      let first = rest_first rest in by_first (λ left a q m l d. links_below n left a q m l d) l rest first.fewer first.run first.after

  links_of_rest : (left : List Tree) {a : Spot} {q : Outcome} {m : ℕ} → Rest a q m → LinksRun left a q
  links_of_rest left {a} {q} {m} rest = links_below (suc m) left a q m (le_refl _) rest

-- ---- chains

module _ (G : Given) (side : Side) (used : ChainBuilder) (p s first rest : ℕ) (copy : AreCopies G.grammar first p) (is : IsRest G.grammar p s rest) (a : Spot) where
  abbrev Alike : Outcome → Outcome → Type 0
  Alike o q = AreAlike G side used.shape p s a o q

  abbrev SeqRun : Outcome → Type 0
  SeqRun o = SomeRun G (form.Seq (first ∷ rest ∷ [])) a (λ q. Alike o q)

  abbrev ChainRun : Outcome → Type 0
  ChainRun q = SomeRun G (form.Chain side used p s) a (λ o. Alike o q)

  then_links : {b : Spot} {x : Bool} {v : List Tree} {t : List TrailItem} {e : Error} {i j k : ℕ} {o q : Outcome} → Answers G p a (ok x b v t e) i →
      AnswersForm G (form.Rule is.rule) b q j → LinksAlike G side used.shape p s v b k o q → SeqRun (noted (Rounds k) (then_rest x [] t e o))
  then_links d run (links_ok rounds) = record { outcome = _; count = _; run = seq (part (copied copy d) (part_ok (part (entered is.is_use run) part_last))); is_so = both_ok d rounds }
  then_links d run links_failed = record { outcome = _; count = _; run = seq (part (copied copy d) (part_ok (part (entered is.is_use run) part_last))); is_so = both_failed }
  then_links d run links_stuck = record { outcome = _; count = _; run = seq (part (copied copy d) (part_ok (part (entered is.is_use run) part_last))); is_so = both_stuck }

  seq_after : {k m n : ℕ} {x o : Outcome} → Answers G p a x m → AfterFirst G side used.shape p s k x o n → SeqRun (noted (Rounds k) o)
  seq_after d first_failed = record { outcome = _; count = _; run = seq (part (copied copy d) part_failed); is_so = both_failed }
  seq_after d first_stuck = record { outcome = _; count = _; run = seq (part (copied copy d) part_stuck); is_so = both_stuck }
  seq_after d (first_ok links) = let run = rest_of G side used.shape p s rest is links in then_links d run.run run.alike

  seq_of_chain : {o : Outcome} {m : ℕ} → AnswersForm G (form.Chain side used p s) a o m → SeqRun o
  seq_of_chain (answers.chain (first_operand d r)) = seq_after d r

  then_rests : {b : Spot} {x : Bool} {v : List Tree} {t : List TrailItem} {e : Error} {i j k : ℕ} {o q : Outcome} → Answers G p a (ok x b v t e) i →
      AnswersLinks G side used.shape p s v k b o j → LinksAlike G side used.shape p s v b k o q → ChainRun (then_rest x v t e q)
  then_rests d run (links_ok rounds) = record { outcome = _; count = _; run = answers.chain (first_operand d (first_ok run)); is_so = both_ok d rounds }
  then_rests d run links_failed = record { outcome = _; count = _; run = answers.chain (first_operand d (first_ok run)); is_so = both_failed }
  then_rests d run links_stuck = record { outcome = _; count = _; run = answers.chain (first_operand d (first_ok run)); is_so = both_stuck }

  chain_after : {m n : ℕ} {x q : Outcome} → Answers G p a x m → AfterPart G (rest ∷ []) x q n → ChainRun q
  chain_after d part_failed = record { outcome = _; count = _; run = answers.chain (first_operand d first_failed); is_so = both_failed }
  chain_after d part_stuck = record { outcome = _; count = _; run = answers.chain (first_operand d first_stuck); is_so = both_stuck }
  chain_after d (part_ok {v = v} (part more part_last)) =
      let run = at_form more is.is_use in
      let links = links_of_rest G side used.shape p s rest is v run.run in
      then_rests d links.run links.alike

  chain_of_seq : {q : Outcome} {m : ℕ} → AnswersForm G (form.Seq (first ∷ rest ∷ [])) a q m → ChainRun q
  chain_of_seq (seq (part d r)) = chain_after (copied (sym copy) d) r

pub chains_and_rests : ChainsAreOperandsAndRests
chains_and_rests G side used operand separator p rest copy is a =
    ((λ o m d. seq_of_chain G side used operand separator p rest copy is a d), (λ q n d. chain_of_seq G side used operand separator p rest copy is a d))
