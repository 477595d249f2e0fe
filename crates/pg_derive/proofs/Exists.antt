-- In a predictive grammar each node answers at each place, under each table of the grammar: no run goes on without an end, and no
-- repetition meets a round that consumes nothing.
use Rattle.std.proofs.Common.{◌≡◌, ◌+◌, ◌<◌, ◌≤◌, ◌⊎◌, inl, inr, ℕ, zero, suc, List, [], ◌∷◌, Bool, true, false, ◌||◌, refl, ◌∙◌, ap, length, Option, Some, None, slice_get, ◌==◌, if◌then◌else◌, arith, le_refl}
use Rattle.std.specs.Prelude.{nat_lt}
use Rattle.std.specs.List.{AllByRecursion, list_any}
use Rattle.std.specs.Str.{bytes_eq}
use Rattle.pg_grammar_form.specs.ClassItems.{has_character}
use Rattle.pg_grammar_form.specs.declared.class.ClassPart.{ClassPart}
use Rattle.pg_grammar_form.specs.declared.word_item.WordItem.{WordItem}
use Rattle.pg_language.specs.Runs.{run_at}
use Rattle.std.specs.Str.{all_scalars}
use Rattle.pg_tree.specs.Trees.{Tree}
use Rattle.pg_tree.specs.declared.shape.Shape.{Shape}
use Rattle.pg_grammar_value.specs.Grammar.{Grammar}
use Rattle.pg_grammar_form.specs.Forms.{Node}
use Rattle.pg_grammar_form.specs.declared.form.Form.TheVariants as form
use Rattle.pg_grammar_form.specs.declared.form.Leaf.{Leaf}
use Rattle.pg_grammar_form.specs.declared.form.Leaf.TheVariants as leaf
use Rattle.pg_grammar_form.specs.declared.form.Around.{Around}
use Rattle.pg_grammar_form.specs.declared.form.Around.TheVariants as kind
use Rattle.pg_grammar_value.specs.declared.grammar.Rule as declared
use Rattle.pg_grammar_value.specs.declared.trail.TrailItem.{TrailItem}
use Rattle.pg_language.specs.Derives.{Spot, Derives, carried}
use Rattle.pg_table.specs.Tables.{ComesFrom, admit_fault}
use Rattle.pg_table.specs.declared.admit_fault.AdmitFault.{AdmitFault}
use Rattle.pg_language.specs.Declarations.{Declaration, no_keyword, no_digit, no_symbol, declared, declaration_at, unless_refused, declaration_outcome}
use Rattle.pg_language.proofs.Onward.{leads_on}
use Rattle.pg_language.specs.Answers as answers
use Rattle.pg_language.specs.Answers.{Given, Answers, entered, AnswersForm, nothing, seq, choice, many, rule, AnswersParts, part, part_last, part_failed, part_ok, AnswersAlternatives, no_alternative, alternative, alternative_consumed, alternative_stands, alternative_waits, alternative_commits, alternative_failed, AnswersRounds, round, round_ended, round_failed, round_ok, AnswersChain, first_operand, first_failed, first_ok, AnswersLinks, link, separator_failed, separator_ok, operand_failed, operand_ok}
use Rattle.pg_language.specs.Errors.{Error}
use Rattle.pg_language.specs.Outcomes.{Outcome, ok, failed, empty_round}
use Rattle.pg_language.specs.Leaves.{satisfy_next, satisfy_outcome, matched, string_outcome, word_read, word_next, word_outcome, not_followed_next, not_followed_outcome, end_outcome, some_word_outcome, some_declare_outcome}
use Rattle.pg_language.specs.Reactions.{unless_begun}
use Rattle.pg_grammar_form.specs.declared.side.Side.{Side}
use Rattle.pg_language.specs.declared.reading.Reading.{Reading}
use Rattle.pg_language.specs.declared.reading.Reading.TheVariants.{Library, Report}
use Rattle.pg_language.proofs.Sound.{sound}
use Rattle.pg_derive.specs.ClosedSets.{NodeSets, PartsFall}
use Rattle.std.specs.Prelude.{reverse}
use Rattle.pg_grammar_form.specs.Operators.{Operator}
use Rattle.pg_grammar_form.specs.declared.used.OperatorBuilders.{OperatorBuilders}
use Rattle.pg_expand.specs.Rows.{rows_of}
use Rattle.pg_language.specs.Answers.{AnswersRows}
use Rattle.pg_language.specs.Derives.{at}
use Rattle.pg_language.specs.OperatorReads.{Read, read_at}
use Rattle.pg_language.specs.RowReactions.{Setting}
use Rattle.pg_language.proofs.Onward.{operator_on}
use Rattle.pg_language.proofs.ReadOn.{is_read}
use Rattle.pg_derive.proofs.RowsSettle.{IsAnswer as IsRowsAnswer, Settled, settle_rows}
use Rattle.pg_derive.specs.Predictive.{ExpressionIsPredictive, PartIsPredictive, TryIsPredictive, of_part, of_string, of_key, AlternativesArePredictive, ManyIsPredictive, ChainIsPredictive, LeafIsPredictive, AroundIsPredictive, IsPredictiveAt}
use Rattle.pg_derive.proofs.Begins.{still, moves, BeginsNode}
use Rattle.pg_derive.proofs.Complete.{begun, link_moves}
use Rattle.pg_language.proofs.Flags.{moved, both_moved}
use Rattle.pg_derive.proofs.Inverted.{comes_on}
use Rattle.pg_language.proofs.Moves.{tells}
use Rattle.pg_derive.proofs.Quiet.{IsWhole, found}

-- the run has an answer
pub data Settles (Run : Outcome → ℕ → Type 0) : Type 0 where
  settles_ok : (c : Bool) (b : Spot) (v : List Tree) (t : List TrailItem) (e : Error) (m : ℕ) → Run (ok c b v t e) m → Settles Run
  settles_failed : (c : Bool) (e : Error) (m : ℕ) → Run (failed c e) m → Settles Run

further_or_same : (i j : ℕ) → i ≤ j → (i < j) ⊎ (i ≡ j)
further_or_same i j l = grind arith

-- the outcome of a chain that ends after its links is an answer
settles_begun : (Run : Outcome → ℕ → Type 0) (c : Bool) (a : Spot) (x : List Tree) (e : Error) (m : ℕ) → Run (unless_begun c a x e) m → Settles Run
settles_begun Run true a x e m run = settles_failed true e m run
settles_begun Run false a x e m run = settles_ok false a x [] _ m run

-- it isn't that a repetition met a round that consumed nothing
abbrev IsAnswer : Outcome → Type 0
IsAnswer (ok c b v t e) = Unit {0}
IsAnswer (failed c e) = Unit {0}
IsAnswer empty_round = ⊥

answers_if : (b : Bool) (o q : Outcome) → IsAnswer o → IsAnswer q → IsAnswer (if b then o else q)
answers_if true o q f g = f
answers_if false o q f g = g

satisfy_answers : (g : Grammar) (text : List ℕ) (class : List ClassPart) (a : Spot) → IsAnswer (satisfy_outcome g text class a)
satisfy_answers g text class a = go (slice_get text a.place)
  where
    go : (next : Option ℕ) → IsAnswer (satisfy_next g class a next)
    go None = tt
    go (Some c) = answers_if (has_character g.classes class c) _ _ tt tt

string_answers : (text s : List ℕ) (a : Spot) → IsAnswer (string_outcome text s a)
string_answers text s a = answers_if (matched text s a.place == length s) _ _ tt tt

word_answers : (g : Grammar) (text : List ℕ) (item : WordItem) (a : Spot) → IsAnswer (word_outcome g text item a)
word_answers g text item a = go (slice_get text a.place)
  where
    read : (s : List ℕ) → IsAnswer (word_read item a s)
    read s = answers_if (list_any (λ reserved. bytes_eq reserved s) item.reserved) _ _ tt tt

    go : (next : Option ℕ) → IsAnswer (word_next g text item a next)
    go None = tt
    go (Some c) = answers_if (has_character g.classes item.head c) _ _ (read (c ∷ run_at g text item.rest (suc a.place))) tt

not_followed_answers : (g : Grammar) (text : List ℕ) (class : List ClassPart) (a : Spot) → IsAnswer (not_followed_outcome g text class a)
not_followed_answers g text class a = go (slice_get text a.place)
  where
    go : (next : Option ℕ) → IsAnswer (not_followed_next g class a next)
    go None = tt
    go (Some c) = answers_if (has_character g.classes class c) _ _ tt tt

declaration_answers : (text : List ℕ) (a : Spot) (x : Declaration) → IsAnswer (declaration_outcome text a x)
declaration_answers text a no_keyword = tt
declaration_answers text a (no_digit i) = tt
declaration_answers text a (no_symbol i) = tt
declaration_answers text a (declared d i j) = go (admit_fault a.table d)
  where
    go : (fault : Option AdmitFault) → IsAnswer (unless_refused d a.table i j fault)
    go (Some fault) = tt
    go None = tt

end_answers : (text : List ℕ) (a : Spot) → IsAnswer (end_outcome text a)
end_answers text a = answers_if (a.place == length text) _ _ tt tt

module _ (G : Given) (scalars : all_scalars G.text ≡ true) (whole : IsWhole G.grammar) (sets : NodeSets)
    (good : (p : ℕ) (n : Node) → slice_get G.grammar.nodes p ≡ Some n → IsPredictiveAt G.grammar sets p n)
    (spelled : (p : ℕ) (s : List ℕ) → slice_get G.grammar.nodes p ≡ Some (form.Leaf (leaf.String s)) → 0 < length s) where
  -- a place in the text, under a table of the grammar
  abbrev IsSpot : Spot → Type 0
  IsSpot a = (a.place ≤ length G.text) × ComesFrom G.grammar a.table

  abbrev AreNodes : List ℕ → Type 0
  AreNodes qs = AllByRecursion (λ q. q < length G.grammar.nodes) qs

  -- q at b is nearer to an end than p at a: further on in the text, or at a lower level at the same place
  data Nearer (p : ℕ) (a : Spot) (q : ℕ) (b : Spot) : Type 0 where
    further : a.place < b.place → Nearer p a q b
    lower : a.place ≡ b.place → sets.level q < sets.level p → Nearer p a q b

  abbrev Nearby : ℕ → Spot → Type 0
  Nearby p a = (q : ℕ) → q < length G.grammar.nodes → (b : Spot) → IsSpot b → Nearer p a q b → Settles (Answers G q b)

  -- parts at b, with a the place where p began
  data Ahead (p : ℕ) (a b : Spot) (qs : List ℕ) : Type 0 where
    beyond : a.place < b.place → Ahead p a b qs
    beside : a.place ≡ b.place → PartsFall sets (sets.level p) qs → Ahead p a b qs

  first_ahead : {p : ℕ} {a b : Spot} {q : ℕ} {qs : List ℕ} → Ahead p a b (q ∷ qs) → Nearer p a q b
  first_ahead (beyond l) = further l
  first_ahead (beside e f) = lower e f.0

  derived : {q : ℕ} {a b : Spot} {c : Bool} {v : List Tree} {t : List TrailItem} {e : Error} {m : ℕ} → Answers G q a (ok c b v t e) m → Derives G.grammar G.text q a b v t
  derived d = sound d

  ends_at_spot : {q : ℕ} {a b : Spot} {c : Bool} {v : List Tree} {t : List TrailItem} {e : Error} {m : ℕ} → Answers G q a (ok c b v t e) m → IsSpot a → IsSpot b
  ends_at_spot d h = let on = derived d in ((leads_on on).within h.0, comes_on on h.1)

  begins_at : {q : ℕ} {a b : Spot} {c : Bool} {v : List Tree} {t : List TrailItem} {e : Error} {m : ℕ} → Answers G q a (ok c b v t e) m → BeginsNode G.grammar sets G.text q a b
  begins_at d = begun G scalars whole sets good (derived d)

  -- the parts after one that was ok
  rest_ahead : {p : ℕ} {a b z : Spot} {q : ℕ} {qs : List ℕ} {c : Bool} {v : List Tree} {t : List TrailItem} {e : Error} {m : ℕ} → Ahead p a b (q ∷ qs) → Answers G q b (ok c z v t e) m → Ahead p a z qs
  rest_ahead {b = b} {z = z} {q = q} h run = go h (begins_at run)
    where
      go : {p : ℕ} {a : Spot} {qs : List ℕ} → Ahead p a b (q ∷ qs) → BeginsNode G.grammar sets G.text q b z → Ahead p a z qs
      go (beyond l) (still e n) = let same = ap (λ (x : Spot). x.place) e in beyond (omega arith)
      go (beyond l) (moves m k) = beyond (omega arith)
      go (beside e f) (still d n) = beside (e ∙ ap (λ (x : Spot). x.place) d) (f.1 n)
      go (beside e f) (moves m k) = beyond (omega arith)

  settle_parts : (p : ℕ) (a : Spot) → Nearby p a → (q : ℕ) (qs : List ℕ) (b : Spot) → IsSpot b → AreNodes (q ∷ qs) → Ahead p a b (q ∷ qs) → Settles (AnswersParts G q qs b)
  settle_parts p a near q [] b within there h = go (near q there.0 b within (first_ahead h))
    where
      go : Settles (Answers G q b) → Settles (AnswersParts G q [] b)
      go (settles_ok c z v t e m run) = settles_ok c z v t e _ (part run part_last)
      go (settles_failed c e m run) = settles_failed c e _ (part run part_last)
  settle_parts p a near q (r ∷ rs) b within there h = go (near q there.0 b within (first_ahead h)) (λ z x k. settle_parts p a near r rs z x there.1 k)
    where
      more : {c : Bool} {z : Spot} {v : List Tree} {t : List TrailItem} {e : Error} {m : ℕ} → Answers G q b (ok c z v t e) m → Settles (AnswersParts G r rs z) → Settles (AnswersParts G q (r ∷ rs) b)
      more run (settles_ok d y w u f i rest) = settles_ok _ y _ _ _ _ (part run (part_ok rest))
      more run (settles_failed d f i rest) = settles_failed _ _ _ (part run (part_ok rest))

      go : Settles (Answers G q b) → ((z : Spot) → IsSpot z → Ahead p a z (r ∷ rs) → Settles (AnswersParts G r rs z)) → Settles (AnswersParts G q (r ∷ rs) b)
      go (settles_ok c z v t e m run) rest = more run (rest z (ends_at_spot run within) (rest_ahead h run))
      go (settles_failed c e m run) rest = settles_failed c e _ (part run part_failed)

  settle_alternatives : (p : ℕ) (a : Spot) → Nearby p a → IsSpot a → (k : ℕ) (qs : List ℕ) → AlternativesArePredictive sets p qs → AreNodes qs → Settles (AnswersAlternatives G k qs a)
  settle_alternatives p a near within k [] f there = settles_failed _ _ _ no_alternative
  settle_alternatives p a near within k (q ∷ qs) f there =
      go (near q there.0 a within (lower refl f.0.falls)) (settle_alternatives p a near within (suc k) qs f.2 there.1)
    where
      Result : Type 0
      Result = Settles (AnswersAlternatives G k (q ∷ qs) a)

      Rest : Type 0
      Rest = Settles (AnswersAlternatives G (suc k) qs a)

      passed : {e : Error} {m : ℕ} → Answers G q a (failed false e) m → Rest → Result
      passed run (settles_ok c b v t f i rest) = settles_ok c b v t _ _ (alternative run (alternative_failed rest))
      passed run (settles_failed c f i rest) = settles_failed c _ _ (alternative run (alternative_failed rest))

      waits : {b : Spot} {v : List Tree} {t : List TrailItem} {e : Error} {m : ℕ} → Answers G q a (ok false b v t e) m → G.reading ≡ Report → Rest → Result
      waits run r (settles_ok true d w u f i rest) = settles_ok true d w u f _ (alternative run (alternative_waits r rest))
      waits {b = b} {v = v} run r (settles_ok false d w u f i rest) = settles_ok false b v _ _ _ (alternative run (alternative_waits r rest))
      waits run r (settles_failed true f i rest) = settles_failed true f _ (alternative run (alternative_waits r rest))
      waits {b = b} {v = v} run r (settles_failed false f i rest) = settles_ok false b v _ _ _ (alternative run (alternative_waits r rest))

      empty : {b : Spot} {v : List Tree} {t : List TrailItem} {e : Error} {m : ℕ} → Answers G q a (ok false b v t e) m → Rest → (reading : Reading) → G.reading ≡ reading → Result
      empty {b = b} {v = v} run rest Library r = settles_ok false b v _ _ _ (alternative run (alternative_stands r))
      empty run rest Report r = waits run r rest

      go : Settles (Answers G q a) → Rest → Result
      go (settles_ok true b v t e m run) rest = settles_ok true b v _ e _ (alternative run alternative_consumed)
      go (settles_ok false b v t e m run) rest = empty run rest G.reading refl
      go (settles_failed true e m run) rest = settles_failed true e _ (alternative run alternative_commits)
      go (settles_failed false e m run) rest = passed run rest

  -- rounds of q from b on, counted
  abbrev SomeRounds : ℕ → Spot → Outcome → ℕ → Type 0
  SomeRounds q b o m = (k : ℕ) × AnswersRounds G q k b o m

  settle_rounds : (p : ℕ) (a : Spot) → Nearby p a → (q : ℕ) → q < length G.grammar.nodes → ManyIsPredictive sets p q → (n : ℕ) (b : Spot) → IsSpot b → length G.text < n + b.place → Ahead p a b (q ∷ []) →
      Settles (SomeRounds q b)
  settle_rounds p a near q there f zero b within l h = let inside = within.0 in absurd (omega arith)
  settle_rounds p a near q there f (suc n) b within l h = go (near q there b within (first_ahead h)) (λ z x y k. settle_rounds p a near q there f n z x y k)
    where
      moves_on : {z : Spot} → BeginsNode G.grammar sets G.text q b z → b.place < z.place
      moves_on (still e x) = let full = f.full in absurd (cc)
      moves_on (moves m k) = m

      ahead : {z : Spot} → b.place < z.place → Ahead p a b (q ∷ []) → Ahead p a z (q ∷ [])
      ahead m (beyond x) = beyond (omega arith)
      ahead m (beside x y) = beyond (omega arith)

      more : {z : Spot} {v : List Tree} {t : List TrailItem} {e : Error} {m : ℕ} → Answers G q b (ok true z v t e) m → Settles (SomeRounds q z) → Settles (SomeRounds q b)
      more run (settles_ok c y w u g i rest) = settles_ok true y _ _ g _ (suc rest.0, round run (round_ok rest.1))
      more run (settles_failed c g i rest) = settles_failed true g _ (suc rest.0, round run (round_ok rest.1))

      consumed : (c : Bool) {z : Spot} {v : List Tree} {t : List TrailItem} {e : Error} {m : ℕ} → b.place < z.place → c ≡ nat_lt b.place z.place → Answers G q b (ok c z v t e) m → Answers G q b (ok true z v t e) m
      consumed true l h run = run
      consumed false l h run = let far = moved l in absurd (cc)

      go : Settles (Answers G q b) → ((z : Spot) → IsSpot z → length G.text < n + z.place → Ahead p a z (q ∷ []) → Settles (SomeRounds q z)) → Settles (SomeRounds q b)
      go (settles_ok c z v t e m run) rest =
          let x = moves_on (begins_at run) in
          let flag = (tells G spelled run).0 in
          more (consumed c x flag run) (rest z (ends_at_spot run within) (omega arith) (ahead x h))
      go (settles_failed true e m run) rest = settles_failed true e _ (zero, round run round_failed)
      go (settles_failed false e m run) rest = settles_ok false b [] [] e _ (zero, round run round_ended)

  -- links of q and r from b on, counted
  abbrev SomeLinks : Side → Shape → ℕ → ℕ → List Tree → Spot → Outcome → ℕ → Type 0
  SomeLinks side shape q r left b o m = (k : ℕ) × AnswersLinks G side shape q r left k b o m

  settle_links : (p : ℕ) (a : Spot) → Nearby p a → (side : Side) (shape : Shape) (q r : ℕ) → q < length G.grammar.nodes → r < length G.grammar.nodes → ChainIsPredictive sets p q r →
      (n : ℕ) (left : List Tree) (b : Spot) → IsSpot b → length G.text < n + b.place → Ahead p a b (r ∷ q ∷ []) → Settles (SomeLinks side shape q r left b)
  settle_links p a near side shape q r is_q is_r f zero left b within l h = let inside = within.0 in absurd (omega arith)
  settle_links p a near side shape q r is_q is_r f (suc n) left b within l h =
      go (near r is_r b within (first_ahead h)) (λ left z x y k. settle_links p a near side shape q r is_q is_r f n left z x y k)
    where
      Result : Type 0
      Result = Settles (SomeLinks side shape q r left b)

      Again : Type 0
      Again = (left : List Tree) (z : Spot) → IsSpot z → length G.text < n + z.place → Ahead p a z (r ∷ q ∷ []) → Settles (SomeLinks side shape q r left z)

      ahead : {z : Spot} → b.place < z.place → Ahead p a b (r ∷ q ∷ []) → Ahead p a z (r ∷ q ∷ [])
      ahead m (beyond x) = beyond (omega arith)
      ahead m (beside x y) = beyond (omega arith)

      more : {c d : Bool} {y z : Spot} {v w : List Tree} {t u : List TrailItem} {e g : Error} {i j : ℕ} → Answers G r b (ok c z v t e) i → Answers G q z (ok d y w u g) j → (c || d) ≡ true →
          Settles (SomeLinks side shape q r (carried side shape left v w) y) → Result
      more separator operand x (settles_ok k y w u g i rest) = settles_ok _ y _ _ _ _ (suc rest.0, link separator (separator_ok operand (operand_ok x rest.1)))
      more separator operand x (settles_failed k g i rest) = settles_failed _ _ _ (suc rest.0, link separator (separator_ok operand (operand_ok x rest.1)))

      linked : {c : Bool} {z : Spot} {v : List Tree} {t : List TrailItem} {e : Error} {i : ℕ} → Answers G r b (ok c z v t e) i → Settles (Answers G q z) → Again → Result
      linked {c = c} {z = z} {v = v} separator (settles_ok d y w u g j operand) again =
          let first = tells G spelled separator in
          let second = tells G spelled operand in
          let x = link_moves G scalars whole sets good p q r b z y f second.1 (begins_at separator) (begins_at operand) in
          let both = both_moved first.1 second.1 in
          let consumed : (c || d) ≡ true = ap (λ k. k || d) first.0 ∙ ap (λ k. nat_lt b.place z.place || k) second.0 ∙ both ∙ moved x in
          more separator operand consumed (again (carried side shape left v w) y (ends_at_spot operand (ends_at_spot separator within)) (omega arith) (ahead x h))
      linked separator (settles_failed d g j operand) again = settles_begun _ _ b left _ _ (zero, link separator (separator_ok operand operand_failed))

      go : Settles (Answers G r b) → Again → Result
      go (settles_ok c z v t e m run) again = linked run (near q is_q z (ends_at_spot run within) (first_ahead (rest_ahead h run))) again
      go (settles_failed c e m run) again = settles_begun _ c b left e _ (zero, link run separator_failed)

  settle_chain : (p : ℕ) (a : Spot) → Nearby p a → IsSpot a → (side : Side) (shape : Shape) (q r : ℕ) → q < length G.grammar.nodes → r < length G.grammar.nodes → ChainIsPredictive sets p q r →
      Settles (λ o m. (k : ℕ) × AnswersChain G side shape q r k a o m)
  settle_chain p a near within side shape q r is_q is_r f = go (near q is_q a within (lower refl f.falls.0))
    where
      Result : Type 0
      Result = Settles (λ o m. (k : ℕ) × AnswersChain G side shape q r k a o m)

      linked : {c : Bool} {b : Spot} {v : List Tree} {t : List TrailItem} {e : Error} {m : ℕ} → Answers G q a (ok c b v t e) m → Settles (SomeLinks side shape q r v b) → Result
      linked run (settles_ok d z w u g i rest) = settles_ok _ z _ _ _ _ (rest.0, first_operand run (first_ok rest.1))
      linked run (settles_failed d g i rest) = settles_failed _ _ _ (rest.0, first_operand run (first_ok rest.1))

      go : Settles (Answers G q a) → Result
      go (settles_ok c b v t e m run) =
          let ahead : Ahead p a b (r ∷ q ∷ []) = rest_ahead (beside refl f.falls) run in
          linked run (settle_links p a near side shape q r is_q is_r f (suc (length G.text)) v b (ends_at_spot run within) (omega arith) ahead)
      go (settles_failed c e m run) = settles_failed c e _ (zero, first_operand run first_failed)

  -- a leaf's one outcome is an answer
  by_outcome : (n : Node) (a : Spot) (o : Outcome) (m : ℕ) → AnswersForm G n a o m → IsAnswer o → Settles (AnswersForm G n a)
  by_outcome n a (ok c b v t e) m run h = settles_ok c b v t e m run
  by_outcome n a (failed c e) m run h = settles_failed c e m run
  by_outcome n a empty_round m run h = absurd h

  module _ (p : ℕ) (a : Spot) (near : Nearby p a) (within : IsSpot a) where
    at_part : (q : ℕ) → PartIsPredictive sets p q → q < length G.grammar.nodes → Settles (Answers G q a)
    at_part q f there = near q there a within (lower refl f.falls)

    falls_to : {q : ℕ} → TryIsPredictive G.grammar sets p q → sets.level q < sets.level p
    falls_to (of_part f) = f.falls
    falls_to (of_string e spelled falls f) = falls
    falls_to (of_key e first second spelled falls f) = falls

    settle_leaf : (l : Leaf ℕ) → slice_get G.grammar.nodes p ≡ Some (form.Leaf l) → LeafIsPredictive G.grammar sets p l → Settles (AnswersForm G (form.Leaf l) a)
    settle_leaf (leaf.Satisfy class) e f = by_outcome _ a _ _ (answers.leaf refl) (satisfy_answers G.grammar G.text class a)
    settle_leaf (leaf.String s) e f = by_outcome _ a _ _ (answers.leaf refl) (string_answers G.text s a)
    settle_leaf (leaf.Word w) e f =
        let item = whole.words p w e in by_outcome _ a _ _ (answers.leaf (ap (some_word_outcome G.grammar G.text a) item.1)) (word_answers G.grammar G.text item.0 a)
    settle_leaf (leaf.NotFollowedBy class) e f = by_outcome _ a _ _ (answers.leaf refl) (not_followed_answers G.grammar G.text class a)
    settle_leaf leaf.EndOfText e f = by_outcome _ a _ _ (answers.leaf refl) (end_answers G.text a)
    settle_leaf (leaf.Declare class) e f =
        by_outcome _ a _ _ (answers.leaf (ap (some_declare_outcome G.grammar G.text class a) f.named)) (declaration_answers G.text a (declaration_at G.grammar G.text f.item class a.place))

    -- what stands around a part falls to it
    around_falls : (k : Around) (q : ℕ) → AroundIsPredictive G.grammar sets p k q → sets.level q < sets.level p
    around_falls kind.Try q f = falls_to f
    around_falls _ q f = f.falls

    settle_around : (k : Around) (q : ℕ) → Settles (Answers G q a) → Settles (AnswersForm G (form.Around k q) a)
    settle_around k q (settles_ok c b v t e m run) = settles_ok c _ _ t _ _ (answers.around run)
    settle_around k q (settles_failed c e m run) = settles_failed _ _ _ (answers.around run)

    -- a term answers wherever an expression that began here has it run
    settle_expression : (builders : OperatorBuilders) (q : ℕ) → ExpressionIsPredictive G.grammar sets p q → q < length G.grammar.nodes → Settles (AnswersForm G (form.Expression builders q) a)
    settle_expression builders q f there =
        let s : Setting = record { item = f.item; builders = builders; term = q } in
        let rows = settle_rows G s IsOnward read_onward (λ b h. h.0.0) (λ os b r e. (is_read G.grammar G.text f.item os b.place r e).ahead) term_settles (reverse (rows_of a.table.operators)) a (within, le_refl _) in
        go rows.outcome rows.run rows.answers
      where
        IsOnward : Spot → Type 0
        IsOnward b = IsSpot b × (a.place ≤ b.place)

        read_onward : (os : List Operator) (b : Spot) (r : Read) → IsOnward b → read_at G.grammar G.text f.item os b.place ≡ Some r → IsOnward (at b r.end)
        read_onward os b r h e =
            let is = is_read G.grammar G.text f.item os b.place r e in
            let on = operator_on G.grammar G.text f.item r.operator.symbol b r.end is.there in
            let far = is.ahead in
            let from = h.1 in
            ((on.within h.0.0, h.0.1), omega arith)

        nearer : (b : Spot) → a.place ≤ b.place → (a.place < b.place) ⊎ (a.place ≡ b.place) → Nearer p a q b
        nearer b l (inl m) = further m
        nearer b l (inr e) = lower e f.falls

        term_settles : (b : Spot) → IsOnward b → Settled (λ z. IsOnward z × (b.place ≤ z.place)) (Answers G q b)
        term_settles b h = of_settles (near q there b h.0 (nearer b h.1 (further_or_same a.place b.place h.1)))
          where
            of_settles : Settles (Answers G q b) → Settled (λ z. IsOnward z × (b.place ≤ z.place)) (Answers G q b)
            of_settles (settles_ok c z v t e m run) =
                let on = (leads_on (derived run)).onward in
                let from = h.1 in
                record { outcome = ok c z v t e; count = m; run = run; answers = ((ends_at_spot run h.0, omega arith), on) }
            of_settles (settles_failed c e m run) = record { outcome = failed c e; count = m; run = run; answers = tt }

        go : (o : Outcome) {m : ℕ} → AnswersRows G (record { item = f.item; builders = builders; term = q }) (reverse (rows_of a.table.operators)) a o m → IsRowsAnswer (λ z. IsOnward z × (a.place ≤ z.place)) o → Settles (AnswersForm G (form.Expression builders q) a)
        go (ok c b v t e) run h = settles_ok c b v t e _ (answers.expression f.named run)
        go (failed c e) run h = settles_failed c e _ (answers.expression f.named run)
        go empty_round run h = absurd h

    settle_form : (n : Node) → slice_get G.grammar.nodes p ≡ Some n → IsPredictiveAt G.grammar sets p n → Settles (AnswersForm G n a)
    settle_form (form.Leaf l) e f = settle_leaf l e f
    settle_form (form.Seq []) e f = settles_ok false a [] [] _ _ nothing
    settle_form (form.Seq (q ∷ qs)) e f = go (settle_parts p a near q qs a within (whole.parts p _ e) (beside refl f.falls))
      where
        go : Settles (AnswersParts G q qs a) → Settles (AnswersForm G (form.Seq (q ∷ qs)) a)
        go (settles_ok c b v t e m run) = settles_ok c b v t e _ (seq run)
        go (settles_failed c e m run) = settles_failed c e _ (seq run)
    settle_form (form.Choice qs) e f = go (settle_alternatives p a near within (suc zero) qs f (whole.parts p _ e))
      where
        go : Settles (AnswersAlternatives G (suc zero) qs a) → Settles (AnswersForm G (form.Choice qs) a)
        go (settles_ok c b v t e m run) = settles_ok c b v t e _ (choice run)
        go (settles_failed c e m run) = settles_failed c e _ (choice run)
    settle_form (form.Many q) e f =
        let there = (whole.parts p _ e).0 in
        go (settle_rounds p a near q there f (suc (length G.text)) a within (omega arith) (beside refl (f.falls, λ x. tt)))
      where
        go : Settles (SomeRounds q a) → Settles (AnswersForm G (form.Many q) a)
        go (settles_ok c b v t e m run) = settles_ok c b v _ e _ (many run.1)
        go (settles_failed c e m run) = settles_failed c e _ (many run.1)
    settle_form (form.Chain side used q r) e f =
        let there = whole.parts p _ e in go (settle_chain p a near within side used.shape q r there.0 there.1.0 f)
      where
        go : Settles (λ o m. (k : ℕ) × AnswersChain G side used.shape q r k a o m) → Settles (AnswersForm G (form.Chain side used q r) a)
        go (settles_ok c b v t e m run) = settles_ok c b v _ e _ (answers.chain run.1)
        go (settles_failed c e m run) = settles_failed c e _ (answers.chain run.1)
    settle_form (form.Rule r) e f =
        let named = whole.rules p r e in go named.1 (at_part named.0.body (f.body named.0 named.1) named.2)
      where
        go : {named : declared.Rule} → slice_get G.grammar.rules r ≡ Some named → Settles (Answers G named.body a) → Settles (AnswersForm G (form.Rule r) a)
        go x (settles_ok c b v t e m run) = settles_ok c b v t e _ (rule x run)
        go x (settles_failed c e m run) = settles_failed c e _ (rule x run)
    settle_form (form.Expression builders q) e f = settle_expression builders q f (whole.parts p _ e).0
    settle_form (form.Around k q) e f = settle_around k q (near q (whole.parts p _ e).0 a within (lower refl (around_falls k q f)))

    settle_at : (n : Node) → slice_get G.grammar.nodes p ≡ Some n → Settles (Answers G p a)
    settle_at n e = go (settle_form n e (good p n e))
      where
        go : Settles (AnswersForm G n a) → Settles (Answers G p a)
        go (settles_ok c b v t x m run) = settles_ok c b v t x _ (entered e run)
        go (settles_failed c x m run) = settles_failed c x _ (entered e run)

  -- at the places from which less than n characters are left
  abbrev Late : ℕ → Type 0
  Late n = (q : ℕ) → q < length G.grammar.nodes → (b : Spot) → IsSpot b → length G.text < n + b.place → Settles (Answers G q b)

  near_low : (n k q : ℕ) (b : Spot) → Late n → length G.text < suc n + b.place → sets.level q < suc k →
      ((r : ℕ) → r < length G.grammar.nodes → (c : Spot) → IsSpot c → length G.text < suc n + c.place → sets.level r < k → Settles (Answers G r c)) → Nearby q b
  near_low n k q b late l m low r is c inside (further x) = late r is c inside (omega arith)
  near_low n k q b late l m low r is c inside (lower e x) = low r is c inside (omega arith) (omega arith)

  settle_low : (n : ℕ) → Late n → (k q : ℕ) → q < length G.grammar.nodes → (b : Spot) → IsSpot b → length G.text < suc n + b.place → sets.level q < k → Settles (Answers G q b)
  settle_low n late zero q there b within l m = absurd (omega arith)
  settle_low n late (suc k) q there b within l m =
      let here = found G.grammar.nodes q there in
      settle_at q b (near_low n k q b late l m (λ r is c inside x y. settle_low n late k r is c inside x y)) within here.0 here.1

  settle_late : (n : ℕ) → Late n
  settle_late zero q there b within l = let inside = within.0 in absurd (omega arith)
  settle_late (suc n) q there b within l = settle_low n (settle_late n) (suc (sets.level q)) q there b within l (le_refl _)

  pub settle : (p : ℕ) → p < length G.grammar.nodes → (a : Spot) → IsSpot a → Settles (Answers G p a)
  settle p there a within = settle_late (suc (length G.text)) p there a within (omega arith)
