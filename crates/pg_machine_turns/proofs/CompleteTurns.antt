-- Completeness of a turn: what the machine reaches from before a turn, it reaches from after it.
use Rattle.std.proofs.Common.{◌≡◌, ℕ, zero, suc, ◌+◌, List, [], ◌∷◌, ◌++◌, Bool, true, false, refl, subst, sym, ap, ◌∙◌, arith}
use Rattle.std.specs.Prelude.{Option, slice_get, reverse, ◌||◌}
use Rattle.pg_tree.specs.Trees.{Tree}
use Rattle.pg_grammar_form.specs.Forms.{Node}
use Rattle.pg_grammar_form.specs.declared.operators_item.OperatorsItem.{OperatorsItem}
use Rattle.pg_expand.specs.Rows.{rows_of}
use Rattle.pg_grammar_value.specs.declared.grammar.Rule as declared
use Rattle.pg_grammar_value.specs.declared.trail.TrailItem.{TrailItem}
use Rattle.pg_grammar_value.specs.declared.trail.TrailItem.TheVariants.{Alt, Rounds}
use Rattle.pg_language.specs.Derives.{Spot, carried}
use Rattle.pg_language.specs.Answers as answers
use Rattle.pg_language.specs.Answers.{Given, Answers, entered, AnswersForm, AnswersParts, part, AfterPart, part_last, part_failed, part_stuck, part_ok, AnswersAlternatives, no_alternative, alternative, AfterAlternative, alternative_consumed, alternative_stands, alternative_waits, alternative_commits, alternative_failed, alternative_stuck, AnswersRounds, round, AfterRound, round_ended, round_failed, round_empty, round_stuck, round_ok, AnswersChain, first_operand, AfterFirst, first_failed, first_stuck, first_ok, AnswersLinks, link, AfterSeparator, separator_failed, separator_stuck, separator_ok, AfterOperand, operand_failed, operand_stuck, operand_ok}
use Rattle.pg_language.specs.Errors.{Error}
use Rattle.pg_language.specs.Outcomes.{Outcome, ok, failed, empty_round}
use Rattle.pg_language.specs.Reactions.{then_rest, noted, as_finished}
use Rattle.pg_language.specs.declared.reading.Reading.{Reading}
use Rattle.pg_language.specs.declared.reading.Reading.TheVariants.{Library, Report}
use Rattle.pg_machine_turns.specs.Frames.{Before, none_before, after_parts, with_part, Tried, none_tried, after_tried, with_failure, with_empty_ok, after_rounds, Chain, Linked, after_links, Frame, in_parts, in_choice, in_rounds, in_first, in_separator, in_operand, in_rule, in_around, in_expression}
use Rattle.pg_machine_turns.specs.Turns.{at_node, with_outcome, next_alternative, told, enter_rule, enter_form, enter_node, hand_empty_ok, hand_to_choice, hand_to_parts, hand_to_rounds, ended, first_linked, with_link, hand_to_first, hand_to_separator, next_link, hand_to_operand, hand, enter_expression}
use Rattle.pg_machine_turns.specs.Finishes.{Gives, gives_parts, gives_choice, gives_rounds, gives_first, gives_separator, gives_operand, gives_rule, gives_around, gives_expression, no_level, Returns, over, Finishes, entering, handing}
use Rattle.pg_machine_turns.proofs.LevelsComplete.{rows_run, climb_complete}
use Rattle.pg_machine_turns.proofs.Joined.{after_part, stuck_parts, past_failure, after_empty_ok, stuck_tried, after_round, no_round, round_failed_so, rounds_none, after_link, stuck_links, noted_more}

last_count : (ch : Chain) (linked : Linked) (o : Outcome) → noted (Rounds (linked.count + 0)) (after_links ch linked o) ≡ ended ch linked o
last_count ch linked o = let y : linked.count + 0 ≡ linked.count = omega arith in ap (λ j. noted (Rounds j) (after_links ch linked o)) y

last_stuck : (ch : Chain) (linked : Linked) → noted (Rounds (linked.count + 0)) (after_links ch linked empty_round) ≡ empty_round
last_stuck ch linked = ap (noted (Rounds (linked.count + 0))) (stuck_links ch linked)

-- a node less
pub record Entered (G : Given) (p : ℕ) (a : Spot) (fs : List Frame) (out : Outcome) (n : ℕ) : Type 0 where
  pub less : ℕ
  pub finishes : Finishes G (enter_node G (slice_get G.grammar.nodes p) a fs) out less
  pub count : n ≡ suc less

module _ {G : Given} where
  counted : {fs : List Frame} {x out : Outcome} {m n : ℕ} → m ≡ n → Returns G fs x out m → Returns G fs x out n
  counted {fs = fs} {x = x} {out = out} e r = subst (Returns G fs x out) e r

  -- the outcome is handed on as it is
  on : {fs : List Frame} {x y out : Outcome} {l : ℕ} (n : ℕ) → x ≡ y → n ≡ zero + l → Returns G fs x out l → Finishes G (with_outcome y fs) out n
  on {fs = fs} {out = out} {l = l} n same e r =
      let z : l ≡ n = omega arith in handing (counted z (subst (λ (w : Outcome). Returns G fs w out l) same r))

  -- a part runs, and then its frame gets its outcome
  part_runs : {p : ℕ} {f : Frame} {a : Spot} {fs : List Frame} {x o out : Outcome} {m j l : ℕ} (n : ℕ) → Answers G p a x m → Gives G f x o j → Returns G fs o out l → n ≡ m + j + l →
      Finishes G (at_node p a (f ∷ fs)) out n
  part_runs {p = p} {f = f} {a = a} {fs = fs} {out = out} {m = m} {j = j} {l = l} n d g r e =
      let z : m + (j + l) ≡ n = omega arith in subst (Finishes G (at_node p a (f ∷ fs)) out) z (entering d (over g r))

  -- ---- from the next part of a form

  parts_run : {p : ℕ} {ps : List ℕ} {a : Spot} {fs : List Frame} {o out : Outcome} {m l : ℕ} (done : Before) (n : ℕ) → AnswersParts G p ps a o m → Returns G fs (after_parts done o) out l → n ≡ m + l →
      Finishes G (at_node p a (in_parts ps done ∷ fs)) out n
  parts_run done n (part d g) r e = part_runs n d (gives_parts done g) r e

  alternatives_run : {k : ℕ} {ps : List ℕ} {a : Spot} {fs : List Frame} {o out : Outcome} {m l : ℕ} (tried : Tried) (n : ℕ) → AnswersAlternatives G k ps a o m → Returns G fs (after_tried tried o) out l → n ≡ m + l →
      Finishes G (next_alternative k ps a tried fs) out n
  alternatives_run tried n no_alternative r e = on n refl e r
  alternatives_run tried n (alternative d g) r e = part_runs n d (gives_choice tried g) r e

  rounds_run : {p j : ℕ} {a : Spot} {fs : List Frame} {o out : Outcome} {m l : ℕ} (k : ℕ) (c : Bool) (v : List Tree) (t : List TrailItem) (n : ℕ) → AnswersRounds G p j a o m →
      Returns G fs (noted (Rounds (k + j)) (after_rounds c v t o)) out l → n ≡ m + l → Finishes G (at_node p a (in_rounds p k c a v t ∷ fs)) out n
  rounds_run k c v t n (round d g) r e = part_runs n d (gives_rounds k c v t g) r e

  links_run : {j : ℕ} {a : Spot} {fs : List Frame} {o out : Outcome} {m l : ℕ} (ch : Chain) (linked : Linked) (n : ℕ) → AnswersLinks G ch.side ch.shape ch.operand ch.separator linked.left j a o m →
      Returns G fs (noted (Rounds (linked.count + j)) (after_links ch linked o)) out l → n ≡ m + l → Finishes G (at_node ch.separator a (in_separator ch linked a ∷ fs)) out n
  links_run ch linked n (link d g) r e = part_runs n d (gives_separator linked g) r e

  chain_run : {j : ℕ} {a : Spot} {fs : List Frame} {o out : Outcome} {m l : ℕ} (ch : Chain) (n : ℕ) → AnswersChain G ch.side ch.shape ch.operand ch.separator j a o m →
      Returns G fs (noted (Rounds j) o) out l → n ≡ m + l → Finishes G (at_node ch.operand a (in_first ch ∷ fs)) out n
  chain_run ch n (first_operand d g) r e = part_runs n d (gives_first g) r e

  -- the same with what is handed on in another form
  handed : {fs : List Frame} {x y out : Outcome} {l : ℕ} → x ≡ y → Returns G fs x out l → Returns G fs y out l
  handed {fs = fs} {out = out} {l = l} same r = subst (λ (w : Outcome). Returns G fs w out l) same r

  -- ---- a frame is handed an outcome

  parts_complete : {ps : List ℕ} {x o out : Outcome} {fs : List Frame} {m l : ℕ} (done : Before) (n : ℕ) → AfterPart G ps x o m → Returns G fs (after_parts done o) out l → n ≡ m + l →
      Finishes G (hand_to_parts ps done x fs) out n
  parts_complete done n part_last r e = on n refl e r
  parts_complete done n part_failed r e = on n refl e r
  parts_complete done n part_stuck r e = on n (stuck_parts done) e r
  parts_complete done n (part_ok {c = c} {v = v} {t = t} {e = f} {o = o} d) r e = parts_run (with_part done c v t f) n d (handed (after_part done c v t f o) r) e

  empty_ok_complete : {k : ℕ} {ps : List ℕ} {a b : Spot} {v : List Tree} {t : List TrailItem} {f : Error} {o out : Outcome} {fs : List Frame} {m l : ℕ} (reading : Reading) (tried : Tried) (n : ℕ) → G.reading ≡ reading →
      AfterAlternative G k ps a (ok false b v t f) o m → Returns G fs (after_tried tried o) out l → n ≡ m + l → Finishes G (hand_empty_ok reading k ps a tried b v t f fs) out n
  empty_ok_complete Library tried n q (alternative_stands h) r e = on n refl e r
  empty_ok_complete Library tried n q (alternative_waits h d) r e = let z : Library ≡ Report = sym q ∙ h in cc
  empty_ok_complete Report tried n q (alternative_stands h) r e = let z : Report ≡ Library = sym q ∙ h in cc
  empty_ok_complete {k = k} {b = b} {v = v} {t = t} {f = f} Report tried n q (alternative_waits {o = o} h d) r e =
      alternatives_run (with_empty_ok tried b v (Alt k ∷ t) f) n d (handed (after_empty_ok tried b v (Alt k ∷ t) f o) r) e

  choice_complete : {k : ℕ} {ps : List ℕ} {a : Spot} {o out : Outcome} {fs : List Frame} {m l : ℕ} (tried : Tried) (x : Outcome) (n : ℕ) → AfterAlternative G k ps a x o m → Returns G fs (after_tried tried o) out l → n ≡ m + l →
      Finishes G (hand_to_choice G.reading k ps a tried x fs) out n
  choice_complete tried (ok true b v t f) n alternative_consumed r e = on n refl e r
  choice_complete tried (ok false b v t f) n g r e = empty_ok_complete G.reading tried n refl g r e
  choice_complete tried (failed true f) n alternative_commits r e = on n refl e r
  choice_complete tried (failed false f) n (alternative_failed {o = o} d) r e = alternatives_run (with_failure tried f) n d (handed (past_failure tried f o) r) e
  choice_complete tried empty_round n alternative_stuck r e = on n (stuck_tried tried) e r

  rounds_complete : {p j : ℕ} {a : Spot} {x o out : Outcome} {fs : List Frame} {m l : ℕ} (k : ℕ) (c : Bool) (v : List Tree) (t : List TrailItem) (n : ℕ) → AfterRound G p j a x o m →
      Returns G fs (noted (Rounds (k + j)) (after_rounds c v t o)) out l → n ≡ m + l → Finishes G (hand_to_rounds p k c a v t x fs) out n
  rounds_complete {a = a} k c v t n (round_ended {e = f}) r e =
      let y : k + 0 ≡ k = omega arith in on n (ap (noted (Rounds (k + 0))) (no_round c a v t f) ∙ ap (λ j. ok c a v (Rounds j ∷ t) f) y) e r
  rounds_complete k c v t n (round_failed {e = f}) r e = on n (ap (noted (Rounds (k + 0))) (round_failed_so c v t f)) e r
  rounds_complete k c v t n round_empty r e = on n refl e r
  rounds_complete k c v t n round_stuck r e = on n refl e r
  rounds_complete k c v t n (round_ok {k = j} {v = w} {t = u} {o = o} d) r e =
      rounds_run (suc k) true (v ++ w) (t ++ u) n d (handed (noted_more k j _ ∙ ap (noted (Rounds (suc k + j))) (after_round c v w t u o)) r) e

  first_complete : {j : ℕ} {x o out : Outcome} {fs : List Frame} {m l : ℕ} (ch : Chain) (n : ℕ) → AfterFirst G ch.side ch.shape ch.operand ch.separator j x o m →
      Returns G fs (noted (Rounds j) o) out l → n ≡ m + l → Finishes G (hand_to_first ch x fs) out n
  first_complete ch n first_failed r e = on n refl e r
  first_complete ch n first_stuck r e = on n refl e r
  first_complete {j = j} ch n (first_ok {c = c} {v = v} {t = t} {e = f} {o = o} d) r e =
      let y : j ≡ zero + j = omega arith in links_run ch (first_linked c v t f) n d (handed (ap (λ i. noted (Rounds i) (then_rest c [] t f o)) y) r) e

  separator_complete : {j : ℕ} {a : Spot} {x o out : Outcome} {fs : List Frame} {m l : ℕ} (ch : Chain) (linked : Linked) (n : ℕ) →
      AfterSeparator G ch.side ch.shape ch.operand ch.separator linked.left j a x o m → Returns G fs (noted (Rounds (linked.count + j)) (after_links ch linked o)) out l → n ≡ m + l →
      Finishes G (hand_to_separator ch linked a x fs) out n
  separator_complete ch linked n separator_failed r e = on n (last_count ch linked _) e r
  separator_complete ch linked n separator_stuck r e = on n (last_stuck ch linked) e r
  separator_complete ch linked n (separator_ok d g) r e = part_runs n d (gives_operand linked g) r e

  link_complete : {j : ℕ} {fs : List Frame} {o out : Outcome} {m l : ℕ} (b : Bool) (ch : Chain) (linked : Linked) (c : Bool) (v : List Tree) (t : List TrailItem) (e : Error) (d : Bool) (end : Spot) (w : List Tree) (u : List TrailItem) (f : Error)
      (n : ℕ) → (c || d) ≡ b → (c || d) ≡ true → AnswersLinks G ch.side ch.shape ch.operand ch.separator (carried ch.side ch.shape linked.left v w) j end o m →
      Returns G fs (noted (Rounds (linked.count + suc j)) (after_links ch linked (then_rest c [] t e (then_rest d [] u f (as_finished ch.side ch.shape linked.left v o))))) out l → n ≡ m + l →
      Finishes G (next_link b ch (with_link ch linked v t e d w u f) end fs) out n
  link_complete {j = j} {o = o} true ch linked c v t e d end w u f n q h s r z =
      links_run ch (with_link ch linked v t e d w u f) n s
      (handed (noted_more linked.count j _ ∙ ap (noted (Rounds (suc linked.count + j))) (after_link ch linked v w t u e f c d o h)) r) z
  link_complete false ch linked c v t e d end w u f n q h s r z = let y : false ≡ true = sym q ∙ h in cc

  operand_complete : {j : ℕ} {a : Spot} {c : Bool} {v : List Tree} {t : List TrailItem} {f : Error} {x o out : Outcome} {fs : List Frame} {m l : ℕ} (ch : Chain) (linked : Linked) (n : ℕ) →
      AfterOperand G ch.side ch.shape ch.operand ch.separator linked.left j a c v t f x o m → Returns G fs (noted (Rounds (linked.count + j)) (after_links ch linked o)) out l → n ≡ m + l →
      Finishes G (hand_to_operand ch linked a c v t f x fs) out n
  operand_complete ch linked n operand_failed r e = on n (last_count ch linked _) e r
  operand_complete ch linked n operand_stuck r e = on n (last_stuck ch linked) e r
  operand_complete ch linked n (operand_ok {v = v} {w = w} {b = b} {c = c} {d = d} {t = t} {u = u} {e = g} {f = h} q s) r e =
      link_complete (c || d) ch linked c v t g d b w u h n refl q s r e

  pub hand_complete : (f : Frame) (x : Outcome) (fs : List Frame) (out : Outcome) (n : ℕ) → Returns G (f ∷ fs) x out n → Finishes G (hand G f x fs) out n
  hand_complete (in_parts ps done) x fs out n (over (gives_parts _ g) r) = parts_complete done n g r refl
  hand_complete (in_choice k ps a tried) x fs out n (over (gives_choice _ g) r) = choice_complete tried x n g r refl
  hand_complete (in_rounds p k c a v t) x fs out n (over (gives_rounds _ _ _ _ g) r) = rounds_complete k c v t n g r refl
  hand_complete (in_first ch) x fs out n (over (gives_first g) r) = first_complete ch n g r refl
  hand_complete (in_separator ch linked a) x fs out n (over (gives_separator _ g) r) = separator_complete ch linked n g r refl
  hand_complete (in_operand ch linked a c v t e) x fs out n (over (gives_operand _ g) r) = operand_complete ch linked n g r refl
  hand_complete in_rule x fs out n (over gives_rule r) = on n refl refl r
  hand_complete (in_around around a) x fs out n (over gives_around r) = on n refl refl r
  hand_complete (in_expression s levels) x fs out n (over (gives_expression g) r) = climb_complete levels g r n refl

  -- ---- a node is entered

  -- the one part runs
  part_complete : {q : ℕ} {f : Frame} {a : Spot} {fs : List Frame} {x o out : Outcome} {m l : ℕ} (n : ℕ) → Answers G q a x m → Gives G f x o zero → Returns G fs o out l → n ≡ m + l →
      Finishes G (at_node q a (f ∷ fs)) out n
  part_complete {m = m} {l = l} n d g r e = let z : n ≡ m + zero + l = omega arith in part_runs n d g r z

  form_complete : {f : Node} {a : Spot} {fs : List Frame} {x out : Outcome} {m l : ℕ} (n : ℕ) → AnswersForm G f a x m → Returns G fs x out l → n ≡ m + l → Finishes G (enter_form G f a fs) out n
  form_complete {a = a} {fs = fs} {out = out} n (answers.leaf there) r e = subst (λ (o : Option Outcome). Finishes G (told o fs) out n) (sym there) (on n refl e r)
  form_complete n answers.nothing r e = on n refl e r
  form_complete n (answers.seq d) r e = parts_run none_before n d r e
  form_complete n (answers.choice d) r e = alternatives_run none_tried n d r e
  form_complete n (answers.many {k = k} {o = o} d) r e =
      let y : k ≡ zero + k = omega arith in
      rounds_run zero false [] [] n d (handed (ap (λ j. noted (Rounds j) o) y ∙ ap (noted (Rounds (zero + k))) (sym (rounds_none o))) r) e
  form_complete n (answers.chain {side = side} {used = used} {p = p} {s = s} d) r e = chain_run (record { side = side; shape = used.shape; operand = p; separator = s }) n d r e
  form_complete {a = a} {fs = fs} {out = out} n (answers.rule {named = named} there d) r e =
      subst (λ (o : Option declared.Rule). Finishes G (enter_rule o a fs) out n) (sym there) (part_complete n d gives_rule r e)
  form_complete n (answers.around d) r e = part_complete n d gives_around r e
  form_complete {a = a} {fs = fs} {out = out} {m = m} {l = l} n (answers.expression {builders = builders} {p = p} there d) r e =
      let z : n ≡ m + zero + l = omega arith in
      subst (λ (item : Option OperatorsItem). Finishes G (enter_expression G builders p a fs item) out n) (sym there) (rows_run (reverse (rows_of a.table.operators)) n d no_level r z)

  pub node_complete : (p : ℕ) (a : Spot) (fs : List Frame) (out : Outcome) (n : ℕ) → Finishes G (at_node p a fs) out n → Entered G p a fs out n
  node_complete p a fs out n (entering {n = l} (entered {m = m} {n = f} there d) r) = record {
    less = m + l;
    finishes = subst (λ (o : Option Node). Finishes G (enter_node G o a fs) out (m + l)) (sym there) (form_complete (m + l) d r refl);
    count = omega arith;
  }
