-- Soundness of a turn: what the machine reaches from after a turn, it reaches from before it.
use Rattle.std.proofs.Common.{◌≡◌, ℕ, zero, suc, ◌+◌, List, [], ◌∷◌, Bool, true, false, refl, subst, sym, ap, ◌∙◌, arith}
use Rattle.std.specs.Prelude.{Option, Some, None, slice_get, reverse, ◌||◌}
use Rattle.pg_tree.specs.Trees.{Tree}
use Rattle.pg_grammar_form.specs.Forms.{Node}
use Rattle.pg_grammar_form.specs.declared.form.Form.TheVariants as form
use Rattle.pg_grammar_form.specs.declared.form.Around.{Around}
use Rattle.pg_grammar_form.specs.declared.form.Leaf.{Leaf}
use Rattle.pg_grammar_value.specs.declared.grammar.Rule as declared
use Rattle.pg_grammar_form.specs.declared.side.Side.{Side}
use Rattle.pg_grammar_form.specs.declared.operators_item.OperatorsItem.{OperatorsItem}
use Rattle.pg_grammar_form.specs.declared.used.ChainBuilder.{ChainBuilder}
use Rattle.pg_grammar_form.specs.declared.used.OperatorBuilders.{OperatorBuilders}
use Rattle.pg_expand.specs.Rows.{rows_of}
use Rattle.pg_grammar_value.specs.declared.trail.TrailItem.{TrailItem}
use Rattle.pg_grammar_value.specs.declared.trail.TrailItem.TheVariants.{Alt, Rounds, Ops}
use Rattle.pg_language.specs.Derives.{Spot}
use Rattle.pg_language.specs.Answers as answers
use Rattle.pg_language.specs.Answers.{Given, entered, AnswersForm, AnswersParts, part, part_last, part_failed, part_stuck, part_ok, AnswersAlternatives, no_alternative, alternative, alternative_consumed, alternative_stands, alternative_waits, alternative_commits, alternative_failed, alternative_stuck, AnswersRounds, round, round_ended, round_failed, round_empty, round_stuck, round_ok, AnswersChain, first_operand, first_failed, first_stuck, first_ok, AnswersLinks, link, separator_failed, separator_stuck, separator_ok, operand_failed, operand_stuck, operand_ok}
use Rattle.pg_language.specs.Errors.{Error, no_messages_at}
use Rattle.pg_language.specs.Outcomes.{Outcome, ok, failed, empty_round}
use Rattle.pg_language.specs.Reactions.{then_rest, noted}
use Rattle.pg_language.specs.Leaves.{leaf_outcome}
use Rattle.pg_language.specs.declared.reading.Reading.{Reading}
use Rattle.pg_language.specs.declared.reading.Reading.TheVariants.{Library, Report}
use Rattle.pg_machine_turns.specs.Frames.{Before, none_before, after_parts, Tried, none_tried, after_tried, with_failure, with_empty_ok, after_rounds, Chain, Linked, after_links, Frame, in_parts, in_choice, in_rounds, in_first, in_separator, in_operand, in_rule, in_around, in_expression}
use Rattle.pg_machine_turns.specs.Turns.{at_node, with_outcome, next_alternative, told, enter_rule, enter_form, enter_node, hand_empty_ok, hand_to_choice, hand_to_parts, hand_to_rounds, ended, with_link, hand_to_first, hand_to_separator, next_link, hand_to_operand, hand, enter_expression}
use Rattle.pg_machine_turns.specs.Finishes.{Gives, gives_parts, gives_choice, gives_rounds, gives_first, gives_separator, gives_operand, gives_rule, gives_around, gives_expression, LevelsGive, no_level, Returns, over, Finishes, entering, handing, HandedOn}
use Rattle.pg_language.specs.RowReactions.{Setting}
use Rattle.pg_machine_turns.proofs.LevelsSound.{descend_sound, climb_sound}
use Rattle.pg_machine_turns.proofs.Joined.{after_part, stuck_parts, past_failure, after_empty_ok, stuck_tried, after_round, no_round, round_failed_so, rounds_none, after_link, stuck_links, noted_more}

-- k rounds and their outcome
record SomeRounds (G : Given) (p : ℕ) (a : Spot) (k : ℕ) (c : Bool) (v : List Tree) (t : List TrailItem) (fs : List Frame) (out : Outcome) (n : ℕ) : Type 0 where
  rounds : ℕ
  outcome : Outcome
  nodes : ℕ
  further : ℕ
  answers : AnswersRounds G p rounds a outcome nodes
  returns : Returns G fs (noted (Rounds (k + rounds)) (after_rounds c v t outcome)) out further
  count : n ≡ nodes + further

record SomeLinks (G : Given) (ch : Chain) (a : Spot) (linked : Linked) (fs : List Frame) (out : Outcome) (n : ℕ) : Type 0 where
  links : ℕ
  outcome : Outcome
  nodes : ℕ
  further : ℕ
  answers : AnswersLinks G ch.side ch.shape ch.operand ch.separator linked.left links a outcome nodes
  returns : Returns G fs (noted (Rounds (linked.count + links)) (after_links ch linked outcome)) out further
  count : n ≡ nodes + further

-- some links after a first operand
record SomeChain (G : Given) (ch : Chain) (a : Spot) (fs : List Frame) (out : Outcome) (n : ℕ) : Type 0 where
  links : ℕ
  outcome : Outcome
  nodes : ℕ
  further : ℕ
  answers : AnswersChain G ch.side ch.shape ch.operand ch.separator links a outcome nodes
  returns : Returns G fs (noted (Rounds links) outcome) out further
  count : n ≡ nodes + further

-- no further link
last_count : (ch : Chain) (linked : Linked) (o : Outcome) → noted (Rounds (linked.count + 0)) (after_links ch linked o) ≡ ended ch linked o
last_count ch linked o = let y : linked.count + 0 ≡ linked.count = omega arith in ap (λ j. noted (Rounds j) (after_links ch linked o)) y

last_stuck : (ch : Chain) (linked : Linked) → noted (Rounds (linked.count + 0)) (after_links ch linked empty_round) ≡ empty_round
last_stuck ch linked = ap (noted (Rounds (linked.count + 0))) (stuck_links ch linked)

module _ {G : Given} where
  -- ---- counts

  counted : {fs : List Frame} {x out : Outcome} {m n : ℕ} → m ≡ n → Returns G fs x out m → Returns G fs x out n
  counted {fs = fs} {x = x} {out = out} e r = subst (Returns G fs x out) e r

  pub over_none : {f : Frame} {fs : List Frame} {x o out : Outcome} {n : ℕ} → Gives G f x o zero → Returns G fs o out n → Returns G (f ∷ fs) x out n
  over_none {n = n} g r = let e : zero + n ≡ n = omega arith in counted e (over g r)

  -- a frame with an equal outcome in another form
  pub over_same : {f : Frame} {fs : List Frame} {x o q out : Outcome} {m l : ℕ} (n : ℕ) → Gives G f x o m → o ≡ q → Returns G fs q out l → n ≡ m + l → Returns G (f ∷ fs) x out n
  over_same {fs = fs} {out = out} {l = l} n g same r e = counted (sym e) (over g (subst (λ (z : Outcome). Returns G fs z out l) (sym same) r))

  -- ---- from the next part of a form

  parts_on : {p : ℕ} {ps : List ℕ} {a : Spot} {done : Before} {fs : List Frame} {out : Outcome} {n : ℕ} → Finishes G (at_node p a (in_parts ps done ∷ fs)) out n →
      HandedOn G (AnswersParts G p ps a) (after_parts done) fs out n
  parts_on (entering {m = m} d (over {m = k} {n = l} (gives_parts {o = o} _ g) r)) =
      record { outcome = o; nodes = m + k; further = l; answers = part d g; returns = r; count = omega arith }

  pub alternatives_on : (k : ℕ) (ps : List ℕ) (a : Spot) (tried : Tried) (fs : List Frame) (out : Outcome) (n : ℕ) → Finishes G (next_alternative k ps a tried fs) out n →
      HandedOn G (AnswersAlternatives G k ps a) (after_tried tried) fs out n
  alternatives_on k [] a tried fs out n (handing r) =
      record { outcome = failed false (no_messages_at a.place); nodes = zero; further = n; answers = no_alternative; returns = r; count = omega arith }
  alternatives_on k (p ∷ ps) a tried fs out n (entering {m = m} d (over {m = j} {n = l} (gives_choice {o = o} _ g) r)) =
      record { outcome = o; nodes = m + j; further = l; answers = alternative d g; returns = r; count = omega arith }

  rounds_on : {p k : ℕ} {c : Bool} {a : Spot} {v : List Tree} {t : List TrailItem} {fs : List Frame} {out : Outcome} {n : ℕ} →
      Finishes G (at_node p a (in_rounds p k c a v t ∷ fs)) out n → SomeRounds G p a k c v t fs out n
  rounds_on (entering {m = m} d (over {m = j} {n = l} (gives_rounds {l = r} {o = o} _ _ _ _ g) h)) =
      record { rounds = r; outcome = o; nodes = m + j; further = l; answers = round d g; returns = h; count = omega arith }

  links_on : {ch : Chain} {a : Spot} {linked : Linked} {fs : List Frame} {out : Outcome} {n : ℕ} →
      Finishes G (at_node ch.separator a (in_separator ch linked a ∷ fs)) out n → SomeLinks G ch a linked fs out n
  links_on (entering {m = m} d (over {m = j} {n = l} (gives_separator {k = k} {o = o} _ g) h)) =
      record { links = k; outcome = o; nodes = m + j; further = l; answers = link d g; returns = h; count = omega arith }

  -- ---- a frame is handed an outcome

  pub parts_sound : (ps : List ℕ) (done : Before) (x : Outcome) (fs : List Frame) (out : Outcome) (n : ℕ) →
      Finishes G (hand_to_parts ps done x fs) out n → Returns G (in_parts ps done ∷ fs) x out n
  parts_sound [] done x fs out n (handing r) = over_none (gives_parts done part_last) r
  parts_sound (q ∷ ps) done (ok c b v t e) fs out n h =
      let d = parts_on h in over_same n (gives_parts done (part_ok d.answers)) (after_part done c v t e d.outcome) d.returns d.count
  parts_sound (q ∷ ps) done (failed c e) fs out n (handing r) = over_none (gives_parts done part_failed) r
  parts_sound (q ∷ ps) done empty_round fs out n (handing r) =
      let z : n ≡ zero + n = omega arith in over_same n (gives_parts done part_stuck) (stuck_parts done) r z

  empty_ok_sound : (reading : Reading) → G.reading ≡ reading → (k : ℕ) (ps : List ℕ) (a : Spot) (tried : Tried) (b : Spot) (v : List Tree) (t : List TrailItem) (e : Error)
      (fs : List Frame) (out : Outcome) (n : ℕ) → Finishes G (hand_empty_ok reading k ps a tried b v t e fs) out n → Returns G (in_choice k ps a tried ∷ fs) (ok false b v t e) out n
  empty_ok_sound Library q k ps a tried b v t e fs out n (handing r) = over_none (gives_choice tried (alternative_stands q)) r
  empty_ok_sound Report q k ps a tried b v t e fs out n h =
      let d = alternatives_on (suc k) ps a (with_empty_ok tried b v (Alt k ∷ t) e) fs out n h in
      over_same n (gives_choice tried (alternative_waits q d.answers)) (after_empty_ok tried b v (Alt k ∷ t) e d.outcome) d.returns d.count

  pub choice_sound : (k : ℕ) (ps : List ℕ) (a : Spot) (tried : Tried) (x : Outcome) (fs : List Frame) (out : Outcome) (n : ℕ) →
      Finishes G (hand_to_choice G.reading k ps a tried x fs) out n → Returns G (in_choice k ps a tried ∷ fs) x out n
  choice_sound k ps a tried (ok true b v t e) fs out n (handing r) = over_none (gives_choice tried alternative_consumed) r
  choice_sound k ps a tried (ok false b v t e) fs out n h = empty_ok_sound G.reading refl k ps a tried b v t e fs out n h
  choice_sound k ps a tried (failed true e) fs out n (handing r) = over_none (gives_choice tried alternative_commits) r
  choice_sound k ps a tried (failed false e) fs out n h =
      let d = alternatives_on (suc k) ps a (with_failure tried e) fs out n h in
      over_same n (gives_choice tried (alternative_failed d.answers)) (past_failure tried e d.outcome) d.returns d.count
  choice_sound k ps a tried empty_round fs out n (handing r) =
      let z : n ≡ zero + n = omega arith in over_same n (gives_choice tried alternative_stuck) (stuck_tried tried) r z

  pub rounds_sound : (p k : ℕ) (c : Bool) (a : Spot) (v : List Tree) (t : List TrailItem) (x : Outcome) (fs : List Frame) (out : Outcome) (n : ℕ) →
      Finishes G (hand_to_rounds p k c a v t x fs) out n → Returns G (in_rounds p k c a v t ∷ fs) x out n
  rounds_sound p k c a v t (ok true b w u f) fs out n h =
      let d = rounds_on h in
      over_same n (gives_rounds k c v t (round_ok d.answers)) (noted_more k d.rounds _ ∙ ap (noted (Rounds (suc k + d.rounds))) (after_round c v w t u d.outcome)) d.returns d.count
  rounds_sound p k c a v t (ok false b w u f) fs out n (handing r) =
      let z : n ≡ zero + n = omega arith in over_same n (gives_rounds k c v t round_empty) refl r z
  rounds_sound p k c a v t (failed true f) fs out n (handing r) =
      let z : n ≡ zero + n = omega arith in over_same n (gives_rounds k c v t round_failed) (ap (noted (Rounds (k + 0))) (round_failed_so c v t f)) r z
  rounds_sound p k c a v t (failed false f) fs out n (handing r) =
      let z : n ≡ zero + n = omega arith in
      let y : k + 0 ≡ k = omega arith in
      over_same n (gives_rounds k c v t round_ended) (ap (noted (Rounds (k + 0))) (no_round c a v t f) ∙ ap (λ j. ok c a v (Rounds j ∷ t) f) y) r z
  rounds_sound p k c a v t empty_round fs out n (handing r) =
      let z : n ≡ zero + n = omega arith in over_same n (gives_rounds k c v t round_stuck) refl r z

  pub first_sound : (ch : Chain) (x : Outcome) (fs : List Frame) (out : Outcome) (n : ℕ) → Finishes G (hand_to_first ch x fs) out n → Returns G (in_first ch ∷ fs) x out n
  first_sound ch (ok c b v t e) fs out n h =
      let d = links_on h in
      let y : d.links ≡ zero + d.links = omega arith in
      over_same n (gives_first (first_ok d.answers)) (ap (λ j. noted (Rounds j) (then_rest c [] t e d.outcome)) y) d.returns d.count
  first_sound ch (failed c e) fs out n (handing r) = over_none (gives_first first_failed) r
  first_sound ch empty_round fs out n (handing r) = over_none (gives_first first_stuck) r

  operand_on : {ch : Chain} {linked : Linked} {a b : Spot} {c : Bool} {v : List Tree} {t : List TrailItem} {e : Error} {fs : List Frame} {out : Outcome} {n : ℕ} →
      Finishes G (at_node ch.operand b (in_operand ch linked a c v t e ∷ fs)) out n → Returns G (in_separator ch linked a ∷ fs) (ok c b v t e) out n
  operand_on {linked = linked} (entering {m = m} d (over {m = j} {n = l} (gives_operand {k = k} {o = o} _ g) h)) =
      over_same _ (gives_separator linked (separator_ok d g)) refl h (omega arith)

  pub separator_sound : (ch : Chain) (linked : Linked) (a : Spot) (x : Outcome) (fs : List Frame) (out : Outcome) (n : ℕ) →
      Finishes G (hand_to_separator ch linked a x fs) out n → Returns G (in_separator ch linked a ∷ fs) x out n
  separator_sound ch linked a (ok c b v t e) fs out n h = operand_on h
  separator_sound ch linked a (failed c e) fs out n (handing r) =
      let z : n ≡ zero + n = omega arith in over_same n (gives_separator linked separator_failed) (last_count ch linked _) r z
  separator_sound ch linked a empty_round fs out n (handing r) =
      let z : n ≡ zero + n = omega arith in over_same n (gives_separator linked separator_stuck) (last_stuck ch linked) r z

  link_sound : (b : Bool) (ch : Chain) (linked : Linked) (a : Spot) (c : Bool) (v : List Tree) (t : List TrailItem) (e : Error) (d : Bool) (end : Spot) (w : List Tree) (u : List TrailItem) (f : Error)
      (fs : List Frame) (out : Outcome) (n : ℕ) → (c || d) ≡ b → Finishes G (next_link b ch (with_link ch linked v t e d w u f) end fs) out n →
      Returns G (in_operand ch linked a c v t e ∷ fs) (ok d end w u f) out n
  link_sound true ch linked a c v t e d end w u f fs out n q h =
      let s = links_on h in
      over_same n (gives_operand linked (operand_ok q s.answers))
      (noted_more linked.count s.links _ ∙ ap (noted (Rounds (suc linked.count + s.links))) (after_link ch linked v w t u e f c d s.outcome q)) s.returns s.count
  link_sound false ch linked a c v t e d end w u f fs out n q h = elim h [ ]

  pub operand_sound : (ch : Chain) (linked : Linked) (a : Spot) (c : Bool) (v : List Tree) (t : List TrailItem) (e : Error) (x : Outcome) (fs : List Frame) (out : Outcome) (n : ℕ) →
      Finishes G (hand_to_operand ch linked a c v t e x fs) out n → Returns G (in_operand ch linked a c v t e ∷ fs) x out n
  operand_sound ch linked a c v t e (ok d b w u f) fs out n h = link_sound (c || d) ch linked a c v t e d b w u f fs out n refl h
  operand_sound ch linked a c v t e (failed d f) fs out n (handing r) =
      let z : n ≡ zero + n = omega arith in over_same n (gives_operand linked operand_failed) (last_count ch linked _) r z
  operand_sound ch linked a c v t e empty_round fs out n (handing r) =
      let z : n ≡ zero + n = omega arith in over_same n (gives_operand linked operand_stuck) (last_stuck ch linked) r z

  pub hand_sound : (f : Frame) (x : Outcome) (fs : List Frame) (out : Outcome) (n : ℕ) → Finishes G (hand G f x fs) out n → Returns G (f ∷ fs) x out n
  hand_sound (in_parts ps done) x fs out n h = parts_sound ps done x fs out n h
  hand_sound (in_choice k ps a tried) x fs out n h = choice_sound k ps a tried x fs out n h
  hand_sound (in_rounds p k c a v t) x fs out n h = rounds_sound p k c a v t x fs out n h
  hand_sound (in_first ch) x fs out n h = first_sound ch x fs out n h
  hand_sound (in_separator ch linked a) x fs out n h = separator_sound ch linked a x fs out n h
  hand_sound (in_operand ch linked a c v t e) x fs out n h = operand_sound ch linked a c v t e x fs out n h
  hand_sound in_rule x fs out n (handing r) = over_none gives_rule r
  hand_sound (in_around around a) x fs out n (handing r) = over_none gives_around r
  hand_sound (in_expression s levels) x fs out n h =
      let d = climb_sound levels (noted (Ops []) x) fs out n h in over_same n (gives_expression d.gives) refl d.returns d.count

  -- ---- a node is entered

  -- its form answers so
  form_entered : {p : ℕ} {f : Node} {a : Spot} {fs : List Frame} {x y out : Outcome} {m l : ℕ} (n : ℕ) → slice_get G.grammar.nodes p ≡ Some f → AnswersForm G f a x m → x ≡ y →
      Returns G fs y out l → n ≡ m + l → Finishes G (at_node p a fs) out (suc n)
  form_entered {p = p} {a = a} {fs = fs} {out = out} {m = m} {l = l} n there d same r e =
      let k : suc m + l ≡ suc n = omega arith in
      subst (Finishes G (at_node p a fs) out) k (entering (entered there d) (subst (λ (z : Outcome). Returns G fs z out l) (sym same) r))

  nothing_entered : {p : ℕ} {a : Spot} {fs : List Frame} {out : Outcome} (n : ℕ) → slice_get G.grammar.nodes p ≡ Some (form.Seq []) →
      Finishes G (with_outcome (ok false a [] [] (no_messages_at a.place)) fs) out n → Finishes G (at_node p a fs) out (suc n)
  nothing_entered n there (handing r) = let z : n ≡ zero + n = omega arith in form_entered n there answers.nothing refl r z

  leaf_entered : (p : ℕ) (l : Leaf ℕ) (o : Option Outcome) (a : Spot) (fs : List Frame) (out : Outcome) (n : ℕ) → slice_get G.grammar.nodes p ≡ Some (form.Leaf l) →
      leaf_outcome G.grammar G.text l a ≡ o → Finishes G (told o fs) out n → Finishes G (at_node p a fs) out (suc n)
  leaf_entered p l None a fs out n there e h = elim h [ ]
  leaf_entered p l (Some o) a fs out n there e (handing r) = let z : n ≡ zero + n = omega arith in form_entered n there (answers.leaf e) refl r z

  around_entered : {p q : ℕ} {around : Around} {a : Spot} {fs : List Frame} {out : Outcome} (n : ℕ) → slice_get G.grammar.nodes p ≡ Some (form.Around around q) →
      Finishes G (at_node q a (in_around around a ∷ fs)) out n → Finishes G (at_node p a fs) out (suc n)
  around_entered n there (entering {m = m} d (over {n = l} gives_around r)) =
      let z : n ≡ m + l = omega arith in form_entered n there (answers.around d) refl r z

  body_entered : {p r : ℕ} {named : declared.Rule} {a : Spot} {fs : List Frame} {out : Outcome} (n : ℕ) → slice_get G.grammar.nodes p ≡ Some (form.Rule r) →
      slice_get G.grammar.rules r ≡ Some named → Finishes G (at_node named.body a (in_rule ∷ fs)) out n → Finishes G (at_node p a fs) out (suc n)
  body_entered n there e (entering {m = m} d (over {n = l} gives_rule r)) =
      let z : n ≡ m + l = omega arith in form_entered n there (answers.rule e d) refl r z

  parts_entered : (p q : ℕ) (ps : List ℕ) (a : Spot) (fs : List Frame) (out : Outcome) (n : ℕ) → slice_get G.grammar.nodes p ≡ Some (form.Seq (q ∷ ps)) →
      Finishes G (at_node q a (in_parts ps none_before ∷ fs)) out n → Finishes G (at_node p a fs) out (suc n)
  parts_entered p q ps a fs out n there h = let d = parts_on h in form_entered n there (answers.seq d.answers) refl d.returns d.count

  choice_entered : (p : ℕ) (ps : List ℕ) (a : Spot) (fs : List Frame) (out : Outcome) (n : ℕ) → slice_get G.grammar.nodes p ≡ Some (form.Choice ps) →
      Finishes G (next_alternative (suc zero) ps a none_tried fs) out n → Finishes G (at_node p a fs) out (suc n)
  choice_entered p ps a fs out n there h =
      let d = alternatives_on (suc zero) ps a none_tried fs out n h in form_entered n there (answers.choice d.answers) refl d.returns d.count

  many_entered : (p q : ℕ) (a : Spot) (fs : List Frame) (out : Outcome) (n : ℕ) → slice_get G.grammar.nodes p ≡ Some (form.Many q) →
      Finishes G (at_node q a (in_rounds q zero false a [] [] ∷ fs)) out n → Finishes G (at_node p a fs) out (suc n)
  many_entered p q a fs out n there h =
      let d = rounds_on h in
      let y : d.rounds ≡ zero + d.rounds = omega arith in
      form_entered n there (answers.many d.answers) (ap (λ j. noted (Rounds j) d.outcome) y ∙ ap (noted (Rounds (zero + d.rounds))) (sym (rounds_none d.outcome))) d.returns d.count

  chain_on : {ch : Chain} {a : Spot} {fs : List Frame} {out : Outcome} {n : ℕ} → Finishes G (at_node ch.operand a (in_first ch ∷ fs)) out n → SomeChain G ch a fs out n
  chain_on (entering {m = m} d (over {m = j} {n = l} (gives_first {k = k} {o = o} g) h)) =
      record { links = k; outcome = o; nodes = m + j; further = l; answers = first_operand d g; returns = h; count = omega arith }

  chain_entered : (p q s : ℕ) (side : Side) (used : ChainBuilder) (a : Spot) (fs : List Frame) (out : Outcome) (n : ℕ) → slice_get G.grammar.nodes p ≡ Some (form.Chain side used q s) →
      Finishes G (at_node q a (in_first (record { side = side; shape = used.shape; operand = q; separator = s }) ∷ fs)) out n → Finishes G (at_node p a fs) out (suc n)
  chain_entered p q s side used a fs out n there h = let d = chain_on h in form_entered n there (answers.chain d.answers) refl d.returns d.count

  rule_entered : (p r : ℕ) (named : Option declared.Rule) (a : Spot) (fs : List Frame) (out : Outcome) (n : ℕ) → slice_get G.grammar.nodes p ≡ Some (form.Rule r) →
      slice_get G.grammar.rules r ≡ named → Finishes G (enter_rule named a fs) out n → Finishes G (at_node p a fs) out (suc n)
  rule_entered p r None a fs out n there e h = elim h [ ]
  rule_entered p r (Some named) a fs out n there e h = body_entered n there e h

  -- no level stands over the loosest row
  none_over : {s : Setting} {x o : Outcome} {k : ℕ} → LevelsGive G s [] x o k → (x ≡ o) × (k ≡ zero)
  none_over no_level = (refl, refl)

  expression_entered : (p q : ℕ) (builders : OperatorBuilders) (item : Option OperatorsItem) (a : Spot) (fs : List Frame) (out : Outcome) (n : ℕ) →
      slice_get G.grammar.nodes p ≡ Some (form.Expression builders q) → G.grammar.operators ≡ item → Finishes G (enter_expression G builders q a fs item) out n → Finishes G (at_node p a fs) out (suc n)
  expression_entered p q builders None a fs out n there e h = elim h [ ]
  expression_entered p q builders (Some item) a fs out n there e h =
      let d = descend_sound (reverse (rows_of a.table.operators)) a [] fs out n h in
      let same = none_over d.gives in
      let none = same.1 in
      let count = d.count in
      form_entered n there (answers.expression e d.answers) (same.0) d.returns (omega arith)

  form_sound : (p : ℕ) (f : Node) (a : Spot) (fs : List Frame) (out : Outcome) (n : ℕ) → slice_get G.grammar.nodes p ≡ Some f → Finishes G (enter_form G f a fs) out n →
      Finishes G (at_node p a fs) out (suc n)
  form_sound p (form.Leaf l) a fs out n there h = leaf_entered p l (leaf_outcome G.grammar G.text l a) a fs out n there refl h
  form_sound p (form.Seq []) a fs out n there h = nothing_entered n there h
  form_sound p (form.Seq (q ∷ ps)) a fs out n there h = parts_entered p q ps a fs out n there h
  form_sound p (form.Choice ps) a fs out n there h = choice_entered p ps a fs out n there h
  form_sound p (form.Many q) a fs out n there h = many_entered p q a fs out n there h
  form_sound p (form.Chain side used q s) a fs out n there h = chain_entered p q s side used a fs out n there h
  form_sound p (form.Rule r) a fs out n there h = rule_entered p r (slice_get G.grammar.rules r) a fs out n there refl h
  form_sound p (form.Expression builders q) a fs out n there h = expression_entered p q builders G.grammar.operators a fs out n there refl h
  form_sound p (form.Around around q) a fs out n there h = around_entered n there h

  pub node_sound : (p : ℕ) (f : Option Node) (a : Spot) (fs : List Frame) (out : Outcome) (n : ℕ) → slice_get G.grammar.nodes p ≡ f → Finishes G (enter_node G f a fs) out n →
      Finishes G (at_node p a fs) out (suc n)
  node_sound p None a fs out n there h = elim h [ ]
  node_sound p (Some f) a fs out n there h = form_sound p f a fs out n there h
