-- Code that is laid out for a node is passed: a run that stops after it began there came to an outcome of the node.
use Rattle.std.proofs.Common.{◌≡◌, ◌∙◌, ◌<◌, ◌≤◌, ◌+◌, ℕ, zero, suc, List, ◌∷◌, Bool, ◌||◌, refl, sym, ap, subst, Option, Some, None, length, slice_get, arith}
use Rattle.pg_tree.specs.Trees.{Tree}
use Rattle.pg_grammar_form.specs.Forms.{Node}
use Rattle.pg_grammar_form.specs.declared.class.ClassPart.{ClassPart}
use Rattle.pg_grammar_form.specs.declared.form.Form.TheVariants as form
use Rattle.pg_grammar_form.specs.declared.form.Leaf.{Leaf}
use Rattle.pg_grammar_form.specs.declared.form.Leaf.TheVariants as leaf
use Rattle.pg_grammar_value.specs.declared.grammar.Rule as declared
use Rattle.pg_grammar_value.specs.declared.trail.TrailItem.TheVariants.{Rounds}
use Rattle.pg_language.specs.Answers as answers
use Rattle.pg_language.specs.Answers.{Answers, entered, AnswersForm, choice, many, rule, first_operand, first_failed, first_ok}
use Rattle.pg_language.specs.Derives.{Spot, after}
use Rattle.pg_language.specs.Leaves.{leaf_outcome}
use Rattle.pg_language.specs.Outcomes.{Outcome, ok, failed, empty_round}
use Rattle.pg_language.specs.Reactions.{noted}
use Rattle.pg_language.specs.Runs.{run_at}
use Rattle.pg_language.specs.declared.reading.Reading.TheVariants.{Library}
use Rattle.pg_machine_plan.specs.Facts.{outcomes_of}
use Rattle.pg_machine_plan.specs.Layout.{IsNoted, Adjoin, TriesBy, IsLaid, a_leaf, a_seq, a_choice, a_span, a_many, a_chain, a_right_chain, an_expression, a_rule, a_rule_inside, a_transparent, an_around, IsLaidOut}
use Rattle.pg_machine_plan.specs.Plans.{Program, chosen}
use Rattle.pg_machine_quick.specs.Turns.{Frame, State, state, returns, added, has_read, reads, spans, is_some_character, leaves_of, on_turn, run}
use Rattle.pg_machine_plan.specs.declared.instruction.Instruction.TheVariants.{Enter, Read, Span, Pick, Call, Return}
use Rattle.pg_machine_plan.specs.declared.instruction.Keep.{Keep}
use Rattle.pg_machine_quick.proofs.Choices.{alternatives_come}
use Rattle.pg_machine_quick.proofs.Comes.{onward, Comes, Claim, turned, was_picked, same_run, same_count, on_noted, counted_too}
use Rattle.pg_machine_plan.proofs.LeafVerdicts.{of_form}
use Rattle.pg_machine_quick.proofs.Chains.{chain_comes, right_chain_comes}
use Rattle.pg_machine_quick.proofs.Rounds.{of_rounds, IsHead, rounds_come}
use Rattle.pg_machine_quick.proofs.Sequences.{parts_come}
use Rattle.pg_machine_quick.proofs.Spans.{span_answers}
use Rattle.pg_machine_plan.proofs.Verdicts.{of_all}
use Rattle.pg_machine_quick.proofs.AroundParts.{transparent_comes, around_comes}
use Rattle.pg_machine_quick.proofs.Entered.{entered_too}
use Rattle.pg_machine_quick.proofs.RowsAround.{expression_comes}

-- ---- leaves

read_comes : (P : Program) (l n q : ℕ) (keep : Keep) (x : Leaf ℕ) (s t : State) (o : Option Outcome) → l < n → slice_get P.given.grammar.nodes q ≡ Some (form.Leaf x) →
    leaf_outcome P.given.grammar P.given.text x s.spot ≡ o → on_turn (has_read keep s o) (λ z. run P l z) ≡ Some t →
    Comes P n keep (s.pc + 1) s t (outcomes_of P.given q s.spot)
read_comes P l n q keep x s t None less h e on = absurd (cc)
read_comes P l n q keep x s t (Some (ok c b v i g)) less h e on =
    record { left = l; fewer = less; outcome = ok c b v i g; nodes = 1; has = entered h (answers.leaf e); on = on }
read_comes P l n q keep x s t (Some (failed c g)) less h e on =
    record { left = l; fewer = less; outcome = failed c g; nodes = 1; has = entered h (answers.leaf e); on = on }
read_comes P l n q keep x s t (Some empty_round) less h e on = absurd (cc)

leaf_comes : (P : Program) (n q : ℕ) (keep : Keep) (x : Leaf ℕ) (s t : State) → slice_get P.given.grammar.nodes q ≡ Some (form.Leaf x) →
    slice_get P.plan.code s.pc ≡ Some (Read keep q) → run P n s ≡ Some t → Comes P n keep (s.pc + 1) s t (outcomes_of P.given q s.spot)
leaf_comes P n q keep x s t h read on =
    let u = turned P n s t (Read keep q) read on in
    let counted = u.counted in
    read_comes P u.left n q keep x s t (leaf_outcome P.given.grammar P.given.text x s.spot) (omega arith) h refl
    (ap (λ y. on_turn (reads P.given keep s y) (λ z. run P u.left z)) (sym h) ∙ u.on)

span_comes : (P : Program) → (n q p : ℕ) (keep : Keep) (class : List ClassPart) (s t : State) → slice_get P.given.grammar.nodes q ≡ Some (form.Many p) →
    slice_get P.given.grammar.nodes p ≡ Some (form.Leaf (leaf.Satisfy class)) → slice_get P.plan.code s.pc ≡ Some (Span keep p) → run P n s ≡ Some t →
    Comes P n keep (s.pc + 1) s t (outcomes_of P.given q s.spot)
span_comes P n q p keep class s t h is span on =
    let u = turned P n s t (Span keep p) span on in
    let counted = u.counted in
    let cs : List ℕ = run_at P.given.grammar P.given.text class s.spot.place in
    let r = span_answers P.given p class s.spot is in
    let o : Outcome = ok (is_some_character cs) (after s.spot (length cs)) (leaves_of cs) (Rounds r.rounds ∷ r.trail) r.error in
    let nodes : 1 + (1 + length cs) ≡ 2 + length cs = omega arith in
    record {
      left = u.left;
      fewer = omega arith;
      outcome = o;
      nodes = 2 + length cs;
      has = subst (Answers P.given q s.spot o) nodes (entered_too P.given q (form.Many p) s.spot o (1 + length cs) h (many r.so));
      on = ap (λ y. on_turn (spans P.given keep s y) (λ z. run P u.left z)) (sym is) ∙ u.on;
    }

-- ---- sequences, choices and repetitions

seq_comes : (P : Program) (N : ℕ) → Claim P N → (n q : ℕ) (keep : Keep) (ps : List ℕ) (end : ℕ) (s t : State) → n ≤ N →
    slice_get P.given.grammar.nodes q ≡ Some (form.Seq ps) → slice_get P.plan.code s.pc ≡ Some Enter → Adjoin P keep ps (s.pc + 1) end → run P n s ≡ Some t →
    Comes P n keep end s t (outcomes_of P.given q s.spot)
seq_comes P N claim n q keep ps end s t below h enter adjoin on =
    let u = turned P n s t Enter enter on in
    let counted = u.counted in
    let z : State = state (s.pc + 1) s.spot s.stack s.forest (s.nodes + 1) s.taken in
    counted_too P (suc u.left) n keep end (s.pc + 1) 1 s t (of_form P.given (form.Seq ps) s.spot) (outcomes_of P.given q s.spot) (omega arith)
    (λ o m d. entered_too P.given q (form.Seq ps) s.spot o m h d) (parts_come P N claim u.left keep ps end z t (omega arith) adjoin u.on)

choice_comes : (P : Program) → P.given.reading ≡ Library → (N : ℕ) → Claim P N → (n q : ℕ) (keep : Keep) (ps : List ℕ) (table end : ℕ) (s t : State) → n ≤ N →
    slice_get P.given.grammar.nodes q ≡ Some (form.Choice ps) → slice_get P.plan.code s.pc ≡ Some (Pick table) → TriesBy P keep 1 table ps end →
    run P n s ≡ Some t → Comes P n keep end s t (outcomes_of P.given q s.spot)
choice_comes P library N claim n q keep ps table end s t below h pick tries on =
    let u = turned P n s t (Pick table) pick on in
    let counted = u.counted in
    let w = was_picked P u.left s t (chosen P.plan table (slice_get P.given.text s.spot.place)) u.on in
    let y = tries s.spot w.arm w.is in
    let own = y.1 in
    let g : run P u.left (state w.arm.target s.spot s.stack s.forest (s.nodes + 1 + y.0) s.taken) ≡ Some t =
    same_run P u.left w.arm.target s.spot s.stack s.forest s.forest (s.nodes + w.arm.nodes) (s.nodes + 1 + y.0) s.taken s.taken t refl (omega arith) refl w.on in
    counted_too P u.left n keep end s.pc 1 s t (of_all P.given 1 ps s.spot) (outcomes_of P.given q s.spot) (omega arith)
    (λ o m d. entered_too P.given q (form.Choice ps) s.spot o m h (choice d))
    (alternatives_come P library N claim keep end s.spot 1 u.left s.pc s.stack s.forest (s.nodes + 1) s.taken t (omega arith) y.2 g)

-- rounds as the repetition sees them
of_many : (P : Program) (N M q p j : ℕ) (keep : Keep) (end : ℕ) (s t : State) → M ≤ N → slice_get P.given.grammar.nodes q ≡ Some (form.Many p) →
    Comes P M keep end (state j s.spot s.stack s.forest (s.nodes + 1) s.taken) t (of_rounds P.given p s.spot) →
    Comes P N keep end s t (outcomes_of P.given q s.spot)
of_many P N M q p j keep end s t below h c =
    let few = c.fewer in
    let rounds = c.has in
    let o : Outcome = noted (Rounds rounds.0) c.outcome in
    record {
      left = c.left;
      fewer = omega arith;
      outcome = o;
      nodes = 1 + c.nodes;
      has = entered_too P.given q (form.Many p) s.spot o c.nodes h (many rounds.1);
      on = same_count P c.left keep end s.stack s.forest s.taken o (s.nodes + 1 + c.nodes) (s.nodes + (1 + c.nodes)) t (omega arith)
          (on_noted P c.left keep end s.stack s.forest s.taken (s.nodes + 1 + c.nodes) t (Rounds rounds.0) c.outcome c.on);
    }

many_comes : (P : Program) (N : ℕ) → Claim P N → (n q p : ℕ) (keep : Keep) (table end : ℕ) (s t : State) → n ≤ N →
    slice_get P.given.grammar.nodes q ≡ Some (form.Many p) → slice_get P.plan.code s.pc ≡ Some Enter → IsHead P keep (s.pc + 1) table end p →
    run P n s ≡ Some t → Comes P n keep end s t (outcomes_of P.given q s.spot)
many_comes P N claim n q p keep table end s t below h enter is on =
    let u = turned P n s t Enter enter on in
    let counted = u.counted in
    of_many P n u.left q p (s.pc + 1) keep end s t (omega arith) h
    (rounds_come P N claim (suc u.left) u.left keep (s.pc + 1) table end p s.spot s.stack s.forest (s.nodes + 1) s.taken t is (omega arith) (omega arith) u.on)

-- ---- rules

body_came : (P : Program) (l n m q r exit : ℕ) (named : declared.Rule) (keep : Keep) (s t : State) (o : Outcome) → l < n →
    slice_get P.given.grammar.nodes q ≡ Some (form.Rule r) → slice_get P.given.grammar.rules r ≡ Some named → slice_get P.plan.code exit ≡ Some Return →
    Answers P.given named.body s.spot o m → onward P l keep exit (returns (s.pc + 1) ∷ s.stack) s.forest s.taken o (s.nodes + 1 + m) ≡ Some t →
    Comes P n keep (s.pc + 1) s t (outcomes_of P.given q s.spot)
body_came P l n m q r exit named keep s t (ok c b v i e) less h is return d on =
    let u = turned P l (state exit b (returns (s.pc + 1) ∷ s.stack) (added keep s.forest v) (s.nodes + 1 + m) (s.taken || c)) t Return return on in
    let counted = u.counted in
    let total : s.nodes + 1 + m ≡ s.nodes + (1 + m) = omega arith in
    record {
      left = u.left;
      fewer = omega arith;
      outcome = ok c b v i e;
      nodes = 1 + m;
      has = entered_too P.given q (form.Rule r) s.spot (ok c b v i e) m h (rule is d);
      on = same_count P u.left keep (s.pc + 1) s.stack s.forest s.taken (ok c b v i e) (s.nodes + 1 + m) (s.nodes + (1 + m)) t total u.on;
    }
body_came P l n m q r exit named keep s t (failed c e) less h is return d on =
    let total : s.nodes + 1 + m ≡ s.nodes + (1 + m) = omega arith in
    record {
      left = l;
      fewer = less;
      outcome = failed c e;
      nodes = 1 + m;
      has = entered_too P.given q (form.Rule r) s.spot (failed c e) m h (rule is d);
      on = same_count P l keep (s.pc + 1) s.stack s.forest s.taken (failed c e) (s.nodes + 1 + m) (s.nodes + (1 + m)) t total on;
    }
body_came P l n m q r exit named keep s t empty_round less h is return d on = absurd (cc)

rule_comes : (P : Program) (N : ℕ) → Claim P N → (n q r target exit : ℕ) (named : declared.Rule) (keep : Keep) (s t : State) → n ≤ N →
    slice_get P.given.grammar.nodes q ≡ Some (form.Rule r) → slice_get P.given.grammar.rules r ≡ Some named → slice_get P.plan.code s.pc ≡ Some (Call target) →
    IsNoted P keep named.body target exit → slice_get P.plan.code exit ≡ Some Return → run P n s ≡ Some t →
    Comes P n keep (s.pc + 1) s t (outcomes_of P.given q s.spot)
rule_comes P N claim n q r target exit named keep s t below h is call noted return on =
    let u = turned P n s t (Call target) call on in
    let counted = u.counted in
    let c = claim u.left keep named.body exit (state target s.spot (returns (s.pc + 1) ∷ s.stack) s.forest (s.nodes + 1) s.taken) t (omega arith) noted u.on in
    let few = c.fewer in
    body_came P c.left n c.nodes q r exit named keep s t c.outcome (omega arith) h is return c.has c.on

-- a body that stands at the rule's use
rule_inside_comes : (P : Program) (N : ℕ) → Claim P N → (n q r end : ℕ) (named : declared.Rule) (keep : Keep) (s t : State) → n ≤ N →
    slice_get P.given.grammar.nodes q ≡ Some (form.Rule r) → slice_get P.given.grammar.rules r ≡ Some named → slice_get P.plan.code s.pc ≡ Some Enter →
    IsNoted P keep named.body (s.pc + 1) end → run P n s ≡ Some t → Comes P n keep end s t (outcomes_of P.given q s.spot)
rule_inside_comes P N claim n q r end named keep s t below h is enter noted on =
    let u = turned P n s t Enter enter on in
    let counted = u.counted in
    let c = claim u.left keep named.body end (state (s.pc + 1) s.spot s.stack s.forest (s.nodes + 1) s.taken) t (omega arith) noted u.on in
    let few = c.fewer in
    let total : s.nodes + 1 + c.nodes ≡ s.nodes + (1 + c.nodes) = omega arith in
    record {
      left = c.left;
      fewer = omega arith;
      outcome = c.outcome;
      nodes = 1 + c.nodes;
      has = entered_too P.given q (form.Rule r) s.spot c.outcome c.nodes h (rule is c.has);
      on = same_count P c.left keep end s.stack s.forest s.taken c.outcome (s.nodes + 1 + c.nodes) (s.nodes + (1 + c.nodes)) t total c.on;
    }

-- ---- all code

form_comes : (P : Program) → P.given.reading ≡ Library → (N : ℕ) → Claim P N → (n q end : ℕ) (keep : Keep) (node : Node) (s t : State) → n ≤ N →
    slice_get P.given.grammar.nodes q ≡ Some node → IsLaid P keep q s.pc node end → run P n s ≡ Some t → Comes P n keep end s t (outcomes_of P.given q s.spot)
form_comes P library N claim n q end keep node s t below h laid on = by_form P library N claim n keep q s.pc node end s.spot s.stack s.forest s.nodes s.taken t below h laid on
  where
    by_form : (P : Program) → P.given.reading ≡ Library → (N : ℕ) → Claim P N → (n : ℕ) (keep : Keep) (q pc : ℕ) (node : Node) (end : ℕ) (a : Spot) (k : List Frame) (f : List Tree)
        (c : ℕ) (x : Bool) (t : State) → n ≤ N → slice_get P.given.grammar.nodes q ≡ Some node → IsLaid P keep q pc node end → run P n (state pc a k f c x) ≡ Some t →
        Comes P n keep end (state pc a k f c x) t (outcomes_of P.given q a)
    by_form P library N claim n keep q pc node end a k f c x t below h (a_leaf {l = y} read) on = leaf_comes P n q keep y (state pc a k f c x) t h read on
    by_form P library N claim n keep q pc node end a k f c x t below h (a_seq {ps = ps} enter adjoin) on =
        seq_comes P N claim n q keep ps end (state pc a k f c x) t below h enter adjoin on
    by_form P library N claim n keep q pc node end a k f c x t below h (a_choice {table = table} {ps = ps} pick tries) on =
        choice_comes P library N claim n q keep ps table end (state pc a k f c x) t below h pick tries on
    by_form P library N claim n keep q pc node end a k f c x t below h (a_span {p = p} {class = class} span is) on =
        span_comes P n q p keep class (state pc a k f c x) t h is span on
    by_form P library N claim n keep q pc node end a k f c x t below h (a_many {p = p} {table = table} enter pick arms) on =
        many_comes P N claim n q p keep table end (state pc a k f c x) t below h enter (record { pick = pick; arms = arms }) on
    by_form P library N claim n keep q pc node end a k f c x t below h
        (a_chain {used = used} {p = p} {separator = separator} {head = head} {table = table} {out = out} hold noted pick arms release) on =
        chain_comes P N claim n q p separator keep used head table out (state pc a k f c x) t below (record { chain = h; pick = pick; arms = arms }) hold noted release on
    by_form P library N claim n keep q pc node end a k f c x t below h
        (a_right_chain {used = used} {p = p} {separator = separator} {head = head} {table = table} {end = round} {out = out} hold noted pick arms link operand comes folds release) on =
        right_chain_comes P N claim n q p separator keep used head table round out (state pc a k f c x) t below
        (record { chain = h; pick = pick; arms = arms; link = link; operand = operand; comes = comes; folds = folds }) hold noted release on
    by_form P library N claim n keep q pc node end a k f c x t below h (an_expression {builders = builders} {p = p} {rows = count} {out = out} code laid release) on =
        expression_comes P N claim n q p count out keep builders (state pc a k f c x) t below h code laid release on
    by_form P library N claim n keep q pc node end a k f c x t below h (a_rule {r = r} {target = target} {exit = exit} {named = named} is call noted return) on =
        rule_comes P N claim n q r target exit named keep (state pc a k f c x) t below h is call noted return on
    by_form P library N claim n keep q pc node end a k f c x t below h (a_rule_inside {r = r} {named = named} is enter noted) on =
        rule_inside_comes P N claim n q r end named keep (state pc a k f c x) t below h is enter noted on
    by_form P library N claim n keep q pc node end a k f c x t below h (a_transparent {k = y} {p = p} is enter noted) on =
        transparent_comes P N claim n q p end keep y (state pc a k f c x) t below h is enter noted on
    by_form P library N claim n keep q pc node end a k f c x t below h (an_around {k = y} {p = p} {exit = exit} opens noted close) on =
        around_comes P N claim n q p exit keep y (state pc a k f c x) t below h opens noted close on

pub claims : (P : Program) → P.given.reading ≡ Library → IsLaidOut P → (N : ℕ) → Claim P N
claims P library laid zero = λ n keep p end s t less noted on. absurd (omega arith)
claims P library laid (suc N) = λ n keep p end s t less noted on.
    let w = laid keep p s.pc end noted in
    form_comes P library N (claims P library laid N) n p end keep w.node s t (omega arith) w.is w.laid on
