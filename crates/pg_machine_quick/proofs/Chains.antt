-- Chains: a first operand, and links after it.
use Rattle.std.proofs.Common.{◌≡◌, ◌<◌, ◌≤◌, ◌+◌, ℕ, suc, List, [], ◌∷◌, ◌++◌, Bool, ◌||◌, refl, ap, subst, Option, Some, slice_get, append-nil, arith}
use Rattle.pg_tree.specs.Trees.{Tree}
use Rattle.pg_grammar_form.specs.Forms.{Node}
use Rattle.pg_language.specs.Answers.{Given}
use Rattle.pg_grammar_form.specs.declared.form.Form.TheVariants as form
use Rattle.pg_grammar_form.specs.declared.side.Side.TheVariants.{Left, Right}
use Rattle.pg_grammar_form.specs.declared.used.ChainBuilder.{ChainBuilder}
use Rattle.pg_grammar_value.specs.declared.trail.TrailItem.{TrailItem}
use Rattle.pg_grammar_value.specs.declared.trail.TrailItem.TheVariants.{Rounds}
use Rattle.pg_language.specs.Answers as answers
use Rattle.pg_language.specs.Answers.{Answers, entered, AnswersForm, choice, many, rule, first_operand, first_failed, first_ok}
use Rattle.pg_language.specs.Derives.{Spot}
use Rattle.pg_language.specs.Errors.{Error}
use Rattle.pg_language.specs.Outcomes.{Outcome, ok, failed, empty_round}
use Rattle.pg_language.specs.Reactions.{then_rest, noted}
use Rattle.pg_machine_plan.specs.Facts.{outcomes_of}
use Rattle.pg_machine_plan.specs.Layout.{IsNoted}
use Rattle.pg_machine_plan.specs.Plans.{Program}
use Rattle.pg_machine_quick.specs.Turns.{State, state, holds, added, links_folded, run}
use Rattle.pg_machine_plan.specs.declared.instruction.Instruction.TheVariants.{Hold, FoldLinks, Release}
use Rattle.pg_machine_plan.specs.declared.instruction.Keep.{Keep}
use Rattle.pg_machine_plan.specs.declared.instruction.Keep.TheVariants.{Kept, Hidden}
use Rattle.pg_machine_quick.proofs.Comes.{or_assoc, onward, Comes, Claim, turned, same_run, same_back, same_count}
use Rattle.pg_machine_quick.proofs.Links.{IsLinkHead, links_come}
use Rattle.pg_machine_plan.proofs.Verdicts.{alone}
use Rattle.pg_machine_quick.proofs.Entered.{entered_too}
use Rattle.pg_machine_quick.proofs.RightLinks.{IsRightHead, right_links_come}
use Rattle.pg_machine_quick.proofs.RowTurns.{went}

-- ---- chains

chain_forest : (keep : Keep) (f v : List Tree) → f ++ added keep [] v ≡ added keep f v
chain_forest Kept f v = refl
chain_forest Hidden f v = append-nil f

-- after the links, the forest is put back
released : (P : Program) (l N m : ℕ) (keep : Keep) (out : ℕ) (b : Spot) (s t : State) (d : Bool) (e : Error) (i : List TrailItem) (v : List Tree) (k : ℕ) (o : Outcome) → l < N →
    slice_get P.plan.code out ≡ Some Release → onward P l keep out (holds s.forest s.spot.table ∷ s.stack) [] (s.taken || d) o (s.nodes + m) ≡ Some t →
    (j : ℕ) × (j < N) × (onward P j keep (out + 1) s.stack s.forest s.taken (noted (Rounds k) (then_rest d [] i e o)) (s.nodes + m) ≡ Some t)
released P l N m keep out b s t d e i v k (ok y a w u f) less release on =
    let g = turned P l (state out a (holds s.forest s.spot.table ∷ s.stack) (added keep [] w) (s.nodes + m) ((s.taken || d) || y)) t Release release on in
    let counted = g.counted in (
      g.left,
      omega arith,
      same_run P g.left (out + 1) a s.stack (s.forest ++ added keep [] w) (added keep s.forest w) (s.nodes + m) (s.nodes + m) ((s.taken || d) || y)
          (s.taken || (d || y)) t (chain_forest keep s.forest w) refl (or_assoc s.taken d y) g.on,
    )
released P l N m keep out b s t d e i v k (failed y f) less release on =
    (l, less, same_back P l s.stack (s.nodes + m) ((s.taken || d) || y) (s.taken || (d || y)) t (or_assoc s.taken d y) on)
released P l N m keep out b s t d e i v k empty_round less release on = absurd (cc)

first_came : (P : Program) (N : ℕ) → Claim P N → (l n m q p separator : ℕ) (keep : Keep) (used : ChainBuilder) (head table out : ℕ) (s t : State) (o : Outcome) → l < n → n ≤ N →
    IsLinkHead P keep q head table out p separator used → slice_get P.plan.code out ≡ Some Release → Answers P.given p s.spot o m →
    onward P l keep head (holds s.forest s.spot.table ∷ s.stack) [] s.taken o (s.nodes + 1 + m) ≡ Some t → Comes P n keep (out + 1) s t (outcomes_of P.given q s.spot)
first_came P N claim l n m q p separator keep used head table out s t (ok c b v i e) less below is release d on =
    let r = links_come P N claim (suc l) l keep q head table out p separator used v b (holds s.forest s.spot.table ∷ s.stack) (s.nodes + 1 + m) (s.taken || c) t is
    (omega arith) (omega arith) on in
    let few = r.fewer in
    let links = r.has in
    let total : s.nodes + 1 + m + r.nodes ≡ s.nodes + (1 + (m + r.nodes)) = omega arith in
    let g = released P r.left n (1 + (m + r.nodes)) keep out b s t c e i v links.0 r.outcome (omega arith) release
    (same_count P r.left keep out (holds s.forest s.spot.table ∷ s.stack) [] (s.taken || c) r.outcome (s.nodes + 1 + m + r.nodes) (s.nodes + (1 + (m + r.nodes))) t total r.on) in
    let o : Outcome = noted (Rounds links.0) (then_rest c [] i e r.outcome) in
    record {
      left = g.0;
      fewer = g.1;
      outcome = o;
      nodes = 1 + (m + r.nodes);
      has = entered_too P.given q (form.Chain Left used p separator) s.spot o (m + r.nodes) is.chain (answers.chain (first_operand d (first_ok links.1)));
      on = g.2;
    }
first_came P N claim l n m q p separator keep used head table out s t (failed c e) less below is release d on =
    let total : s.nodes + 1 + m ≡ s.nodes + (1 + m) = omega arith in
    record {
      left = l;
      fewer = less;
      outcome = failed c e;
      nodes = 1 + m;
      has = entered_too P.given q (form.Chain Left used p separator) s.spot (failed c e) m is.chain
          (subst (AnswersForm P.given (form.Chain Left used p separator) s.spot (failed c e)) (alone m) (answers.chain (first_operand d first_failed)));
      on = same_count P l keep (out + 1) s.stack s.forest s.taken (failed c e) (s.nodes + 1 + m) (s.nodes + (1 + m)) t total on;
    }
first_came P N claim l n m q p separator keep used head table out s t empty_round less below is release d on = absurd (cc)

pub chain_comes : (P : Program) (N : ℕ) → Claim P N → (n q p separator : ℕ) (keep : Keep) (used : ChainBuilder) (head table out : ℕ) (s t : State) → n ≤ N →
    IsLinkHead P keep q head table out p separator used → slice_get P.plan.code s.pc ≡ Some Hold → IsNoted P keep p (s.pc + 1) head →
    slice_get P.plan.code out ≡ Some Release → run P n s ≡ Some t → Comes P n keep (out + 1) s t (outcomes_of P.given q s.spot)
chain_comes P N claim n q p separator keep used head table out s t below is hold noted release on =
    let u = turned P n s t Hold hold on in
    let counted = u.counted in
    let c = claim u.left keep p head (state (s.pc + 1) s.spot (holds s.forest s.spot.table ∷ s.stack) [] (s.nodes + 1) s.taken) t (omega arith) noted u.on in
    let few = c.fewer in
    first_came P N claim c.left n c.nodes q p separator keep used head table out s t c.outcome (omega arith) below is release c.has c.on

-- ---- folded from the right

-- past the place where links are folded, where none waits
none_waits : (P : Program) (l N q p separator : ℕ) (keep : Keep) (used : ChainBuilder) (out : ℕ) (s t : State) (x : Bool) (o : Outcome) (n : ℕ) → l < N →
    slice_get P.given.grammar.nodes q ≡ Some (form.Chain Right used p separator) → slice_get P.plan.code out ≡ Some (FoldLinks keep q) →
    onward P l keep out (holds s.forest s.spot.table ∷ s.stack) [] x o n ≡ Some t →
    (j : ℕ) × (j < N) × (onward P j keep (out + 1) (holds s.forest s.spot.table ∷ s.stack) [] x o n ≡ Some t)
none_waits P l N q p separator keep used out s t x (ok y a w u f) n less chain folds on =
    let z : State = state out a (holds s.forest s.spot.table ∷ s.stack) (added keep [] w) n (x || y) in
    let g = went P l z (state (out + 1) a (holds s.forest s.spot.table ∷ s.stack) (added keep [] w) n (x || y)) t (FoldLinks keep q) folds
    (ap (λ (m : Option Node). links_folded keep z m) chain) on in
    let few = g.fewer in
    (g.left, omega arith, g.on)
none_waits P l N q p separator keep used out s t x (failed y f) n less chain folds on = (l, less, on)
none_waits P l N q p separator keep used out s t x empty_round n less chain folds on = absurd (cc)

right_first_came : (P : Program) (N : ℕ) → Claim P N → (l n m q p separator : ℕ) (keep : Keep) (used : ChainBuilder) (head table round out : ℕ) (s t : State) (o : Outcome) → l < n → n ≤ N →
    IsRightHead P keep q head table round out p separator used → slice_get P.plan.code (out + 1) ≡ Some Release → Answers P.given p s.spot o m →
    onward P l keep head (holds s.forest s.spot.table ∷ s.stack) [] s.taken o (s.nodes + 1 + m) ≡ Some t → Comes P n keep (out + 1 + 1) s t (outcomes_of P.given q s.spot)
right_first_came P N claim l n m q p separator keep used head table round out s t (ok c b v i e) less below is release d on =
    let r = right_links_come P N claim keep q head table round out p separator used is (suc l) l v b (holds s.forest s.spot.table ∷ s.stack) (s.nodes + 1 + m) (s.taken || c) t
    (omega arith) (omega arith) on in
    let few = r.fewer in
    let links = r.has in
    let total : s.nodes + 1 + m + r.nodes ≡ s.nodes + (1 + (m + r.nodes)) = omega arith in
    let y = none_waits P r.left n q p separator keep used out s t (s.taken || c) r.outcome (s.nodes + 1 + m + r.nodes) (omega arith) is.chain is.folds r.on in
    let fewer = y.1 in
    let g = released P y.0 n (1 + (m + r.nodes)) keep (out + 1) b s t c e i v links.0 r.outcome fewer release
    (same_count P y.0 keep (out + 1) (holds s.forest s.spot.table ∷ s.stack) [] (s.taken || c) r.outcome (s.nodes + 1 + m + r.nodes) (s.nodes + (1 + (m + r.nodes))) t total y.2) in
    let o : Outcome = noted (Rounds links.0) (then_rest c [] i e r.outcome) in
    record {
      left = g.0;
      fewer = g.1;
      outcome = o;
      nodes = 1 + (m + r.nodes);
      has = entered_too P.given q (form.Chain Right used p separator) s.spot o (m + r.nodes) is.chain (answers.chain (first_operand d (first_ok links.1)));
      on = g.2;
    }
right_first_came P N claim l n m q p separator keep used head table round out s t (failed c e) less below is release d on =
    let total : s.nodes + 1 + m ≡ s.nodes + (1 + m) = omega arith in
    record {
      left = l;
      fewer = less;
      outcome = failed c e;
      nodes = 1 + m;
      has = entered_too P.given q (form.Chain Right used p separator) s.spot (failed c e) m is.chain
          (subst (AnswersForm P.given (form.Chain Right used p separator) s.spot (failed c e)) (alone m) (answers.chain (first_operand d first_failed)));
      on = same_count P l keep (out + 1 + 1) s.stack s.forest s.taken (failed c e) (s.nodes + 1 + m) (s.nodes + (1 + m)) t total on;
    }
right_first_came P N claim l n m q p separator keep used head table round out s t empty_round less below is release d on = absurd (cc)

pub right_chain_comes : (P : Program) (N : ℕ) → Claim P N → (n q p separator : ℕ) (keep : Keep) (used : ChainBuilder) (head table round out : ℕ) (s t : State) → n ≤ N →
    IsRightHead P keep q head table round out p separator used → slice_get P.plan.code s.pc ≡ Some Hold → IsNoted P keep p (s.pc + 1) head →
    slice_get P.plan.code (out + 1) ≡ Some Release → run P n s ≡ Some t → Comes P n keep (out + 2) s t (outcomes_of P.given q s.spot)
right_chain_comes P N claim n q p separator keep used head table round out s t below is hold there release on =
    let u = turned P n s t Hold hold on in
    let counted = u.counted in
    let c = claim u.left keep p head (state (s.pc + 1) s.spot (holds s.forest s.spot.table ∷ s.stack) [] (s.nodes + 1) s.taken) t (omega arith) there u.on in
    let few = c.fewer in
    let two : out + 1 + 1 ≡ out + 2 = omega arith in
    subst (λ end. Comes P n keep end s t (outcomes_of P.given q s.spot)) two
    (right_first_came P N claim c.left n c.nodes q p separator keep used head table round out s t c.outcome (omega arith) below is release c.has c.on)
