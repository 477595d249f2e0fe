-- Forms around a part.
use Rattle.std.proofs.Common.{◌≡◌, ◌∙◌, ◌<◌, ◌≤◌, ◌+◌, ℕ, List, [], ◌∷◌, Bool, true, false, ◌||◌, ◌&&◌, refl, sym, ap, Some, slice_get, append-nil, arith}
use Rattle.pg_tree.specs.Trees.{Tree}
use Rattle.pg_grammar_form.specs.declared.form.Form.TheVariants as form
use Rattle.pg_grammar_form.specs.declared.form.Around.{Around}
use Rattle.pg_grammar_form.specs.declared.form.Around.TheVariants as kind
use Rattle.pg_language.specs.Answers as answers
use Rattle.pg_language.specs.Answers.{Answers}
use Rattle.pg_language.specs.Derives.{Spot, left_by, made_by}
use Rattle.pg_language.specs.Outcomes.{Outcome, ok, failed, empty_round}
use Rattle.pg_language.specs.Reactions.{noted, surrounded, counted_by}
use Rattle.pg_machine_plan.specs.Facts.{outcomes_of}
use Rattle.pg_machine_plan.specs.Layout.{IsNoted, keep_below, IsTransparent}
use Rattle.pg_machine_plan.specs.Plans.{Program}
use Rattle.pg_machine_quick.specs.Turns.{State, state, encloses, added, closed, on_turn, run}
use Rattle.pg_machine_plan.specs.declared.instruction.Instruction.TheVariants.{Enter, Open, Close}
use Rattle.pg_machine_plan.specs.declared.instruction.Keep.{Keep}
use Rattle.pg_machine_plan.specs.declared.instruction.Keep.TheVariants.{Kept, Hidden}
use Rattle.pg_machine_quick.proofs.Comes.{onward, Comes, Claim, turned, same_run, same_back, same_count}
use Rattle.pg_machine_quick.proofs.Entered.{entered_too}

-- ---- forms around a part

-- a form that leaves all as it is
pub transparent_spot : (keep : Keep) (k : Around) (a b : Spot) → IsTransparent keep k → left_by k a b ≡ b
transparent_spot keep (kind.Label message) a b h = refl
transparent_spot Hidden kind.Text a b h = refl
transparent_spot Hidden kind.Skip a b h = refl
transparent_spot Hidden (kind.Build used symbol) a b h = refl
transparent_spot Hidden kind.Try a b h = absurd h
transparent_spot Hidden kind.Local a b h = absurd h
transparent_spot Kept kind.Text a b h = absurd h
transparent_spot Kept kind.Skip a b h = refl
transparent_spot Kept (kind.Build used symbol) a b h = absurd h
transparent_spot Kept kind.Try a b h = absurd h
transparent_spot Kept kind.Local a b h = absurd h

pub transparent_forest : (keep : Keep) (k : Around) (text : List ℕ) (i j : ℕ) (f v : List Tree) → IsTransparent keep k →
    added keep f (made_by k text i j v) ≡ added (keep_below keep k) f v
transparent_forest keep (kind.Label message) text i j f v h = refl
transparent_forest Hidden kind.Text text i j f v h = refl
transparent_forest Hidden kind.Skip text i j f v h = refl
transparent_forest Hidden (kind.Build used symbol) text i j f v h = refl
transparent_forest Hidden kind.Try text i j f v h = absurd h
transparent_forest Hidden kind.Local text i j f v h = absurd h
transparent_forest Kept kind.Text text i j f v h = absurd h
transparent_forest Kept kind.Skip text i j f v h = append-nil f
transparent_forest Kept (kind.Build used symbol) text i j f v h = absurd h
transparent_forest Kept kind.Try text i j f v h = absurd h
transparent_forest Kept kind.Local text i j f v h = absurd h

pub transparent_failure : (keep : Keep) (k : Around) (c : Bool) → IsTransparent keep k → c ≡ counted_by k c
transparent_failure keep (kind.Label message) c h = refl
transparent_failure Hidden kind.Text c h = refl
transparent_failure Hidden kind.Skip c h = refl
transparent_failure Hidden (kind.Build used symbol) c h = refl
transparent_failure Hidden kind.Try c h = absurd h
transparent_failure Hidden kind.Local c h = absurd h
transparent_failure Kept kind.Text c h = absurd h
transparent_failure Kept kind.Skip c h = refl
transparent_failure Kept (kind.Build used symbol) c h = absurd h
transparent_failure Kept kind.Try c h = absurd h
transparent_failure Kept kind.Local c h = absurd h

pub on_transparent : (P : Program) (l : ℕ) (keep : Keep) (end : ℕ) (s t : State) (k : Around) (n : ℕ) (o : Outcome) → IsTransparent keep k →
    onward P l (keep_below keep k) end s.stack s.forest s.taken o n ≡ Some t → onward P l keep end s.stack s.forest s.taken (surrounded k P.given.text s.spot o) n ≡ Some t
on_transparent P l keep end s t k n (ok c b v i e) h on =
    ap (λ (y : Spot). run P l (state end y s.stack (added keep s.forest (made_by k P.given.text s.spot.place b.place v)) n (s.taken || c))) (transparent_spot keep k s.spot b h)
    ∙ same_run P l end b s.stack (added (keep_below keep k) s.forest v) (added keep s.forest (made_by k P.given.text s.spot.place b.place v)) n n (s.taken || c) (s.taken || c) t
    (sym (transparent_forest keep k P.given.text s.spot.place b.place s.forest v h)) refl refl on
on_transparent P l keep end s t k n (failed c e) h on =
    same_back P l s.stack n (s.taken || c) (s.taken || counted_by k c) t (ap (λ y. s.taken || y) (transparent_failure keep k c h)) on
on_transparent P l keep end s t k n empty_round h on = on

pub transparent_comes : (P : Program) (N : ℕ) → Claim P N → (n q p end : ℕ) (keep : Keep) (k : Around) (s t : State) → n ≤ N →
    slice_get P.given.grammar.nodes q ≡ Some (form.Around k p) → IsTransparent keep k → slice_get P.plan.code s.pc ≡ Some Enter →
    IsNoted P (keep_below keep k) p (s.pc + 1) end → run P n s ≡ Some t → Comes P n keep end s t (outcomes_of P.given q s.spot)
transparent_comes P N claim n q p end keep k s t below h is enter noted on =
    let u = turned P n s t Enter enter on in
    let counted = u.counted in
    let c = claim u.left (keep_below keep k) p end (state (s.pc + 1) s.spot s.stack s.forest (s.nodes + 1) s.taken) t (omega arith) noted u.on in
    let few = c.fewer in
    let o : Outcome = surrounded k P.given.text s.spot c.outcome in
    let total : s.nodes + 1 + c.nodes ≡ s.nodes + (1 + c.nodes) = omega arith in
    record {
      left = c.left;
      fewer = omega arith;
      outcome = o;
      nodes = 1 + c.nodes;
      has = entered_too P.given q (form.Around k p) s.spot o c.nodes h (answers.around c.has);
      on = on_transparent P c.left keep end s t k (s.nodes + (1 + c.nodes)) c.outcome is
          (same_count P c.left (keep_below keep k) end s.stack s.forest s.taken c.outcome (s.nodes + 1 + c.nodes) (s.nodes + (1 + c.nodes)) t total c.on);
    }

-- trees that the form drops need not be there
pub around_forest : (keep : Keep) (k : Around) (text : List ℕ) (i j : ℕ) (f v : List Tree) →
    added keep f (made_by k text i j (added (keep_below keep k) [] v)) ≡ added keep f (made_by k text i j v)
around_forest Hidden k text i j f v = refl
around_forest Kept kind.Text text i j f v = refl
around_forest Kept kind.Skip text i j f v = refl
around_forest Kept kind.Try text i j f v = refl
around_forest Kept (kind.Build used symbol) text i j f v = refl
around_forest Kept (kind.Label message) text i j f v = refl
around_forest Kept kind.Local text i j f v = refl

pub around_failure : (k : Around) (c : Bool) → (counted_by k true && c) ≡ counted_by k c
around_failure kind.Try c = refl
around_failure kind.Text c = refl
around_failure kind.Skip c = refl
around_failure (kind.Build used symbol) c = refl
around_failure (kind.Label message) c = refl
around_failure kind.Local c = refl

pub part_came : (P : Program) (l n m q p exit : ℕ) (keep : Keep) (k : Around) (s t : State) (o : Outcome) → l < n → slice_get P.given.grammar.nodes q ≡ Some (form.Around k p) →
    slice_get P.plan.code exit ≡ Some (Close keep q) → Answers P.given p s.spot o m →
    onward P l (keep_below keep k) exit (encloses (counted_by k true) s.forest s.spot s.taken ∷ s.stack) [] false o (s.nodes + 1 + m) ≡ Some t →
    Comes P n keep (exit + 1) s t (outcomes_of P.given q s.spot)
part_came P l n m q p exit keep k s t (ok c b v i e) less h close d on =
    let inner : List Tree = added (keep_below keep k) [] v in
    let z : State = state exit b (encloses (counted_by k true) s.forest s.spot s.taken ∷ s.stack) inner (s.nodes + 1 + m) c in
    let u = turned P l z t (Close keep q) close on in
    let counted = u.counted in
    let g : run P u.left (state (exit + 1) (left_by k s.spot b) s.stack (added keep s.forest (made_by k P.given.text s.spot.place b.place inner)) (s.nodes + 1 + m)
    (s.taken || c)) ≡ Some t =
    ap (λ y. on_turn (closed P.given keep z y) (λ w. run P u.left w)) (sym h) ∙ u.on in
    let total : s.nodes + 1 + m ≡ s.nodes + (1 + m) = omega arith in
    let o : Outcome = surrounded k P.given.text s.spot (ok c b v i e) in
    record {
      left = u.left;
      fewer = omega arith;
      outcome = o;
      nodes = 1 + m;
      has = entered_too P.given q (form.Around k p) s.spot o m h (answers.around d);
      on = same_run P u.left (exit + 1) (left_by k s.spot b) s.stack (added keep s.forest (made_by k P.given.text s.spot.place b.place inner))
          (added keep s.forest (made_by k P.given.text s.spot.place b.place v)) (s.nodes + 1 + m) (s.nodes + (1 + m)) (s.taken || c) (s.taken || c) t
          (around_forest keep k P.given.text s.spot.place b.place s.forest v) total refl g;
    }
part_came P l n m q p exit keep k s t (failed c e) less h close d on =
    let total : s.nodes + 1 + m ≡ s.nodes + (1 + m) = omega arith in
    let o : Outcome = surrounded k P.given.text s.spot (failed c e) in
    record {
      left = l;
      fewer = less;
      outcome = o;
      nodes = 1 + m;
      has = entered_too P.given q (form.Around k p) s.spot o m h (answers.around d);
      on = same_count P l keep (exit + 1) s.stack s.forest s.taken o (s.nodes + 1 + m) (s.nodes + (1 + m)) t total
          (same_back P l s.stack (s.nodes + 1 + m) (s.taken || (counted_by k true && c)) (s.taken || counted_by k c) t (ap (λ y. s.taken || y) (around_failure k c)) on);
    }
part_came P l n m q p exit keep k s t empty_round less h close d on = absurd (cc)

pub around_comes : (P : Program) (N : ℕ) → Claim P N → (n q p exit : ℕ) (keep : Keep) (k : Around) (s t : State) → n ≤ N →
    slice_get P.given.grammar.nodes q ≡ Some (form.Around k p) → slice_get P.plan.code s.pc ≡ Some (Open (counted_by k true)) →
    IsNoted P (keep_below keep k) p (s.pc + 1) exit → slice_get P.plan.code exit ≡ Some (Close keep q) → run P n s ≡ Some t →
    Comes P n keep (exit + 1) s t (outcomes_of P.given q s.spot)
around_comes P N claim n q p exit keep k s t below h opens noted close on =
    let u = turned P n s t (Open (counted_by k true)) opens on in
    let counted = u.counted in
    let c = claim u.left (keep_below keep k) p exit (state (s.pc + 1) s.spot (encloses (counted_by k true) s.forest s.spot s.taken ∷ s.stack) [] (s.nodes + 1) false) t
    (omega arith) noted u.on in
    let few = c.fewer in
    part_came P c.left n c.nodes q p exit keep k s t c.outcome (omega arith) h close c.has c.on
