-- How many turns are left falls with each of them.
use Rattle.std.proofs.Common.{◌≡◌, ◌<◌, ◌≤◌, ℕ, zero, suc, List, refl, sym, ap, ◌∙◌, subst, arith, if◌then◌else◌}
use Rattle.std.specs.Prelude.{Some, slice_get, option_map}
use Rattle.pg_grammar_value.specs.Grammar.{Grammar, rule_body}
use Rattle.pg_grammar_value.specs.declared.trail.TrailItem.{TrailItem}
use Rattle.pg_table.specs.Tables.{Table}
use Rattle.pg_trail_replay.specs.Halts.{first_state}
use Rattle.pg_trail_replay.specs.Tasks.{State, Turn, on, next_turn}
use Rattle.pg_trail_replay.specs.Turns.{turn_after, IsLastAfter, begun, Halts, turns_left}
use Rattle.pg_trail_replay.proofs.WholeTrails.{some_rule}

-- the last turn comes within this number
pub record IsHalting (g : Grammar) (text : List ℕ) (most : ℕ) (s : State) : Type 0 where
  pub left : ℕ
  pub within : left ≤ most
  pub last : IsLastAfter g text left (on s)

pub halting_begins : (g : Grammar) (text : List ℕ) (table : Table) (items : List TrailItem) (h : Halts g text table items) (body : ℕ) (s : State) →
    option_map rule_body (slice_get g.rules g.start) ≡ Some body → s ≡ first_state g body table items → IsHalting g text h.0 s
halting_begins g text table items h body s there is =
    let rule = some_rule (slice_get g.rules g.start) body there in
    let same : on s ≡ begun g table items (slice_get g.rules g.start) =
    ap on is ∙ ap (λ b. on (first_state g b table items)) (sym rule.1.1) ∙ ap (begun g table items) (sym rule.1.0) in
    record {
      left = h.0;
      within = omega arith;
      last = subst (IsLastAfter g text h.0) (sym same) h.1;
    }

-- one turn less is left
one_less : (g : Grammar) (text : List ℕ) (left : ℕ) (s : State) → IsLastAfter g text left (on s) → (k : ℕ) × (left ≡ suc k) × IsLastAfter g text k (next_turn g text s)
one_less g text zero s h = absurd cc
one_less g text (suc k) s h = (k, refl, h.1)

pub halting_turn : (g : Grammar) (text : List ℕ) (most : ℕ) (s after : State) → on after ≡ next_turn g text s → IsHalting g text most s → IsHalting g text most after
halting_turn g text most s after e h =
    let less = one_less g text h.left s h.last in
    let one = less.1 in
    let within = h.within in
    record {
      left = less.0;
      within = omega arith;
      last = subst (IsLastAfter g text less.0) (sym e) less.2;
    }

left_is : (g : Grammar) (text : List ℕ) (most k : ℕ) (x : Turn) → k ≤ most → IsLastAfter g text k x → turns_left g text most x ≡ k
left_is g text zero zero x l h = refl
left_is g text zero (suc k) x l h = absurd (omega arith)
left_is g text (suc most) zero x l h = ap (λ b. if b then zero else suc (turns_left g text most (turn_after g text x))) h
left_is g text (suc most) (suc k) x l h =
    ap (λ b. if b then zero else suc (turns_left g text most (turn_after g text x))) h.0 ∙ ap suc (left_is g text most k (turn_after g text x) (omega arith) h.1)

pub halting_falls : (g : Grammar) (text : List ℕ) (most : ℕ) (s after : State) → on after ≡ next_turn g text s → IsHalting g text most s →
    turns_left g text most (on after) < turns_left g text most (on s)
halting_falls g text most s after e h =
    let less = one_less g text h.left s h.last in
    let one = less.1 in
    let within = h.within in
    let now = left_is g text most h.left (on s) h.within h.last in
    let next = left_is g text most less.0 (on after) (omega arith) (subst (IsLastAfter g text less.0) (sym e) less.2) in
    omega arith
