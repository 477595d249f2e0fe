-- Turns that come to an end.
use Rattle.std.specs.Prelude.{◌≡◌, ℕ, zero, suc, List, Bool, true, false, Option, Some, None, slice_get, if◌then◌else◌}
use Rattle.std.specs.Coded.{×_prop, Coded-set, coded_bool}
use Rattle.std.proofs.Common.{refl, ap}
use mathlib.Core.HLevel.{Σ_prop_path}
use Rattle.pg_grammar_value.specs.Grammar.{Grammar}
use Rattle.pg_grammar_value.specs.declared.grammar.Rule as declared
use Rattle.pg_grammar_value.specs.declared.trail.TrailItem.{TrailItem}
use Rattle.pg_table.specs.Tables.{Table}
use Rattle.pg_trail_replay.specs.declared.replay_fault.Mismatch.TheVariants.{ItemDiffers}
use Rattle.pg_trail_replay.specs.Tasks.{Turn, on, stops, ended, next_turn}
use Rattle.pg_trail_replay.specs.Halts.{first_state}

-- whether no turn comes after it
abbrev pub is_last : Turn → Bool
is_last (on s) = false
is_last (stops why place rest) = true
is_last (ended s) = true

-- the turn after it, if one comes
abbrev pub turn_after : Grammar → List ℕ → Turn → Turn
turn_after g text (on s) = next_turn g text s
turn_after g text (stops why place rest) = stops why place rest
turn_after g text (ended s) = ended s

-- the last turn comes after exactly this many
abbrev pub IsLastAfter : Grammar → List ℕ → ℕ → Turn → Type 0
IsLastAfter g text zero x = is_last x ≡ true
IsLastAfter g text (suc k) x = (is_last x ≡ false) × IsLastAfter g text k (turn_after g text x)

-- the last turn comes after some number of turns
abbrev pub ComesToLast : Grammar → List ℕ → Turn → Type 0
ComesToLast g text x = (k : ℕ) × IsLastAfter g text k x

-- the start rule is entered at the start of the text
abbrev pub begun : Grammar → Table → List TrailItem → Option declared.Rule → Turn
begun g table items None = stops ItemDiffers 0 items
begun g table items (Some rule) = on (first_state g rule.body table items)

-- the replay comes to an end
abbrev pub Halts : Grammar → List ℕ → Table → List TrailItem → Type 0
Halts g text table items = ComesToLast g text (begun g table items (slice_get g.rules g.start))

-- how many turns are left, of at most the given number
abbrev pub turns_left : Grammar → List ℕ → ℕ → Turn → ℕ
turns_left g text zero x = zero
turns_left g text (suc most) x = if is_last x then zero else suc (turns_left g text most (turn_after g text x))

-- ---- there is one number of turns

IsLastAfter-prop : (g : Grammar) (text : List ℕ) (k : ℕ) (x : Turn) → IsProp (IsLastAfter g text k x)
IsLastAfter-prop g text zero x = Coded-set coded_bool (is_last x) true
IsLastAfter-prop g text (suc k) x = ×_prop (Coded-set coded_bool (is_last x) false) (IsLastAfter-prop g text k (turn_after g text x))

same_turns : (g : Grammar) (text : List ℕ) (j k : ℕ) (x : Turn) → IsLastAfter g text j x → IsLastAfter g text k x → j ≡ k
same_turns g text zero zero x h e = refl
same_turns g text zero (suc k) x h e = let f = e.0 in absurd cc
same_turns g text (suc j) zero x h e = let f = h.0 in absurd cc
same_turns g text (suc j) (suc k) x h e = ap suc (same_turns g text j k (turn_after g text x) h.1 e.1)

pub Halts-prop : (g : Grammar) (text : List ℕ) (table : Table) (items : List TrailItem) → IsProp (Halts g text table items)
Halts-prop g text table items one other =
    Σ_prop_path (λ k. IsLastAfter-prop g text k (begun g table items (slice_get g.rules g.start)))
    (same_turns g text one.0 other.0 (begun g table items (slice_get g.rules g.start)) one.1 other.1)
