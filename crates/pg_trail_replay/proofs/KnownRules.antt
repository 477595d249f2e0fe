-- What is known of rules, as the code has it.
use Rattle.std.proofs.Common.{◌≡◌, ℕ, zero, suc, List, [], ◌∷◌, refl, ap}
use Rattle.std.specs.Prelude.{Option, Some, None, slice_get, map, set, replicate, option_map}
use Rattle.pg_grammar_value.specs.Grammar.{Grammar, rule_body}
use Rattle.pg_grammar_value.specs.declared.grammar.Rule as rule
use Rattle.pg_grammar_value.specs.declared.trail.TrailItem.{TrailItem}
use Rattle.pg_table.specs.Tables.{Table}
use Rattle.pg_trail_replay.specs.declared.replayer.Known as declared
use Rattle.pg_trail_replay.specs.Halts.{first_state}
use Rattle.pg_trail_replay.specs.Tasks.{on}
use Rattle.pg_trail_replay.specs.Turns.{begun}
use Rattle.pg_trail_replay.specs.View.{if_known, known_of}

pub none_kept : (count : ℕ) → map if_known (replicate count None) ≡ replicate count None
none_kept zero = refl
none_kept (suc count) = ap (λ xs. None ∷ xs) (none_kept count)

pub kept : (xs : List (Option declared.Known)) (r : ℕ) (known : declared.Known) → map if_known (set xs r (Some known)) ≡ set (map if_known xs) r (Some (known_of known))
kept [] r known = refl
kept (x ∷ xs) zero known = refl
kept (x ∷ xs) (suc r) known = ap (λ ys. if_known x ∷ ys) (kept xs r known)

pub looked_up : (xs : List (Option declared.Known)) (r : ℕ) (x : Option declared.Known) → slice_get xs r ≡ Some x → slice_get (map if_known xs) r ≡ Some (if_known x)
looked_up [] r x e = absurd cc
looked_up (y ∷ xs) zero x e = let same : y ≡ x = cc in ap (λ z. Some (if_known z)) same
looked_up (y ∷ xs) (suc r) x e = looked_up xs r x e

pub not_there : (xs : List (Option declared.Known)) (r : ℕ) → slice_get xs r ≡ None → slice_get (map if_known xs) r ≡ None
not_there [] r e = refl
not_there (y ∷ xs) zero e = absurd cc
not_there (y ∷ xs) (suc r) e = not_there xs r e

-- the start rule's body is the first task
pub begun_by : (g : Grammar) (table : Table) (items : List TrailItem) (found : Option rule.Rule) (body : ℕ) → option_map rule_body found ≡ Some body → begun g table items found ≡ on (first_state g body table items)
begun_by g table items None body e = absurd cc
begun_by g table items (Some start) body e = let same : start.body ≡ body = cc in ap (λ b. on (first_state g b table items)) same
