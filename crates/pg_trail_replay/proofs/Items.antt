-- What the next item of a trail isn't.
use Rattle.std.proofs.Common.{◌≡◌, ◌==◌, ◌-◌, ℕ, zero, suc, false, List, [], ◌∷◌, arith}
use Rattle.pg_grammar_value.specs.declared.trail.TrailItem.{TrailItem}
use Rattle.pg_grammar_value.specs.declared.trail.AppliedOperator.{AppliedOperator}
use Rattle.pg_grammar_value.specs.declared.trail.TrailItem.TheVariants.{Alt, Ops}
use Rattle.pg_trail_replay.specs.Refusals.{CountsNone}

pub positive : (k : ℕ) → (k == 0) ≡ false → k ≡ suc (k - 1)
positive zero e = absurd cc
positive (suc n) e = omega arith

pub no_count_at_end : (items : List TrailItem) → items ≡ [] → CountsNone items
no_count_at_end items e = λ n others f. cc

pub no_count_for_choice : (k : ℕ) (items rest : List TrailItem) → items ≡ Alt k ∷ rest → CountsNone items
no_count_for_choice k items rest e = λ n others f. cc

pub no_count_for_operators : (o : List AppliedOperator) (items rest : List TrailItem) → items ≡ Ops o ∷ rest → CountsNone items
no_count_for_operators o items rest e = λ n others f. cc
