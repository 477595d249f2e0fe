use Rattle.std.proofs.Common.{◌≡◌, ℕ, List, take, filter, map}
use Rattle.std.specs.Str.{bytes_eq}
use Rattle.pg_expand.specs.Lookups.{with_row, found}
use Rattle.pg_expand.proofs.lookup.Lookup.with_all.Given as goal

abbrev pub invariant-loop-operator : goal.invariant-loop-operator
invariant-loop-operator l = (symbol : List ℕ) → found l.lookup symbol ≡ map (with_row l.operators) (filter (λ o. bytes_eq o.symbol symbol) (take l.operator-index l.operators))
