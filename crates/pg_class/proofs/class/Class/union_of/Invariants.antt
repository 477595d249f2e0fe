use Rattle.std.proofs.Common.{◌≡◌, ℕ, length}
use Rattle.std.specs.Char.{IsScalar}
use Rattle.std.specs.List.{list_any}
use Rattle.pg_class.specs.Ranges.{has}
use Rattle.pg_class.proofs.class.Class.union_of.Given as goal

abbrev pub invariant-loop-class : goal.invariant-loop-class
invariant-loop-class l = (c : ℕ) → IsScalar c →
    list_any (λ one. has one c) l.waiting.items ≡ list_any (λ one. has one c) l.fn.classes.items

abbrev pub decreases-loop-class : goal.decreases-loop-class
decreases-loop-class l = length l.waiting.items
