use Rattle.std.proofs.Common.{◌≡◌, ◌<◌, ℕ, length, drop}
use Rattle.pg_graph_bits.specs.Numbers.{set_at}
use Rattle.pg_graph.specs.Spread.{with_number_each}
use Rattle.pg_graph.proofs.handing.insert_each.Given as goal

abbrev pub invariant-loop-set : goal.invariant-loop-set
invariant-loop-set l =
    (with_number_each l.sets (drop l.set-index l.at) l.number ≡ with_number_each l.fn.sets l.at l.number)
    × ((v : ℕ) → v < length l.sets → l.number < length (set_at l.sets v))
