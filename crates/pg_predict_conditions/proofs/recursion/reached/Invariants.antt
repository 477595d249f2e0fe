use Rattle.std.proofs.Common.{◌+◌, ◌-◌, not, length, count_by}
use Rattle.pg_graph.proofs.Walking.{HasWalked}
use Rattle.pg_predict_conditions.proofs.recursion.reached.Given as goal

abbrev pub invariant-loop-next : goal.invariant-loop-next
invariant-loop-next l = HasWalked l.sets.heads l.roots (record { marks = l.marks.items; met = l.met.items }) l.next

abbrev pub decreases-loop-next : goal.decreases-loop-next
decreases-loop-next l = count_by not l.marks.items + length l.met.items - l.next
