use Rattle.std.proofs.Common.{◌≡◌, ◌≤◌, ◌-◌, drop, length}
use Rattle.pg_tree_placed.specs.Made.{made, IsWhole}
use Rattle.pg_tree_placed.proofs.store.Store.cut.Given as goal

abbrev pub invariant-loop-self : goal.invariant-loop-self
invariant-loop-self l = record {
  whole : IsWhole l.self;
  within : l.count ≤ l.self.roots;
  same : drop (length (made l.self) - l.count) (made l.self) ≡ drop (length (made l.initial.self) - l.count) (made l.initial.self);
}

abbrev pub decreases-loop-self : goal.decreases-loop-self
decreases-loop-self l = length l.self.entries.items
