use Rattle.std.proofs.Common.{◌≤◌, ℕ, List}
use Rattle.pg_tree_placed.specs.Noted.{inside_text}
use Rattle.pg_tree_placed.specs.Written.{within, IsWritten}
use Rattle.pg_tree_placed.specs.declared.note.Note.{Note}
use Rattle.pg_tree_placed.specs.declared.pending.Around.{Around}
use Rattle.pg_tree_placed.proofs.noting.first_joined.Given as goal

abbrev pub invariant-loop-left : goal.invariant-loop-left
invariant-loop-left l = record {
  fewer : l.first ≤ l.last;
  so : (text : List ℕ) (labels : List (List ℕ)) (cs : List Around) (ns : List Note)
      → IsWritten text labels l.entries l.last (within l.kids) cs (inside_text text labels l.entries l.last l.last ns)
      → IsWritten text labels l.entries l.first (within l.left) cs (inside_text text labels l.entries l.first l.last ns);
}

abbrev pub decreases-loop-left : goal.decreases-loop-left
decreases-loop-left l = l.first
