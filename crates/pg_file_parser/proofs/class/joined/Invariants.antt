use Rattle.std.proofs.Common.{◌≡◌}
use Rattle.pg_file_parser.specs.Given.{classes_of}
use Rattle.pg_file_items.specs.Joined.{joined}
use Rattle.pg_file_parser.proofs.class.joined.Given as goal

abbrev pub invariant-loop-list : goal.invariant-loop-list
invariant-loop-list l = l.parts.items ≡ joined (classes_of l.yielded)
