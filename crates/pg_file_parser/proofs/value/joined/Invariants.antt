use Rattle.std.proofs.Common.{◌≡◌}
use Rattle.pg_file_items.specs.Entries.{forms_of}
use Rattle.pg_file_parser.specs.Given.{bodies_of}
use Rattle.pg_file_parser.specs.Places.{placed_of}
use Rattle.pg_file_items.specs.Joined.{joined}
use Rattle.pg_file_parser.proofs.value.joined.Given as goal

abbrev pub invariant-loop-body : goal.invariant-loop-body
invariant-loop-body l = record {
  forms : forms_of l.parts.items ≡ joined (bodies_of l.yielded);
  placed : l.parts.items ≡ joined (placed_of l.yielded);
}
