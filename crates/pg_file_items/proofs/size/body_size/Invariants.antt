use Rattle.std.proofs.Common.{◌≡◌, ◌≤◌, length, take, drop, map}
use Rattle.pg_file_items.specs.Entries.{forms_of}
use Rattle.pg_file_items.specs.Sizes.{counted, sizes}
use Rattle.pg_file_items.proofs.size.body_size.Given as goal

abbrev pub invariant-loop-form : goal.invariant-loop-form
invariant-loop-form l = record {
  within : length l.rest ≤ length l.forms;
  front : l.rest ≡ take (length l.rest) l.forms;
  sizes : l.waiting.items ≡ map counted (sizes (forms_of (drop (length l.rest) l.forms)));
}

abbrev pub decreases-loop-form : goal.decreases-loop-form
decreases-loop-form l = length l.rest
