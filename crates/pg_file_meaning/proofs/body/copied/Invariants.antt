use Rattle.std.proofs.Common.{◌≡◌, take}
use Rattle.pg_file_meaning.specs.Bodies.{bases_of}
use Rattle.pg_file_meaning.specs.Spans.{spans_of}
use Rattle.pg_file_meaning.proofs.body.copied.Given as goal

abbrev pub invariant-loop-placed : goal.invariant-loop-placed
invariant-loop-placed l = record {
  forms : bases_of l.copies.items ≡ bases_of (take l.placed-index l.body);
  spans : spans_of l.copies.items ≡ spans_of (take l.placed-index l.body);
}
