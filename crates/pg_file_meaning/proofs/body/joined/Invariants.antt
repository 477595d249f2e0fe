use Rattle.std.proofs.Common.{◌≡◌}
use Rattle.pg_file_meaning.specs.Bodies.{bases_of, all_bases_of}
use Rattle.pg_file_meaning.specs.Spans.{spans_of, all_spans_of}
use Rattle.pg_file_items.specs.Joined.{joined}
use Rattle.pg_file_meaning.proofs.body.joined.Given as goal

abbrev pub invariant-loop-body : goal.invariant-loop-body
invariant-loop-body l = record {
  forms : bases_of l.all.items ≡ joined (all_bases_of l.yielded);
  spans : spans_of l.all.items ≡ joined (all_spans_of l.yielded);
}
