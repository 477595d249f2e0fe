use Rattle.std.proofs.Common.{◌≡◌, ◌+◌, ◌++◌, length}
use Rattle.pg_file_meaning.specs.Bodies.{bases_of}
use Rattle.pg_file_meaning.specs.Spans.{spans_of}
use Rattle.pg_file_making.proofs.handing.without_spans.Given as goal

abbrev pub invariant-loop-placed : goal.invariant-loop-placed
invariant-loop-placed l = record {
  forms : l.forms.items ≡ bases_of l.yielded;
  count : length l.spans.items ≡ length l.fn.spans.items + length l.yielded;
  spans : l.spans.items ≡ l.fn.spans.items ++ spans_of l.yielded;
}
