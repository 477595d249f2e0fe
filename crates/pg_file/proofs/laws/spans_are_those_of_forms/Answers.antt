use Rattle.pg_file.proofs.ReadLemmas.NodeSpans.{spans_of_forms}
use Rattle.pg_file.proofs.laws.spans_are_those_of_forms.Goals as goal

pub returns : goal.returns
returns c characters spans are = spans_of_forms characters spans are
