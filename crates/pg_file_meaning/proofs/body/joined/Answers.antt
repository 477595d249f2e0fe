use Rattle.pg_file_meaning.proofs.MeaningLemmas.Placed.{bases_joined, spans_joined}
use Rattle.pg_file_meaning.proofs.body.joined.Goals as goal

pub loop-body-preserved : goal.loop-body-preserved
loop-body-preserved c = record {
  forms = bases_joined c.loop-body.yielded c.in-Some.body c.loop-body.all.items c.append.new.self.items c.in_ok-append.ensures.items c.loop-body.invariant.forms;
  spans = spans_joined c.loop-body.yielded c.in-Some.body c.loop-body.all.items c.append.new.self.items c.in_ok-append.ensures.items c.loop-body.invariant.spans;
}
