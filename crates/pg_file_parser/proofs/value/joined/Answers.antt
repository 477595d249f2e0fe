use Rattle.pg_file_parser.proofs.ParserLemmas.Loop.{body_joined, placed_joined}
use Rattle.pg_file_parser.proofs.value.joined.Goals as goal

pub loop-body-preserved : goal.loop-body-preserved
loop-body-preserved c = record {
  forms = body_joined c.loop-body.yielded c.in-Some.body c.loop-body.parts.items c.append.new.self.items c.in_ok-append.ensures.items c.loop-body.invariant.forms;
  placed = placed_joined c.loop-body.yielded c.in-Some.body c.loop-body.parts.items c.append.new.self.items c.in_ok-append.ensures.items c.loop-body.invariant.placed;
}
