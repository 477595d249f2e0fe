use Rattle.pg_file_parser.proofs.ParserLemmas.Loop.{list_joined}
use Rattle.pg_file_parser.proofs.class.joined.Goals as goal

pub loop-list-preserved : goal.loop-list-preserved
loop-list-preserved c =
    list_joined c.loop-list.yielded c.in-Some.list c.loop-list.parts.items c.append.new.self.items c.in_ok-append.ensures.items c.loop-list.invariant
