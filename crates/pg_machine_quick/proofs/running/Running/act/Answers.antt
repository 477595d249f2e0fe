use Rattle.std.proofs.Common.{◌==◌, subst}
use Rattle.pg_machine_quick.specs.Running.{shown, Does}
use Rattle.pg_machine_quick.specs.Tape.{tape_stopped}
use Rattle.pg_machine_quick.proofs.Acts.{acts, steps, by_any, by_each}
use Rattle.pg_machine_quick.proofs.running.Running.act.Goals as goal

pub returns-in-Enter : goal.returns-in-Enter
returns-in-Enter c = steps c.args.context (shown c.args.self.now) (shown c.enter.new.self) c.args.instruction.now _ c.enter.result c.requires.here c.in-Enter.is (λ table. c.enter.ensures)

pub returns-in-Read : goal.returns-in-Read
returns-in-Read c = acts c.args.context (shown c.args.self.now) (shown c.read.new.self) c.args.instruction.now _ c.read.result c.requires.here c.in-Read.is (by_each c.args.context c.read.result _ c.read.ensures)

pub returns-in-Span : goal.returns-in-Span
returns-in-Span c = acts c.args.context (shown c.args.self.now) (shown c.span_node.new.self) c.args.instruction.now _ c.span_node.result c.requires.here c.in-Span.is (by_any c.args.context c.span_node.result _ c.span_node.ensures)

pub returns-in-Jump : goal.returns-in-Jump
returns-in-Jump c = steps c.args.context (shown c.args.self.now) (shown c.jump.new.self) c.args.instruction.now _ c.jump.result c.requires.here c.in-Jump.is (λ table. c.jump.ensures)

pub returns-in-Call : goal.returns-in-Call
returns-in-Call c = acts c.args.context (shown c.args.self.now) (shown c.call.new.self) c.args.instruction.now _ c.call.result c.requires.here c.in-Call.is (by_any c.args.context c.call.result _ c.call.ensures)

pub returns-in-Return : goal.returns-in-Return
returns-in-Return c = steps c.args.context (shown c.args.self.now) (shown c.come_back.new.self) c.args.instruction.now _ c.come_back.result c.requires.here c.in-Return.is (λ table. c.come_back.ensures)

pub returns-in-Close : goal.returns-in-Close
returns-in-Close c = acts c.args.context (shown c.args.self.now) (shown c.close_node.new.self) c.args.instruction.now _ c.close_node.result c.requires.here c.in-Close.is (by_any c.args.context c.close_node.result _ c.close_node.ensures)

pub returns-in-Hold : goal.returns-in-Hold
returns-in-Hold c = acts c.args.context (shown c.args.self.now) (shown c.hold.new.self) c.args.instruction.now _ c.hold.result c.requires.here c.in-Hold.is (by_any c.args.context c.hold.result _ c.hold.ensures)

pub returns-in-Link : goal.returns-in-Link
returns-in-Link c = acts c.args.context (shown c.args.self.now) (shown c.link.new.self) c.args.instruction.now _ c.link.result c.requires.here c.in-Link.is (by_any c.args.context c.link.result _ c.link.ensures)

pub returns-in-FoldLinks : goal.returns-in-FoldLinks
returns-in-FoldLinks c = acts c.args.context (shown c.args.self.now) (shown c.fold_links.new.self) c.args.instruction.now _ c.fold_links.result c.requires.here c.in-FoldLinks.is (by_any c.args.context c.fold_links.result _ c.fold_links.ensures)

pub returns-in-Release : goal.returns-in-Release
returns-in-Release c = steps c.args.context (shown c.args.self.now) (shown c.release.new.self) c.args.instruction.now _ c.release.result c.requires.here c.in-Release.is (λ table. c.release.ensures)

pub returns-in-Rows : goal.returns-in-Rows
returns-in-Rows c = acts c.args.context (shown c.args.self.now) (shown c.begin_rows.new.self) c.args.instruction.now _ c.begin_rows.result c.requires.here c.in-Rows.is c.begin_rows.ensures

pub returns-in-Mark : goal.returns-in-Mark
returns-in-Mark c = acts c.args.context (shown c.args.self.now) (shown c.mark.new.self) c.args.instruction.now _ c.mark.result c.requires.here c.in-Mark.is (by_any c.args.context c.mark.result _ c.mark.ensures)

pub returns-in-Commit : goal.returns-in-Commit
returns-in-Commit c = steps c.args.context (shown c.args.self.now) (shown c.commit.new.self) c.args.instruction.now _ c.commit.result c.requires.here c.in-Commit.is (λ table. c.commit.ensures)

pub returns-in-Again : goal.returns-in-Again
returns-in-Again c = steps c.args.context (shown c.args.self.now) (shown c.again.new.self) c.args.instruction.now _ c.again.result c.requires.here c.in-Again.is (λ table. c.again.ensures)

pub returns-in-Fail : goal.returns-in-Fail
returns-in-Fail c = steps c.args.context (shown c.args.self.now) (shown c.back.new.self) c.args.instruction.now _ c.back.result c.requires.here c.in-Fail.is (λ table. c.back.ensures)

pub returns-in-Stop : goal.returns-in-Stop
returns-in-Stop c =
    let s = shown c.args.self.now in
    let z = shown c.stop.new.self in
    steps c.args.context s z c.args.instruction.now _ c.stop.result c.requires.here c.in-Stop.is
    (λ table. subst (λ n. Does (tape_stopped s (s.place == n) s.stack) c.stop.result z) c.len.ensures.count c.stop.ensures)
