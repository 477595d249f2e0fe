use Rattle.std.proofs.Common.{◌≡◌, ◌<◌, ◌≤◌, ◌+◌, ◌∙◌, ℕ, length, subst, ap, sym, arith}
use Rattle.pg_predict.proofs.Rest.{of_end, of_left, of_found}
use Rattle.pg_predict.proofs.way.go_on.Goals as goal

pub returns-in-Some-clause-finds : goal.returns-in-Some-clause-finds
returns-in-Some-clause-finds c =
    let source = c.args.source.now in
    c.loop-number.invariant
    ∙ of_found source.grammar source.judge c.loop-number.number c.new-node.result c.node-form.result.now c.loop-number.way.asking c.find_next.new.asking c.in-Some.kind
    c.new-node.ensures c.node-form.ensures.node c.in-Some.ensures

pub loop-number-preserved : goal.loop-number-preserved
loop-number-preserved c =
    let source = c.args.source.now in
    c.loop-number.invariant
    ∙ of_left source.grammar source.judge c.requires.facts.worked_out.suspects c.loop-number.number c.new-node.result c.node-form.result.now c.loop-number.way.asking c.first-way.result
    c.new-node.ensures c.node-form.ensures.node c.in_default.ensures c.first-way.ensures

pub returns-clause-finds : goal.returns-clause-finds
returns-clause-finds c =
    let source = c.args.source.now in
    let most = c.loop-number-test.false in
    let all = ap length c.nodes-count.ensures.all in
    c.loop-number.invariant ∙ of_end source.grammar source.judge c.loop-number.number c.loop-number.way.asking (omega arith)

pub returns-clause-ends : goal.returns-clause-ends
returns-clause-ends c =
    let source = c.args.source.now in
    let all = ap length c.nodes-count.ensures.all in
    of_end source.grammar source.judge (length c.nodes-count.result.now) c.loop-number.way.asking (omega arith)
