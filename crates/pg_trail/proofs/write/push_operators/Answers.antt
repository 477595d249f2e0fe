use Rattle.std.proofs.Common.{◌<◌, length, arith, rules}
use Rattle.std.proofs.lemmas.Grind.{common_steps}
use Rattle.pg_trail.proofs.Again.{symbols_more, symbols_none, symbols_all}
use Rattle.pg_trail.proofs.write.push_operators.Goals as goal
use Rattle.pg_trail.proofs.write.push_operators.Goals.{in_default, in-len1-up+in_ok-push_operator+else-loop-operator-test}

pub loop-operator-preserved : goal.loop-operator-preserved
loop-operator-preserved c = record {
  text = first_of (search rules, grind (arith, common_steps));
  storable = symbols_more _ c.loop-operator.operator-index c.operator-item.result c.loop-operator-test.true c.operator-item.is c.loop-operator.invariant.storable c.in_ok-push_operator-2.ensures.storable;
}

pub returns-clause-storable : goal.returns-clause-storable
returns-clause-storable c = elim c.if-operators-lt1.branch [
  | in_default w ↦ let few : length c.args.operators.now < 1 = grind arith in symbols_none _ few
  | in-len1-up+in_ok-push_operator+else-loop-operator-test w ↦
      symbols_all c.args.operators.now w.loop-operator.operator-index w.first-item.result w.in-len1-up.len_at_least w.first-item.is w.in_ok-push_operator.ensures.storable
      w.loop-operator-test.false w.loop-operator.invariant.storable
]
