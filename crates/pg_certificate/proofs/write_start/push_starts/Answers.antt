use Rattle.std.proofs.Common.{◌<◌, length, arith, rules}
use Rattle.std.proofs.lemmas.Grind.{common_steps}
use Rattle.pg_certificate.specs.Fitting.{IsStorableStart}
use Rattle.pg_certificate.proofs.Lists.{all_more, all_none, all_whole}
use Rattle.pg_certificate.proofs.write_start.push_starts.Goals as goal
use Rattle.pg_certificate.proofs.write_start.push_starts.Goals.{in_default, in-len1-up+in_ok-push_start+else-loop-start-test}

pub loop-start-preserved : goal.loop-start-preserved
loop-start-preserved c = record {
  text = first_of (search rules, grind (arith, common_steps));
  storable = all_more (IsStorableStart c.args.grammar.now) _ c.loop-start.start-index c.start-item.result c.loop-start-test.true c.start-item.is c.loop-start.invariant.storable c.in_ok-push_start-2.ensures.storable;
}

pub returns-clause-storable : goal.returns-clause-storable
returns-clause-storable c = elim c.if-starts-lt1.branch [
  | in_default w ↦ let few : length c.args.starts.now < 1 = grind arith in all_none (IsStorableStart c.args.grammar.now) _ few
  | in-len1-up+in_ok-push_start+else-loop-start-test w ↦
      all_whole (IsStorableStart c.args.grammar.now) c.args.starts.now w.loop-start.start-index w.first-item.result w.in-len1-up.len_at_least w.first-item.is w.in_ok-push_start.ensures.storable
      w.loop-start-test.false w.loop-start.invariant.storable
]
