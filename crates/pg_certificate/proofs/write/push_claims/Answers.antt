use Rattle.std.proofs.Common.{◌<◌, length, arith, rules}
use Rattle.std.proofs.lemmas.Grind.{common_steps}
use Rattle.pg_certificate.specs.Fitting.{IsStorableClaim}
use Rattle.pg_certificate.proofs.Lists.{all_more, all_none, all_whole}
use Rattle.pg_certificate.proofs.write.push_claims.Goals as goal
use Rattle.pg_certificate.proofs.write.push_claims.Goals.{in_default, in-len1-up+in_ok-push_claim+else-loop-claim-test}

pub loop-claim-preserved : goal.loop-claim-preserved
loop-claim-preserved c = record {
  text = first_of (search rules, grind (arith, common_steps));
  storable = all_more (IsStorableClaim c.args.grammar.now) _ c.loop-claim.claim-index c.claim-item.result c.loop-claim-test.true c.claim-item.is c.loop-claim.invariant.storable c.in_ok-push_claim-2.ensures.storable;
}

pub returns-clause-storable : goal.returns-clause-storable
returns-clause-storable c = elim c.if-claims-lt1.branch [
  | in_default w ↦ let few : length c.args.claims.now < 1 = grind arith in all_none (IsStorableClaim c.args.grammar.now) _ few
  | in-len1-up+in_ok-push_claim+else-loop-claim-test w ↦
      all_whole (IsStorableClaim c.args.grammar.now) c.args.claims.now w.loop-claim.claim-index w.first-item.result w.in-len1-up.len_at_least w.first-item.is w.in_ok-push_claim.ensures.storable
      w.loop-claim-test.false w.loop-claim.invariant.storable
]
