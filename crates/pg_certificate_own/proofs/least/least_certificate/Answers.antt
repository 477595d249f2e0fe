use Rattle.std.proofs.Common.{◌∙◌, sym, ap, subst}
use Rattle.pg_sets_nullable.specs.Ranks.{rank_at}
use Rattle.pg_certificate_own.specs.Least.{AreLeast}
use Rattle.pg_certificate_own.proofs.OneByOne.{least_more}
use Rattle.pg_certificate_own.proofs.least.least_certificate.Goals as goal

pub loop-rule-preserved : goal.loop-rule-preserved
loop-rule-preserved c =
    let g = c.args.grammar.now in
    let sets = c.args.sets.now in
    let r = c.loop-rule.rule in
    let ranked = ap (rank_at sets.ranks) (sym c.new.ensures) ∙ (sym c.rank.ensures ∙ c.in-Some.is) in
    subst (AreLeast g sets c.args.costs.now 0 _) (sym c.in_ok-push-in-Some.ensures.ok)
    (least_more g sets c.args.costs.now c.rules-rules.result.now c.loop-rule.certificate r c.in-Some.rank c.index-rules-rule.result c.in_ok-claim_of-in-Some.field-0
    c.loop-rule-test.true c.index-rules-rule.is c.loop-rule.invariant ranked c.in_ok-claim_of-in-Some.ensures)
