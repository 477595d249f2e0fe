use Rattle.std.proofs.Common.{◌∙◌, sym}
use Rattle.serde_json.specs.View.{view}
use Rattle.pg_certificate.proofs.Claims.{claim_given}
use Rattle.pg_certificate.proofs.read.read_claim.Goals as goal

pub returns : goal.returns
returns c = claim_given c.args.grammar.now (view c.args.value.now) _ (sym c.key_count.ensures ∙ c.if-key_count-ne6.false) c.in_ok-first.ensures c.in_ok-follow.ensures
    c.in_ok-cost.ensures c.in_ok-nullable.ensures c.in_ok-rank.ensures c.in_ok-rule.ensures
