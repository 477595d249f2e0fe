use Rattle.std.proofs.Common.{◌+◌, ◌*◌, length, ap, ◌∙◌}
use Rattle.pg_graph_bits.specs.Numbers.{set_at}
use Rattle.pg_certificate_verify.specs.Lists.{lists_of}
use Rattle.pg_certificate_verify.proofs.Closing.{closed_follow}
use Rattle.pg_certificate_verify.proofs.verdict.is_follow_closed.Goals as goal

pub returns : goal.returns
returns c =
    let rules = length c.rules-rules.result.now in
    let is = closed_follow c.args.grammar.now c.args.claims.now c.args.nullable.now (lists_of c.args.sets.now) c.args.number c.requires.sets c.requires.number
    c.as_slice-3.result.now c.set_at-claimed.result.now c.set_at-behind.result.now rules (ap length c.rules-rules.ensures.all) c.as_slice-3.ensures.value
    (c.set_at-claimed.ensures ∙ ap (λ xs. set_at xs (1 + 1 * rules + c.args.number)) c.as_slice.ensures.value)
    (c.set_at-behind.ensures ∙ ap (λ xs. set_at xs (1 + 2 * rules + c.args.number)) c.as_slice-2.ensures.value) in
    (λ t. is.0 (c.is_set_covered.ensures.0 t), λ h. c.is_set_covered.ensures.1 (is.1 h))
