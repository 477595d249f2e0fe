use Rattle.std.proofs.Common.{◌<◌, ◌∙◌, length, true≢false, ap, sym, arith}
use Rattle.pg_grammar_value.specs.Grammar.{rule_name}
use Rattle.pg_certificate.specs.Certificates.{claim_rule}
use Rattle.pg_certificate.proofs.Rules.{same_name}
use Rattle.pg_certificate.proofs.read.are_of_rules.Goals as goal

pub returns-then-not-are_same : goal.returns-then-not-are_same
returns-then-not-are_same c = (
  λ no_such. elim (true≢false (sym no_such)) [ ],
  λ same.
      let within = c.loop-place-test.true in
      let inside : c.loop-place.place < length c.args.rules.now = omega (arith, within, c.if-claims-rules.false) in
      let name = same_name c.args.claims.now c.args.rules.now c.loop-place.place _ _ within inside c.index-claims-place.is c.index-rules-place.is same in
      let one = c.as_slice.ensures ∙ ap claim_rule (sym c.index-claims-place.is) in
      let other = c.as_slice-in-loop-place.ensures ∙ ap rule_name (sym c.index-rules-place.is) in
      sym c.if-not-are_same.true ∙ c.are_same.ensures.1 (one ∙ (name ∙ sym other)),
)
