use Rattle.std.proofs.Common.{◌∙◌, map, true≢false, ap, sym}
use Rattle.serde_json.specs.View.{view}
use Rattle.pg_grammar_value.specs.Grammar.{rule_name}
use Rattle.pg_certificate.specs.Certificates.{claim_rule}
use Rattle.pg_certificate.proofs.Claims.{rules_given, not_rules}
use Rattle.pg_certificate.proofs.read.read_rules.Goals as goal

pub returns-then-are_of_rules : goal.returns-then-are_of_rules
returns-then-are_of_rules c =
    let same = c.are_of_rules.ensures.0 c.if-are_of_rules.true in
    rules_given c.args.grammar.now (view c.args.value.now) c.in_ok-certificate.certificate c.in_ok-certificate.ensures
    (ap (map claim_rule) (sym c.claims.ensures) ∙ (same ∙ ap (map rule_name) c.rules.ensures.all))

pub returns-else-are_of_rules : goal.returns-else-are_of_rules
returns-else-are_of_rules c = not_rules c.args.grammar.now (view c.args.value.now) c.in_ok-certificate.certificate c.in_ok-certificate.ensures
    (λ all. true≢false (sym (c.are_of_rules.ensures.1 (ap (map claim_rule) c.claims.ensures ∙ (all ∙ sym (ap (map rule_name) c.rules.ensures.all)))) ∙ c.if-are_of_rules.false))
