use Rattle.std.proofs.Common.{◌≡◌, map, take}
use Rattle.pg_grammar_value.specs.Grammar.{rule_name}
use Rattle.pg_certificate.specs.Certificates.{claim_rule}
use Rattle.pg_certificate.proofs.read.are_of_rules.Given as goal

abbrev pub invariant-loop-place : goal.invariant-loop-place
invariant-loop-place l = map claim_rule (take l.place l.claims) ≡ map rule_name (take l.place l.rules)
