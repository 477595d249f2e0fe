use Rattle.std.proofs.Common.{take}
use Rattle.pg_certificate_own.specs.Least.{AreLeast}
use Rattle.pg_certificate_own.proofs.least.least_certificate.Given as goal

abbrev pub invariant-loop-rule : goal.invariant-loop-rule
invariant-loop-rule l = AreLeast l.grammar l.sets l.costs 0 (take l.rule l.rules) l.certificate
