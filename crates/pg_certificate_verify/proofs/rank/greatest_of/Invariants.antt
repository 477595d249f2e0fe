use Rattle.std.proofs.Common.{◌≡◌, max, drop}
use Rattle.pg_predict_costs.specs.Steps.{number_at}
use Rattle.pg_certificate_verify.specs.Rank.{greatest_of}
use Rattle.pg_certificate_verify.proofs.rank.greatest_of.Given as goal

abbrev pub invariant-loop-part : goal.invariant-loop-part
invariant-loop-part l = max l.greatest (greatest_of (number_at l.numbers) (drop l.part-index l.parts)) ≡ greatest_of (number_at l.numbers) l.parts
