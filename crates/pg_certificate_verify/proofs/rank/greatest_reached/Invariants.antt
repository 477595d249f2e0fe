use Rattle.std.proofs.Common.{◌≡◌, max, drop}
use Rattle.pg_predict_costs.specs.Steps.{number_at}
use Rattle.pg_sets_nullable.specs.Parts.{up_to_unmarked}
use Rattle.pg_certificate_verify.specs.Rank.{greatest_of}
use Rattle.pg_certificate_verify.proofs.rank.greatest_reached.Given as goal

abbrev pub invariant-loop-part : goal.invariant-loop-part
invariant-loop-part l =
    max l.greatest (greatest_of (number_at l.numbers) (up_to_unmarked l.nullable (drop l.part-index l.parts))) ≡ greatest_of (number_at l.numbers) (up_to_unmarked l.nullable l.parts)
