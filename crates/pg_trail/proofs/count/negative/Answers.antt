use Rattle.std.proofs.Common.{◌≡◌, true, Some, arith}
use Rattle.std.proofs.lemmas.Grind.{common_steps}
use Rattle.serde_json.specs.Data.{negative}
use Rattle.serde_json.specs.Read.{number_from}
use Rattle.pg_trail.proofs.Counts.{is_no_count}
use Rattle.pg_trail.proofs.count.negative.Goals as goal

pub returns-in-Some : goal.returns-in-Some
returns-in-Some c =
    let is : number_from true c.args.numeral.now ≡ Some (negative c.in-Some.number) = grind (arith, common_steps) in
    is_no_count _ c.in-Some.number is
