use Rattle.std.proofs.Common.{map, take}
use Rattle.serde_json.specs.View.{view}
use Rattle.pg_certificate.specs.Readings.{GivesEach}
use Rattle.pg_certificate.specs.Claims.{SaysStart}
use Rattle.pg_certificate.proofs.read_start.read_each_start.Given as goal

abbrev pub invariant-loop-value : goal.invariant-loop-value
invariant-loop-value l = GivesEach (SaysStart l.grammar) (map view (take l.value-index l.list)) l.starts
