use Rattle.std.proofs.Common.{map, take}
use Rattle.serde_json.specs.View.{view}
use Rattle.pg_certificate.specs.Readings.{GivesEach}
use Rattle.pg_certificate.specs.Claims.{SaysRange}
use Rattle.pg_certificate.proofs.read_class.read_each_range.Given as goal

abbrev pub invariant-loop-value : goal.invariant-loop-value
invariant-loop-value l = GivesEach SaysRange (map view (take l.value-index l.list)) l.ranges.items
