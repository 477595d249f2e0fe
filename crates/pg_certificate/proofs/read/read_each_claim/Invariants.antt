use Rattle.std.proofs.Common.{map, take}
use Rattle.serde_json.specs.View.{view}
use Rattle.pg_certificate.specs.Readings.{GivesEach}
use Rattle.pg_certificate.specs.Certificates.{SaysClaim}
use Rattle.pg_certificate.proofs.read.read_each_claim.Given as goal

abbrev pub invariant-loop-value : goal.invariant-loop-value
invariant-loop-value l = GivesEach (SaysClaim l.grammar) (map view (take l.value-index l.list)) l.certificate
