use Rattle.std.proofs.Common.{◌∙◌, map, sym, ap}
use Rattle.serde_json.specs.Data.{array}
use Rattle.serde_json.specs.View.{view, items_of}
use Rattle.pg_certificate.specs.Certificates.{SaysClaim}
use Rattle.pg_certificate.proofs.Parts.{an_array, list_gives}
use Rattle.pg_certificate.proofs.read.read_claims.Goals as goal

pub returns-in-Some : goal.returns-in-Some
returns-in-Some c = list_gives (SaysClaim c.args.grammar.now) (map view c.as_slice.result.now) (view c.args.value.now) c.read_each_claim.result
    (ap (λ vs. array (items_of (map view vs))) c.as_slice.ensures.value ∙ an_array _ _ (sym c.in-Some.ensures)) c.read_each_claim.ensures
