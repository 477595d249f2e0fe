use Rattle.std.proofs.Common.{◌∙◌, map, sym, ap}
use Rattle.serde_json.specs.Data.{array}
use Rattle.serde_json.specs.View.{view, items_of}
use Rattle.pg_certificate.specs.Claims.{SaysStart}
use Rattle.pg_certificate.proofs.Parts.{an_array, list_gives}
use Rattle.pg_certificate.proofs.read_start.read_starts.Goals as goal

pub returns-in-Some : goal.returns-in-Some
returns-in-Some c = list_gives (SaysStart c.args.grammar.now) (map view c.as_slice.result.now) (view c.args.value.now) c.read_each_start.result
    (ap (λ vs. array (items_of (map view vs))) c.as_slice.ensures.value ∙ an_array _ _ (sym c.in-Some.ensures)) c.read_each_start.ensures
