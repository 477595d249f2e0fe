use Rattle.std.proofs.Common.{◌∙◌, map, sym, ap}
use Rattle.serde_json.specs.Data.{array}
use Rattle.serde_json.specs.View.{view, items_of}
use Rattle.pg_certificate.specs.Claims.{SaysRange}
use Rattle.pg_certificate.specs.Readings.{items_of_ok}
use Rattle.pg_certificate.proofs.Parts.{an_array, list_gives}
use Rattle.pg_certificate.proofs.read_class.read_ranges.Goals as goal

pub returns-in-Some : goal.returns-in-Some
returns-in-Some c = list_gives SaysRange (map view c.as_slice.result.now) (view c.args.value.now) (items_of_ok c.read_each_range.result)
    (ap (λ vs. array (items_of (map view vs))) c.as_slice.ensures.value ∙ an_array _ _ (sym c.in-Some.ensures)) c.read_each_range.ensures
