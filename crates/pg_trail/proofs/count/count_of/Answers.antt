use Rattle.std.proofs.Common.{◌≡◌, drop, get_or, true, false, ◌==◌, sym, ap, ◌∙◌, subst, arith, take_all, length-drop}
use Rattle.fast_float.specs.Text.{scan}
use Rattle.serde_json.specs.Data.{unsigned}
use Rattle.serde_json.specs.Read.{number_of, number_from}
use Rattle.pg_trail.specs.Readings.{Finds}
use Rattle.pg_trail.proofs.Counts.{after_minus, no_minus}
use Rattle.pg_trail.proofs.count.count_of.Goals as goal

pub returns-then-has_minus : goal.returns-then-has_minus
returns-then-has_minus c =
    let s = c.as_bytes-bytes.result.now in
    let signed : (get_or s 0 0 == 45) ≡ true = sym c.if-has_minus.ensures.value in
    let parts : c.scan.result ≡ scan (drop 1 s) = c.scan.ensures.parts ∙ ap scan (take_all _ (drop 1 s) (omega (arith, length-drop 1 s))) in
    subst (λ o. Finds unsigned o c.negative.result) (ap (number_from true) parts ∙ sym (after_minus s signed) ∙ ap number_of c.as_bytes-bytes.ensures.value) c.negative.ensures

pub returns-else-has_minus : goal.returns-else-has_minus
returns-else-has_minus c =
    let s = c.as_bytes-bytes.result.now in
    let unsigned_text : (get_or s 0 0 == 45) ≡ false = sym c.if-has_minus.ensures.value in
    subst (λ o. Finds unsigned o c.not_negative.result) (ap (number_from false) c.scan-else-has_minus.ensures.parts ∙ sym (no_minus s unsigned_text) ∙ ap number_of c.as_bytes-bytes.ensures.value) c.not_negative.ensures
