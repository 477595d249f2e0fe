use Rattle.std.proofs.Common.{◌≡◌, ◌∙◌, length, ap, arith}
use Rattle.pg_certificate.proofs.Parts.{two_long}
use Rattle.pg_certificate.proofs.read_class.both_values.Goals as goal
use Rattle.pg_certificate.proofs.read_class.both_values.Goals.{in_default-via-then-as_slice-lt2, in_default-via-else-as_slice-lt2+else-this-lt3}

pub returns-in_default : goal.returns-in_default
returns-in_default c = λ first last is.
    let two : length c.as_slice.result.now ≡ 2 =
    ap (λ vs. length vs) c.as_slice.ensures.value ∙ two_long _ _ first last c.in_ok-as_array.ensures is in
    elim c.in_default.branch [ in_default-via-then-as_slice-lt2 w ↦ grind arith | in_default-via-else-as_slice-lt2+else-this-lt3 w ↦ grind arith ]
