use Rattle.std.proofs.Common.{◌≡◌, true, sym, ap, ◌∙◌}
use Rattle.std.specs.Float.{binary64, float_is_finite}
use Rattle.fast_float.specs.Text.{nearest}
use Rattle.pg_trail.proofs.Counts.{float_is_no_count}
use Rattle.pg_trail.proofs.count.float.Goals as goal

pub returns-then-is_finite : goal.returns-then-is_finite
returns-then-is_finite c =
    let finite : float_is_finite (nearest binary64 c.args.negative c.args.numeral.now) ≡ true = ap float_is_finite (sym c.to_float.ensures) ∙ sym c.if-is_finite.ensures.value in
    float_is_no_count c.args.negative c.args.numeral.now finite
