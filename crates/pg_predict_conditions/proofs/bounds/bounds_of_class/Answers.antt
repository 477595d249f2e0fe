use Rattle.std.proofs.Common.{◌-◌, List, ap, length, refl, slice_get, sym, ◌∙◌}
use Rattle.pg_class.specs.Ranges.{Range}
use Rattle.pg_predict_conditions.proofs.Ends.{class_ends, range_of}
use Rattle.pg_predict_conditions.proofs.bounds.bounds_of_class.Goals as goal

pub returns : goal.returns
returns c =
    let first = sym (ap (λ (l : List Range). slice_get l 0) c.ranges-2.ensures.same) ∙ sym c.in_ok-first.ensures.value in
    let last = sym (ap (λ (l : List Range). slice_get l (length l - 1)) c.ranges-3.ensures.same) ∙ sym c.in_ok-last.ensures.value in
    let class = c.ranges-2.ensures.class in
    let one = range_of c.args.class.now 0 c.in_ok-first.first.now class first in
    let end = range_of c.args.class.now (length c.args.class.now - 1) c.in_ok-last.last.now class last in
    record {
      bounds = class_ends c.args.class.now c.in_ok-first.first.now c.in_ok-last.last.now class first last;
      characters = (one.first, end.last);
      further = record { second = refl; third = refl; fourth = refl };
    }
