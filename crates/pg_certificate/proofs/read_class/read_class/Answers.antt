use Rattle.std.proofs.Common.{subst}
use Rattle.pg_certificate.specs.Claims.{IsClassAsIs}
use Rattle.pg_certificate.specs.Readings.{Gives}
use Rattle.pg_certificate.proofs.Classes.{class_given}
use Rattle.pg_certificate.proofs.read_class.read_class.Goals as goal

pub returns : goal.returns
returns c = class_given c.in_ok-ranges.ranges.items _ c.class_as_is.result c.in_ok-ranges.ensures
    (subst (λ ranges. Gives IsClassAsIs ranges c.class_as_is.result) c.as_slice.ensures.value c.class_as_is.ensures)
