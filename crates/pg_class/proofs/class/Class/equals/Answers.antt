use Rattle.std.proofs.lemmas.Slice.Eq.{slice_eq-Decides}
use Rattle.pg_class.proofs.Equal.{Decides-ends}
use Rattle.pg_class.proofs.class.Class.equals.Goals as goal

pub returns : goal.returns
returns c =
    let told = slice_eq-Decides Decides-ends _ _ _ c.eq.ensures in
    rw (← c.ranges-2.ensures.same, ← c.ranges-3.ensures.same) told
