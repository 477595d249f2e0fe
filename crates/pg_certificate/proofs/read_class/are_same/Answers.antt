use Rattle.std.proofs.lemmas.Slice.Eq.{slice_eq-Decides}
use Rattle.pg_class.proofs.Equal.{Decides-ends}
use Rattle.pg_certificate.proofs.read_class.are_same.Goals as goal

pub returns : goal.returns
returns c = slice_eq-Decides Decides-ends _ _ _ c.eq.ensures
