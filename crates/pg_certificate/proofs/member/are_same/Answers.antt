use Rattle.std.proofs.lemmas.Slice.Eq.{bytes_eq-Decides}
use Rattle.pg_certificate.proofs.member.are_same.Goals as goal

pub returns : goal.returns
returns c = rw c.eq.ensures (bytes_eq-Decides c.args.text.now c.args.other.now)
