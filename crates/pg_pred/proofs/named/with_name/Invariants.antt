use Rattle.std.proofs.Common.{◌≡◌, drop, find}
use Rattle.std.specs.Str.{bytes_eq}
use Rattle.pg_pred.proofs.named.with_name.Given as goal

abbrev pub invariant-loop-one : goal.invariant-loop-one
invariant-loop-one g l =
    find (λ one. bytes_eq (g.T.Named.name_of one) l.name) (drop l.one-index l.all) ≡ find (λ one. bytes_eq (g.T.Named.name_of one) l.name) l.all
