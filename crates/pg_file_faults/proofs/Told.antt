-- The first fault is told first.
use Rattle.std.proofs.Common.{◌≡◌, List, [], ◌∷◌, ◌++◌, refl, ◌∙◌, ap}
use Rattle.pg_file_faults.specs.declared.faults.ToldFault.{ToldFault}
use Rattle.pg_file_faults.specs.Told.{IsToldFirst}

pub told_first : (first : ToldFault) (held others told : List ToldFault) → held ≡ first ∷ [] → told ≡ held ++ others → IsToldFirst first.file.items first.fault told
told_first first held others told one all =
    record { one = first; others = others; is_first = all ∙ ap (λ front. front ++ others) one; fault = refl; file = refl }
