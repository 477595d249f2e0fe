-- Leaves of characters, one more at a time.
use Rattle.std.proofs.Common.{◌≡◌, ◌∙◌, ◌<◌, ◌+◌, ℕ, suc, List, [], ◌∷◌, ◌++◌, refl, sym, ap, length, take, get_or, arith}
use Rattle.std.proofs.Math.Seq.{take-suc}
use Rattle.pg_language.specs.Derives.{leaf_of}
use Rattle.pg_machine_quick.specs.Turns.{leaves_of}

leaves_joined : (a b : List ℕ) → leaves_of (a ++ b) ≡ leaves_of a ++ leaves_of b
leaves_joined [] b = refl
leaves_joined (x ∷ a) b = ap (λ z. leaf_of (x ∷ []) ∷ z) (leaves_joined a b)

pub leaves_taken : (cs : List ℕ) (i x : ℕ) → i < length cs → x ≡ get_or cs i x → leaves_of (take (i + 1) cs) ≡ leaves_of (take i cs) ++ leaf_of (x ∷ []) ∷ []
leaves_taken cs i x below is =
    let next : i + 1 ≡ suc i = omega arith in
    ap (λ j. leaves_of (take j cs)) next ∙ ap leaves_of (take-suc cs i x below) ∙ leaves_joined (take i cs) (get_or cs i x ∷ [])
    ∙ ap (λ y. leaves_of (take i cs) ++ leaf_of (y ∷ []) ∷ []) (sym is)
