-- Known bytes that grow, or are used up, twice.
use Rattle.std.proofs.Common.{◌≡◌, ℕ, ◌+◌, List, ◌++◌, Option, None, Some, take, drop, arith}
use Rattle.std.proofs.lemmas.Grind.{common_steps}
use Rattle.std.proofs.Math.Seq.{take-add}
use Rattle.std.specs.Io.KnownBytes.{Appends, Consumes}

-- some bytes, and then more
pub Appends-Appends : (a b c : Option (List ℕ)) (bs ds : List ℕ) → Appends a b bs → Appends b c ds → Appends a c (bs ++ ds)
Appends-Appends None b c bs ds h k = tt
Appends-Appends (Some xs) None c bs ds h k = absurd h
Appends-Appends (Some xs) (Some ys) None bs ds h k = absurd k
Appends-Appends (Some xs) (Some ys) (Some zs) bs ds h k = grind (arith, common_steps)

-- the first n bytes, and then m of the rest
pub Appends-take : (a b c : Option (List ℕ)) (bs rest : List ℕ) (n m : ℕ) → Appends a b (take n bs) → rest ≡ drop n bs
    → Appends b c (take m rest) → Appends a c (take (n + m) bs)
Appends-take a b c bs rest n m h e k = rw (take-add n m bs) (Appends-Appends a b c _ _ h (rw e at k))

-- some bytes are used up, and then more
pub Consumes-Consumes : (a b c : Option (List ℕ)) (bs ds : List ℕ) → Consumes a b bs → Consumes b c ds → Consumes a c (bs ++ ds)
Consumes-Consumes None b c bs ds h k = tt
Consumes-Consumes (Some xs) None c bs ds h k = absurd h
Consumes-Consumes (Some xs) (Some ys) None bs ds h k = absurd k
Consumes-Consumes (Some xs) (Some ys) (Some zs) bs ds h k = grind (arith, common_steps)
