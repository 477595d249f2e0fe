-- What is so of the elements that were gone through, and of one more.
use Rattle.std.proofs.Common.{◌≡◌, ℕ, suc, zero, ◌+◌, ◌<◌, Bool, true, false, List, [], ◌∷◌, length, take, get_or, refl, sym, arith}
use Rattle.std.proofs.lemmas.Bool.{or_parts, and_parts}
use Rattle.std.specs.Char.{IsScalar}
use Rattle.std.specs.List.{list_any}
use Rattle.std.specs.Str.{all_scalars}

scalars-after : (text : List ℕ) (i c : ℕ) → i < length text → c ≡ get_or text i c → IsScalar c → all_scalars (take i text) ≡ true → all_scalars (take (suc i) text) ≡ true
scalars-after [] i c below is s h = absurd (omega (arith, below))
scalars-after (d ∷ text) zero c below is s h = let same : d ≡ c = sym is in rw (same, s) refl
scalars-after (d ∷ text) (suc i) c below is s h =
    let k = and_parts _ (all_scalars (take i text)) h in
    let less : i < length text = omega (arith, below) in
    rw (k.0, scalars-after text i c less is s k.1) refl

none-after : {X : Type 0} (p : X → Bool) (xs : List X) (i : ℕ) (x : X) → i < length xs → x ≡ get_or xs i x → p x ≡ false → list_any p (take i xs) ≡ false
    → list_any p (take (suc i) xs) ≡ false
none-after p [] i x below is n h = absurd (omega (arith, below))
none-after p (y ∷ xs) zero x below is n h = let same : y ≡ x = sym is in rw (same, n) refl
none-after p (y ∷ xs) (suc i) x below is n h =
    let k = or_parts (p y) (list_any p (take i xs)) h in
    let less : i < length xs = omega (arith, below) in
    rw (k.0) (none-after p xs i x less is n k.1)

pub scalars-next : (text : List ℕ) (i c : ℕ) → i < length text → c ≡ get_or text i c → IsScalar c → all_scalars (take i text) ≡ true → all_scalars (take (i + 1) text) ≡ true
scalars-next text i c below is s h = let more : i + 1 ≡ suc i = omega arith in rw more (scalars-after text i c below is s h)

pub none-next : {X : Type 0} (p : X → Bool) (xs : List X) (i : ℕ) (x : X) → i < length xs → x ≡ get_or xs i x → p x ≡ false → list_any p (take i xs) ≡ false
    → list_any p (take (i + 1) xs) ≡ false
none-next p xs i x below is n h = let more : i + 1 ≡ suc i = omega arith in rw more (none-after p xs i x below is n h)
