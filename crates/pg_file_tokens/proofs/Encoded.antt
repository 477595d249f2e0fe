-- The characters of encoded numbers are these numbers, whether they are those of characters or not.
use Rattle.std.proofs.Common.{◌≡◌, ℕ, zero, suc, ◌+◌, ◌-◌, ◌*◌, ◌/◌, ◌<◌, ◌≤◌, Bool, true, false, nat_lt, List, [], ◌∷◌, ◌++◌, refl, ap, ◌∙◌, arith}
use Rattle.std.proofs.lemmas.Bool.Decides.{nat_tests}
use Rattle.std.proofs.lemmas.Str.{chars-nil}
use Rattle.std.specs.Str.{chars, chars_after, continuation_len, lead_bits, encode_utf8_all}
use lib.Utf8.{encode, next}

-- how a number is encoded
data Encoded (c : ℕ) : Type 0 where
  in_one : c < 128 → encode c ≡ c ∷ [] → Encoded c
  in_two : 128 ≤ c → c < 2048 → encode c ≡ (192 + c / 64) ∷ next c ∷ [] → Encoded c
  in_three : 2048 ≤ c → c < 65536 → encode c ≡ (224 + c / 4096) ∷ next (c / 64) ∷ next c ∷ [] → Encoded c
  in_four : 65536 ≤ c → encode c ≡ (240 + c / 262144) ∷ next (c / 4096) ∷ next (c / 64) ∷ next c ∷ [] → Encoded c

encoded : (c : ℕ) → Encoded c
unfolding encode
encoded c = go (nat_lt c 128) (nat_lt c 2048) (nat_lt c 65536) refl refl refl
  where
    go : (x y z : Bool) → nat_lt c 128 ≡ x → nat_lt c 2048 ≡ y → nat_lt c 65536 ≡ z → Encoded c
    go true y z h e f = in_one (grind (arith, nat_tests)) (rw h refl)
    go false true z h e f = in_two (grind (arith, nat_tests)) (grind (arith, nat_tests)) (rw (h, e) refl)
    go false false true h e f = in_three (grind (arith, nat_tests)) (grind (arith, nat_tests)) (rw (h, e, f) refl)
    go false false false h e f = in_four (grind (arith, nat_tests)) (rw (h, e, f) refl)

whole : (c : ℕ) (bytes : List ℕ) → chars_after zero c bytes ≡ c ∷ chars bytes
unfolding chars
whole c [] = refl
whole c (b ∷ bytes) = refl

led : (a n v : ℕ) (bytes : List ℕ) → continuation_len a ≡ n → lead_bits a ≡ v → chars (a ∷ bytes) ≡ chars_after n v bytes
unfolding chars
led a n v bytes h e = rw (h, e) refl

reads : (c : ℕ) (rest : List ℕ) → Encoded c → chars (encode c ++ rest) ≡ c ∷ chars rest
reads c rest (in_one h e) = ap (λ (p : List ℕ). chars (p ++ rest)) e ∙ led c zero c rest (grind (arith, nat_tests)) (grind (arith, nat_tests)) ∙ whole c rest
reads c rest (in_two h f e) =
    let is : c / 64 * 64 + (next c - 128) ≡ c = omega arith in
    ap (λ (p : List ℕ). chars (p ++ rest)) e
    ∙ led (192 + c / 64) (suc zero) (c / 64) (next c ∷ rest) (grind (arith, nat_tests)) (grind (arith, nat_tests))
    ∙ whole _ rest ∙ ap (λ (x : ℕ). x ∷ chars rest) is
reads c rest (in_three h f e) =
    let is : (c / 4096 * 64 + (next (c / 64) - 128)) * 64 + (next c - 128) ≡ c = omega arith in
    ap (λ (p : List ℕ). chars (p ++ rest)) e
    ∙ led (224 + c / 4096) (suc (suc zero)) (c / 4096) (next (c / 64) ∷ next c ∷ rest) (grind (arith, nat_tests)) (grind (arith, nat_tests))
    ∙ whole _ rest ∙ ap (λ (x : ℕ). x ∷ chars rest) is
reads c rest (in_four h e) =
    let is : ((c / 262144 * 64 + (next (c / 4096) - 128)) * 64 + (next (c / 64) - 128)) * 64 + (next c - 128) ≡ c = omega arith in
    ap (λ (p : List ℕ). chars (p ++ rest)) e
    ∙ led (240 + c / 262144) (suc (suc (suc zero))) (c / 262144) (next (c / 4096) ∷ next (c / 64) ∷ next c ∷ rest) (grind (arith, nat_tests)) (grind (arith, nat_tests))
    ∙ whole _ rest ∙ ap (λ (x : ℕ). x ∷ chars rest) is

pub chars_encoded : (s : List ℕ) → chars (encode_utf8_all s) ≡ s
chars_encoded [] = chars-nil
chars_encoded (c ∷ s) = reads c (encode_utf8_all s) (encoded c) ∙ ap (λ (l : List ℕ). c ∷ l) (chars_encoded s)
