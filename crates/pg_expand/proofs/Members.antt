-- Membership in lists, and lists that are split at a member.
use Rattle.std.proofs.Common.{◌≡◌, ◌⊎◌, List, [], ◌∷◌, ◌++◌, inl, inr, refl}

-- the value is one of the list
abbrev pub Among : {A : Type 0} → A → List A → Type 0
Among x [] = ⊥
Among x (y ∷ ys) = (x ≡ y) ⊎ Among x ys

pub among_either : {A : Type 0} (x : A) (ys zs : List A) → Among x (ys ++ zs) → Among x ys ⊎ Among x zs
among_either x [] zs h = inr h
among_either x (y ∷ ys) zs (inl e) = inl (inl e)
among_either x (y ∷ ys) zs (inr h) = elim (among_either x ys zs h) [ inl m ↦ inl (inr m) | inr m ↦ inr m ]

pub among_after : {A : Type 0} (x : A) (ys zs : List A) → Among x zs → Among x (ys ++ zs)
among_after x [] zs h = h
among_after x (y ∷ ys) zs h = inr (among_after x ys zs h)

-- two lists with a value in the middle, where the whole is one: the values stand at one place, or each lies on the other's side
pub split_at : {A : Type 0} (a : List A) (o : A) (b c : List A) (p : A) (d : List A) → a ++ o ∷ b ≡ c ++ p ∷ d →
    ((a ≡ c) × (o ≡ p) × (b ≡ d)) ⊎ ((Among o c × Among p b) ⊎ (Among p a × Among o d))
split_at [] o b [] p d e = inl (refl, cc, cc)
split_at [] o b (q ∷ c) p d e = let tail : b ≡ c ++ p ∷ d = cc in inr (inl (inl (cc), (rw tail (among_after p c (p ∷ d) (inl refl)))))
split_at (q ∷ a) o b [] p d e = let tail : a ++ o ∷ b ≡ d = cc in inr (inr (inl (cc), (rw (← tail) (among_after o a (o ∷ b) (inl refl)))))
split_at (q ∷ a) o b (r ∷ c) p d e =
    let head : q ≡ r = cc in
    let tail : a ++ o ∷ b ≡ c ++ p ∷ d = cc in
    elim (split_at a o b c p d tail) [ inl h ↦ inl (let front = h.0 in cc, h.1, h.2) | inr (inl h) ↦ inr (inl (inr h.0, h.1)) | inr (inr h) ↦ inr (inr (inr h.0, h.1)) ]
