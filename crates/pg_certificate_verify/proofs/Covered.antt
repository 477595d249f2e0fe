-- Covered starts, one by one, and what they cover.
use Rattle.std.proofs.Common.{◌≡◌, ◌⊎◌, inl, inr, ◌+◌, ◌<◌, ◌≤◌, ℕ, zero, suc, true, List, [], ◌∷◌, ◌++◌, take, get_or, length, ap, sym, ◌∙◌, subst, arith}
use Rattle.std.specs.List.{AllByRecursion}
use Rattle.std.specs.Str.{all_scalars}
use Rattle.std.proofs.lemmas.List.{take_more, take_all}
use Rattle.pg_sets_own.specs.declared.listed.ListedStart.{ListedStart}
use Rattle.pg_start.specs.Starts.{MatchesAt}
use Rattle.pg_start.specs.declared.kind.StartKind.{StartKind}
use Rattle.pg_start.specs.declared.kind.StartKind.TheVariants.{Class, Key, Word, End}
use Rattle.pg_start.proofs.Meeting.{scalar_at}
use Rattle.pg_certificate_verify.specs.Covering.{IsWiderClass, CoversStart, IsCovered, SomeMatchesAt}

-- ---- one by one

covered_last : (claimed : List ListedStart) (one listed : ListedStart) → IsCovered (claimed ++ one ∷ []) listed → IsCovered claimed listed ⊎ CoversStart one listed
covered_last [] one listed (inl h) = inr h
covered_last [] one listed (inr h) = elim h [ ]
covered_last (x ∷ xs) one listed (inl h) = inl (inl h)
covered_last (x ∷ xs) one listed (inr h) = elim (covered_last xs one listed h) [ inl before ↦ inl (inr before) | inr this ↦ inr this ]

-- one more that doesn't cover it
pub still_uncovered : (claimed : List ListedStart) (i : ℕ) (one listed : ListedStart) → i < length claimed → one ≡ get_or claimed i one
    → (IsCovered (take i claimed) listed → ⊥) → (CoversStart one listed → ⊥) → IsCovered (take (i + 1) claimed) listed → ⊥
still_uncovered claimed i one listed within is before this covered =
    let grown = subst (λ xs. IsCovered xs listed) (take_more claimed i one within ∙ ap (λ y. take i claimed ++ y ∷ []) (sym is)) covered in
    elim (covered_last (take i claimed) one listed grown) [ inl h ↦ before h | inr h ↦ this h ]

pub never_covered : (claimed : List ListedStart) (n : ℕ) (listed : ListedStart) → length claimed ≤ n → (IsCovered (take n claimed) listed → ⊥) → IsCovered claimed listed → ⊥
never_covered claimed n listed whole before covered = before (subst (λ xs. IsCovered xs listed) (sym (take_all n claimed whole)) covered)

pub covered_at : (claimed : List ListedStart) (i : ℕ) (one listed : ListedStart) → i < length claimed → one ≡ get_or claimed i one → CoversStart one listed → IsCovered claimed listed
covered_at [] i one listed within is h = absurd (omega arith)
covered_at (x ∷ xs) zero one listed within is h = inl (subst (λ y. CoversStart y listed) is h)
covered_at (x ∷ xs) (suc i) one listed within is h = inr (covered_at xs i one listed (omega arith) is h)

pub all_at : {A : Type 0} (P : A → Type 0) (xs : List A) (i : ℕ) (x : A) → i < length xs → x ≡ get_or xs i x → AllByRecursion P xs → P x
all_at P [] i x within is h = absurd (omega arith)
all_at P (y ∷ ys) zero x within is h = subst P (sym is) h.0
all_at P (y ∷ ys) (suc i) x within is h = all_at P ys i x (omega arith) is h.1

pub all_of : {A : Type 0} (P : A → Type 0) (xs : List A) (n : ℕ) → length xs ≤ n → AllByRecursion P (take n xs) → AllByRecursion P xs
all_of P xs n whole h = subst (AllByRecursion P) (take_all n xs whole) h

-- ---- what they cover

wider_met : (one other : StartKind) (text : List ℕ) (place : ℕ) → all_scalars text ≡ true → IsWiderClass one other → MatchesAt other text place → MatchesAt one text place
wider_met (Class wider) (Class class) text place scalars h met =
    record { character = met.character; there = met.there; member = h met.character (scalar_at text place met.character scalars met.there) met.member }
wider_met (Class wider) (Key t excluded) text place scalars h met = elim h [ ]
wider_met (Class wider) (Word heads rest reserved) text place scalars h met = elim h [ ]
wider_met (Class wider) End text place scalars h met = elim h [ ]
wider_met (Key t excluded) other text place scalars h met = elim h [ ]
wider_met (Word heads rest reserved) other text place scalars h met = elim h [ ]
wider_met End other text place scalars h met = elim h [ ]

pub covered_met : (claimed : List ListedStart) (listed : ListedStart) → IsCovered claimed listed → (text : List ℕ) → all_scalars text ≡ true
    → (place : ℕ) → MatchesAt listed.start text place → SomeMatchesAt claimed text place
covered_met [] listed covered text scalars place met = elim covered [ ]
covered_met (one ∷ claimed) listed (inl (inl wider)) text scalars place met = inl (wider_met one.start listed.start text place scalars wider met)
covered_met (one ∷ claimed) listed (inl (inr same)) text scalars place met = inl (subst (λ x. MatchesAt x.start text place) (sym same) met)
covered_met (one ∷ claimed) listed (inr covered) text scalars place met = inr (covered_met claimed listed covered text scalars place met)
