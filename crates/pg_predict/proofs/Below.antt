-- What is noted for one number after another: the first of it, and its lines.
use Rattle.std.proofs.Common.{◌≡◌, ℕ, zero, suc, ◌+◌, ◌<◌, List, [], ◌∷◌, ◌++◌, Option, Some, None, length, append-nil, append_assoc, refl, sym, ap, subst, ◌∙◌, inl, inr, arith}
use Rattle.std.specs.List.{flat_map}
use Rattle.std.specs.Option.{option_or}
use Rattle.std.proofs.Math.Numerals.{add-one}
use Rattle.std.proofs.lemmas.Bool.{cases_eq}
use Rattle.std.proofs.lemmas.Grind.{flat_map-append}
use Rattle.pg_tree.specs.Bytes.{AppendsPrefix}
use Rattle.pg_predict_conditions.specs.Violations.{Violation}
use Rattle.pg_predict_conditions.specs.Judged.{all_below}
use Rattle.pg_predict.specs.Broken.{first_number, number_of}
use Rattle.pg_predict_conditions.specs.Questions.{found_at}
use Rattle.pg_text_pieces.specs.Writing.{Puts}
use Rattle.pg_predict_conditions.specs.declared.violation.ViolationKind.{ViolationKind}
use Rattle.pg_text_pieces.proofs.Puts.{puts_both, puts_stopped_within}

-- ---- the first

pub found_number : (p : ℕ) (o : Option (ViolationKind ℕ)) → first_number (found_at p o) ≡ number_of o
found_number p None = refl
found_number p (Some kind) = refl

none_numbered : (xs : List (Violation ℕ)) → first_number xs ≡ None → xs ≡ []
none_numbered [] e = refl
none_numbered (x ∷ xs) e = absurd cc

pub some_numbered : (xs : List (Violation ℕ)) (number : ℕ) → first_number xs ≡ Some number → 0 < length xs
some_numbered [] number e = absurd cc
some_numbered (x ∷ xs) number e = omega arith

-- of what is noted before and after
pub first_left : (xs ys : List (Violation ℕ)) (number : ℕ) → first_number xs ≡ Some number → first_number (xs ++ ys) ≡ Some number
first_left [] ys number e = absurd cc
first_left (x ∷ xs) ys number e = e

pub first_right : (xs ys : List (Violation ℕ)) → first_number xs ≡ None → first_number (xs ++ ys) ≡ first_number ys
first_right [] ys e = refl
first_right (x ∷ xs) ys e = absurd cc

-- there is none before a number, and this is the first for it, and so for all
pub first_below : (f : ℕ → List (Violation ℕ)) (k n number : ℕ) → k < n → all_below f k ≡ [] → first_number (f k) ≡ Some number → first_number (all_below f n) ≡ Some number
first_below f k zero number below none e = absurd (omega arith)
first_below f k (suc n) number below none e =
    elim (cases_eq k n) [
      | inl here ↦
          first_right (all_below f n) (f n) (ap (λ i. first_number (all_below f i)) (sym here) ∙ ap first_number none) ∙ ap (λ i. first_number (f i)) (sym here) ∙ e
      | inr other ↦ first_left (all_below f n) (f n) number (first_below f k n number (omega arith) none e)
    ]

-- there is none so far, and none for the next
pub none_next : (f : ℕ → List (Violation ℕ)) (k : ℕ) → all_below f k ≡ [] → first_number (f k) ≡ None → all_below f (k + 1) ≡ []
none_next f k none e = ap (all_below f) (add-one k) ∙ ap (λ xs. xs ++ f k) none ∙ none_numbered (f k) e
