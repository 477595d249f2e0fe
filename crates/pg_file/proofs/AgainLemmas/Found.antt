-- A name that stands for something among some class items stands for the same where others follow them.
use Rattle.std.proofs.Common.{◌≡◌, ◌<◌, ℕ, zero, suc, Bool, true, false, ◌||◌, nat_lt, List, [], ◌∷◌, ◌++◌, length, Some, None, refl, sym, ap, ◌∙◌, arith}
use Rattle.std.proofs.lemmas.Bool.Decides.{nat_tests}
use Rattle.std.proofs.lemmas.List.{length-append}
use Rattle.std.proofs.lemmas.Slice.Eq.{bytes_eq-Decides}
use Rattle.std.specs.List.{position_or_len, AllByRecursion}
use Rattle.std.specs.Str.{bytes_eq}
use Rattle.pg_pred.specs.Offer.{Offer}
use Rattle.pg_grammar_form.specs.Names.{Name, has_name, place_of_name, number_of, name_at}
use Rattle.pg_grammar_form.proofs.Lookup.{number_is_found, place_is_number, place_is_none}
use Rattle.pg_file_meaning.specs.Names.{item_or_predicate, class_named, is_predicate_name, is_class_name}

-- ---- places

-- a name has no place, or is among the names
data IsPlaced (names : List Name) (s : Name) : Type 0 where
  at : (k : ℕ) → place_of_name names s ≡ Some k → has_name names s ≡ true → name_at names k ≡ s → k < length names → IsPlaced names s
  absent : place_of_name names s ≡ None → has_name names s ≡ false → IsPlaced names s

placed : (names : List Name) (s : Name) → IsPlaced names s
placed names s = go (has_name names s) refl
  where
    go : (b : Bool) → has_name names s ≡ b → IsPlaced names s
    go true h = let found = number_is_found names s h in at (number_of names s) (place_is_number names s h) h found.named found.below
    go false h = absent (place_is_none names s h) h

-- more names after them
pub name_in_front : (names more : List Name) (k : ℕ) → k < length names → name_at (names ++ more) k ≡ name_at names k
name_in_front [] more k h = absurd (omega (arith, h))
name_in_front (s ∷ names) more zero h = refl
name_in_front (s ∷ names) more (suc k) h = let below : k < length names = omega (arith, h) in name_in_front names more k below

abbrev first_place : List Name → Name → ℕ
first_place names s = position_or_len (λ other. bytes_eq other s) names

first_in_front : (names more : List Name) (s : Name) → has_name names s ≡ true → first_place (names ++ more) s ≡ first_place names s
first_in_front [] more s h = absurd cc
first_in_front (other ∷ names) more s h = go (bytes_eq other s) refl (λ k. first_in_front names more s k)
  where
    go : (b : Bool) → bytes_eq other s ≡ b → (has_name names s ≡ true → first_place (names ++ more) s ≡ first_place names s)
        → first_place (other ∷ (names ++ more)) s ≡ first_place (other ∷ names) s
    go true e others = rw e refl
    go false e others = let k : has_name names s ≡ true = rw e at h in rw (e, others k) refl

first_below : (names : List Name) (s : Name) → has_name names s ≡ true → first_place names s < length names
first_below [] s h = absurd cc
first_below (other ∷ names) s h = go (bytes_eq other s) refl (λ k. first_below names s k)
  where
    go : (b : Bool) → bytes_eq other s ≡ b → (has_name names s ≡ true → first_place names s < length names) → first_place (other ∷ names) s < suc (length names)
    go true e others = rw e (omega arith)
    go false e others = let k : has_name names s ≡ true = rw e at h in let below = others k in rw e (omega (arith, below))

place_in_front : (names more : List Name) (s : Name) → has_name names s ≡ true → place_of_name (names ++ more) s ≡ place_of_name names s
place_in_front names more s h =
    let same = first_in_front names more s h in
    let below = first_below names s h in
    let many = length-append names more in
    let one : nat_lt (first_place names s) (length names) ≡ true = grind (arith, nat_tests) in
    let all : nat_lt (first_place (names ++ more) s) (length (names ++ more)) ≡ true = grind (arith, nat_tests) in
    rw (all, one, same) refl

-- ---- more names

pub has_both : (names more : List Name) (s : Name) → has_name (names ++ more) s ≡ (has_name names s || has_name more s)
has_both [] more s = refl
has_both (other ∷ names) more s = go (bytes_eq other s) refl (has_both names more s)
  where
    go : (b : Bool) → bytes_eq other s ≡ b → has_name (names ++ more) s ≡ (has_name names s || has_name more s)
        → has_name (other ∷ (names ++ more)) s ≡ (has_name (other ∷ names) s || has_name more s)
    go true e others = rw e refl
    go false e others = rw e others

-- none of the names is a predicate's
abbrev pub AreNoPredicates : Offer → List Name → Type 0
AreNoPredicates offer names = AllByRecursion (λ s. is_predicate_name offer s ≡ false) names

-- so a predicate's name isn't among them
predicate_absent : (offer : Offer) (names : List Name) (s : Name) → AreNoPredicates offer names → is_predicate_name offer s ≡ true → has_name names s ≡ false
predicate_absent offer [] s h k = refl
predicate_absent offer (other ∷ names) s h k = go (bytes_eq other s) refl (predicate_absent offer names s h.1 k)
  where
    go : (b : Bool) → bytes_eq other s ≡ b → has_name names s ≡ false → has_name (other ∷ names) s ≡ false
    go true e others =
        let same : other ≡ s = (bytes_eq-Decides other s).0 e in
        let q : is_predicate_name offer other ≡ true = ap (is_predicate_name offer) same ∙ k in
        absurd (cc (q, h.0))
    go false e others = rw e others

-- ---- what names stand for

-- a name that is known among some names is known among others, and stands for the same; a place among those has its
-- name among all
pub record AreFoundAgain (offer : Offer) (names others all : List Name) : Type 0 where
  pub known : (s : Name) → is_class_name offer names s ≡ true → is_class_name offer others s ≡ true
  pub same : (s : Name) → is_class_name offer names s ≡ true → class_named offer others s ≡ class_named offer names s
  pub there : (s : Name) (k : ℕ) → place_of_name names s ≡ Some k → name_at all k ≡ s

there_in_front : (names more : List Name) (s : Name) (k : ℕ) → place_of_name names s ≡ Some k → name_at (names ++ more) k ≡ s
there_in_front names more s k e = go (placed names s)
  where
    go : IsPlaced names s → name_at (names ++ more) k ≡ s
    go (at j q h named below) =
        let both : Some j ≡ Some k = sym q ∙ e in
        let same : j ≡ k = cc in
        ap (name_at (names ++ more)) (sym same) ∙ name_in_front names more j below ∙ named
    go (absent q h) = let both : None ≡ Some k = sym q ∙ e in absurd cc

-- among the same names
pub found_here : (offer : Offer) (names more : List Name) → AreFoundAgain offer names names (names ++ more)
found_here offer names more = record { known = λ s h. h; same = λ s h. refl; there = there_in_front names more }

-- among more names, none of them a predicate's
pub found_among_more : (offer : Offer) (names more : List Name) → AreNoPredicates offer more → AreFoundAgain offer names (names ++ more) (names ++ more)
found_among_more offer names more none = record { known = known; same = same; there = there_in_front names more }
  where
    known : (s : Name) → is_class_name offer names s ≡ true → is_class_name offer (names ++ more) s ≡ true
    known s h = rw (has_both names more s) (go (has_name names s) (has_name more s) (is_predicate_name offer s) h)
      where
        go : (a b c : Bool) → (a || c) ≡ true → ((a || b) || c) ≡ true
        go true b c e = refl
        go false true c e = refl
        go false false c e = e

    same : (s : Name) → is_class_name offer names s ≡ true → class_named offer (names ++ more) s ≡ class_named offer names s
    same s h = ap (item_or_predicate offer s) (go (has_name names s) refl)
      where
        go : (b : Bool) → has_name names s ≡ b → place_of_name (names ++ more) s ≡ place_of_name names s
        go true e = place_in_front names more s e
        go false e =
            let predicate : is_predicate_name offer s ≡ true = rw e at h in
            let nowhere : has_name (names ++ more) s ≡ false = has_both names more s ∙ rw (e, predicate_absent offer more s none predicate) refl in
            place_is_none (names ++ more) s nowhere ∙ sym (place_is_none names s e)
