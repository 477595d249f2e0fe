-- A name that is among the names has a number, and that number has the name.
use Rattle.std.proofs.Common.{◌≡◌, ℕ, suc, ◌+◌, ◌<◌, Bool, true, false, not, cond, ◌||◌, nat_lt, List, [], ◌∷◌, length, map, position, Some, None, unwrap_or, refl, sym, ap, arith, ◌∙◌}
use Rattle.std.proofs.lemmas.Bool.Decides.{nat_tests}
use Rattle.std.proofs.lemmas.List.{length-map}
use Rattle.std.proofs.lemmas.Slice.Eq.{bytes_eq-Decides}
use Rattle.std.specs.Str.{bytes_eq}
use Rattle.std.specs.List.{position_or_len}
use Rattle.pg_grammar_form.specs.Names.{Name, has_name, place_of_name, number_of, name_at}

-- a place of the names has this name
pub record IsFound (names : List Name) (name : Name) (r : ℕ) : Type 0 where
  pub below : r < length names
  pub named : name_at names r ≡ name

-- how many names stand before the first that is this one, or how many there are
abbrev first_place : List Name → Name → ℕ
first_place names name = position_or_len (λ other. bytes_eq other name) names

-- a name found among names is found after one more
found_after : (other : Name) (names : List Name) (name : Name) (r : ℕ) → IsFound names name r → IsFound (other ∷ names) name (1 + r)
found_after other names name r found =
    let below = found.below in
    let next : 1 + r ≡ suc r = omega arith in
    rw next (record { below = omega arith; named = found.named })

-- a name among these is found at its first place
first_is_found : (names : List Name) (name : Name) → has_name names name ≡ true → IsFound names name (first_place names name)
first_is_found [] name h = absurd cc
first_is_found (other ∷ names) name h = go (bytes_eq other name) refl h (λ e. first_is_found names name e)
  where
    go : (b : Bool) → bytes_eq other name ≡ b → (b || has_name names name) ≡ true
        → (has_name names name ≡ true → IsFound names name (first_place names name))
        → IsFound (other ∷ names) name (cond (not b) (1 + first_place names name) 0)
    go true e h ih = record { below = omega arith; named = (bytes_eq-Decides other name).0 e }
    go false e h ih = found_after other names name (first_place names name) (ih h)

-- a name that is not among these has its first place at the end
none_is_found : (names : List Name) (name : Name) → has_name names name ≡ false → first_place names name ≡ length names
none_is_found [] name h = refl
none_is_found (other ∷ names) name h = go (bytes_eq other name) refl h (λ e. none_is_found names name e)
  where
    go : (b : Bool) → bytes_eq other name ≡ b → (b || has_name names name) ≡ false
        → (has_name names name ≡ false → first_place names name ≡ length names)
        → cond (not b) (1 + first_place names name) 0 ≡ suc (length names)
    go true e h ih = absurd cc
    go false e h ih = omega (arith, ih h)

-- a name among these has its first place
place_is_first : (names : List Name) (name : Name) → has_name names name ≡ true → place_of_name names name ≡ Some (first_place names name)
place_is_first names name h =
    let below = (first_is_found names name h).below in
    let test : nat_lt (first_place names name) (length names) ≡ true = grind (arith, nat_tests) in
    rw test refl

-- a name among these is found at its number
pub number_is_found : (names : List Name) (name : Name) → has_name names name ≡ true → IsFound names name (number_of names name)
number_is_found names name h = rw (place_is_first names name h) (first_is_found names name h)

-- a name among these has the place that its number says
pub place_is_number : (names : List Name) (name : Name) → has_name names name ≡ true → place_of_name names name ≡ Some (number_of names name)
place_is_number names name h = place_is_first names name h ∙ ap (λ o. Some (unwrap_or o 0)) (sym (place_is_first names name h))

-- a name that is not among these has no place
pub place_is_none : (names : List Name) (name : Name) → has_name names name ≡ false → place_of_name names name ≡ None
place_is_none names name h =
    let end = none_is_found names name h in
    let test : nat_lt (first_place names name) (length names) ≡ false = grind (arith, nat_tests) in
    rw test refl

-- the place of an image is the place of what it is of
place-map : {X Y : Type 0} (p : Y → Bool) (f : X → Y) (xs : List X) → position_or_len p (map f xs) ≡ position_or_len (λ x. p (f x)) xs
place-map p f [] = refl
place-map p f (x ∷ xs) = ap (λ n. cond (not (p (f x))) (1 + n) 0) (place-map p f xs)

-- the first image is at the place of the first that it is of
pub position-map : {X Y : Type 0} (p : Y → Bool) (f : X → Y) (xs : List X) → position p (map f xs) ≡ position (λ x. p (f x)) xs
position-map p f xs = rw (place-map p f xs, length-map xs f) refl
