-- Keys that stand at one place, and keys that are apart.
use Rattle.std.proofs.Common.{◌≡◌, ℕ, zero, suc, ◌+◌, ◌<◌, ◌≤◌, true, List, [], ◌∷◌, Some, length, drop, slice_get, arith, refl, ap, ◌∙◌}
use Rattle.std.proofs.lemmas.Option.{slice_get_within}
use Rattle.pg_class.specs.Ranges.{Range}
use Rattle.pg_start.specs.Prefixes.{begins_in, IsPrefix}
use Rattle.pg_start.specs.Apart.{KeysApart, differ, other_goes_on, key_goes_on}
use Rattle.pg_start.proofs.Ahead.{begins_from_has, has_from_begins}

-- ---- fronts

pub prefix_le : (prefix text : List ℕ) → IsPrefix prefix text → length prefix ≤ length text
prefix_le [] text f = omega arith
prefix_le (x ∷ xs) [] f = cc
prefix_le (x ∷ xs) (y ∷ ys) f =
    let tail : IsPrefix xs ys = cc in
    let below = prefix_le xs ys tail in
    omega arith

-- of two prefixes of a text the shorter is a prefix of the longer
pub prefix_of_prefix : (key other text : List ℕ) → length key ≤ length other → IsPrefix key text → IsPrefix other text → IsPrefix key other
prefix_of_prefix [] other text l f g = refl
prefix_of_prefix (x ∷ xs) [] text l f g = absurd (omega arith)
prefix_of_prefix (x ∷ xs) (y ∷ ys) [] l f g = cc
prefix_of_prefix (x ∷ xs) (y ∷ ys) (z ∷ zs) l f g =
    let key_tail : IsPrefix xs zs = cc in
    let other_tail : IsPrefix ys zs = cc in
    let tail = prefix_of_prefix xs ys zs (omega arith) key_tail other_tail in
    cc

-- a text has the characters of its fronts
pub read_of_prefix : (prefix text : List ℕ) (n c : ℕ) → IsPrefix prefix text → slice_get prefix n ≡ Some c → slice_get text n ≡ Some c
read_of_prefix [] text n c f e = cc
read_of_prefix (x ∷ xs) [] n c f e = cc
read_of_prefix (x ∷ xs) (y ∷ ys) zero c f e = cc
read_of_prefix (x ∷ xs) (y ∷ ys) (suc n) c f e = let tail : IsPrefix xs ys = cc in read_of_prefix xs ys n c tail e

-- reading from a place on
pub slice_get-drop : (text : List ℕ) (i n : ℕ) → slice_get (drop i text) n ≡ slice_get text (i + n)
slice_get-drop text zero n = ap (slice_get text) (omega arith)
slice_get-drop [] (suc i) n = refl
slice_get-drop (x ∷ xs) (suc i) n =
    let at : suc (i + n) ≡ suc i + n = omega arith in
    slice_get-drop xs i n ∙ ap (slice_get (x ∷ xs)) at

-- a text begins as its fronts do, but for the empty one
pub prefix_begins : (key text : List ℕ) (class : List Range) → 0 < length key → IsPrefix key text → begins_in class text ≡ begins_in class key
prefix_begins [] text class l f = absurd (omega arith)
prefix_begins (x ∷ xs) [] class l f = cc
prefix_begins (x ∷ xs) (y ∷ ys) class l f = cc

-- a text that begins with one that isn't empty isn't empty
pub prefix_not_empty : (key : List ℕ) → 0 < length key → IsPrefix key [] → ⊥
prefix_not_empty [] l f = omega arith
prefix_not_empty (x ∷ xs) l f = cc

-- ---- keys that are apart

pub KeysApart-swap : (key : List ℕ) (excluded : List Range) (other : List ℕ) (other_excluded : List Range)
    → KeysApart key excluded other other_excluded → KeysApart other other_excluded key excluded
KeysApart-swap key excluded other other_excluded (differ n m) = differ m n
KeysApart-swap key excluded other other_excluded (other_goes_on f h) = key_goes_on f h
KeysApart-swap key excluded other other_excluded (key_goes_on f h) = other_goes_on f h

-- where the other begins with the key, they are apart where it goes on with an excluded character
pub goes_on_from_begins : (key : List ℕ) (excluded : List Range) (other : List ℕ) (other_excluded : List Range) → IsPrefix key other
    → begins_in excluded (drop (length key) other) ≡ true → KeysApart key excluded other other_excluded
goes_on_from_begins key excluded other other_excluded f e = other_goes_on f (has_from_begins other (length key) excluded e)

pub begins_from_goes_on : (key : List ℕ) (excluded : List Range) (other : List ℕ) (other_excluded : List Range) → IsPrefix key other
    → KeysApart key excluded other other_excluded → begins_in excluded (drop (length key) other) ≡ true
begins_from_goes_on key excluded other other_excluded f (differ n m) = absurd (n f)
begins_from_goes_on key excluded other other_excluded f (other_goes_on g h) = begins_from_has other (length key) excluded h
begins_from_goes_on key excluded other other_excluded f (key_goes_on g h) =
    let within = slice_get_within key (length other) h.character h.there in
    let below = prefix_le key other f in
    absurd (omega arith)
