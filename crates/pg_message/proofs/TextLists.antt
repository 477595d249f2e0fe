-- Texts put after others without repeats: what is there stays, and it doesn't matter which are put together first.
use Rattle.std.proofs.Common.{◌≡◌, ℕ, arith, List, [], ◌∷◌, ◌++◌, Bool, true, false, refl, sym, ap, subst, ◌∙◌, length, length-append}
use Rattle.std.proofs.Math.Bool.{or-true}
use Rattle.std.proofs.Math.Dec.{eqb-suc-zero}
use Rattle.std.specs.Prelude.{◌||◌, ◌&&◌, ◌==◌, ◌≤◌, ◌+◌, not, if◌then◌else◌}
use Rattle.std.specs.Str.{bytes_eq}
use Rattle.std.proofs.lemmas.Slice.Eq.{bytes_eq-Decides}
use Rattle.std.proofs.lemmas.List.Folds.{list_any-append}
use Rattle.std.proofs.lemmas.List.Sums.{sum_by-cons, sum_by-le-sum_by}
use Rattle.pg_message.specs.Messages.{Text, has_text, missing_count, with_text, with_texts}

pub equal_texts : (xs ys : Text) → bytes_eq xs ys ≡ true → xs ≡ ys
equal_texts xs ys = (bytes_eq-Decides xs ys).0

same_text : (xs : Text) → bytes_eq xs xs ≡ true
same_text xs = (bytes_eq-Decides xs xs).1 refl

-- the last text is there
has_text-last : (xs : List Text) (y : Text) → has_text (xs ++ y ∷ []) y ≡ true
has_text-last xs y =
    list_any-append (λ other. bytes_eq other y) xs (y ∷ []) ∙ ap (λ b. has_text xs y || (b || false)) (same_text y) ∙ or-true (has_text xs y)

-- a text stays where others come after it
has_text-append : (xs ys : List Text) (z : Text) → has_text xs z ≡ true → has_text (xs ++ ys) z ≡ true
has_text-append xs ys z h = list_any-append (λ other. bytes_eq other z) xs ys ∙ ap (λ b. b || has_text ys z) h

has_text-with_text : (xs : List Text) (y z : Text) → has_text xs z ≡ true → has_text (with_text xs y) z ≡ true
has_text-with_text xs y z h = either (has_text xs y)
  where
    either : (b : Bool) → has_text (if b then xs else xs ++ y ∷ []) z ≡ true
    either true = h
    either false = has_text-append xs (y ∷ []) z h

has_text-with_text_same : (xs : List Text) (y : Text) → has_text (with_text xs y) y ≡ true
has_text-with_text_same xs y = either (has_text xs y) refl
  where
    either : (b : Bool) → has_text xs y ≡ b → has_text (if b then xs else xs ++ y ∷ []) y ≡ true
    either true e = e
    either false e = has_text-last xs y

has_text-with_texts : (xs ys : List Text) (z : Text) → has_text xs z ≡ true → has_text (with_texts xs ys) z ≡ true
has_text-with_texts xs [] z h = h
has_text-with_texts xs (y ∷ ys) z h = has_text-with_texts (with_text xs y) ys z (has_text-with_text xs y z h)

-- each of the new texts is there in the end
has_text-with_texts_new : (xs ys : List Text) (z : Text) → has_text ys z ≡ true → has_text (with_texts xs ys) z ≡ true
has_text-with_texts_new xs [] z h = cc
has_text-with_texts_new xs (y ∷ ys) z h = either (bytes_eq y z) refl (has_text-with_texts_new (with_text xs y) ys z) h
  where
    either : (b : Bool) → bytes_eq y z ≡ b → (has_text ys z ≡ true → has_text (with_texts (with_text xs y) ys) z ≡ true) → (b || has_text ys z) ≡ true → has_text (with_texts (with_text xs y) ys) z ≡ true
    either true e ih h = has_text-with_texts (with_text xs y) ys z (subst (λ x. has_text (with_text xs y) x ≡ true) (equal_texts y z e) (has_text-with_text_same xs y))
    either false e ih h = ih h

pub with_texts-append : (xs ys zs : List Text) → with_texts xs (ys ++ zs) ≡ with_texts (with_texts xs ys) zs
with_texts-append xs [] zs = refl
with_texts-append xs (y ∷ ys) zs = with_texts-append (with_text xs y) ys zs

pub with_texts-with_text : (xs ys : List Text) (z : Text) → with_texts xs (with_text ys z) ≡ with_text (with_texts xs ys) z
with_texts-with_text xs ys z = either (has_text ys z) refl
  where
    either : (b : Bool) → has_text ys z ≡ b → with_texts xs (if b then ys else ys ++ z ∷ []) ≡ with_text (with_texts xs ys) z
    either true e = ap (λ b. if b then with_texts xs ys else with_texts xs ys ++ z ∷ []) (sym (has_text-with_texts_new xs ys z e))
    either false e = with_texts-append xs ys (z ∷ [])

pub with_texts_assoc : (xs ys zs : List Text) → with_texts xs (with_texts ys zs) ≡ with_texts (with_texts xs ys) zs
with_texts_assoc xs ys [] = refl
with_texts_assoc xs ys (z ∷ zs) =
    with_texts_assoc xs (with_text ys z) zs ∙ ap (λ texts. with_texts texts zs) (with_texts-with_text xs ys z)

-- where a text has come to others there is one
pub length-with_text : (xs : List Text) (y : Text) → (length (with_text xs y) == 0) ≡ false
length-with_text xs y = either (has_text xs y) xs refl
  where
    either : (b : Bool) (texts : List Text) → has_text texts y ≡ b → (length (if b then texts else texts ++ y ∷ []) == 0) ≡ false
    either true [] e = cc
    either true (x ∷ texts) e = eqb-suc-zero (length texts)
    either false [] e = refl
    either false (x ∷ texts) e = eqb-suc-zero (length (texts ++ y ∷ []))

and-true : (b : Bool) → b ≡ (b && true)
and-true true = refl
and-true false = refl

and-false : (b : Bool) → false ≡ (b && false)
and-false true = refl
and-false false = refl

-- there is no text in the end where there was none on either side
pub is_empty-with_texts : (xs ys : List Text) → (length (with_texts xs ys) == 0) ≡ ((length xs == 0) && (length ys == 0))
is_empty-with_texts xs [] = and-true (length xs == 0)
is_empty-with_texts xs (y ∷ ys) =
    is_empty-with_texts (with_text xs y) ys ∙ ap (λ b. b && (length ys == 0)) (length-with_text xs y) ∙ and-false (length xs == 0) ∙ ap (λ b. (length xs == 0) && b) (sym (eqb-suc-zero (length ys)))

-- a text is no longer missing where others have come
term-append : (b c : Bool) → (b ≡ true → c ≡ true) → (if not c then 1 else 0) ≤ (if not b then 1 else 0)
term-append true c h = let e : c ≡ true = h refl in rw e (omega arith)
term-append false true h = omega arith
term-append false false h = omega arith

missing_count-append : (texts more others : List Text) → missing_count (texts ++ more) others ≤ missing_count texts others
missing_count-append texts more others =
    sum_by-le-sum_by (λ x. if not (has_text (texts ++ more) x) then 1 else 0) (λ x. if not (has_text texts x) then 1 else 0) others (λ x. term-append (has_text texts x) (has_text (texts ++ more) x) (has_text-append texts more x))

missing_count-first : (texts rest : List Text) (y : Text) → has_text texts y ≡ false → missing_count texts (y ∷ rest) ≡ 1 + missing_count texts rest
missing_count-first texts rest y h =
    sum_by-cons (λ x. if not (has_text texts x) then 1 else 0) y rest ∙ ap (λ b. (if not b then 1 else 0) + missing_count texts rest) h

-- room for the missing ones is room for one of them and for those that are missing after it
pub room_left : (texts others rest : List Text) (y : Text) (capacity : ℕ) → others ≡ y ∷ rest → has_text texts y ≡ false → length texts + missing_count texts others ≤ capacity → length (texts ++ y ∷ []) + missing_count (texts ++ y ∷ []) rest ≤ capacity
room_left texts others rest y capacity e h room =
    let before = ap (missing_count texts) e ∙ missing_count-first texts rest y h in
    omega (arith, before, missing_count-append texts (y ∷ []) rest, length-append texts (y ∷ []))
