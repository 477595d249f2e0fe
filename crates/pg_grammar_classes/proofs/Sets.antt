-- Answers that are written one after another, and sets that are found again.
use Rattle.std.proofs.Common.{◌≡◌, ℕ, zero, suc, ◌+◌, ◌<◌, ◌≤◌, Bool, false, List, [], ◌∷◌, ◌++◌, length, map, take, set, get_or, slice_get, Some, arith, refl, subst, ap, sym, ◌∙◌, below_more}
use Rattle.std.proofs.lemmas.List.{get_or-set_same, get_or-set_other, length-map, map-append, take_all, take_more}
use Rattle.std.specs.Char.{IsScalar}
use Rattle.std.proofs.Math.Bool.{or-false}
use Rattle.pg_class.specs.Ranges.{Range, has}
use Rattle.pg_grammar_form.specs.Classes.{is_member, answer_at}
use Rattle.pg_grammar_form.specs.declared.class.ClassPart.TheVariants.{Class}
use Rattle.pg_grammar_form.specs.ClassItems.{has_character}
use Rattle.pg_grammar_form.specs.declared.class.ClassPart.{ClassPart}
use Rattle.pg_grammar_form.specs.declared.class_item.ClassItem.{ClassItem}
use Rattle.pg_grammar_classes.specs.Classes.{answers_of}
use Rattle.pg_grammar_classes.specs.Sets.{AreItemSets, IsSetBy, AreSetsBy, IsSetOf, AreSetsOf}
use Rattle.pg_grammar_classes.proofs.ClassStack.{answer_there}

-- one answer more is right
pub answers-next : (answers : List Bool) (n : ℕ) (b : Bool) (right : ℕ → Bool) → n < length answers
    → ((k : ℕ) → k < n → get_or answers k false ≡ right k) → b ≡ right n
    → (k : ℕ) → k < n + 1 → get_or (set answers n b) k false ≡ right k
answers-next answers n b right within before is =
    below_more (λ k. get_or (set answers n b) k false ≡ right k) n
    (λ k low. get_or-set_other answers n k b false (λ e. omega arith) ∙ before k low)
    (get_or-set_same answers n b false within ∙ is)

-- an expression that only names an item has what the item has
pub named_has : (classes : List (List Range)) (k c : ℕ) (class : List Range) → slice_get classes k ≡ Some class
    → has class c ≡ is_member (answers_of classes c) (Class k ∷ []) c
named_has classes k c class at = sym (or-false (answer_at (answers_of classes c) k) ∙ answer_there classes k c class at)

-- ---- sets of several expressions

-- there are as many sets as expressions
pub as_many : (items : List ClassItem) (expressions : List (List ClassPart)) (sets : List (List Range)) → AreSetsOf items expressions sets
    → length sets ≡ length expressions
as_many items expressions sets are =
    let none = ap length (are 0 refl) in
    omega (arith, none, length-map sets (λ set. has set 0), length-map expressions (λ expression. has_character items expression 0))

-- the expression with a number has a set of its own
pub set_at : (items : List ClassItem) (expressions : List (List ClassPart)) (sets : List (List Range)) (k : ℕ) (expression : List ClassPart) (own : List Range)
    → AreSetsOf items expressions sets → slice_get expressions k ≡ Some expression → slice_get sets k ≡ Some own → IsSetOf items expression own
set_at items [] sets zero expression own are at there c is = absurd cc
set_at items [] sets (suc k) expression own are at there c is = absurd cc
set_at items (e ∷ expressions) [] zero expression own are at there c is = absurd cc
set_at items (e ∷ expressions) [] (suc k) expression own are at there c is = absurd cc
set_at items (e ∷ expressions) (s ∷ sets) zero expression own are at there c is =
    let same : e ≡ expression = cc in
    let this : s ≡ own = cc in
    let first : has s c ≡ has_character items e c = cc (are c is) in
    ap (λ x. has x c) (sym this) ∙ (first ∙ ap (λ x. has_character items x c) same)
set_at items (e ∷ expressions) (s ∷ sets) (suc k) expression own are at there c is =
    set_at items expressions sets k expression own (λ b below. let e = are b below in cc) at there c is

-- ---- making them

-- one element more has its set
pub sets-next : {X : Type 0} (f : X → List ClassPart) (classes : List (List Range)) (xs : List X) (n : ℕ) (x : X) (sets : List (List Range)) (own : List Range)
    → n < length xs → x ≡ get_or xs n x → AreSetsBy classes (map f (take n xs)) sets → IsSetBy classes (f x) own
    → AreSetsBy classes (map f (take (n + 1) xs)) (sets ++ own ∷ [])
sets-next f classes xs n x sets own within is before here = λ c scalar.
    let has_it = λ (expression : List ClassPart). is_member (answers_of classes c) expression c in
    let next : take (n + 1) xs ≡ take n xs ++ x ∷ [] = take_more xs n x within ∙ ap (λ y. take n xs ++ y ∷ []) (sym is) in
    let made = map-append (λ (s : List Range). has s c) sets (own ∷ []) in
    let wanted = map-append f (take n xs) (x ∷ []) in
    let wanted' = map-append has_it (map f (take n xs)) (f x ∷ []) in
    let these = before c scalar in
    let this = here c scalar in
    rw (next, made, wanted, wanted', these, this) refl

-- all elements have theirs, once none is left
pub sets-all : {X : Type 0} (f : X → List ClassPart) (classes : List (List Range)) (xs : List X) (n : ℕ) (sets : List (List Range))
    → length xs ≤ n → AreSetsBy classes (map f (take n xs)) sets → AreSetsBy classes (map f xs) sets
sets-all f classes xs n sets past are =
    let whole : take n xs ≡ xs = take_all n xs past in
    subst (λ ys. AreSetsBy classes (map f ys) sets) whole are

-- two expressions
pub both_are : (classes : List (List Range)) (e f : List ClassPart) (s t : List Range) → IsSetBy classes e s → IsSetBy classes f t
    → AreSetsBy classes (e ∷ f ∷ []) (s ∷ t ∷ [])
both_are classes e f s t first second c is =
    let one = first c is in
    let other = second c is in
    rw (one, other) refl

-- no expression has no character
pub none_has : (classes : List (List Range)) (none set : List Range) → ((c : ℕ) → IsScalar c → has none c ≡ false) → set ≡ none → IsSetBy classes [] set
none_has classes none set has_none same c is = ap (λ s. has s c) same ∙ has_none c is

-- by what is answered for the class items
pub sets_of : (items : List ClassItem) (classes : List (List Range)) (expressions : List (List ClassPart)) (sets : List (List Range))
    → AreItemSets items classes → AreSetsBy classes expressions sets → AreSetsOf items expressions sets
sets_of items classes expressions sets are by c is =
    by c is ∙ ap (λ answers. map (λ expression. is_member answers expression c) expressions) (are c is)
