-- What the classes on a stack have.
use Rattle.std.proofs.Common.{◌≡◌, ℕ, zero, suc, ◌≤◌, Bool, false, ◌||◌, ◌&&◌, List, [], ◌∷◌, ◌++◌, Some, slice_get, length, map, take, drop, nat_le, refl, sym, ap, ◌∙◌, arith, inl, inr}
use Rattle.std.specs.Prelude.{◌==◌, All}
use Rattle.std.specs.List.{list_any}
use Rattle.std.proofs.Math.Bool.{or_assoc, or-false}
use Rattle.std.proofs.lemmas.Bool.{cases_order, eq-eqb, ne_eqb, le-leb, lt-leb, and_left, and_right, and_from}
use Rattle.std.proofs.lemmas.List.Elements.{All-nil, All-cons}
use Rattle.pg_class.specs.Ranges.{Range, has, in_range}
use Rattle.pg_grammar_form.specs.Classes.{memberships, one_holds, first_negated, answer_at}
use Rattle.pg_grammar_form.specs.declared.class.ClassPart.{ClassPart}
use Rattle.pg_grammar_form.specs.declared.class.ClassPart.TheVariants as part
use Rattle.pg_grammar_classes.specs.Classes.{answers_of, with_part, with_parts}

-- all parts on an empty stack are the whole expressions that they spell
pub parts_on_none : (items : List Bool) (c : ℕ) (parts : List ClassPart) → with_parts items c parts [] ≡ memberships items parts c
parts_on_none items c [] = refl
parts_on_none items c (part.Literal s ∷ ps) = ap (λ as_answers. list_any (λ x. x == c) s ∷ as_answers) (parts_on_none items c ps)
parts_on_none items c (part.Range low high ∷ ps) = ap (λ answers. (nat_le low c && nat_le c high) ∷ answers) (parts_on_none items c ps)
parts_on_none items c (part.Union n ∷ ps) = ap (λ answers. one_holds (take n answers) ∷ drop n answers) (parts_on_none items c ps)
parts_on_none items c (part.Complement ∷ ps) = ap first_negated (parts_on_none items c ps)
parts_on_none items c (part.Class k ∷ ps) = ap (λ answers. answer_at items k ∷ answers) (parts_on_none items c ps)
parts_on_none items c (part.Predicate used ∷ ps) = ap (λ answers. has used.class c ∷ answers) (parts_on_none items c ps)

-- the last part first
pub parts_last : (items : List Bool) (c : ℕ) (before : List ClassPart) (p : ClassPart) (answers : List Bool)
    → with_parts items c (before ++ p ∷ []) answers ≡ with_parts items c before (with_part items c p answers)
parts_last items c [] p answers = refl
parts_last items c (q ∷ before) p answers = ap (with_part items c q) (parts_last items c before p answers)

-- what is answered for a class item
pub answer_there : (classes : List (List Range)) (k c : ℕ) (class : List Range) → slice_get classes k ≡ Some class → answer_at (answers_of classes c) k ≡ has class c
answer_there [] zero c class e = absurd cc
answer_there [] (suc k) c class e = absurd cc
answer_there (x ∷ xs) zero c class e = let same : x ≡ class = cc in ap (λ y. has y c) same
answer_there (x ∷ xs) (suc k) c class e = answer_there xs k c class e

pub answer_past : (classes : List (List Range)) (k c : ℕ) → length classes ≤ k → answer_at (answers_of classes c) k ≡ false
answer_past [] zero c past = refl
answer_past [] (suc k) c past = refl
answer_past (x ∷ xs) zero c past = absurd (omega arith)
answer_past (x ∷ xs) (suc k) c past = let less : length xs ≤ k = omega arith in answer_past xs k c less

-- the first class out
pub answers_after_first : (classes : List (List Range)) (c : ℕ) → answers_of (drop 1 classes) c ≡ drop 1 (answers_of classes c)
answers_after_first [] c = refl
answers_after_first (x ∷ xs) c = refl

-- each character as a range of its own
pub alone_has : (x c : ℕ) → in_range c (x, x) ≡ (x == c)
alone_has x c =
    elim (cases_order x c) [
      | inl same ↦ and_from (nat_le x c) (nat_le c x) (le-leb x c (omega arith)) (le-leb c x (omega arith)) ∙ sym (eq-eqb x c same)
      | inr differ ↦
          elim differ [
            | inl less ↦ and_right (nat_le x c) (nat_le c x) (lt-leb c x less) ∙ sym (ne_eqb x c (λ e. omega arith))
            | inr more ↦ and_left (nat_le x c) (nat_le c x) (lt-leb x c more) ∙ sym (ne_eqb x c (λ e. omega arith))
          ]
    ]

pub alone_have : (characters : List ℕ) (c : ℕ) → has (map (λ x. (x, x)) characters) c ≡ list_any (λ x. x == c) characters
alone_have [] c = refl
alone_have (x ∷ xs) c = ap (λ b. b || has (map (λ y. (y, y)) xs) c) (alone_has x c) ∙ ap (λ b. (x == c) || b) (alone_have xs c)

pub alone_ascend : (characters : List ℕ) → All (λ (range : Range). range.0 ≤ range.1) (map (λ (x : ℕ). (x, x)) characters)
alone_ascend [] = All-nil (λ (range : Range). range.0 ≤ range.1)
alone_ascend (x ∷ xs) = All-cons (λ (range : Range). range.0 ≤ range.1) (x, x) (map (λ (y : ℕ). (y, y)) xs) (omega arith) (alone_ascend xs)

-- ---- a union

-- one of these has a character, with one more
pub any_more : (classes : List (List Range)) (class : List Range) (c : ℕ)
    → list_any (λ one. has one c) (classes ++ class ∷ []) ≡ (list_any (λ one. has one c) classes || has class c)
any_more [] class c = or-false (has class c)
any_more (x ∷ xs) class c =
    ap (λ b. has x c || b) (any_more xs class c) ∙ sym (or_assoc (has x c) (list_any (λ one. has one c) xs) (has class c))

pub drop_further : {X : Type 0} (k : ℕ) (xs : List X) → drop 1 (drop k xs) ≡ drop (suc k) xs
drop_further zero xs = refl
drop_further (suc k) [] = refl
drop_further (suc k) (x ∷ xs) = drop_further k xs

pub one_further : (k : ℕ) (bs : List Bool) → (one_holds (take k bs) || one_holds (take 1 (drop k bs))) ≡ one_holds (take (suc k) bs)
one_further zero [] = refl
one_further zero (b ∷ bs) = refl
one_further (suc k) [] = refl
one_further (suc k) (b ∷ bs) = or_assoc b (one_holds (take k bs)) (one_holds (take 1 (drop k bs))) ∙ ap (λ x. b || x) (one_further k bs)
