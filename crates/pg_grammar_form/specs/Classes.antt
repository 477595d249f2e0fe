-- What class expressions mean. Their atoms, complements and unions stand in preorder.
use Rattle.std.specs.Prelude.{◌≤◌, ℕ, zero, suc, Bool, false, not, ◌&&◌, ◌||◌, ◌==◌, nat_le, nat_lt, List, [], ◌∷◌, length, map, take, drop}
use Rattle.std.specs.List.{list_any, AllByRecursion}
use Rattle.std.specs.Str.{chars}
use Rattle.pg_class.specs.Ranges.{has}
use Rattle.pg_grammar_form.specs.Preorder.{SpellForms}
use Rattle.pg_grammar_form.specs.declared.class.ClassPart.{ClassPart}
use Rattle.pg_grammar_form.specs.declared.class.ClassPart.TheVariants.{Literal, Range, Union, Complement, Class, Predicate}

-- ---- membership

-- whether one of these is true
abbrev pub one_holds : List Bool → Bool
one_holds [] = false
one_holds (b ∷ bs) = b || one_holds bs

-- these, with the first negated
abbrev pub first_negated : List Bool → List Bool
first_negated [] = []
first_negated (b ∷ bs) = not b ∷ bs

-- the answer at an index
abbrev pub answer_at : List Bool → ℕ → Bool
answer_at [] k = false
answer_at (b ∷ bs) zero = b
answer_at (b ∷ bs) (suc k) = answer_at bs k

-- for each whole expression that the parts spell, from left to right, whether it has the character. A literal has its characters, a range those
-- between its ends, a union those of its members, a complement those that the next expression lacks, a class item what `items` answers for it, and a
-- predicate those of its class.
abbrev pub memberships : List Bool → List ClassPart → ℕ → List Bool
memberships items [] c = []
memberships items (Literal s ∷ parts) c = list_any (λ x. x == c) s ∷ memberships items parts c
memberships items (Range low high ∷ parts) c = (nat_le low c && nat_le c high) ∷ memberships items parts c
memberships items (Union n ∷ parts) c = one_holds (take n (memberships items parts c)) ∷ drop n (memberships items parts c)
memberships items (Complement ∷ parts) c = first_negated (memberships items parts c)
memberships items (Class k ∷ parts) c = answer_at items k ∷ memberships items parts c
memberships items (Predicate used ∷ parts) c = has used.class c ∷ memberships items parts c

-- whether the expression has the character, given the answer for each class item
abbrev pub is_member : List Bool → List ClassPart → ℕ → Bool
is_member items parts c = one_holds (take 1 (memberships items parts c))

-- ---- whole expressions

-- how many expressions are the members of a part
abbrev pub member_count : ClassPart → ℕ
member_count (Literal s) = 0
member_count (Range low high) = 0
member_count (Union n) = n
member_count Complement = 1
member_count (Class k) = 0
member_count (Predicate used) = 0

-- a union has at least two members
abbrev pub IsProperUnion : ClassPart → Type 0
IsProperUnion (Literal s) = Unit {0}
IsProperUnion (Range low high) = Unit {0}
IsProperUnion (Union n) = 2 ≤ n
IsProperUnion Complement = Unit {0}
IsProperUnion (Class k) = Unit {0}
IsProperUnion (Predicate used) = Unit {0}

-- the parts make up one whole expression
pub record IsExpression (parts : List ClassPart) : Type 0 where
  pub whole : SpellForms 1 (map member_count parts)
  pub unions : AllByRecursion IsProperUnion parts

-- ---- checks of a part

-- whether a range descends
abbrev pub descends : ClassPart → Bool
descends (Literal s) = false
descends (Range low high) = nat_lt high low
descends (Union n) = false
descends Complement = false
descends (Class k) = false
descends (Predicate used) = false

-- whether a literal has more than 1,024 characters, or a predicate's name has more than 64
abbrev pub is_long : ClassPart → Bool
is_long (Literal s) = nat_lt 1024 (length s)
is_long (Range low high) = false
is_long (Union n) = false
is_long Complement = false
is_long (Class k) = false
is_long (Predicate used) = nat_lt 64 (length (chars used.name))

-- whether a part names a class item other than the first `count`
abbrev pub lacks_item : ℕ → ClassPart → Bool
lacks_item count (Literal s) = false
lacks_item count (Range low high) = false
lacks_item count (Union n) = false
lacks_item count Complement = false
lacks_item count (Class k) = nat_le count k
lacks_item count (Predicate used) = false
