-- The classes of class expressions, as a stack of the whole expressions that the parts spell from the right.
use Rattle.std.specs.Prelude.{◌&&◌, ◌==◌, ℕ, Bool, nat_le, List, [], ◌∷◌, map, take, drop}
use Rattle.std.specs.List.{list_any}
use Rattle.pg_class.specs.Ranges.{Range, has}
use Rattle.pg_grammar_form.specs.Classes.{first_negated, one_holds, answer_at}
use Rattle.pg_grammar_form.specs.declared.class.ClassPart.{ClassPart}
use Rattle.pg_grammar_form.specs.declared.class.ClassPart.TheVariants as part

-- for each class whether it has the character
abbrev pub answers_of : List (List Range) → ℕ → List Bool
answers_of classes c = map (λ class. has class c) classes

-- the stack of answers with one part more, given the answer for each class item
abbrev pub with_part : List Bool → ℕ → ClassPart → List Bool → List Bool
with_part items c (part.Literal s) answers = list_any (λ x. x == c) s ∷ answers
with_part items c (part.Range low high) answers = (nat_le low c && nat_le c high) ∷ answers
with_part items c (part.Union n) answers = one_holds (take n answers) ∷ drop n answers
with_part items c part.Complement answers = first_negated answers
with_part items c (part.Class k) answers = answer_at items k ∷ answers
with_part items c (part.Predicate used) answers = has used.class c ∷ answers

-- the stack with these parts more, from the last to the first
abbrev pub with_parts : List Bool → ℕ → List ClassPart → List Bool → List Bool
with_parts items c [] answers = answers
with_parts items c (p ∷ ps) answers = with_part items c p (with_parts items c ps answers)
