-- What is known while a class expression is read.
use Rattle.std.specs.Prelude.{◌≡◌, ℕ, Bool, true, false, if◌then◌else◌, List, [], ◌∷◌, Option, Some, slice_get}
use Rattle.pg_grammar_form.specs.Classes.{first_negated, answer_at}
use Rattle.pg_grammar_form.specs.ClassItems.{item_answers}
use Rattle.pg_grammar_form.specs.declared.class.ClassPart.{ClassPart}
use Rattle.pg_grammar_form.specs.declared.class.ClassPart.TheVariants.{Literal, Range, Union, Complement, Class, Predicate}
use Rattle.pg_grammar_form.specs.declared.class_item.ClassItem.{ClassItem}

-- these, with the first negated or not
abbrev pub negated_if : Bool → List Bool → List Bool
negated_if negated bs = if negated then first_negated bs else bs

-- whether the first part is a complement
abbrev pub starts_with_complement : List ClassPart → Bool
starts_with_complement [] = false
starts_with_complement (Literal s ∷ parts) = false
starts_with_complement (Range low high ∷ parts) = false
starts_with_complement (Union n ∷ parts) = false
starts_with_complement (Complement ∷ parts) = true
starts_with_complement (Class k ∷ parts) = false
starts_with_complement (Predicate used ∷ parts) = false

-- the part has its characters by itself, without other parts or class items
abbrev pub IsAtom : ClassPart → Type 0
IsAtom (Literal s) = Unit {0}
IsAtom (Range low high) = Unit {0}
IsAtom (Union n) = ⊥
IsAtom Complement = ⊥
IsAtom (Class k) = ⊥
IsAtom (Predicate used) = Unit {0}

-- each answer noted for a class item is that item's
abbrev pub Knows : List ClassItem → ℕ → List (Option Bool) → Type 0
Knows items c noted = (k : ℕ) (has : Bool) → slice_get noted k ≡ Some (Some has) → has ≡ answer_at (item_answers items c) k
