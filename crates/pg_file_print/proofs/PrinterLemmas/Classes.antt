-- The parts of a class expression are printed as the tree says.
use Rattle.std.proofs.Common.{◌≡◌, ◌≤◌, ◌<◌, ℕ, zero, suc, ◌+◌, List, [], ◌∷◌, ◌++◌, length, take, drop, map, refl, sym, ap, subst, ◌∙◌, arith}
use Rattle.std.proofs.lemmas.List.{length-drop}
use Rattle.pg_grammar_form.specs.Names as names
use Rattle.pg_grammar_form.specs.Preorder.{SpellForms}
use Rattle.pg_grammar_form.specs.Classes.{member_count, IsProperUnion}
use Rattle.pg_grammar_form.specs.declared.class.ClassPart.{ClassPart}
use Rattle.pg_grammar_form.specs.declared.class.ClassPart.TheVariants as part
use Rattle.pg_file_tokens.specs.declared.token.Mark.TheVariants.{Open, Close, Bar}
use Rattle.pg_file_print.specs.declared.levels.Ending.TheVariants.{Nothing}
use Rattle.pg_file_print.specs.declared.levels.Level.{Level}
use Rattle.pg_file_tokens.specs.Tokens.{Token, mark}
use Rattle.pg_file_items.specs.Tree.{Atom, Group}
use Rattle.pg_file_items.specs.Syntax.{atom_written, class_written, atoms_written}
use Rattle.pg_file_print.specs.Canonical.{atoms_from, union_of, atom_of, atoms_of, class_from}
use Rattle.pg_file_print.specs.Levels.{closing, entered, coming, needed, part_piece, first_piece, levels_after}
use Rattle.pg_file_print.proofs.PrinterLemmas.Nested.{after, more_is, IsWrittenBy, step_counted, entered_spelled}

-- as many atoms as whole expressions
pub atoms_counted : (items : List names.Name) (j : ℕ) (parts : List ClassPart) → SpellForms j (map member_count parts) → length (atoms_of items parts) ≡ j
atoms_counted items j [] h = sym h
atoms_counted items zero (p ∷ parts) h = absurd h
atoms_counted items (suc j) (p ∷ parts) h =
    let others = atoms_counted items (member_count p + j) parts h in
    let dropped = length-drop (member_count p) (atoms_of items parts) in
    omega (arith, others, dropped)

others_written : (others : List Atom) (rest : List Token) → atoms_written (atoms_from others) rest ≡ after atom_written Bar others rest
others_written [] rest = refl
others_written (a ∷ others) rest = ap (λ (ts : List Token). mark Bar ∷ atom_written a ts) (others_written others rest)

count_is : (items : List names.Name) (p : ClassPart) → (part_piece items p).count ≡ member_count p
count_is items (part.Literal s) = refl
count_is items (part.Range low high) = refl
count_is items (part.Union n) = refl
count_is items part.Complement = refl
count_is items (part.Class k) = refl
count_is items (part.Predicate used) = refl

union_written : (items : List names.Name) (n : ℕ) (members : List Atom) → 2 ≤ n → n ≤ length members
    → IsWrittenBy atom_written (part_piece items (part.Union n)) (Group (union_of (take n members))) members
union_written items zero members h e rest = absurd (omega (arith, h))
union_written items (suc n) [] h e rest = absurd (omega (arith, e))
union_written items (suc n) (a ∷ members) h e rest = ap (λ (ts : List Token). mark Open ∷ atom_written a ts) (others_written (take n members) (mark Close ∷ rest))

part_written : (items : List names.Name) (p : ClassPart) (members : List Atom) → IsProperUnion p → member_count p ≤ length members
    → IsWrittenBy atom_written (part_piece items p) (atom_of items p (take (member_count p) members)) members
part_written items (part.Literal s) members h e rest = refl
part_written items (part.Range low high) members h e rest = refl
part_written items (part.Union n) members h e rest = union_written items n members h e rest
part_written items part.Complement [] h e rest = absurd (omega (arith, e))
part_written items part.Complement (a ∷ members) h e rest = refl
part_written items (part.Class k) members h e rest = refl
part_written items (part.Predicate used) members h e rest = refl

-- a part before the others
pub part_step : (items : List names.Name) (levels : List Level) (p : ClassPart) (parts : List ClassPart) → IsProperUnion p → SpellForms (needed levels) (map member_count (p ∷ parts))
    → ((part_piece items p).front ++ closing (part_piece items p).count (part_piece items p).ending levels) ++ coming atom_written (levels_after (part_piece items p) levels) (atoms_of items parts)
    ≡ coming atom_written levels (atoms_of items (p ∷ parts))
part_step items levels p parts proper h =
    let all : suc (length (drop (member_count p) (atoms_of items parts))) ≡ needed levels = atoms_counted items (needed levels) (p ∷ parts) h in
    let few : needed levels ≤ suc (length (drop (member_count p) (atoms_of items parts))) = omega (arith, all) in
    let some : 0 < needed levels = omega (arith, all) in
    let enough : member_count p ≤ length (atoms_of items parts) = enough_members levels h in
    step_counted atom_written (part_piece items p) (member_count p) levels (atom_of items p (take (member_count p) (atoms_of items parts))) (atoms_of items parts) (count_is items p)
    (part_written items p (atoms_of items parts) proper enough) few enough some
  where
    enough_members : (levels : List Level) → SpellForms (needed levels) (map member_count (p ∷ parts)) → member_count p ≤ length (atoms_of items parts)
    enough_members [] h = absurd h
    enough_members (level ∷ levels) h =
        let is = atoms_counted items _ parts h in omega (arith, is)

pub part_spelled : (items : List names.Name) (levels : List Level) (p : ClassPart) (parts : List ClassPart) → SpellForms (needed levels) (map member_count (p ∷ parts))
    → SpellForms (needed (levels_after (part_piece items p) levels)) (map member_count parts)
part_spelled items levels p parts h =
    entered_spelled (part_piece items p).count _ _ levels (map member_count parts) (subst (λ (k : ℕ). SpellForms (needed levels) (k ∷ map member_count parts)) (sym (count_is items p)) h)

-- ---- the whole expression

-- the level of the whole
abbrev pub root : List Level
root = record { left = 0; separator = Bar; ending = Nothing } ∷ []

union_whole : (items : List names.Name) (n : ℕ) (members : List Atom) → 2 ≤ n → n ≤ length members
    → ([] ++ closing n Nothing root) ++ coming atom_written (entered n Bar Nothing root) members ≡ class_written (union_of (take n members)) []
union_whole items zero members h e = absurd (omega (arith, h))
union_whole items (suc n) [] h e = absurd (omega (arith, e))
union_whole items (suc n) (a ∷ members) h e =
    let fewer : n ≤ length members = omega (arith, e) in
    ap (λ (ts : List Token). atom_written a ts) (more_is atom_written (λ rest. []) Bar n members fewer ∙ sym (others_written (take n members) []))

pub whole_written : (items : List names.Name) (p : ClassPart) (parts : List ClassPart) → IsProperUnion p → SpellForms 1 (map member_count (p ∷ parts))
    → ((first_piece items p).front ++ closing (first_piece items p).count (first_piece items p).ending root) ++ coming atom_written (levels_after (first_piece items p) root) (atoms_of items parts)
    ≡ class_written (class_from items (p ∷ parts)) []
whole_written items (part.Literal s) parts proper h = part_step items root (part.Literal s) parts proper h
whole_written items (part.Range low high) parts proper h = part_step items root (part.Range low high) parts proper h
whole_written items (part.Union n) parts proper h =
    let is = atoms_counted items _ parts h in
    let enough : n ≤ length (atoms_of items parts) = omega (arith, is) in
    union_whole items n (atoms_of items parts) proper enough
whole_written items part.Complement parts proper h = part_step items root part.Complement parts proper h
whole_written items (part.Class k) parts proper h = part_step items root (part.Class k) parts proper h
whole_written items (part.Predicate used) parts proper h = part_step items root (part.Predicate used) parts proper h

first_count : (items : List names.Name) (p : ClassPart) → (first_piece items p).count ≡ member_count p
first_count items (part.Literal s) = refl
first_count items (part.Range low high) = refl
first_count items (part.Union n) = refl
first_count items part.Complement = refl
first_count items (part.Class k) = refl
first_count items (part.Predicate used) = refl

pub first_spelled : (items : List names.Name) (p : ClassPart) (parts : List ClassPart) → SpellForms 1 (map member_count (p ∷ parts))
    → SpellForms (needed (levels_after (first_piece items p) root)) (map member_count parts)
first_spelled items p parts h =
    entered_spelled (first_piece items p).count _ _ root (map member_count parts) (subst (λ (k : ℕ). SpellForms 1 (k ∷ map member_count parts)) (sym (first_count items p)) h)
