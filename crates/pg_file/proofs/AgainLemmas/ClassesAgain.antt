-- The class expression that is printed means the parts again that it was made of.
use Rattle.std.proofs.Common.{◌≡◌, ◌≤◌, ℕ, zero, suc, ◌+◌, List, [], ◌∷◌, ◌++◌, length, take, drop, map, refl, sym, ap, ◌∙◌, append_assoc, arith}
use Rattle.std.proofs.lemmas.List.{append-nil, length-map, length-take-le, map-append, take-append-drop}
use Rattle.std.specs.List.{AllByRecursion}
use Rattle.pg_pred.specs.Offer.{Offer}
use Rattle.pg_grammar_form.specs.Names as names
use Rattle.pg_grammar_form.specs.Preorder.{SpellForms}
use Rattle.pg_grammar_form.specs.Classes.{member_count, IsProperUnion, IsExpression}
use Rattle.pg_grammar_form.specs.declared.class.ClassPart.{ClassPart}
use Rattle.pg_grammar_form.specs.declared.class.ClassPart.TheVariants as part
use Rattle.pg_file_items.specs.Tree.{Atom, Set, Range, Name, Not, Group}
use Rattle.pg_file_items.specs.Joined.{joined}
use Rattle.pg_file_meaning.specs.Meaning.{atom_meant, class_meant, atoms_meant}
use Rattle.pg_file_print.specs.Canonical.{atoms_from, union_of, first_atom, atom_of, atoms_of, whole_class, class_from}
use Rattle.pg_file.proofs.AgainLemmas.PrintedNames.{IsNamed}
use Rattle.pg_file_print.proofs.PrinterLemmas.Classes.{atoms_counted}

-- ---- one part

all_meant_again : (offer : Offer) (above : List names.Name) (others : List Atom) → atoms_meant offer above (atoms_from others) ≡ map (atom_meant offer above) others
all_meant_again offer above [] = refl
all_meant_again offer above (a ∷ others) = ap (λ (l : List (List ClassPart)). atom_meant offer above a ∷ l) (all_meant_again offer above others)

union_again : (offer : Offer) (above : List names.Name) (n : ℕ) (members : List Atom) → 2 ≤ n → length members ≡ n
    → class_meant offer above (union_of members) ≡ part.Union n ∷ joined (map (atom_meant offer above) members)
union_again offer above n [] h e = absurd (omega (arith, h, e))
union_again offer above n (a ∷ []) h e = absurd (omega (arith, h, e))
union_again offer above n (a ∷ b ∷ others) h e =
    let same = all_meant_again offer above others in
    let counted : length (map (atom_meant offer above) others) ≡ length others = length-map others (atom_meant offer above) in
    let many : suc (suc (length (map (atom_meant offer above) others))) ≡ n = omega (arith, counted, e) in
    ap (λ (l : List (List ClassPart)). part.Union (suc (suc (length l))) ∷ (atom_meant offer above a ++ (atom_meant offer above b ++ joined l))) same
    ∙ ap (λ (m : ℕ). part.Union m ∷ (atom_meant offer above a ++ (atom_meant offer above b ++ joined (map (atom_meant offer above) others)))) many

part_again : (offer : Offer) (items above : List names.Name) (p : ClassPart) (members : List Atom) → IsProperUnion p → IsNamed offer items above p → length members ≡ member_count p
    → atom_meant offer above (atom_of items p members) ≡ p ∷ joined (map (atom_meant offer above) members)
part_again offer items above (part.Literal s) [] proper named e = refl
part_again offer items above (part.Literal s) (a ∷ members) proper named e = absurd (omega (arith, e))
part_again offer items above (part.Range low high) [] proper named e = refl
part_again offer items above (part.Range low high) (a ∷ members) proper named e = absurd (omega (arith, e))
part_again offer items above (part.Union n) members proper named e = union_again offer above n members proper e
part_again offer items above part.Complement [] proper named e = absurd (omega (arith, e))
part_again offer items above part.Complement (a ∷ []) proper named e = ap (λ (l : List ClassPart). part.Complement ∷ l) (sym (append-nil (atom_meant offer above a)))
part_again offer items above part.Complement (a ∷ b ∷ members) proper named e = absurd (omega (arith, e))
part_again offer items above (part.Class k) [] proper named e = ap (λ (p : ClassPart). p ∷ []) named
part_again offer items above (part.Class k) (a ∷ members) proper named e = absurd (omega (arith, e))
part_again offer items above (part.Predicate used) [] proper named e = ap (λ (p : ClassPart). p ∷ []) named
part_again offer items above (part.Predicate used) (a ∷ members) proper named e = absurd (omega (arith, e))

-- ---- all parts

pub joined_both : {A : Type 0} (xs ys : List (List A)) → joined (xs ++ ys) ≡ joined xs ++ joined ys
joined_both [] ys = refl
joined_both (x ∷ xs) ys = ap (λ (l : List _). x ++ l) (joined_both xs ys) ∙ sym (append_assoc x (joined xs) (joined ys))

-- lists of some atoms and of the others, one after another
split_again : (offer : Offer) (above : List names.Name) (n : ℕ) (atoms : List Atom)
    → joined (map (atom_meant offer above) (take n atoms)) ++ joined (map (atom_meant offer above) (drop n atoms)) ≡ joined (map (atom_meant offer above) atoms)
split_again offer above n atoms =
    let am = atom_meant offer above in
    sym (joined_both (map am (take n atoms)) (map am (drop n atoms)))
    ∙ ap (λ (l : List (List ClassPart)). joined l) (sym (map-append am (take n atoms) (drop n atoms)) ∙ ap (map am) (take-append-drop n atoms))

parts_again : (offer : Offer) (items above : List names.Name) (j : ℕ) (parts : List ClassPart) → SpellForms j (map member_count parts) → AllByRecursion IsProperUnion parts
    → AllByRecursion (IsNamed offer items above) parts → joined (map (atom_meant offer above) (atoms_of items parts)) ≡ parts
parts_again offer items above j [] h proper named = refl
parts_again offer items above zero (p ∷ parts) h proper named = absurd h
parts_again offer items above (suc j) (p ∷ parts) h proper named =
    let atoms = atoms_of items parts in
    let k = member_count p in
    let counted : length atoms ≡ k + j = atoms_counted items (k + j) parts h in
    let enough : k ≤ length atoms = omega (arith, counted) in
    let rest = parts_again offer items above (k + j) parts h proper.1 named.1 in
    ap (λ (l : List ClassPart). l ++ joined (map (atom_meant offer above) (drop k atoms))) (part_again offer items above p (take k atoms) proper.0 named.0 (length-take-le k atoms enough))
    ∙ ap (λ (l : List ClassPart). p ∷ l) (split_again offer above k atoms ∙ rest)

whole_again : (offer : Offer) (above : List names.Name) (a : Atom) → class_meant offer above (whole_class a) ≡ atom_meant offer above a
whole_again offer above (Set s) = refl
whole_again offer above (Range low high) = refl
whole_again offer above (Name s) = refl
whole_again offer above (Not a) = refl
whole_again offer above (Group c) = refl

one_atom : (offer : Offer) (above : List names.Name) (atoms : List Atom) → length atoms ≡ 1 → atom_meant offer above (first_atom atoms) ≡ joined (map (atom_meant offer above) atoms)
one_atom offer above [] h = absurd (omega (arith, h))
one_atom offer above (a ∷ []) h = sym (append-nil (atom_meant offer above a))
one_atom offer above (a ∷ b ∷ atoms) h = absurd (omega (arith, h))

-- what is printed of a class expression means it again
pub class_again : (offer : Offer) (items above : List names.Name) (parts : List ClassPart) → IsExpression parts → AllByRecursion (IsNamed offer items above) parts
    → class_meant offer above (class_from items parts) ≡ parts
class_again offer items above parts h named =
    whole_again offer above (first_atom (atoms_of items parts))
    ∙ one_atom offer above (atoms_of items parts) (atoms_counted items 1 parts h.whole)
    ∙ parts_again offer items above 1 parts h.whole h.unions named
