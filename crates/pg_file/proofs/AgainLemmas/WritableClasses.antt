-- Class expressions that a file may have: what the file's tree means is such, and is printed as such a tree again.
use Rattle.std.proofs.Common.{◌≡◌, ◌≤◌, ℕ, true, List, [], ◌∷◌, ◌++◌, take, Option, Some, None, refl, sym, subst, arith}
use Rattle.pg_file_items.proofs.ItemLemmas.Whole.{all_append}
use Rattle.std.specs.List.{AllByRecursion}
use Rattle.std.specs.Str.{chars}
use Rattle.pg_pred.specs.Offer.{Offer}
use Rattle.pg_grammar_form.specs.Names as names
use Rattle.pg_grammar_form.specs.Names.{name_at, place_of_name}
use Rattle.pg_grammar_form.specs.Classes.{member_count, IsExpression}
use Rattle.pg_grammar_form.proofs.Each.{all-take, all-drop}
use Rattle.pg_grammar_form.specs.declared.class.ClassPart.{ClassPart}
use Rattle.pg_grammar_form.specs.declared.class.ClassPart.TheVariants as part
use Rattle.pg_file_tokens.specs.declared.token.Mark.TheVariants.{Close}
use Rattle.pg_file_tokens.specs.Tokens.{Token, mark}
use Rattle.pg_file_tokens.specs.Lexical.{passes, is_name, is_scalar}
use Rattle.pg_file_items.specs.Tree.{Atom, Set, Range, Name, Not, Group, Class, Of, Atoms, No_atom, Or}
use Rattle.pg_file_items.specs.Syntax.{atom_written, class_written, atoms_written}
use Rattle.pg_file_items.specs.Proper.{IsFreeName, IsLiteral, IsProperAtom, IsProperClass, AreProperAtoms}
use Rattle.pg_file_items.specs.Heads.{atom_parts, class_parts, atoms_parts}
use Rattle.pg_file_meaning.specs.Names.{class_named, item_or_predicate, predicate_named, is_class_name, PartIsKnown, ClassIsKnown}
use Rattle.pg_file_items.specs.Joined.{joined}
use Rattle.pg_file_meaning.specs.Meaning.{atom_meant, class_meant, atoms_meant}
use Rattle.pg_file_print.specs.Canonical.{atoms_from, union_of, first_atom, atom_of, atoms_of, class_from}
use Rattle.pg_file.proofs.AgainLemmas.Printable.{ArePrintable}
use Rattle.pg_file.proofs.AgainLemmas.PrintedNames.{IsNamed, IsNamedClass}
use Rattle.pg_file_tokens.proofs.Encoded.{chars_encoded}
use Rattle.pg_file_meaning.proofs.MeaningLemmas.ProperClasses.{expression_of_class}
use Rattle.pg_file.proofs.AgainLemmas.Found.{AreFoundAgain}

-- ---- facts of the elements of lists

pub each_first : {A : Type 0} (P : A → Type 0) (xs ys : List A) → AllByRecursion P (xs ++ ys) → AllByRecursion P xs
each_first P [] ys h = tt
each_first P (x ∷ xs) ys h = (h.0, each_first P xs ys h.1)

pub each_second : {A : Type 0} (P : A → Type 0) (xs ys : List A) → AllByRecursion P (xs ++ ys) → AllByRecursion P ys
each_second P [] ys h = h
each_second P (x ∷ xs) ys h = each_second P xs ys h.1

-- ---- parts

-- a name that a file may have for this part, above which class items of these names stand
pub record IsNameOf (offer : Offer) (above : List names.Name) (s : names.Name) (p : ClassPart) : Type 0 where
  pub free : IsFreeName s
  pub name : is_name s ≡ true
  pub known : is_class_name offer above s ≡ true
  pub stands : class_named offer above s ≡ p

-- a part that a file may have there, where all class items have these names
abbrev pub IsWritablePart : Offer → (items above : List names.Name) → ClassPart → Type 0
IsWritablePart offer items above (part.Literal s) = IsLiteral s × (passes is_scalar s ≡ true)
IsWritablePart offer items above (part.Range low high) = (low ≤ high) × (passes is_scalar (low ∷ []) ≡ true) × (passes is_scalar (high ∷ []) ≡ true)
IsWritablePart offer items above (part.Union n) = Unit {0}
IsWritablePart offer items above part.Complement = Unit {0}
IsWritablePart offer items above (part.Class k) = IsNameOf offer above (name_at items k) (part.Class k)
IsWritablePart offer items above (part.Predicate used) = IsNameOf offer above (chars used.name) (part.Predicate used)

abbrev AreWritableParts : Offer → (items above : List names.Name) → List ClassPart → Type 0
AreWritableParts offer items above parts = AllByRecursion (IsWritablePart offer items above) parts

-- one whole expression of such parts
pub record IsWritableExpression (offer : Offer) (items above : List names.Name) (parts : List ClassPart) : Type 0 where
  pub whole : IsExpression parts
  pub writable : AllByRecursion (IsWritablePart offer items above) parts

-- ---- what a tree means

placed_writable : (offer : Offer) (above items : List names.Name) (s : names.Name) (place : Option ℕ) → ((k : ℕ) → place ≡ Some k → name_at items k ≡ s)
    → IsNameOf offer above s (item_or_predicate offer s place) → IsWritablePart offer items above (item_or_predicate offer s place)
placed_writable offer above items s (Some k) there h = subst (λ (t : names.Name). IsNameOf offer above t (part.Class k)) (sym (there k refl)) h
placed_writable offer above items s None there h = subst (λ (t : names.Name). IsNameOf offer above t (part.Predicate (predicate_named offer s))) (sym (chars_encoded s)) h

named_writable : (offer : Offer) (classes above items : List names.Name) → AreFoundAgain offer classes above items → (s : names.Name) → IsFreeName s → is_name s ≡ true → is_class_name offer classes s ≡ true
    → IsWritablePart offer items above (class_named offer classes s)
named_writable offer classes above items found s free name known =
    placed_writable offer above items s (place_of_name classes s) (found.there s) (record { free = free; name = name; known = found.known s known; stands = found.same s known })

mutual
  atom_writable : (offer : Offer) (classes above items : List names.Name) → AreFoundAgain offer classes above items → (a : Atom) (rest : List Token) → IsProperAtom a → ArePrintable (atom_written a rest)
      → ClassIsKnown offer classes (atom_parts a) → (AreWritableParts offer items above (atom_meant offer classes a)) × ArePrintable rest
  atom_writable offer classes above items found (Set s) rest h p k = (((h, p.0), tt), p.1)
  atom_writable offer classes above items found (Range low high) rest h p k = (((h, p.0, p.1.1.0), tt), p.1.1.1)
  atom_writable offer classes above items found (Name s) rest h p k = ((named_writable offer classes above items found s h p.0 k.0, tt), p.1)
  atom_writable offer classes above items found (Not a) rest h p k = let q = atom_writable offer classes above items found a rest h p.1 k.1 in ((tt, q.0), q.1)
  atom_writable offer classes above items found (Group c) rest h p k = let q = class_parts_writable offer classes above items found c (mark Close ∷ rest) h p.1 k in (q.0, q.1.1)

  class_parts_writable : (offer : Offer) (classes above items : List names.Name) → AreFoundAgain offer classes above items → (c : Class) (rest : List Token) → IsProperClass c → ArePrintable (class_written c rest)
      → ClassIsKnown offer classes (class_parts c) → (AreWritableParts offer items above (class_meant offer classes c)) × ArePrintable rest
  class_parts_writable offer classes above items found (Of a No_atom) rest h p k = atom_writable offer classes above items found a rest h.0 p k
  class_parts_writable offer classes above items found (Of a (Or b others)) rest h p k =
      let P = IsWritablePart offer items above in
      let one = each_first (PartIsKnown offer classes) (atom_parts a) (atom_parts b ++ atoms_parts others) k.1 in
      let more = each_second (PartIsKnown offer classes) (atom_parts a) (atom_parts b ++ atoms_parts others) k.1 in
      let first = atom_writable offer classes above items found a (atoms_written (Or b others) rest) h.0 p one in
      let second = atom_writable offer classes above items found b (atoms_written others rest) h.1.0 first.1.1 (each_first (PartIsKnown offer classes) (atom_parts b) (atoms_parts others) more) in
      let third = atoms_writable offer classes above items found others rest h.1.1 second.1 (each_second (PartIsKnown offer classes) (atom_parts b) (atoms_parts others) more) in
      let both = all_append P (atom_meant offer classes b) (joined (atoms_meant offer classes others)) second.0 third.0 in
      ((tt, all_append P (atom_meant offer classes a) (atom_meant offer classes b ++ joined (atoms_meant offer classes others)) first.0 both), third.1)

  atoms_writable : (offer : Offer) (classes above items : List names.Name) → AreFoundAgain offer classes above items → (others : Atoms) (rest : List Token) → AreProperAtoms others → ArePrintable (atoms_written others rest)
      → ClassIsKnown offer classes (atoms_parts others) → (AreWritableParts offer items above (joined (atoms_meant offer classes others))) × ArePrintable rest
  atoms_writable offer classes above items found No_atom rest h p k = (tt, p)
  atoms_writable offer classes above items found (Or a others) rest h p k =
      let one = each_first (PartIsKnown offer classes) (atom_parts a) (atoms_parts others) k in
      let more = each_second (PartIsKnown offer classes) (atom_parts a) (atoms_parts others) k in
      let first = atom_writable offer classes above items found a (atoms_written others rest) h.0 p.1 one in
      let second = atoms_writable offer classes above items found others rest h.1 first.1 more in
      (all_append (IsWritablePart offer items above) (atom_meant offer classes a) (joined (atoms_meant offer classes others)) first.0 second.0, second.1)

-- a class expression that a file has is such, and what is written after it is printable
pub class_writable : (offer : Offer) (classes above items : List names.Name) → AreFoundAgain offer classes above items → (c : Class) (rest : List Token) → IsProperClass c → ArePrintable (class_written c rest)
    → ClassIsKnown offer classes (class_parts c) → (IsWritableExpression offer items above (class_meant offer classes c)) × ArePrintable rest
class_writable offer classes above items found c rest h p k =
    let q = class_parts_writable offer classes above items found c rest h p k in
    (record { whole = expression_of_class offer classes c; writable = q.0 }, q.1)

-- ---- its names

part_named : (offer : Offer) (items above : List names.Name) (p : ClassPart) → IsWritablePart offer items above p → IsNamed offer items above p
part_named offer items above (part.Literal s) h = tt
part_named offer items above (part.Range low high) h = tt
part_named offer items above (part.Union n) h = tt
part_named offer items above part.Complement h = tt
part_named offer items above (part.Class k) h = h.stands
part_named offer items above (part.Predicate used) h = h.stands

parts_named : (offer : Offer) (items above : List names.Name) (parts : List ClassPart) → AreWritableParts offer items above parts → AllByRecursion (IsNamed offer items above) parts
parts_named offer items above [] h = tt
parts_named offer items above (p ∷ parts) h = (part_named offer items above p h.0, parts_named offer items above parts h.1)

pub class_is_named : (offer : Offer) (items above : List names.Name) (parts : List ClassPart) → IsWritableExpression offer items above parts → IsNamedClass offer items above parts
class_is_named offer items above parts h = record { whole = h.whole; named = parts_named offer items above parts h.writable }

-- ---- the tree that is printed

-- an atom that a file may have
record IsWritableAtom (offer : Offer) (above : List names.Name) (a : Atom) : Type 0 where
  proper : IsProperAtom a
  printable : (rest : List Token) → ArePrintable rest → ArePrintable (atom_written a rest)
  known : ClassIsKnown offer above (atom_parts a)

-- a class expression that it may have
pub record IsWritableClass (offer : Offer) (above : List names.Name) (c : Class) : Type 0 where
  pub proper : IsProperClass c
  pub printable : (rest : List Token) → ArePrintable rest → ArePrintable (class_written c rest)
  pub known : ClassIsKnown offer above (class_parts c)

-- atoms after another
record AreWritableAtoms (offer : Offer) (above : List names.Name) (others : Atoms) : Type 0 where
  proper : AreProperAtoms others
  printable : (rest : List Token) → ArePrintable rest → ArePrintable (atoms_written others rest)
  known : ClassIsKnown offer above (atoms_parts others)

alone : (offer : Offer) (above : List names.Name) (a : Atom) → IsWritableAtom offer above a → IsWritableClass offer above (Of a No_atom)
alone offer above a h = record { proper = (h.proper, tt); printable = h.printable; known = h.known }

grouped : (offer : Offer) (above : List names.Name) (c : Class) → IsWritableClass offer above c → IsWritableAtom offer above (Group c)
grouped offer above c h = record { proper = h.proper; printable = λ rest p. (tt, h.printable (mark Close ∷ rest) (tt, p)); known = h.known }

empty_set : (offer : Offer) (above : List names.Name) → IsWritableAtom offer above (Set [])
empty_set offer above = record { proper = omega arith; printable = λ rest p. (refl, p); known = (tt, tt) }

others_writable : (offer : Offer) (above : List names.Name) (others : List Atom) → AllByRecursion (IsWritableAtom offer above) others → AreWritableAtoms offer above (atoms_from others)
others_writable offer above [] h = record { proper = tt; printable = λ rest p. p; known = tt }
others_writable offer above (a ∷ others) h =
    let more = others_writable offer above others h.1 in
    record {
      proper = (h.0.proper, more.proper);
      printable = λ rest p. (tt, h.0.printable (atoms_written (atoms_from others) rest) (more.printable rest p));
      known = all_append (PartIsKnown offer above) (atom_parts a) (atoms_parts (atoms_from others)) h.0.known more.known;
    }

union_writable : (offer : Offer) (above : List names.Name) (atoms : List Atom) → AllByRecursion (IsWritableAtom offer above) atoms → IsWritableClass offer above (union_of atoms)
union_writable offer above [] h = alone offer above (Set []) (empty_set offer above)
union_writable offer above (a ∷ []) h = alone offer above a h.0
union_writable offer above (a ∷ b ∷ others) h =
    let more = others_writable offer above (b ∷ others) h.1 in
    record {
      proper = (h.0.proper, more.proper);
      printable = λ rest p. h.0.printable (atoms_written (atoms_from (b ∷ others)) rest) (more.printable rest p);
      known = (tt, all_append (PartIsKnown offer above) (atom_parts a) (atoms_parts (atoms_from (b ∷ others))) h.0.known more.known);
    }

complement_writable : (offer : Offer) (above : List names.Name) (atoms : List Atom) → AllByRecursion (IsWritableAtom offer above) atoms → IsWritableAtom offer above (Not (first_atom atoms))
complement_writable offer above [] h = record { proper = (empty_set offer above).proper; printable = λ rest p. (refl, (refl, p)); known = (tt, (tt, tt)) }
complement_writable offer above (a ∷ atoms) h = record { proper = h.0.proper; printable = λ rest p. (refl, h.0.printable rest p); known = (tt, h.0.known) }

name_writable : (offer : Offer) (above : List names.Name) (s : names.Name) (p : ClassPart) → IsNameOf offer above s p → IsWritableAtom offer above (Name s)
name_writable offer above s p h = record { proper = h.free; printable = λ rest q. (h.name, q); known = (h.known, tt) }

part_writable : (offer : Offer) (items above : List names.Name) (p : ClassPart) (members : List Atom) → IsWritablePart offer items above p → AllByRecursion (IsWritableAtom offer above) members
    → IsWritableAtom offer above (atom_of items p members)
part_writable offer items above (part.Literal s) members h e = record { proper = h.0; printable = λ rest p. (h.1, p); known = (tt, tt) }
part_writable offer items above (part.Range low high) members h e = record { proper = h.0; printable = λ rest p. (h.1, (tt, (h.2, p))); known = (tt, tt) }
part_writable offer items above (part.Union n) members h e = grouped offer above (union_of members) (union_writable offer above members e)
part_writable offer items above part.Complement members h e = complement_writable offer above members e
part_writable offer items above (part.Class k) members h e = name_writable offer above (name_at items k) (part.Class k) h
part_writable offer items above (part.Predicate used) members h e = name_writable offer above (chars used.name) (part.Predicate used) h

parts_writable : (offer : Offer) (items above : List names.Name) (parts : List ClassPart) → AreWritableParts offer items above parts → AllByRecursion (IsWritableAtom offer above) (atoms_of items parts)
parts_writable offer items above [] h = tt
parts_writable offer items above (p ∷ parts) h =
    let others = parts_writable offer items above parts h.1 in
    let P = IsWritableAtom offer above in
    (part_writable offer items above p (take (member_count p) (atoms_of items parts)) h.0 (all-take P (member_count p) (atoms_of items parts) others), all-drop P (member_count p) (atoms_of items parts) others)

-- what is printed of such an expression
pub printed_class_writable : (offer : Offer) (items above : List names.Name) (parts : List ClassPart) → AllByRecursion (IsWritablePart offer items above) parts → IsWritableClass offer above (class_from items parts)
printed_class_writable offer items above [] h = alone offer above (Set []) (empty_set offer above)
printed_class_writable offer items above (part.Literal s ∷ parts) h = alone offer above (Set s) (parts_writable offer items above (part.Literal s ∷ parts) h).0
printed_class_writable offer items above (part.Range low high ∷ parts) h = alone offer above (Range low high) (parts_writable offer items above (part.Range low high ∷ parts) h).0
printed_class_writable offer items above (part.Union n ∷ parts) h =
    union_writable offer above (take n (atoms_of items parts)) (all-take (IsWritableAtom offer above) n (atoms_of items parts) (parts_writable offer items above parts h.1))
printed_class_writable offer items above (part.Complement ∷ parts) h = alone offer above (Not _) (parts_writable offer items above (part.Complement ∷ parts) h).0
printed_class_writable offer items above (part.Class k ∷ parts) h = alone offer above (Name _) (parts_writable offer items above (part.Class k ∷ parts) h).0
printed_class_writable offer items above (part.Predicate used ∷ parts) h = alone offer above (Name _) (parts_writable offer items above (part.Predicate used ∷ parts) h).0
