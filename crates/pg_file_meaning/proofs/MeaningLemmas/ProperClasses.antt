-- What class expressions stand for is one whole expression, and what a maker refuses in one isn't in it.
use Rattle.std.proofs.Common.{◌≡◌, ◌<◌, ◌≤◌, ℕ, Bool, true, false, nat_lt, List, [], ◌∷◌, length, map, Option, Some, None, refl, sym, subst, ◌∙◌, arith}
use Rattle.std.proofs.lemmas.Bool.{le-ltb}
use Rattle.std.proofs.lemmas.Bool.Decides.{nat_tests}
use Rattle.std.proofs.lemmas.List.Folds.{list_any-append}
use Rattle.std.specs.List.{list_any, AllByRecursion}
use Rattle.std.specs.Str.{chars, encode_utf8_all}
use Rattle.pg_pred.specs.Offer.{Offer}
use Rattle.pg_grammar_form.specs.Names as names
use Rattle.pg_grammar_form.specs.Names.{has_name, place_of_name, number_of}
use Rattle.pg_grammar_form.proofs.Lookup.{number_is_found, place_is_number, place_is_none}
use Rattle.pg_grammar_form.specs.Preorder.{SpellForms}
use Rattle.pg_grammar_form.specs.Classes as classes
use Rattle.pg_grammar_form.specs.Classes.{IsExpression, descends, is_long, lacks_item}
use Rattle.pg_grammar_form.specs.declared.class.ClassPart.{ClassPart}
use Rattle.pg_grammar_form.specs.declared.class.ClassPart.TheVariants as class
use Rattle.pg_file_items.specs.declared.written.WrittenPart.{WrittenPart}
use Rattle.pg_file_items.specs.declared.written.WrittenPart.TheVariants as part
use Rattle.pg_file_items.specs.Tree.{Atom, Set, Range, Name, Not, Group, Class, Of, Atoms, No_atom, Or}
use Rattle.pg_file_items.specs.Written.{member_count, IsProperUnion, IsClass}
use Rattle.pg_file_items.specs.Heads.{class_parts}
use Rattle.pg_file_items.specs.Proper.{IsProperAtom, IsProperClass, AreProperAtoms}
use Rattle.pg_file_meaning.specs.Names.{class_named, item_or_predicate}
use Rattle.pg_file_items.specs.Joined.{joined}
use Rattle.pg_file_meaning.specs.Meaning.{expression_of, atom_meant, class_meant, atoms_meant}
use Rattle.pg_file_meaning.specs.Bodies.{part_meant, parts_meant}
use Rattle.pg_file_items.proofs.ItemLemmas.Classes.{class_spells, class_unions}
use Rattle.pg_file_meaning.proofs.MeaningLemmas.Classes.{class_is}
use Rattle.pg_file_tokens.proofs.Encoded.{chars_encoded}

-- ---- one whole expression

named_members : (offer : Offer) (s : names.Name) (place : Option ℕ) → classes.member_count (item_or_predicate offer s place) ≡ 0
named_members offer s (Some k) = refl
named_members offer s None = refl

same_members : (offer : Offer) (items : List names.Name) (p : WrittenPart) → classes.member_count (part_meant offer items p) ≡ member_count p
same_members offer items (part.Literal s) = refl
same_members offer items (part.Range low high) = refl
same_members offer items (part.Union n) = refl
same_members offer items part.Complement = refl
same_members offer items (part.Named s) = named_members offer s (place_of_name items s)

same_counts : (offer : Offer) (items : List names.Name) (parts : List WrittenPart) → map classes.member_count (parts_meant offer items parts) ≡ map member_count parts
same_counts offer items [] = refl
same_counts offer items (p ∷ parts) = let one = same_members offer items p in let others = same_counts offer items parts in cc

named_union : (offer : Offer) (s : names.Name) (place : Option ℕ) → classes.IsProperUnion (item_or_predicate offer s place)
named_union offer s (Some k) = tt
named_union offer s None = tt

proper_union : (offer : Offer) (items : List names.Name) (p : WrittenPart) → IsProperUnion p → classes.IsProperUnion (part_meant offer items p)
proper_union offer items (part.Literal s) h = tt
proper_union offer items (part.Range low high) h = tt
proper_union offer items (part.Union n) h = h
proper_union offer items part.Complement h = tt
proper_union offer items (part.Named s) h = named_union offer s (place_of_name items s)

proper_unions : (offer : Offer) (items : List names.Name) (parts : List WrittenPart) → AllByRecursion IsProperUnion parts → AllByRecursion classes.IsProperUnion (parts_meant offer items parts)
proper_unions offer items [] h = tt
proper_unions offer items (p ∷ parts) h = (proper_union offer items p h.0, proper_unions offer items parts h.1)

pub expression_of_parts : (offer : Offer) (items : List names.Name) (parts : List WrittenPart) → IsClass parts → IsExpression (parts_meant offer items parts)
expression_of_parts offer items parts h = record {
  whole = subst (SpellForms 1) (sym (same_counts offer items parts)) h.whole;
  unions = proper_unions offer items parts h.unions;
}

pub expression_of_class : (offer : Offer) (items : List names.Name) (c : Class) → IsExpression (class_meant offer items c)
expression_of_class offer items c =
    subst IsExpression (class_is offer items c) (expression_of_parts offer items (class_parts c) (record { whole = class_spells c; unions = class_unions c }))

-- ---- parts of no kind

-- no part of a kind that a union and a complement aren't of
pub record IsFreeOf (p : ClassPart → Bool) (parts : List ClassPart) : Type 0 where
  pub free : list_any p parts ≡ false

-- a test of which no union and no complement is
pub record IsOfAtoms (p : ClassPart → Bool) : Type 0 where
  pub union : (n : ℕ) → p (class.Union n) ≡ false
  pub complement : p class.Complement ≡ false

one_free : (p : ClassPart → Bool) (x : ClassPart) → p x ≡ false → IsFreeOf p (x ∷ [])
one_free p x h = record { free = rw h refl }

front_free : (p : ClassPart → Bool) (x : ClassPart) (parts : List ClassPart) → p x ≡ false → IsFreeOf p parts → IsFreeOf p (x ∷ parts)
front_free p x parts h e = record { free = rw (h, e.free) refl }

joined_free : (p : ClassPart → Bool) (lists : List (List ClassPart)) → AllByRecursion (IsFreeOf p) lists → IsFreeOf p (joined lists)
joined_free p [] h = record { free = refl }
joined_free p (parts ∷ lists) h =
    let others = joined_free p lists h.1 in record { free = list_any-append p parts (joined lists) ∙ rw (h.0.free, others.free) refl }

expression_free : (p : ClassPart → Bool) → IsOfAtoms p → (parts : List ClassPart) (lists : List (List ClassPart)) → IsFreeOf p parts → AllByRecursion (IsFreeOf p) lists → IsFreeOf p (expression_of parts lists)
expression_free p k parts [] h e = h
expression_free p k parts (other ∷ lists) h e = front_free p _ (joined (parts ∷ other ∷ lists)) (k.union _) (joined_free p (parts ∷ other ∷ lists) (h, e))

-- what is so of atoms of a tree: of sets and ranges, and of what names stand for
record AtomsAreFree (offer : Offer) (items : List names.Name) (p : ClassPart → Bool) : Type 0 where
  of_atoms : IsOfAtoms p
  set : (s : List ℕ) → length s ≤ 1024 → p (class.Literal s) ≡ false
  range : (low high : ℕ) → low ≤ high → p (class.Range low high) ≡ false
  name : (s : List ℕ) → length s ≤ 64 → p (class_named offer items s) ≡ false

mutual
  atom_free : (offer : Offer) (items : List names.Name) (p : ClassPart → Bool) → AtomsAreFree offer items p → (a : Atom) → IsProperAtom a → IsFreeOf p (atom_meant offer items a)
  atom_free offer items p k (Set s) h = one_free p _ (k.set s h)
  atom_free offer items p k (Range low high) h = one_free p _ (k.range low high h)
  atom_free offer items p k (Name s) h = one_free p _ (k.name s h.short)
  atom_free offer items p k (Not a) h = front_free p _ _ k.of_atoms.complement (atom_free offer items p k a h)
  atom_free offer items p k (Group c) h = class_free offer items p k c h

  class_free : (offer : Offer) (items : List names.Name) (p : ClassPart → Bool) → AtomsAreFree offer items p → (c : Class) → IsProperClass c → IsFreeOf p (class_meant offer items c)
  class_free offer items p k (Of a others) h = expression_free p k.of_atoms _ _ (atom_free offer items p k a h.0) (atoms_free offer items p k others h.1)

  atoms_free : (offer : Offer) (items : List names.Name) (p : ClassPart → Bool) → AtomsAreFree offer items p → (others : Atoms) → AreProperAtoms others → AllByRecursion (IsFreeOf p) (atoms_meant offer items others)
  atoms_free offer items p k No_atom h = tt
  atoms_free offer items p k (Or a others) h = (atom_free offer items p k a h.0, atoms_free offer items p k others h.1)

-- ---- descending ranges, long texts

ascends : (low high : ℕ) → low ≤ high → nat_lt high low ≡ false
ascends low high h = grind (arith, nat_tests)

named_ascends : (offer : Offer) (s : names.Name) (place : Option ℕ) → descends (item_or_predicate offer s place) ≡ false
named_ascends offer s (Some k) = refl
named_ascends offer s None = refl

pub short_name : (most : ℕ) (s : List ℕ) → length s ≤ most → nat_lt most (length (chars (encode_utf8_all s))) ≡ false
short_name most s h = rw (chars_encoded s) (le-ltb most (length s) h)

named_short : (offer : Offer) (s : names.Name) (place : Option ℕ) → length s ≤ 64 → is_long (item_or_predicate offer s place) ≡ false
named_short offer s (Some k) h = refl
named_short offer s None h = short_name 64 s h

pub ascending : (offer : Offer) (items : List names.Name) (c : Class) → IsProperClass c → list_any descends (class_meant offer items c) ≡ false
ascending offer items c h =
    (class_free offer items descends (record {
      of_atoms = record { union = λ n. refl; complement = refl };
      set = λ s e. refl;
      range = λ low high e. ascends low high e;
      name = λ s e. named_ascends offer s (place_of_name items s);
    }) c h).free

pub short : (offer : Offer) (items : List names.Name) (c : Class) → IsProperClass c → list_any is_long (class_meant offer items c) ≡ false
short offer items c h =
    (class_free offer items is_long (record {
      of_atoms = record { union = λ n. refl; complement = refl };
      set = λ s e. le-ltb 1024 (length s) e;
      range = λ low high e. refl;
      name = λ s e. named_short offer s (place_of_name items s) e;
    }) c h).free

-- ---- class items that are named

-- a place among the items is below their number
place_below : (items : List names.Name) (s : names.Name) (k : ℕ) → place_of_name items s ≡ Some k → k < length items
place_below items s k e = go (has_name items s) refl
  where
    go : (b : Bool) → has_name items s ≡ b → k < length items
    go true h =
        let below = (number_is_found items s h).below in
        let q : Some (number_of items s) ≡ Some k = sym (place_is_number items s h) ∙ e in
        let same : number_of items s ≡ k = cc in
        omega arith
    go false h = let q : Some k ≡ None = sym e ∙ place_is_none items s h in absurd cc

named_known : (offer : Offer) (items : List names.Name) (s : names.Name) (place : Option ℕ) → place_of_name items s ≡ place → lacks_item (length items) (item_or_predicate offer s place) ≡ false
named_known offer items s (Some k) e = let below = place_below items s k e in grind (arith, nat_tests)
named_known offer items s None e = refl

part_known : (offer : Offer) (items : List names.Name) (p : WrittenPart) → lacks_item (length items) (part_meant offer items p) ≡ false
part_known offer items (part.Literal s) = refl
part_known offer items (part.Range low high) = refl
part_known offer items (part.Union n) = refl
part_known offer items part.Complement = refl
part_known offer items (part.Named s) = named_known offer items s (place_of_name items s) refl

parts_known : (offer : Offer) (items : List names.Name) (parts : List WrittenPart) → list_any (lacks_item (length items)) (parts_meant offer items parts) ≡ false
parts_known offer items [] = refl
parts_known offer items (p ∷ parts) = rw (part_known offer items p, parts_known offer items parts) refl

pub known : (offer : Offer) (items : List names.Name) (c : Class) → list_any (lacks_item (length items)) (class_meant offer items c) ≡ false
known offer items c = subst (λ (parts : List ClassPart). list_any (lacks_item (length items)) parts ≡ false) (class_is offer items c) (parts_known offer items (class_parts c))
