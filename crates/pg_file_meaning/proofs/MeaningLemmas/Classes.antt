-- The parts of a class expression in preorder stand for what the tree stands for.
use Rattle.std.proofs.Common.{◌≡◌, ℕ, suc, List, ◌∷◌, ◌++◌, length, map, refl, ap}
use Rattle.std.proofs.lemmas.List.{map-append}
use Rattle.pg_pred.specs.Offer.{Offer}
use Rattle.pg_grammar_form.specs.Names as names
use Rattle.pg_grammar_form.specs.declared.class.ClassPart.{ClassPart}
use Rattle.pg_grammar_form.specs.declared.class.ClassPart.TheVariants as class
use Rattle.pg_file_items.specs.declared.written.WrittenPart.{WrittenPart}
use Rattle.pg_file_items.specs.Tree.{Atom, Set, Range, Name, Not, Group, Class, Of, Atoms, No_atom, Or}
use Rattle.pg_file_items.specs.Heads.{atom_count, atom_parts, class_parts, atoms_parts}
use Rattle.pg_file_items.specs.Joined.{joined}
use Rattle.pg_file_meaning.specs.Meaning.{atom_meant, class_meant, atoms_meant}
use Rattle.pg_file_meaning.specs.Bodies.{part_meant, parts_meant}

pub atoms_counted : (offer : Offer) (classes : List names.Name) (others : Atoms) → length (atoms_meant offer classes others) ≡ atom_count others
atoms_counted offer classes No_atom = refl
atoms_counted offer classes (Or a others) = ap suc (atoms_counted offer classes others)

-- the images of two lists, one after the other
both_meant : (f : WrittenPart → ClassPart) (xs ys : List WrittenPart) (vs ws : List ClassPart) → map f xs ≡ vs → map f ys ≡ ws → map f (xs ++ ys) ≡ vs ++ ws
both_meant f xs ys vs ws h e = let whole = map-append f xs ys in cc

-- a union of as many
union_meant : (m n : ℕ) (xs ys : List ClassPart) → m ≡ n → xs ≡ ys → class.Union (suc (suc n)) ∷ xs ≡ class.Union (suc (suc m)) ∷ ys
union_meant m n xs ys h e = cc

mutual
  atom_is : (offer : Offer) (classes : List names.Name) (a : Atom) → parts_meant offer classes (atom_parts a) ≡ atom_meant offer classes a
  atom_is offer classes (Set s) = refl
  atom_is offer classes (Range low high) = refl
  atom_is offer classes (Name s) = refl
  atom_is offer classes (Not a) = ap (λ (parts : List ClassPart). class.Complement ∷ parts) (atom_is offer classes a)
  atom_is offer classes (Group c) = class_is offer classes c

  pub class_is : (offer : Offer) (classes : List names.Name) (c : Class) → parts_meant offer classes (class_parts c) ≡ class_meant offer classes c
  class_is offer classes (Of a No_atom) = atom_is offer classes a
  class_is offer classes (Of a (Or b others)) =
      union_meant (length (atoms_meant offer classes others)) (atom_count others) _ _ (atoms_counted offer classes others)
      (both_meant (part_meant offer classes) (atom_parts a) (atom_parts b ++ atoms_parts others) _ _ (atom_is offer classes a)
      (both_meant (part_meant offer classes) (atom_parts b) (atoms_parts others) _ _ (atom_is offer classes b) (atoms_are offer classes others)))

  atoms_are : (offer : Offer) (classes : List names.Name) (others : Atoms) → parts_meant offer classes (atoms_parts others) ≡ joined (atoms_meant offer classes others)
  atoms_are offer classes No_atom = refl
  atoms_are offer classes (Or a others) =
      both_meant (part_meant offer classes) (atom_parts a) (atoms_parts others) _ _ (atom_is offer classes a) (atoms_are offer classes others)
