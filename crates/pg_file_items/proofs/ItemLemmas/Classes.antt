-- The parts of a class expression are one whole expression.
use Rattle.std.proofs.Common.{suc, ◌++◌, map, refl, arith}
use Rattle.std.specs.List.{AllByRecursion}
use Rattle.pg_grammar_form.specs.Preorder.{SpellForms}
use Rattle.pg_file_items.specs.Tree.{Atom, Set, Range, Name, Not, Group, Class, Of, Atoms, No_atom, Or}
use Rattle.pg_file_items.specs.Written.{member_count, IsProperUnion}
use Rattle.pg_file_items.specs.Heads.{atom_count, atom_parts, class_parts, atoms_parts}
use Rattle.pg_file_items.proofs.ItemLemmas.Whole.{spell_first, spell_parts, all_append}

mutual
  atom_spells : (a : Atom) → SpellForms 1 (map member_count (atom_parts a))
  atom_spells (Set s) = refl
  atom_spells (Range low high) = refl
  atom_spells (Name s) = refl
  atom_spells (Not a) = atom_spells a
  atom_spells (Group c) = class_spells c

  pub class_spells : (c : Class) → SpellForms 1 (map member_count (class_parts c))
  class_spells (Of a No_atom) = atom_spells a
  class_spells (Of a (Or b others)) =
      spell_parts member_count (suc (suc (atom_count others))) (atom_parts a ++ (atom_parts b ++ atoms_parts others))
      (spell_first member_count (atom_parts a) (atom_parts b ++ atoms_parts others) (suc (atom_count others)) (atom_spells a)
      (spell_first member_count (atom_parts b) (atoms_parts others) (atom_count others) (atom_spells b) (atoms_spell others)))

  atoms_spell : (others : Atoms) → SpellForms (atom_count others) (map member_count (atoms_parts others))
  atoms_spell No_atom = refl
  atoms_spell (Or a others) = spell_first member_count (atom_parts a) (atoms_parts others) (atom_count others) (atom_spells a) (atoms_spell others)

mutual
  atom_unions : (a : Atom) → AllByRecursion IsProperUnion (atom_parts a)
  atom_unions (Set s) = (tt, tt)
  atom_unions (Range low high) = (tt, tt)
  atom_unions (Name s) = (tt, tt)
  atom_unions (Not a) = (tt, atom_unions a)
  atom_unions (Group c) = class_unions c

  pub class_unions : (c : Class) → AllByRecursion IsProperUnion (class_parts c)
  class_unions (Of a No_atom) = atom_unions a
  class_unions (Of a (Or b others)) = (
    omega arith,
    all_append IsProperUnion (atom_parts a) (atom_parts b ++ atoms_parts others) (atom_unions a)
        (all_append IsProperUnion (atom_parts b) (atoms_parts others) (atom_unions b) (atoms_unions others)),
  )

  atoms_unions : (others : Atoms) → AllByRecursion IsProperUnion (atoms_parts others)
  atoms_unions No_atom = tt
  atoms_unions (Or a others) = all_append IsProperUnion (atom_parts a) (atoms_parts others) (atom_unions a) (atoms_unions others)
