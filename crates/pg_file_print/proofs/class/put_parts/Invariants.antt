use Rattle.std.proofs.Common.{◌≡◌, drop, map}
use Rattle.std.specs.List.{AllByRecursion}
use Rattle.pg_grammar_form.specs.Preorder.{SpellForms}
use Rattle.pg_grammar_form.specs.Classes.{member_count, IsProperUnion}
use Rattle.pg_grammar_form.specs.ClassItems.{item_name}
use Rattle.pg_file_items.specs.Syntax.{atom_written}
use Rattle.pg_file_print.specs.Canonical.{atoms_of}
use Rattle.pg_file_print.specs.Layout.{with_tokens}
use Rattle.pg_file_print.specs.Levels.{needed, coming}
use Rattle.pg_file_print.proofs.class.put_parts.Given as goal

abbrev pub invariant-loop-part : goal.invariant-loop-part
invariant-loop-part l = record {
  whole : SpellForms (needed l.levels.items) (map member_count (drop l.part-index l.parts));
  unions : AllByRecursion IsProperUnion (drop l.part-index l.parts);
  text : with_tokens l.out (coming atom_written l.levels.items (atoms_of (map item_name l.items) (drop l.part-index l.parts)))
      ≡ with_tokens l.fn.out (coming atom_written l.fn.levels.items (atoms_of (map item_name l.items) l.parts));
}
