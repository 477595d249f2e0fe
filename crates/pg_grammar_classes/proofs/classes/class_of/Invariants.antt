use Rattle.std.proofs.Common.{◌≡◌, ℕ, length}
use Rattle.std.specs.Char.{IsScalar}
use Rattle.pg_grammar_form.specs.Classes.{memberships}
use Rattle.pg_grammar_classes.specs.Classes.{answers_of, with_parts}
use Rattle.pg_grammar_classes.proofs.classes.class_of.Given as goal

abbrev pub invariant-loop-part : goal.invariant-loop-part
invariant-loop-part l = (c : ℕ) → IsScalar c → with_parts (answers_of l.items c) c l.rest (answers_of l.stack.items c) ≡ memberships (answers_of l.items c) l.expression c

abbrev pub decreases-loop-part : goal.decreases-loop-part
decreases-loop-part l = length l.rest
