use Rattle.std.proofs.Common.{◌≡◌, ℕ, drop}
use Rattle.std.specs.Char.{IsScalar}
use Rattle.pg_grammar_form.specs.ClassItems.{answers_after, item_answers}
use Rattle.pg_grammar_classes.specs.Classes.{answers_of}
use Rattle.pg_grammar_classes.proofs.classes.classes_of_items.Given as goal

abbrev pub invariant-loop-item : goal.invariant-loop-item
invariant-loop-item l = (c : ℕ) → IsScalar c → answers_after (answers_of l.classes.items c) (drop l.item-index l.items) c ≡ item_answers l.items c
