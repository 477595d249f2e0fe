use Rattle.std.proofs.Common.{◌≡◌, ℕ, take, drop}
use Rattle.std.specs.Char.{IsScalar}
use Rattle.std.specs.List.{list_any}
use Rattle.pg_class.specs.Ranges.{has}
use Rattle.pg_grammar_form.specs.Classes.{one_holds}
use Rattle.pg_grammar_classes.specs.Classes.{answers_of}
use Rattle.pg_grammar_classes.proofs.classes.push_union.Given as goal

abbrev pub invariant-loop-taken : goal.invariant-loop-taken
invariant-loop-taken l = record {
  union : (c : ℕ) → IsScalar c → list_any (λ one. has one c) l.members.items ≡ one_holds (take l._taken (answers_of l.initial.stack.items c));
  rest : (c : ℕ) → answers_of l.stack.items c ≡ drop l._taken (answers_of l.initial.stack.items c);
}
