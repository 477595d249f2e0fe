use Rattle.std.proofs.Common.{◌≡◌, ◌<◌, ℕ, Some, slice_get}
use Rattle.pg_grammar_form.specs.Forms.{Node}
use Rattle.pg_machine_plan.specs.Verdicts.{form_verdict}
use Rattle.pg_machine_plan.specs.declared.verdict.Verdict.{Verdict}
use Rattle.pg_machine_plan.proofs.verdict_columns.are_alike.Given as goal

abbrev pub invariant-loop-index : goal.invariant-loop-index
invariant-loop-index l = (p : ℕ) → p < l.index → (n : Node) → slice_get l.grammar.nodes p ≡ Some n → (on : ℕ → Verdict) →
    form_verdict l.grammar on l.one n ≡ form_verdict l.grammar on l.other n
