use Rattle.std.proofs.Common.{true≢false, inl, inr, sym, subst, ◌∙◌}
use Rattle.std.specs.Prelude.{◌↔◌, IsTrue}
use Rattle.pg_sets.specs.Sets.{HasStart}
use Rattle.pg_sets_own.specs.OwnStarts.{IsOperatorStart}
use Rattle.pg_certificate_verify.specs.Breaking.{SomeMeet, OperandBreaks}
use Rattle.pg_certificate_verify.proofs.operator_pairs.operand_breaks.Goals as goal

pub returns-else-nullable : goal.returns-else-nullable
returns-else-nullable c = λ g formed are.
    let r = c.meets_operators.result in
    let told = subst (λ one. IsTrue r ↔ SomeMeet g (HasStart c.args.sets.now.starts one) (IsOperatorStart g)) c.first.ensures (c.meets_operators.ensures g formed are) in
    subst (λ f. IsTrue r ↔ OperandBreaks g c.args.sets.now f) (sym c.in-Expression.is) (
      λ is. inr (told.0 is),
      λ breaks. elim breaks [ inl null ↦ absurd (true≢false (sym null ∙ (sym c.nullable.ensures ∙ c.if-nullable.false))) | inr some ↦ told.1 some ],
    )
