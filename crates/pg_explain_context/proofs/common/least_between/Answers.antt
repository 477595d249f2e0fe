use Rattle.std.proofs.Common.{◌≡◌, ℕ, true, Option, inl, inr, sym, subst}
use Rattle.std.specs.Prelude.{IfSome}
use Rattle.pg_class.specs.Ranges.{has}
use Rattle.pg_explain_context.proofs.common.least_between.Goals as goal

pub returns-clause-one : goal.returns-clause-one
returns-clause-one c =
    let P : Option ℕ → Type 0 = λ o. IfSome o (λ x. has c.args.one.now x ≡ true) in
    elim c.lesser.ensures [
      | inl same ↦ subst P (sym same) c.least_begun-begun.ensures.one
      | inr same ↦ subst P (sym same) c.least_begun-begun_other.ensures.one
    ]

pub returns-clause-other : goal.returns-clause-other
returns-clause-other c =
    let P : Option ℕ → Type 0 = λ o. IfSome o (λ x. has c.args.other.now x ≡ true) in
    elim c.lesser.ensures [
      | inl same ↦ subst P (sym same) c.least_begun-begun.ensures.other
      | inr same ↦ subst P (sym same) c.least_begun-begun_other.ensures.other
    ]
