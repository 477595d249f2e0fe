use Rattle.std.proofs.Common.{◌≡◌, ◌∷◌, ◌∙◌, ap, subst, arith}
use Rattle.pg_grammar_form.specs.Classes.{memberships}
use Rattle.pg_grammar_value.specs.Fits.{ClassFits}
use Rattle.pg_grammar_form.specs.declared.class.ClassPart.TheVariants.{Complement}
use Rattle.pg_grammar_value.proofs.Negated.{negated-next}
use Rattle.pg_grammar_value.proofs.membership.after_complements.Goals as goal

pub loop-after-preserved : goal.loop-after-preserved
loop-after-preserved c =
    let arm = c.in-Some-Complement-default in
    let is : c.loop-after.rest.now ≡ Complement ∷ arm.after.now = arm.ensures.cases.0 ∙ ap (λ part. part ∷ arm.after.now) arm.field-0-0-is in
    let before = c.loop-after.invariant in
    record {
      meaning = λ items d. (rw is at (before.meaning items d)) ∙ negated-next c.loop-after.negated (memberships items arm.after.now d);
      fewer = omega (arith, arm.ensures.cases.1);
      named = λ below. rw is at (before.named below);
      fit = λ offer all. (subst (ClassFits offer) is (before.fit offer all)).1;
    }
