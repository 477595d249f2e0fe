use Rattle.std.proofs.Common.{rules, ◌≡◌, ◌∷◌, take, [], ◌++◌, sym, ap, ◌∙◌}
use Rattle.std.proofs.lemmas.List.{nil_from_length}
use Rattle.pg_grammar_form.specs.Classes.{one_holds, memberships}
use Rattle.pg_grammar_classes.specs.Classes.{answers_of}
use Rattle.std.proofs.lemmas.Result.{IfOk-weaker}
use Rattle.pg_grammar_classes.specs.Classes.{with_parts}
use Rattle.pg_grammar_classes.proofs.ClassStack.{parts_on_none, parts_last}
use Rattle.pg_grammar_classes.proofs.classes.class_of.Goals as goal

pub loop-part-init : goal.loop-part-init
loop-part-init c = λ x is.
    let items = answers_of c.args.items.now x in
    ap (λ stack. with_parts items x c.parts-rest.result.now (answers_of stack x)) c.new-stack.ensures.items
    ∙ (parts_on_none items x c.parts-rest.result.now ∙ ap (λ ps. memberships items ps x) c.parts-rest.ensures.same)

pub loop-part-preserved : goal.loop-part-preserved
loop-part-preserved c = λ x is.
    let items = answers_of c.args.items.now x in
    let spelled : c.loop-part.rest.now ≡ c.in-Some.before.now ++ c.in-Some.part.now ∷ [] = search rules in
    ap (with_parts items x c.in-Some.before.now) (c.in_ok-push_part.ensures x is)
    ∙ (sym (parts_last items x c.in-Some.before.now c.in-Some.part.now (answers_of c.loop-part.stack.items x))
    ∙ (ap (λ ps. with_parts items x ps (answers_of c.loop-part.stack.items x)) (sym spelled) ∙ c.loop-part.invariant x is))

pub returns : goal.returns
returns c =
    let none : c.loop-part.rest.now ≡ [] = nil_from_length c.loop-part.rest.now c.in_default.ensures.cases in
    IfOk-weaker c.first_of.result _ _
    (λ class same x is. same x is ∙ ap (λ answers. one_holds (take 1 answers))
    (ap (λ ps. with_parts (answers_of c.args.items.now x) x ps (answers_of c.loop-part.stack.items x)) (sym none) ∙ c.loop-part.invariant x is)) c.first_of.ensures.class
