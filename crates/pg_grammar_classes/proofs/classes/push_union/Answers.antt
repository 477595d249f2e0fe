use Rattle.std.proofs.Common.{◌≡◌, ◌||◌, ◌∷◌, take, drop, ◌+◌, refl, ap, ◌∙◌, arith, suc}
use Rattle.std.specs.List.{list_any}
use Rattle.pg_class.specs.Ranges.{has}
use Rattle.pg_grammar_form.specs.Classes.{one_holds}
use Rattle.pg_grammar_classes.specs.Classes.{answers_of}
use Rattle.std.proofs.lemmas.Result.{on_ok_weaker}
use Rattle.pg_grammar_classes.proofs.ClassStack.{any_more, drop_further, one_further, answers_after_first}
use Rattle.pg_grammar_classes.proofs.classes.push_union.Goals as goal

pub loop-taken-init : goal.loop-taken-init
loop-taken-init c =
    let none = c.new-members.ensures.items in
    record { union = λ x is. ap (λ classes. list_any (λ one. has one x) classes) none; rest = λ x. refl }

pub loop-taken-preserved : goal.loop-taken-preserved
loop-taken-preserved c =
    let k = c.loop-taken._taken in
    let first = c.args.stack.now.items in
    let next : suc k ≡ k + 1 = omega arith in
    record {
      union = λ x is.
          ap (λ classes. list_any (λ one. has one x) classes) c.in_ok-push_back.ensures.items
          ∙ (any_more c.loop-taken.members.items c.in_ok-class.class x
          ∙ (ap (λ b. b || has c.in_ok-class.class x) (c.loop-taken.invariant.union x is)
          ∙ (ap (λ b. one_holds (take k (answers_of first x)) || b) (c.in_ok-class.ensures.class x is ∙ ap (λ answers. one_holds (take 1 answers)) (c.loop-taken.invariant.rest x))
          ∙ (one_further k (answers_of first x) ∙ ap (λ n. one_holds (take n (answers_of first x))) next))));
      rest = λ x.
          ap (λ stack. answers_of stack x) c.first_of.ensures.rest
          ∙ (answers_after_first c.loop-taken.stack.items x
          ∙ (ap (drop 1) (c.loop-taken.invariant.rest x) ∙ (drop_further k (answers_of first x) ∙ ap (λ n. drop n (answers_of first x)) next)));
    }

pub returns : goal.returns
returns c =
    let first = c.args.stack.now.items in
    let taken : c.loop-taken._taken ≡ c.args.count = omega arith in
    on_ok_weaker c.push.result
    (λ put x is.
    ap (λ stack. answers_of stack x) put
    ∙ (ap (λ b. b ∷ answers_of c.loop-taken.stack.items x) (c.in_ok-union.ensures.members x is ∙ (c.loop-taken.invariant.union x is ∙ ap (λ n. one_holds (take n (answers_of first x))) taken))
    ∙ ap (λ bs. one_holds (take c.args.count (answers_of first x)) ∷ bs) (c.loop-taken.invariant.rest x ∙ ap (λ n. drop n (answers_of first x)) taken)))
    c.push.ensures
