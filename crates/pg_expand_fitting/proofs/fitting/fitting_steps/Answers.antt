-- The table's operators are found by their symbols.
use Rattle.std.proofs.Common.{◌≡◌, subst, sym, ◌∙◌}
use Rattle.std.proofs.lemmas.Result.{IfOk-weaker}
use Rattle.pg_expand_fitting.specs.Steps.{IsJudged}
use Rattle.pg_expand_fitting.proofs.Sound.{judgement_true, same_judgement}
use Rattle.pg_expand_fitting.proofs.fitting.fitting_steps.Goals as goal

pub returns-clause-steps : goal.returns-clause-steps
returns-clause-steps c = IfOk-weaker c.steps_by.result _ _
    (λ found h. h ∙ same_judgement c.args.table.now.operators c.in_ok-lookup.lookup c.in_ok-lookup.ensures c.args.read.now) c.steps_by.ensures

pub returns-clause-tree : goal.returns-clause-tree
returns-clause-tree c = IfOk-weaker c.steps_by.result _ _
    (λ found h. subst (IsJudged c.args.table.now.operators c.args.read.now)
    (sym (h ∙ same_judgement c.args.table.now.operators c.in_ok-lookup.lookup c.in_ok-lookup.ensures c.args.read.now))
    (judgement_true c.args.table.now.operators c.operators-operators.ensures.table.operators c.args.read.now)) c.steps_by.ensures
