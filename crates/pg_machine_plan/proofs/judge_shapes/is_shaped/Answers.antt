use Rattle.pg_grammar_form.specs.declared.form.Form.TheVariants as form
use Rattle.pg_machine_plan.proofs.OneMore.{on_true}
use Rattle.pg_machine_plan.proofs.Shapes.{shaped_as}
use Rattle.pg_machine_plan.proofs.judge_shapes.is_shaped.Goals as goal

pub returns-in-Choice : goal.returns-in-Choice
returns-in-Choice c =
    shaped_as c.args.grammar.now c.args.plan.now c.args.pc c.args.stretch c.args.node.now (form.Choice c.in-Choice.field-0) c.is_choice.result c.in-Choice.is
    (on_true c.is_choice.result _ _ (λ right. right c.args.grammar.now c.args.stretch c.in-Choice.field-0) c.is_choice.ensures)

pub returns-then-is_span_of : goal.returns-then-is_span_of
returns-then-is_span_of c =
    shaped_as c.args.grammar.now c.args.plan.now c.args.pc c.args.stretch c.args.node.now (form.Many c.in-Many.part) c.is_span_of.result c.in-Many.is c.is_span_of.ensures

pub returns-else-is_span_of : goal.returns-else-is_span_of
returns-else-is_span_of c =
    shaped_as c.args.grammar.now c.args.plan.now c.args.pc c.args.stretch c.args.node.now (form.Many c.in-Many.part) c.is_many.result c.in-Many.is
    (on_true c.is_many.result _ _ (λ right. right c.args.grammar.now c.args.stretch c.in-Many.part) c.is_many.ensures)

pub returns-in-Chain : goal.returns-in-Chain
returns-in-Chain c =
    shaped_as c.args.grammar.now c.args.plan.now c.args.pc c.args.stretch c.args.node.now
    (form.Chain c.in-Chain.side c.in-Chain.field-1 c.in-Chain.operand c.in-Chain.field-3) c.is_chain.result c.in-Chain.is
    (on_true c.is_chain.result _ _ (λ right. right c.args.grammar.now c.in-Chain.field-1 c.in-Chain.field-3) c.is_chain.ensures)

pub returns-in-Expression : goal.returns-in-Expression
returns-in-Expression c =
    shaped_as c.args.grammar.now c.args.plan.now c.args.pc c.args.stretch c.args.node.now (form.Expression c.in-Expression.field-0 c.in-Expression.term) c.is_expression.result
    c.in-Expression.is (on_true c.is_expression.result _ _ (λ right. right c.args.grammar.now c.in-Expression.field-0) c.is_expression.ensures)
