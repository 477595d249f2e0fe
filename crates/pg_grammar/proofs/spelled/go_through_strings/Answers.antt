use Rattle.pg_grammar_value.specs.Grammar.{is_misspelled}
use Rattle.pg_grammar.proofs.Going.{none-next}
use Rattle.pg_grammar.proofs.spelled.go_through_strings.Goals as goal

pub loop-form-preserved : goal.loop-form-preserved
loop-form-preserved c =
    none-next is_misspelled c.args.forms.now c.loop-form.form-index c.form-item.result c.loop-form-test.true c.form-item.is c.go_through_string.ensures c.loop-form.invariant
