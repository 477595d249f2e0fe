use Rattle.pg_language.specs.Answers.{given}
use Rattle.pg_language.specs.declared.reading.Reading.TheVariants.{Library}
use Rattle.pg_explain_witness.proofs.Saying.{kept_if}
use Rattle.pg_explain_witness.proofs.judging.is_kept_apart.Goals as goal

pub returns-else-success-len : goal.returns-else-success-len
returns-else-success-len g c =
    let case = c.args.case.now in
    kept_if (given Library case.grammar.now case.text.now) case.table.now case.node c.args.trail.now c.parts_from.result c.args.answer.now.success c.in-Some.success c.in-Some.is c.parts_from.ensures
