use Rattle.pg_language.specs.Answers.{given}
use Rattle.pg_language.specs.declared.reading.Reading.TheVariants.{Library}
use Rattle.pg_explain_witness.proofs.Saying.{all_said_shown}
use Rattle.pg_explain_witness.proofs.judging.lost_by.Goals as goal

pub returns-in_ok-shown-in-Some : goal.returns-in_ok-shown-in-Some
returns-in_ok-shown-in-Some g c =
    let case = c.args.case.now in
    let derivation = c.args.derivation.now in
    let both = rw c.in-Some.is at c.in_ok-place.ensures in
    all_said_shown (given Library case.grammar.now case.text.now) case.table.now derivation.trail derivation.forest c.requires.derived case.node c.in-Some.place both.0 c.args.answer
    c.in_ok-shown-in-Some.shown c.requires.answer both.1 c.in_ok-shown-in-Some.ensures
