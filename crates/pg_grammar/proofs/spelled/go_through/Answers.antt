use Rattle.pg_grammar.proofs.Going.{scalars-next}
use Rattle.pg_grammar.proofs.spelled.go_through.Goals as goal

pub loop-character-preserved : goal.loop-character-preserved
loop-character-preserved c =
    scalars-next c.args.characters.now c.loop-character.character-index c.character-item.result c.loop-character-test.true c.character-item.is c.go_by.ensures c.loop-character.invariant
