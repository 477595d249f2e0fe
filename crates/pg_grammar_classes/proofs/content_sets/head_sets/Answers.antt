use Rattle.std.proofs.Common.{refl}
use Rattle.pg_grammar_classes.specs.Contents.{word_head}
use Rattle.pg_grammar_classes.proofs.Sets.{sets-next, sets-all}
use Rattle.pg_grammar_classes.proofs.content_sets.head_sets.Goals as goal

pub loop-word-init : goal.loop-word-init
loop-word-init c = rw c.in_ok-sets.ensures.items (λ x is. refl)

pub loop-word-preserved : goal.loop-word-preserved
loop-word-preserved c =
    rw c.in_ok-push.ensures.items
    (sets-next word_head c.args.items.now c.args.words.now c.loop-word.word-index c.word-item.result c.loop-word.sets.items c.in_ok-set.set c.loop-word-test.true c.word-item.is c.loop-word.invariant c.in_ok-set.ensures)

pub returns : goal.returns
returns c = sets-all word_head c.args.items.now c.args.words.now c.loop-word.word-index c.loop-word.sets.items c.loop-word-test.false c.loop-word.invariant
