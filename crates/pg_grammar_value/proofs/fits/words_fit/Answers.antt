use Rattle.std.proofs.Common.{refl}
use Rattle.pg_pred.specs.Offer.{offer_of}
use Rattle.pg_grammar_value.specs.Fits.{WordFits}
use Rattle.pg_grammar_value.proofs.OneByOne.{all-but-next}
use Rattle.pg_grammar_value.proofs.fits.words_fit.Goals as goal

pub loop-word-preserved : goal.loop-word-preserved
loop-word-preserved g c =
    let fits = c.if-not-word_fits.ensures.0 refl in
    all-but-next (λ one. WordFits (offer_of c.args.registry.now) one) _ c.loop-word.word-index c.word-item.result c.loop-word-test.true c.word-item.is fits c.loop-word.invariant
