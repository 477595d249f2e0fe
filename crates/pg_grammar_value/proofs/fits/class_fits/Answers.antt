use Rattle.std.proofs.Common.{refl}
use Rattle.pg_pred.specs.Offer.{offer_of}
use Rattle.pg_grammar_value.specs.Fits.{PartFits}
use Rattle.pg_grammar_value.proofs.OneByOne.{all-but-next}
use Rattle.pg_grammar_value.proofs.fits.class_fits.Goals as goal

pub loop-part-preserved : goal.loop-part-preserved
loop-part-preserved g c =
    let fits = c.if-not-part_fits.ensures.0 refl in
    all-but-next (λ one. PartFits (offer_of c.args.registry.now) one) _ c.loop-part.part-index c.part-item.result c.loop-part-test.true c.part-item.is fits c.loop-part.invariant
