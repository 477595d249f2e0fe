use Rattle.std.proofs.Common.{refl}
use Rattle.pg_pred.specs.Offer.{offer_of}
use Rattle.pg_grammar_form.specs.ClassItems.{item_class}
use Rattle.pg_grammar_value.specs.Fits.{ClassFits}
use Rattle.pg_grammar_value.proofs.OneByOne.{all-but-next}
use Rattle.pg_grammar_value.proofs.fits.items_fit.Goals as goal

pub loop-item-preserved : goal.loop-item-preserved
loop-item-preserved g c =
    let fits = c.if-not-class_fits.ensures.0 refl in
    all-but-next (λ one. ClassFits (offer_of c.args.registry.now) (item_class one)) _ c.loop-item.item-index c.item-item.result c.loop-item-test.true c.item-item.is fits c.loop-item.invariant
