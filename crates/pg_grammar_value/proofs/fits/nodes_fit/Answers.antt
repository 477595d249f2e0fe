use Rattle.std.proofs.Common.{refl}
use Rattle.pg_pred.specs.Offer.{offer_of}
use Rattle.pg_grammar_value.specs.Fits.{NodeFits}
use Rattle.pg_grammar_value.proofs.OneByOne.{all-but-next}
use Rattle.pg_grammar_value.proofs.fits.nodes_fit.Goals as goal

pub loop-node-preserved : goal.loop-node-preserved
loop-node-preserved g c =
    let fits = c.if-not-node_fits.ensures.0 refl in
    all-but-next (λ one. NodeFits (offer_of c.args.registry.now) one) _ c.loop-node.node-index c.node-item.result c.loop-node-test.true c.node-item.is fits c.loop-node.invariant
