use Rattle.std.proofs.Common.{◌↔◌, drop}
use Rattle.pg_pred.specs.Offer.{offer_of}
use Rattle.pg_grammar_value.specs.Fits.{NodesFit}
use Rattle.pg_grammar_value.proofs.fits.nodes_fit.Given as goal

abbrev pub invariant-loop-node : goal.invariant-loop-node
invariant-loop-node g l = NodesFit (offer_of l.registry) (drop l.node-index l.nodes) ↔ NodesFit (offer_of l.registry) l.nodes
