use Rattle.std.proofs.Common.{◌↔◌, drop}
use Rattle.pg_pred.specs.Offer.{offer_of}
use Rattle.pg_grammar_value.specs.Fits.{ItemsFit}
use Rattle.pg_grammar_value.proofs.fits.items_fit.Given as goal

abbrev pub invariant-loop-item : goal.invariant-loop-item
invariant-loop-item g l = ItemsFit (offer_of l.registry) (drop l.item-index l.items) ↔ ItemsFit (offer_of l.registry) l.items
