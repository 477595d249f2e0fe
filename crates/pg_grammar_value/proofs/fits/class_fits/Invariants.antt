use Rattle.std.proofs.Common.{◌↔◌, drop}
use Rattle.pg_pred.specs.Offer.{offer_of}
use Rattle.pg_grammar_value.specs.Fits.{ClassFits}
use Rattle.pg_grammar_value.proofs.fits.class_fits.Given as goal

abbrev pub invariant-loop-part : goal.invariant-loop-part
invariant-loop-part g l = ClassFits (offer_of l.registry) (drop l.part-index l.parts) ↔ ClassFits (offer_of l.registry) l.parts
