use Rattle.std.proofs.Common.{◌↔◌, drop}
use Rattle.pg_pred.specs.Offer.{offer_of}
use Rattle.pg_grammar_value.specs.Fits.{WordsFit}
use Rattle.pg_grammar_value.proofs.fits.words_fit.Given as goal

abbrev pub invariant-loop-word : goal.invariant-loop-word
invariant-loop-word g l = WordsFit (offer_of l.registry) (drop l.word-index l.words) ↔ WordsFit (offer_of l.registry) l.words
