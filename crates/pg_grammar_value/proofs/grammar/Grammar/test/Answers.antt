use Rattle.std.proofs.Common.{◌≡◌, subst}
use Rattle.pg_pred.specs.Offer.{offer_of}
use Rattle.pg_grammar_value.specs.Fits.{Fits}
use Rattle.pg_grammar_value.proofs.grammar.Grammar.test.Goals as goal

pub membership-requires-clause-fits : goal.membership-requires-clause-fits
membership-requires-clause-fits g c = λ r is.
    let same : c.args.registry ≡ r = cc in
    subst (λ b. Fits (offer_of b.now) c.args.self.now) same c.requires.fits
