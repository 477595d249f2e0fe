use Rattle.std.proofs.Common.{◌≡◌, sym, subst}
use Rattle.pg_pred.specs.Offer.{offer_of}
use Rattle.pg_grammar_value.specs.Fits.{Fits}
use Rattle.pg_table.specs.Tables.{initial, whole}
use Rattle.pg_table.proofs.Added.{own_table}
use Rattle.pg_bench_explain.proofs.cures.texts_of.Goals as goal

pub samples_of-requires-clause-fits : goal.samples_of-requires-clause-fits
samples_of-requires-clause-fits g c = subst (λ it. Fits (offer_of c.args.file.now.registry.now) it) (sym c.grammar.ensures.grammar) c.requires.fits

pub samples_of-requires-clause-table : goal.samples_of-requires-clause-table
samples_of-requires-clause-table g c =
    own_table _ _ (subst (λ it. initial it ≡ whole c.args.file.now.loaded.now.table) (sym c.grammar.ensures.grammar) c.requires.table)
