use Rattle.std.proofs.Common.{◌≡◌, sym, subst, ◌∙◌}
use Rattle.pg_pred.specs.Offer.{offer_of}
use Rattle.pg_grammar_value.specs.Fits.{Fits}
use Rattle.pg_table.specs.Tables.{initial, whole}
use Rattle.pg_table.proofs.Added.{own_table}
use Rattle.pg_bench_explain.proofs.Seeking.{by_both}
use Rattle.pg_bench_explain.proofs.witnesses.seeker_of.Goals as goal

pub returns-clause-fits : goal.returns-clause-fits
returns-clause-fits g c =
    by_both c.of.result _ _ _ (λ seeker grammar registry.
    subst (λ it. Fits (offer_of it) seeker.grammar.now) (sym registry)
    (subst (λ it. Fits (offer_of c.args.file.now.registry.now) it) (sym (grammar ∙ c.grammar.ensures.grammar)) c.requires.fits))
    c.of.ensures.grammar c.of.ensures.registry

pub returns-clause-table : goal.returns-clause-table
returns-clause-table g c =
    by_both c.of.result _ _ _ (λ seeker grammar table.
    own_table seeker.grammar.now seeker.table.now
    (subst (λ it. initial seeker.grammar.now ≡ whole it) (sym table)
    (subst (λ it. initial it ≡ whole c.args.file.now.loaded.now.table) (sym (grammar ∙ c.grammar.ensures.grammar)) c.requires.table)))
    c.of.ensures.grammar c.of.ensures.table
