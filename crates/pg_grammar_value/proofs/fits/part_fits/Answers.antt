use Rattle.pg_grammar_value.proofs.fits.part_fits.Goals as goal

pub returns-in-Predicate : goal.returns-in-Predicate
returns-in-Predicate g c = rw c.in-Predicate.is c.has_predicate.ensures
