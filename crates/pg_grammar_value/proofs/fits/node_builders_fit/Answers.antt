use Rattle.pg_grammar_value.proofs.fits.node_builders_fit.Goals as goal

pub returns-in-Expression : goal.returns-in-Expression
returns-in-Expression g c = rw c.in-Expression.is c.has_builders.ensures
