use Rattle.pg_grammar_value.proofs.Numbers.{bodies_are_nodes}
use Rattle.pg_grammar_value.proofs.grammar.Grammar.rules.Goals as goal

pub returns-clause-bodies : goal.returns-clause-bodies
returns-clause-bodies c = rw (c.as_slice.ensures.value, ← c.self.view_is) (bodies_are_nodes _ _ c.self.invariant.0.bodies)
