use Rattle.std.proofs.Common.{subst}
use Rattle.pg_grammar_value.specs.Grammar.{IsGrammar}
use Rattle.pg_grammar_value.proofs.grammar.Grammar.initials.Goals as goal

pub returns-clause-grammar : goal.returns-clause-grammar
returns-clause-grammar c = subst IsGrammar c.self.view_is c.self.invariant.0
