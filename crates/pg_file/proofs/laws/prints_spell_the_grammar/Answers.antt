use Rattle.pg_file.proofs.AgainLemmas.Again.{may_be_printed, spells_again}
use Rattle.pg_file.proofs.laws.prints_spell_the_grammar.Goals as goal

pub returns : goal.returns
returns c offer bytes g h = spells_again offer g (may_be_printed offer bytes g h)
