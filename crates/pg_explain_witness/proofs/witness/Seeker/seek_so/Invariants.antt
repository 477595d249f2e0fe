use Rattle.pg_explain_witness.specs.Witnesses.{IsWitnessIn}
use Rattle.pg_explain_witness.proofs.witness.Seeker.seek_so.Given as goal

abbrev pub invariant-loop-trial : goal.invariant-loop-trial
invariant-loop-trial g l = IsWitnessIn l.self.grammar.now l.self.table.now l.fn.found.node l.found
