use Rattle.pg_explain_witness.specs.Witnesses.{IsWitnessIn}
use Rattle.pg_explain_witness.proofs.witness.Seeker.seek.Given as goal

abbrev pub invariant-loop-round : goal.invariant-loop-round
invariant-loop-round g l = IsWitnessIn l.self.grammar.now l.self.table.now l.fn.node l.found
