use Rattle.pg_trail_replay.specs.View.{state_of}
use Rattle.pg_explain_witness.specs.Going.{ComesAlong}
use Rattle.pg_explain_witness.proofs.going.goes_so_far.Given as goal

abbrev pub invariant-loop : goal.invariant-loop
invariant-loop g l = ComesAlong l.case.grammar.now l.case.text.now l.case.table.now l.trail (state_of l.replayer)
