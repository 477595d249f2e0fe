-- Every end of what is left to do is one of what there was to do, and the last turn comes.
use Rattle.pg_trail_replay.specs.Tasks.{on}
use Rattle.pg_trail_replay.specs.Turns.{turns_left}
use Rattle.pg_trail_replay.specs.View.{state_of}
use Rattle.pg_trail_replay.proofs.WholeTrails.{Onward}
use Rattle.pg_trail_replay.proofs.TurnsLeft.{IsHalting}
use Rattle.pg_trail_replay.proofs.trails.Journey.forest.Given as goal

abbrev pub invariant-turns : goal.invariant-turns
invariant-turns l = record {
  onward : Onward l.self.grammar.now l.self.text.now (state_of l.replayer) (state_of l.initial.replayer);
  halting : IsHalting l.self.grammar.now l.self.text.now l.self.halts.0 (state_of l.replayer);
}

abbrev pub decreases-turns : goal.decreases-turns
decreases-turns l = turns_left l.self.grammar.now l.self.text.now l.self.halts.0 (on (state_of l.replayer))
