-- The end of all tasks is a derivation, and where they stop the trail does.
use Rattle.std.proofs.Common.{◌≡◌, sym, ap, ◌∙◌}
use Rattle.std.specs.Prelude.{Some, None}
use Rattle.std.proofs.lemmas.Result.{IfOk-weaker, IfErr-weaker}
use Rattle.pg_trail_replay.specs.Tasks.{told, next_turn}
use Rattle.pg_trail_replay.specs.View.{state_of}
use Rattle.pg_trail_replay.proofs.WholeTrails.{stays_onward, derived_from, fault_from, turned_onward}
use Rattle.pg_trail_replay.proofs.ProperTables.{proper_table}
use Rattle.pg_trail_replay.proofs.TurnsLeft.{halting_begins, halting_turn, halting_falls}
use Rattle.pg_trail_replay.proofs.trails.Journey.forest.Goals as goal

pub turns-init : goal.turns-init
turns-init c =
    let run = c.args.self.now in
    record {
      onward = stays_onward run.grammar.now run.text.now c.start_of-body.result run.table.now run.trail.now (state_of c.in_ok-replayer.replayer)
          (proper_table run.grammar.now run.table.now c.requires c.operators-operators.ensures.table) c.in_ok-replayer.ensures;
      halting = halting_begins run.grammar.now run.text.now run.table.now run.trail.now run.halts c.start_of-body.result (state_of c.in_ok-replayer.replayer)
          c.start_of-body.ensures c.in_ok-replayer.ensures;
    }

pub turns-smaller : goal.turns-smaller
turns-smaller c =
    let run = c.args.self.now in
    let went : told None (state_of c.step.new.self) ≡ next_turn run.grammar.now run.text.now (state_of c.turns.replayer) =
    ap (λ o. told o (state_of c.step.new.self)) (sym c.in-None.is) ∙ c.in_ok-halt.ensures in
    halting_falls run.grammar.now run.text.now run.halts.0 (state_of c.turns.replayer) (state_of c.step.new.self) went c.turns.invariant.halting

pub turns-preserved : goal.turns-preserved
turns-preserved c =
    let run = c.args.self.now in
    let went : told None (state_of c.step.new.self) ≡ next_turn run.grammar.now run.text.now (state_of c.turns.replayer) =
    ap (λ o. told o (state_of c.step.new.self)) (sym c.in-None.is) ∙ c.in_ok-halt.ensures in
    record {
      onward = turned_onward run.grammar.now run.text.now (state_of c.turns.replayer) (state_of c.step.new.self) (state_of c.in_ok-replayer.replayer) went c.turns.invariant.onward;
      halting = halting_turn run.grammar.now run.text.now run.halts.0 (state_of c.turns.replayer) (state_of c.step.new.self) went c.turns.invariant.halting;
    }

pub returns-in-Some-clause-ok : goal.returns-in-Some-clause-ok
returns-in-Some-clause-ok c =
    let run = c.args.self.now in
    let last : told (Some c.in-Some.halt) (state_of c.step.new.self) ≡ next_turn run.grammar.now run.text.now (state_of c.turns.replayer) =
    ap (λ o. told o (state_of c.step.new.self)) (sym c.in-Some.is) ∙ c.in_ok-halt.ensures in
    IfOk-weaker c.halted.result _ _
    (λ forest h. derived_from run.grammar.now run.text.now run.table.now run.trail.now c.start_of-body.result _ (state_of c.turns.replayer)
    (state_of c.in_ok-replayer.replayer)
    (proper_table run.grammar.now run.table.now c.requires c.operators-operators.ensures.table) forest c.start_of-body.ensures c.in_ok-replayer.ensures last c.turns.invariant.onward h) c.halted.ensures.ok

pub returns-in-Some-clause-err : goal.returns-in-Some-clause-err
returns-in-Some-clause-err c =
    let run = c.args.self.now in
    let last : told (Some c.in-Some.halt) (state_of c.step.new.self) ≡ next_turn run.grammar.now run.text.now (state_of c.turns.replayer) =
    ap (λ o. told o (state_of c.step.new.self)) (sym c.in-Some.is) ∙ c.in_ok-halt.ensures in
    IfErr-weaker c.halted.result _ _
    (λ fault h. fault_from run.grammar.now run.text.now run.table.now run.trail.now c.start_of-body.result _ (state_of c.turns.replayer)
    (state_of c.in_ok-replayer.replayer)
    (proper_table run.grammar.now run.table.now c.requires c.operators-operators.ensures.table) fault c.start_of-body.ensures c.in_ok-replayer.ensures last c.turns.invariant.onward h) c.halted.ensures.err
