-- The result when all tasks have ended.
use Rattle.std.specs.Prelude.{◌≡◌, ℕ, List, [], ◌∷◌, length, replicate, None}
use Rattle.pg_tree.specs.Trees.{Tree}
use Rattle.pg_grammar_value.specs.Grammar.{Grammar}
use Rattle.pg_grammar_value.specs.declared.trail.TrailItem.{TrailItem}
use Rattle.pg_table.specs.Tables.{Table}
use Rattle.pg_trail_replay.specs.declared.replay_fault.Mismatch.{Mismatch}
use Rattle.pg_trail_replay.specs.declared.replay_fault.Mismatch.TheVariants.{LeftOver}
use Rattle.pg_trail_replay.specs.declared.replay_fault.Stop as declared_stop
use Rattle.pg_trail_replay.specs.declared.replay_fault.ReplayFault.{ReplayFault}
use Rattle.pg_trail_replay.specs.declared.replay_fault.ReplayFault.TheVariants.{Stopped, Memory}
use Rattle.pg_trail_replay.specs.Tasks.{tight, State, Turn, on, stops, ended, node}

-- the state before the body of the start rule, with nothing known
abbrev pub first_state : Grammar → ℕ → Table → List TrailItem → State
first_state g body table items = record {
  tasks = node body ∷ [];
  place = 0;
  table = table;
  forest = [];
  rest = items;
  entered = g.start ∷ [];
  setting = record { marks = []; loose = tight };
  known = replicate (length g.rules) None;
  blank = replicate (length g.nodes) None;
}

-- all tasks are done, and nothing is left over
abbrev pub IsEnd : List ℕ → Turn → List Tree → Type 0
IsEnd text (on s) forest = ⊥
IsEnd text (stops why place rest) forest = ⊥
IsEnd text (ended s) forest = (s.place ≡ length text) × (s.rest ≡ []) × (forest ≡ s.forest)

abbrev pub stop_told : Mismatch → ℕ → ℕ → declared_stop.Stop
stop_told why place left = record { why = why; place = place; left = left }

-- the reported stop of a turn after which there is no forest
abbrev pub IsStopOf : List ℕ → Turn → declared_stop.Stop → Type 0
IsStopOf text (on s) told = ⊥
IsStopOf text (stops why place rest) told = told ≡ stop_told why place (length rest)
IsStopOf text (ended s) told = (s.place ≡ length text → s.rest ≡ [] → ⊥) × (told ≡ stop_told LeftOver s.place (length s.rest))

abbrev pub IsHalt : List ℕ → Turn → ReplayFault → Type 0
IsHalt text turn (Stopped told) = IsStopOf text turn told
IsHalt text turn Memory = Unit {0}
