-- Views of the machine's values, as the definitions have them.
use Rattle.std.specs.Prelude.{List}
use Rattle.pg_grammar_value.specs.declared.trail.TrailItem.{TrailItem}
use Rattle.pg_table.specs.Tables.{Table}
use Rattle.pg_message_tape.specs.Messages.{TapeMessage}
use Rattle.pg_machine_turns.specs.Tape.{OnFrame, Tape, tape_at, tape_with, tape_endless}
pub use Rattle.pg_machine_turns.specs.ViewFrames.{tried_of, chain_of, links_of, frame_of}
use Rattle.pg_machine_turns.specs.declared.frame.Mode.{Mode}
use Rattle.pg_machine_turns.specs.declared.frame.Mode.TheVariants as mode
use Rattle.pg_machine_turns.specs.declared.machine.Machine.{Machine}
use Rattle.pg_machine_lists.specs.RunTrees.{RunTrees}

abbrev pub tape_of : Mode → Machine → Tape
tape_of (mode.At node place) m = tape_at node place m.frames m.lists.forest m.lists.trail.items m.lists.messages m.table
tape_of (mode.With reply) m = tape_with reply m.frames m.lists.forest m.lists.trail.items m.lists.messages m.table
tape_of mode.Endless m = tape_endless

-- the tape of a turn as a function of the machine's lists and table
abbrev pub on_lists : (List OnFrame → RunTrees → List TrailItem → List TapeMessage → Table → Tape) → Machine → Tape
on_lists made m = made m.frames m.lists.forest m.lists.trail.items m.lists.messages m.table
