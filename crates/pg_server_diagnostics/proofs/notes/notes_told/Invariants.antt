use Rattle.pg_server_diagnostics.specs.Hints.{AreHints}
use Rattle.pg_server_diagnostics.proofs.notes.notes_told.Given as goal

abbrev pub invariant-loop-note : goal.invariant-loop-note
invariant-loop-note l = AreHints l.found.items
