use Rattle.std.proofs.Common.{◌≡◌, ◌++◌, false, drop}
use Rattle.pg_tree.specs.Written.{entries_json}
use Rattle.pg_tree.proofs.json_text.stored_text.Given as goal

abbrev pub invariant-loop-i : goal.invariant-loop-i
invariant-loop-i l =
    l.text.items ++ entries_json l.later (drop l.i l.store.entries.items) (drop l.i l.openings.items) l.texts l.labels
    ≡ l.initial.text.items ++ entries_json false l.store.entries.items l.openings.items l.initial.texts l.initial.labels
