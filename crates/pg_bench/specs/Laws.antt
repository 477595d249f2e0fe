-- Laws that connect parsing and replaying.
use Rattle.std.specs.Prelude.{◌≡◌, ℕ, List}
use Rattle.pg_tree.specs.Trees.{Tree}
use Rattle.pg_grammar_value.specs.Grammar.{Grammar}
use Rattle.pg_grammar_value.specs.declared.trail.TrailItem.{TrailItem}
use Rattle.pg_table.specs.Tables.{Table, IsTable, initial, whole}
use Rattle.pg_trail_replay.specs.Ends.{IsTheForest, Stops}
use Rattle.pg_trail_replay.specs.Refusals.{Stop}
use Rattle.pg_bench.specs.declared.done.Done.{Done}
use Rattle.pg_bench.specs.Promise.{IsForestOfText}

-- replaying the trail of a text that was parsed, under the initial table, leads to its forest and no other, and doesn't stop
abbrev pub ParsedTrailsReplay : Type 0
ParsedTrailsReplay = (g : Grammar) (text : List ℕ) (table : Table) (forest : List Tree) (trail : List TrailItem) (done : Done) → IsTable table → initial g ≡ whole table →
    IsForestOfText g text forest trail done → IsTheForest g text table trail forest × ((s : Stop) → Stops g text table trail s → ⊥)
