-- Laws on trails and derivations.
use Rattle.std.specs.Prelude.{List, ℕ}
use Rattle.pg_tree.specs.Trees.{Tree}
use Rattle.pg_grammar_value.specs.Grammar.{Grammar}
use Rattle.pg_grammar_value.specs.declared.trail.TrailItem.{TrailItem}
use Rattle.pg_table.specs.Tables.{Table, IsTable, ComesFrom}
use Rattle.pg_language.specs.Derives.{DerivesText}
use Rattle.pg_trail_replay.specs.Refusals.{Stop}
use Rattle.pg_trail_replay.specs.Ends.{IsTheForest, Stops}

-- the trail of a derivation derives the same forest, and no other, and doesn't stop
abbrev pub TrailsTellDerivations : Type 0
TrailsTellDerivations = (g : Grammar) (text : List ℕ) (table after : Table) (forest : List Tree) (trail : List TrailItem) → ComesFrom g table → IsTable table →
    DerivesText g text table after forest trail → IsTheForest g text table trail forest × ((s : Stop) → Stops g text table trail s → ⊥)
