-- The results of replaying a trail over a whole text.
use Rattle.std.specs.Prelude.{◌≡◌, ℕ, List, [], ◌∷◌, ◌++◌, Some, slice_get, length}
use Rattle.pg_tree.specs.Trees.{Tree}
use Rattle.pg_grammar_value.specs.Grammar.{Grammar}
use Rattle.pg_grammar_value.specs.declared.grammar.Rule as declared
use Rattle.pg_grammar_value.specs.declared.trail.TrailItem.{TrailItem}
use Rattle.pg_table.specs.Tables.{Table}
use Rattle.pg_language.specs.Derives.{Spot, Derives, DerivesText}
use Rattle.pg_trail_replay.specs.declared.replay_fault.Mismatch.TheVariants.{LeftOver}
use Rattle.pg_trail_replay.specs.declared.replay_fault.Stop as declared_stop
use Rattle.pg_trail_replay.specs.declared.replay_fault.ReplayFault.{ReplayFault}
use Rattle.pg_trail_replay.specs.declared.replay_fault.ReplayFault.TheVariants.{Stopped, Memory}
use Rattle.pg_trail_replay.specs.Refusals.{Stop, stop, Refuses}

-- the grammar derives the whole text from the table with this forest and exactly this trail
pub record IsDerived (g : Grammar) (text : List ℕ) (table : Table) (trail : List TrailItem) (forest : List Tree) : Type 0 where
  pub after : Table
  pub derived : DerivesText g text table after forest trail

-- no forest is derived with exactly this trail
abbrev pub HasNoForest : Grammar → List ℕ → Table → List TrailItem → Type 0
HasNoForest g text table trail = (forest : List Tree) → IsDerived g text table trail forest → ⊥

-- the forest is derived with exactly this trail, and no other is
pub record IsTheForest (g : Grammar) (text : List ℕ) (table : Table) (trail : List TrailItem) (forest : List Tree) : Type 0 where
  pub derived : IsDerived g text table trail forest
  pub only : (other : List Tree) → IsDerived g text table trail other → other ≡ forest

-- the start of the text, under a table
abbrev pub beginning : Table → Spot
beginning table = record { place = 0; table = table }

-- the replay stops: in the start rule, or after it if text or items are left over
pub data Stops (g : Grammar) (text : List ℕ) (table : Table) (trail : List TrailItem) : Stop → Type 0 where
  in_start : {start : declared.Rule} {s : Stop} → slice_get g.rules g.start ≡ Some start →
      Refuses g text (g.start ∷ []) start.body (beginning table) trail s → Stops g text table trail s
  left_over : {start : declared.Rule} {b : Spot} {forest : List Tree} {taken rest : List TrailItem} → slice_get g.rules g.start ≡ Some start →
      Derives g text start.body (beginning table) b forest taken → trail ≡ taken ++ rest → (b.place ≡ length text → rest ≡ [] → ⊥) →
      Stops g text table trail (stop LeftOver b rest)

-- the reported stop is where the replay stops, with this many items left
pub record IsTold (g : Grammar) (text : List ℕ) (table : Table) (trail : List TrailItem) (told : declared_stop.Stop) : Type 0 where
  pub rest : List TrailItem
  pub left : length rest ≡ told.left
  pub stops : Stops g text table trail (record { why = told.why; place = told.place; rest = rest })

-- why there is no forest: the trail stops, and none is derived; nothing is claimed if memory ran out
abbrev pub IsFault : Grammar → List ℕ → Table → List TrailItem → ReplayFault → Type 0
IsFault g text table trail (Stopped told) = IsTold g text table trail told × HasNoForest g text table trail
IsFault g text table trail Memory = Unit {0}
