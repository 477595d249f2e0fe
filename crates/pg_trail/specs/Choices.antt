-- The kind of choice that an item's key names.
use Rattle.std.specs.Prelude.{List, ℕ, codes}
use Rattle.serde_json.specs.Data.{Data}
use Rattle.pg_grammar_value.specs.declared.trail.TrailItem.{TrailItem}
use Rattle.pg_grammar_value.specs.declared.trail.TrailItem.TheVariants.{Alt, Rounds, Ops}
use Rattle.pg_trail.specs.declared.item.Choice.{Choice}
use Rattle.pg_trail.specs.declared.item.Choice.TheVariants.{Alternative, Repetition, Operators}
use Rattle.pg_trail.specs.TrailJson.{count_value, operators_value}

-- the key
abbrev pub key_of : Choice → List ℕ
key_of Alternative = codes "alt"
key_of Repetition = codes "rounds"
key_of Operators = codes "ops"

-- the key of an item
abbrev pub item_key : TrailItem → List ℕ
item_key (Alt k) = codes "alt"
item_key (Rounds k) = codes "rounds"
item_key (Ops os) = codes "ops"

-- the value under it
abbrev pub chosen_value : TrailItem → Data
chosen_value (Alt k) = count_value k
chosen_value (Rounds k) = count_value k
chosen_value (Ops os) = operators_value os
