-- The outcome of running a node: an answer of a parser, or none because a repetition would never end.
use Rattle.std.specs.Prelude.{List, Bool}
use Rattle.pg_tree.specs.Trees.{Tree}
use Rattle.pg_language.specs.Derives.{Spot}
use Rattle.pg_grammar_value.specs.declared.trail.TrailItem.{TrailItem}
use Rattle.pg_language.specs.Errors.{Error}

-- ok, with whether input was consumed, the place and table after it, a forest, a trail and an error; failed; or a repetition had a round that was ok
-- and consumed nothing
pub data Outcome : Type 0 where
  -- consumed ok or empty ok, with the spot after it, a forest, its trail, and the error that later ones are merged with
  ok : (consumed : Bool) (end : Spot) (forest : List Tree) (trail : List TrailItem) (why : Error) → Outcome
  -- consumed error or empty error
  failed : (consumed : Bool) (why : Error) → Outcome
  -- a round of a repetition was ok and consumed nothing
  empty_round : Outcome
