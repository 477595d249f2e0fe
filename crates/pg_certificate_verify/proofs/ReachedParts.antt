-- The parts of a node that are reached are parts.
use Rattle.std.proofs.Common.{ℕ, Bool, true, false, if◌then◌else◌, List, [], ◌∷◌}
use Rattle.pg_graph.specs.Marks.{is_marked}
use Rattle.pg_sets_nullable.specs.Parts.{up_to_unmarked}
use Rattle.pg_grammar_value.specs.Follows.{PartsFollow}

if_further : (k count : ℕ) (ps : List ℕ) (b : Bool) → PartsFollow k count ps → PartsFollow k count (if b then ps else [])
if_further k count ps true after = after
if_further k count ps false after = tt

-- the parts that are reached are parts
pub reached_after : (marks : List Bool) (k count : ℕ) (ps : List ℕ) → PartsFollow k count ps → PartsFollow k count (up_to_unmarked marks ps)
reached_after marks k count [] after = tt
reached_after marks k count (p ∷ ps) after = (after.0, if_further k count (up_to_unmarked marks ps) (is_marked marks p) (reached_after marks k count ps after.1))
