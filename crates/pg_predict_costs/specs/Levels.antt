-- Levels of the nodes of a grammar in which no rule heads itself: each part that a node reaches before anything is consumed has a lower level.
use Rattle.std.specs.Prelude.{ℕ, zero, suc, ◌+◌, ◌-◌, ◌*◌, max, List, [], ◌∷◌, Option, slice_get, length}
use Rattle.std.specs.Option.{option_map_or}
use Rattle.pg_sets_nullable.specs.Parts.{reached_parts, used_rules}
use Rattle.pg_sets_nullable.specs.Ranks.{rank_at}
use Rattle.pg_sets.specs.Sets.{Sets}
use Rattle.pg_grammar_value.specs.Grammar.{Grammar}

-- the greatest value of a function for these numbers; 0 if there are none
abbrev pub greatest : (ℕ → ℕ) → List ℕ → ℕ
greatest f [] = 0
greatest f (n ∷ ns) = max (f n) (greatest f ns)

-- one more than the rank of a rule
abbrev pub above_rank : List (Option ℕ) → ℕ → ℕ
above_rank ranks r = option_map_or suc (rank_at ranks r) 0

-- one more than the greatest rank of the rules whose uses a node reaches, within this number of steps from part to part; 0
-- if there are none
abbrev pub rank_within : Grammar → Sets → ℕ → ℕ → ℕ
rank_within g sets zero p = 0
rank_within g sets (suc steps) p =
    option_map_or (λ n. max (greatest (above_rank sets.ranks) (used_rules n)) (greatest (λ q. rank_within g sets steps q) (reached_parts sets.nullable n))) (slice_get g.nodes p) 0

-- levels compare by that rank first, and then by place, since parts stand after their node
abbrev pub level_of : Grammar → Sets → ℕ → ℕ
level_of g sets p = rank_within g sets (length g.nodes - p) p * suc (length g.nodes) + (length g.nodes - p)
