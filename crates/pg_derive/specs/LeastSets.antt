-- The least sets of a grammar, as claimed sets of its nodes.
use Rattle.std.specs.Prelude.{Bool, ℕ, suc, if◌then◌else◌, List, [], ◌∷◌}
use Rattle.pg_grammar_value.specs.Grammar.{Grammar}
use Rattle.pg_start.specs.declared.kind.StartKind.{StartKind}
use Rattle.pg_graph_bits.specs.Numbers.{contains, set_at}
use Rattle.pg_graph.specs.Marks.{is_marked}
use Rattle.pg_sets.specs.Sets.{Sets}
use Rattle.pg_predict_costs.specs.Levels.{level_of}
use Rattle.pg_sets_own.specs.declared.listed.ListedStart.{ListedStart}
use Rattle.pg_derive.specs.ClosedSets.{NodeSets}

-- the starts with numbers in a set, where the first start of the list has the number k
abbrev pub numbered_in : (ℕ → Bool) → ℕ → List ListedStart → List StartKind
numbered_in is_in k [] = []
numbered_in is_in k (listed ∷ others) = if is_in k then listed.start ∷ numbered_in is_in (suc k) others else numbered_in is_in (suc k) others

-- the sets of a grammar, with each start in place of its number
abbrev pub node_sets : Grammar → Sets → NodeSets
node_sets g sets = record {
  nullable = is_marked sets.nullable;
  first = λ p. numbered_in (contains (set_at sets.firsts p)) 0 sets.starts;
  follow = λ p. numbered_in (contains (set_at sets.follows p)) 0 sets.starts;
  level = level_of g sets;
}
