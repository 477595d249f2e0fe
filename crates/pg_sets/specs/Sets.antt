-- The sets of a grammar.
use Rattle.std.specs.Prelude.{◌≡◌, ◌↔◌, ◌<◌, ℕ, Bool, true, List, Option, Some, slice_get, length}
use Rattle.std.specs.List.Sorted.{IsStrictlySortedBy}
use Rattle.pg_grammar_value.specs.Grammar.{Grammar}
use Rattle.pg_grammar_form.specs.Forms.{Node}
use Rattle.pg_graph_bits.specs.Numbers.{contains, set_at}
use Rattle.pg_start.specs.declared.kind.StartKind.{StartKind}
use Rattle.pg_sets.specs.First.{IsFirst}
use Rattle.pg_sets.specs.Follow.{IsFollow}
use Rattle.pg_sets_own.specs.Listed.{IsListed, start_order}
use Rattle.pg_graph.specs.Marks.{is_marked}
use Rattle.pg_sets_nullable.specs.Nullable.{Nullable}
use Rattle.pg_sets_own.specs.Own.{IsPlain}
use Rattle.pg_sets_own.specs.OwnStarts.{OwnStart}
use Rattle.pg_sets_nullable.specs.Ranks.{AreRanks}
use Rattle.pg_sets_nullable.specs.Reached.{AreHeads}
use Rattle.pg_sets_own.specs.declared.listed.ListedStart.{ListedStart}

-- a mark for each nullable node; the starts; for each node the numbers of the starts that are among its first, and of the
-- starts that can follow it; for each rule its heads and its rank
pub record Sets : Type 0 where
  pub nullable : List Bool
  pub starts : List ListedStart
  pub firsts : List (List Bool)
  pub follows : List (List Bool)
  pub heads : List (List ℕ)
  pub ranks : List (Option ℕ)

-- the start has a number in the set
pub record HasStart (starts : List ListedStart) (set : List Bool) (start : StartKind) : Type 0 where
  pub number : ℕ
  pub listed : ListedStart
  pub member : contains set number ≡ true
  pub there : slice_get starts number ≡ Some listed
  pub same : listed.start ≡ start

-- the first and the follow sets of the grammar: the starts are in order, each once and under its number, and the
-- numbers in a set are below the number of starts
pub record AreStartSets (g : Grammar) (starts : List ListedStart) (firsts follows : List (List Bool)) : Type 0 where
  pub ordered : IsStrictlySortedBy start_order starts
  pub listed : (k : ℕ) (listed : ListedStart) → slice_get starts k ≡ Some listed → IsListed g listed
  pub first : (p : ℕ) (start : StartKind) → p < length g.nodes → HasStart starts (set_at firsts p) start ↔ IsFirst g start p
  pub follow : (p : ℕ) (start : StartKind) → p < length g.nodes → HasStart starts (set_at follows p) start ↔ IsFollow g start p
  pub first_limit : (p : ℕ) → p < length g.nodes → length (set_at firsts p) ≡ length starts
  pub follow_limit : (p : ℕ) → p < length g.nodes → length (set_at follows p) ≡ length starts
  -- a character of a class, a word and a key have a start of their own
  pub plain : (p : ℕ) (n : Node) → slice_get g.nodes p ≡ Some n → IsPlain g n → (start : StartKind) × OwnStart g n start

-- these are the sets of the grammar
pub record AreSets (g : Grammar) (sets : Sets) : Type 0 where
  pub nullable : (p : ℕ) → (is_marked sets.nullable p ≡ true) ↔ Nullable g p
  pub start_sets : AreStartSets g sets.starts sets.firsts sets.follows
  pub heads : AreHeads g sets.heads
  pub ranks : AreRanks g sets.ranks
