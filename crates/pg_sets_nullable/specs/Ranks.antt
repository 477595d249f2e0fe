-- Ranks: how long the chains of heads from a rule are.
use Rattle.std.specs.Prelude.{◌≡◌, ◌↔◌, ◌<◌, ◌≤◌, ℕ, zero, suc, List, Option, Some, None, length, slice_index_or}
use Rattle.pg_grammar_value.specs.Grammar.{Grammar}
use Rattle.pg_sets_nullable.specs.Reached.{Heads}

mutual
  -- the rank of the rule
  pub data IsRank (g : Grammar) : ℕ → ℕ → Type 0 where
    -- a rule without heads has rank 0
    no_heads : {a : ℕ} → ((b : ℕ) → Heads g a b → ⊥) → IsRank g a zero
    -- any other rule has 1 plus the greatest rank of its heads
    above : {a b r : ℕ} → Heads g a b → IsRank g b r → ((c : ℕ) → Heads g a c → RankUpTo g c r) → IsRank g a (suc r)

  -- the rule has a rank, which is at most this
  pub data RankUpTo (g : Grammar) : ℕ → ℕ → Type 0 where
    up_to : {a s r : ℕ} → IsRank g a s → s ≤ r → RankUpTo g a r

-- a chain of heads leads from the rule a to the rule b: one head or more
pub data Chain (g : Grammar) : ℕ → ℕ → Type 0 where
  head : {a b : ℕ} → Heads g a b → Chain g a b
  heads : {a b c : ℕ} → Heads g a b → Chain g b c → Chain g a c

-- a chain of heads from the rule reaches a cycle, which the rule itself may be on
pub data ReachesCycle (g : Grammar) : ℕ → Type 0 where
  on_cycle : {a : ℕ} → Chain g a a → ReachesCycle g a
  leads_to : {a b : ℕ} → Heads g a b → ReachesCycle g b → ReachesCycle g a

-- the rank of a rule in a list of ranks; none for a rule that isn't there
abbrev pub rank_at : List (Option ℕ) → ℕ → Option ℕ
rank_at ranks a = slice_index_or ranks a None

-- for each rule its rank; none exactly where a chain of heads reaches a cycle
pub record AreRanks (g : Grammar) (ranks : List (Option ℕ)) : Type 0 where
  pub long : length ranks ≡ length g.rules
  pub ranked : (a r : ℕ) → a < length g.rules → (rank_at ranks a ≡ Some r) ↔ IsRank g a r
  pub cyclic : (a : ℕ) → a < length g.rules → (rank_at ranks a ≡ None) ↔ ReachesCycle g a
