-- The first and the follow sets of nodes by the claims of a certificate.
use Rattle.std.specs.Prelude.{◌≡◌, ◌↔◌, ◌<◌, ℕ, Bool, true, List, Some, slice_get, length}
use Rattle.std.specs.List.Sorted.{IsStrictlySortedBy}
use Rattle.pg_graph_bits.specs.Numbers.{contains, set_at}
use Rattle.pg_certificate.specs.declared.certificate.RuleClaim.{RuleClaim}
use Rattle.pg_grammar_value.specs.Grammar.{Grammar}
use Rattle.pg_sets_own.specs.Listed.{IsListed, start_order}
use Rattle.pg_sets_own.specs.declared.listed.ListedStart.{ListedStart}
use Rattle.pg_certificate_verify.specs.First.{IsFirstBy}
use Rattle.pg_certificate_verify.specs.Follow.{IsFollowBy}

-- the start has a number in the set
pub record HasListed (starts : List ListedStart) (set : List Bool) (listed : ListedStart) : Type 0 where
  pub number : ℕ
  pub there : slice_get starts number ≡ Some listed
  pub member : contains set number ≡ true

-- the starts in order, each once; and for each node the numbers of the starts that can begin it, and of those that can follow it
pub record NodeSets : Type 0 where
  pub starts : List ListedStart
  pub firsts : List (List Bool)
  pub follows : List (List Bool)

-- these are the sets by the claims, from the marks of the nullable nodes
pub record AreNodeSets (g : Grammar) (claims : List RuleClaim) (nullable : List Bool) (sets : NodeSets) : Type 0 where
  pub ordered : IsStrictlySortedBy start_order sets.starts
  pub named : (k : ℕ) (listed : ListedStart) → slice_get sets.starts k ≡ Some listed → IsListed g listed
  pub long : length sets.firsts ≡ length g.nodes
  pub follow_long : length sets.follows ≡ length g.nodes
  pub first : (p : ℕ) (listed : ListedStart) → p < length g.nodes → HasListed sets.starts (set_at sets.firsts p) listed ↔ IsFirstBy g claims nullable listed p
  pub follow : (p : ℕ) (listed : ListedStart) → p < length g.nodes → HasListed sets.starts (set_at sets.follows p) listed ↔ IsFollowBy g claims nullable listed p
  pub first_limit : (p : ℕ) → p < length g.nodes → length (set_at sets.firsts p) ≡ length sets.starts
  pub follow_limit : (p : ℕ) → p < length g.nodes → length (set_at sets.follows p) ≡ length sets.starts
