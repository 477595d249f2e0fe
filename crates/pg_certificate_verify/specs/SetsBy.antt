-- The sets by the claims of a certificate.
use Rattle.std.specs.Prelude.{◌≡◌, ◌↔◌, ◌⊎◌, ◌<◌, ◌+◌, ◌*◌, ℕ, Bool, true, List, Some, slice_get, length}
use Rattle.std.specs.List.Sorted.{IsStrictlySortedBy}
use Rattle.pg_graph_bits.specs.Numbers.{set_at}
use Rattle.pg_certificate.specs.declared.certificate.RuleClaim.{RuleClaim}
use Rattle.pg_grammar_form.specs.Forms.{Node}
use Rattle.pg_grammar_form.specs.declared.form.Form.TheVariants as form
use Rattle.pg_grammar_form.specs.declared.used.OperatorBuilders.{OperatorBuilders}
use Rattle.pg_graph.specs.Graphs.{has, numbers_at}
use Rattle.pg_sets_own.specs.Listed.{IsListed, start_order}
use Rattle.pg_sets_own.specs.Own.{OwnListed}
use Rattle.pg_sets_own.specs.OwnStarts.{IsOperatorStart}
use Rattle.pg_sets_own.specs.declared.listed.ListedStart.{ListedStart}
use Rattle.pg_sets.specs.Flows.{follow_of}
use Rattle.pg_start.specs.declared.kind.StartKind.TheVariants.{End}
use Rattle.pg_grammar_value.specs.Grammar.{Grammar}
use Rattle.pg_certificate_verify.specs.Claimed.{claimed_first, claimed_follow}
use Rattle.pg_certificate_verify.specs.Edges.{rule_set, of_first, of_follow, of_behind}
use Rattle.pg_certificate_verify.specs.First.{IsFirstBy}
use Rattle.pg_certificate_verify.specs.Follow.{IsFollowBy, IsBehind}
use Rattle.pg_certificate_verify.specs.NodeSets.{HasListed, NodeSets}
use Rattle.pg_certificate_verify.specs.Standing.{IsClaimedAs}

-- ---- where starts come from

-- the set with this number holds the start by itself: the first set of a node that gives it, the follow set of an
-- expression's term, which has the operators, or a claimed set of a rule; the set behind the start rule holds the end
pub data IsSourceBy (g : Grammar) (claims : List RuleClaim) (listed : ListedStart) : ℕ → Type 0 where
  own : {p : ℕ} {n : Node} → slice_get g.nodes p ≡ Some n → OwnListed g n listed → IsSourceBy g claims listed p
  operator : (p : ℕ) {v term : ℕ} {builders : OperatorBuilders} → slice_get g.nodes p ≡ Some (form.Expression builders term)
      → IsOperatorStart g listed.start → IsListed g listed → follow_of (length g.nodes) term ≡ v → IsSourceBy g claims listed v
  first : {v : ℕ} (r : ℕ) → r < length g.rules → IsClaimedAs g (claimed_first claims r) listed → rule_set (length g.nodes) (length g.rules) of_first r ≡ v
      → IsSourceBy g claims listed v
  follow : {v : ℕ} (r : ℕ) → r < length g.rules → IsClaimedAs g (claimed_follow claims r) listed → rule_set (length g.nodes) (length g.rules) of_follow r ≡ v
      → IsSourceBy g claims listed v
  at_end : {v : ℕ} → ◌≡◌ {A = ListedStart} (record { start = End; word = 0 }) listed → rule_set (length g.nodes) (length g.rules) of_behind g.start ≡ v
      → IsSourceBy g claims listed v

-- a claim about this rule: the set with this number holds the start
abbrev pub IsClaimOf : Grammar → List RuleClaim → ℕ → ListedStart → ℕ → Type 0
IsClaimOf g claims r listed v =
    (IsClaimedAs g (claimed_first claims r) listed × (rule_set (length g.nodes) (length g.rules) of_first r ≡ v))
    ⊎ (IsClaimedAs g (claimed_follow claims r) listed × (rule_set (length g.nodes) (length g.rules) of_follow r ≡ v))

-- a claim about one of the first `count` rules
pub record ClaimsBelow (g : Grammar) (claims : List RuleClaim) (count : ℕ) (listed : ListedStart) (v : ℕ) : Type 0 where
  pub rule : ℕ
  pub below : rule < count
  pub claim : IsClaimOf g claims rule listed v

-- the start is in the list
abbrev pub StandsThere : List ListedStart → ListedStart → Type 0
StandsThere starts listed = (k : ℕ) × (slice_get starts k ≡ Some listed)

-- the starts in order, each with the sets that hold it by themselves
pub record AreListedBy (g : Grammar) (claims : List RuleClaim) (starts : List ListedStart) (roots : List (List ℕ)) : Type 0 where
  pub ordered : IsStrictlySortedBy start_order starts
  pub long : length roots ≡ length starts
  pub named : (k : ℕ) (listed : ListedStart) → slice_get starts k ≡ Some listed → IsListed g listed
  pub sources : (k v : ℕ) (listed : ListedStart) → slice_get starts k ≡ Some listed → (has (numbers_at roots k) v ≡ true) ↔ IsSourceBy g claims listed v
  pub all : (listed : ListedStart) (v : ℕ) → IsSourceBy g claims listed v → StandsThere starts listed

-- ---- the sets

-- the starts in order, each once; for each node the numbers of the starts that are among its first by the claims, and of
-- the starts that can follow it; and such sets of the rules, by their numbers minus twice the number of nodes
pub record SetsBy : Type 0 where
  pub starts : List ListedStart
  pub firsts : List (List Bool)
  pub follows : List (List Bool)
  pub of_rules : List (List Bool)

-- those of nodes among them
abbrev pub node_sets : SetsBy → NodeSets
node_sets sets = record { starts = sets.starts; firsts = sets.firsts; follows = sets.follows }

-- one of the sets of a rule
abbrev pub set_of_rule : SetsBy → ℕ → ℕ → ℕ → List Bool
set_of_rule sets rules kind r = set_at sets.of_rules (1 + kind * rules + r)

-- these are the sets by the claims, from the marks of the nullable nodes
pub record AreSetsBy (g : Grammar) (claims : List RuleClaim) (nullable : List Bool) (sets : SetsBy) : Type 0 where
  pub ordered : IsStrictlySortedBy start_order sets.starts
  pub long : length sets.firsts ≡ length g.nodes
  pub follow_long : length sets.follows ≡ length g.nodes
  pub rules_long : length sets.of_rules ≡ 1 + 3 * length g.rules
  pub named : (k : ℕ) (listed : ListedStart) → slice_get sets.starts k ≡ Some listed → IsListed g listed
  pub first : (p : ℕ) (listed : ListedStart) → p < length g.nodes → HasListed sets.starts (set_at sets.firsts p) listed ↔ IsFirstBy g claims nullable listed p
  pub follow : (p : ℕ) (listed : ListedStart) → p < length g.nodes → HasListed sets.starts (set_at sets.follows p) listed ↔ IsFollowBy g claims nullable listed p
  pub first_limit : (p : ℕ) → p < length g.nodes → length (set_at sets.firsts p) ≡ length sets.starts
  pub follow_limit : (p : ℕ) → p < length g.nodes → length (set_at sets.follows p) ≡ length sets.starts
  pub claimed_first : (r : ℕ) (listed : ListedStart) → r < length g.rules
      → HasListed sets.starts (set_of_rule sets (length g.rules) of_first r) listed ↔ IsClaimedAs g (claimed_first claims r) listed
  pub claimed_follow : (r : ℕ) (listed : ListedStart) → r < length g.rules
      → HasListed sets.starts (set_of_rule sets (length g.rules) of_follow r) listed ↔ IsClaimedAs g (claimed_follow claims r) listed
  pub behind : (r : ℕ) (listed : ListedStart) → r < length g.rules
      → HasListed sets.starts (set_of_rule sets (length g.rules) of_behind r) listed ↔ IsBehind g claims nullable listed r
  pub rule_limit : (kind r : ℕ) → kind < 3 → r < length g.rules → length (set_of_rule sets (length g.rules) kind r) ≡ length sets.starts
