-- When the claims about a rule are closed: whatever follows from the claims is claimed, or covered by something that is.
use Rattle.std.specs.Prelude.{◌≡◌, ◌⊎◌, ℕ, Bool, true, List, Some, slice_get}
use Rattle.pg_graph_bits.specs.Numbers.{contains}
use Rattle.pg_certificate.specs.declared.certificate.ClaimedStart.{ClaimedStart}
use Rattle.pg_certificate.specs.declared.certificate.RuleClaim.{RuleClaim}
use Rattle.pg_sets_own.specs.declared.listed.ListedStart.{ListedStart}
use Rattle.pg_grammar_value.specs.Grammar.{Grammar}
use Rattle.pg_grammar_value.specs.declared.grammar.Rule.{Rule}
use Rattle.pg_certificate_verify.specs.Claimed.{claimed_first, claimed_follow}
use Rattle.pg_certificate_verify.specs.Covering.{IsWiderClass, CoversStart}
use Rattle.pg_certificate_verify.specs.First.{IsFirstBy}
use Rattle.pg_certificate_verify.specs.Follow.{IsBehind}
use Rattle.pg_certificate_verify.specs.NodeSets.{HasListed}
use Rattle.pg_certificate_verify.specs.Standing.{IsClaimedAs}

-- one of the starts for which the claimed ones stand covers the start
abbrev pub IsCoveredBy : Grammar → List ClaimedStart → ListedStart → Type 0
IsCoveredBy g claimed listed = (one : ListedStart) × IsClaimedAs g claimed one × CoversStart one listed

-- each start that can begin the rule's body is covered by a claimed first start
abbrev pub IsFirstClosed : Grammar → List RuleClaim → List Bool → ℕ → Rule → Type 0
IsFirstClosed g claims nullable r rule = (listed : ListedStart) → IsFirstBy g claims nullable listed rule.body → IsCoveredBy g (claimed_first claims r) listed

-- each start that stands behind a use of the rule is covered by a claimed follow start, and so is the end for the start rule
abbrev pub IsFollowClosed : Grammar → List RuleClaim → List Bool → ℕ → Type 0
IsFollowClosed g claims nullable r = (listed : ListedStart) → IsBehind g claims nullable listed r → IsCoveredBy g (claimed_follow claims r) listed

-- ---- by numbers

-- the start is a class, and a class in the set contains it
abbrev pub HasWider : List ListedStart → List Bool → ListedStart → Type 0
HasWider starts claimed listed = (one : ListedStart) × HasListed starts claimed one × IsWiderClass one.start listed.start

-- the start with this number, if it is in the set, is in the claimed set, or is a class that one in it contains
abbrev pub NumberIsCovered : List ListedStart → List Bool → List Bool → ℕ → Type 0
NumberIsCovered starts claimed set k =
    (listed : ListedStart) → slice_get starts k ≡ Some listed → contains set k ≡ true → (contains claimed k ≡ true) ⊎ HasWider starts claimed listed

-- this holds for each number
abbrev pub SetIsCovered : List ListedStart → List Bool → List Bool → Type 0
SetIsCovered starts claimed set = (k : ℕ) → NumberIsCovered starts claimed set k
