-- Covered sets of numbers, one number at a time, and what they say of claims.
use Rattle.std.proofs.Common.{◌≡◌, ◌⊎◌, inl, inr, ◌<◌, ◌≤◌, ◌+◌, ◌*◌, ℕ, Bool, true, List, Some, None, slice_get, length, refl, sym, ap, subst, ◌∙◌, arith}
use Rattle.std.specs.Prelude.{◌↔◌}
use Rattle.std.specs.List.Sorted.{IsStrictlySortedBy}
use Rattle.std.proofs.lemmas.Bool.{cases_eq}
use Rattle.std.proofs.lemmas.Option.{slice_get_within, same_Some, none-some}
use Rattle.pg_graph_bits.specs.Numbers.{contains, set_at}
use Rattle.pg_certificate.specs.declared.certificate.ClaimedStart.{ClaimedStart}
use Rattle.pg_certificate.specs.declared.certificate.RuleClaim.{RuleClaim}
use Rattle.pg_sets_own.specs.Listed.{start_order}
use Rattle.pg_sets_own.specs.declared.listed.ListedStart.{ListedStart}
use Rattle.pg_grammar_value.specs.Grammar.{Grammar}
use Rattle.pg_grammar_value.specs.declared.grammar.Rule.{Rule}
use Rattle.pg_certificate_verify.specs.Claimed.{claimed_first, claimed_follow}
use Rattle.pg_certificate_verify.specs.Closed.{IsCoveredBy, IsFirstClosed, IsFollowClosed, HasWider, NumberIsCovered, SetIsCovered}
use Rattle.pg_certificate_verify.specs.Covering.{IsWiderClass}
use Rattle.pg_certificate_verify.specs.First.{IsFirstBy}
use Rattle.pg_certificate_verify.specs.Follow.{IsBehind}
use Rattle.pg_certificate_verify.specs.Edges.{of_first, of_follow, of_behind}
use Rattle.pg_certificate_verify.specs.NodeSets.{HasListed, AreNodeSets}
use Rattle.pg_certificate_verify.specs.SetsBy.{AreSetsBy, SetsBy, node_sets, set_of_rule}
use Rattle.pg_certificate_verify.specs.Standing.{IsClaimedAs}
use Rattle.pg_predict_conditions.proofs.Numbered.{same_numbers}

-- ---- numbers

pub covered_more : (starts : List ListedStart) (claimed set : List Bool) (i : ℕ) → ((k : ℕ) → k < i → NumberIsCovered starts claimed set k)
    → NumberIsCovered starts claimed set i → (k : ℕ) → k < i + 1 → NumberIsCovered starts claimed set k
covered_more starts claimed set i before this k below =
    elim (cases_eq k i) [ inl same ↦ subst (NumberIsCovered starts claimed set) (sym same) this | inr other ↦ before k (omega (arith, below, other)) ]

pub covered_all : (starts : List ListedStart) (claimed set : List Bool) (i : ℕ) → length starts ≤ i → ((k : ℕ) → k < i → NumberIsCovered starts claimed set k)
    → SetIsCovered starts claimed set
covered_all starts claimed set i whole each k listed at member = let inside = slice_get_within starts k listed at in each k (omega arith) listed at member

pub number_covered : (starts : List ListedStart) (claimed set : List Bool) (k : ℕ) (listed : ListedStart) → slice_get starts k ≡ Some listed
    → ((contains set k ≡ true) → (contains claimed k ≡ true) ⊎ HasWider starts claimed listed) ↔ NumberIsCovered starts claimed set k
number_covered starts claimed set k listed at = (
  λ h other there member.
      let one : listed ≡ other = same_Some listed other (sym at ∙ there) in
      elim (h member) [ inl in_claimed ↦ inl in_claimed | inr wider ↦ inr (subst (HasWider starts claimed) one wider) ],
  λ h member. h listed at member,
)

pub no_number : (starts : List ListedStart) (claimed set : List Bool) (k : ℕ) → slice_get starts k ≡ None → NumberIsCovered starts claimed set k
no_number starts claimed set k none listed at = absurd (none-some listed (sym none ∙ at))

-- no class among the first is wider
abbrev pub NoneWider : List ListedStart → List Bool → ListedStart → ℕ → Type 0
NoneWider starts claimed listed i =
    (k : ℕ) (one : ListedStart) → k < i → slice_get starts k ≡ Some one → contains claimed k ≡ true → IsWiderClass one.start listed.start → ⊥

pub none_wider_more : (starts : List ListedStart) (claimed : List Bool) (listed one : ListedStart) (i : ℕ) → slice_get starts i ≡ Some one
    → NoneWider starts claimed listed i → ((contains claimed i ≡ true) → IsWiderClass one.start listed.start → ⊥) → NoneWider starts claimed listed (i + 1)
none_wider_more starts claimed listed one i at before this k other below there member wider =
    elim (cases_eq k i) [
      | inl same ↦
          let is : one ≡ other = same_Some one other (sym at ∙ (ap (slice_get starts) (sym same) ∙ there)) in
          this (ap (contains claimed) (sym same) ∙ member) (subst (λ x. IsWiderClass x.start listed.start) (sym is) wider)
      | inr differ ↦ before k other (omega (arith, below, differ)) there member wider
    ]

pub none_wider : (starts : List ListedStart) (claimed : List Bool) (listed : ListedStart) (i : ℕ) → length starts ≤ i → NoneWider starts claimed listed i
    → HasWider starts claimed listed → ⊥
none_wider starts claimed listed i whole none has =
    let inside = slice_get_within starts has.1.number has.0 has.1.there in
    none has.1.number has.0 (omega arith) has.1.there has.1.member has.2

pub one_wider : (starts : List ListedStart) (claimed : List Bool) (listed one : ListedStart) (i : ℕ) → slice_get starts i ≡ Some one → contains claimed i ≡ true
    → IsWiderClass one.start listed.start → HasWider starts claimed listed
one_wider starts claimed listed one i at member wider = (one, record { number = i; there = at; member = member }, wider)

-- ---- a start has one number

-- ---- sets of claims

-- one set is covered by another, where the members of both are known
pub covered_is : (g : Grammar) (starts : List ListedStart) (claimed set : List Bool) (claims : List ClaimedStart) (Held : ListedStart → Type 0) → IsStrictlySortedBy start_order starts
    → ((listed : ListedStart) → HasListed starts claimed listed ↔ IsClaimedAs g claims listed) → ((listed : ListedStart) → HasListed starts set listed ↔ Held listed)
    → SetIsCovered starts claimed set ↔ ((listed : ListedStart) → Held listed → IsCoveredBy g claims listed)
covered_is g starts claimed set claims Held sorted claimed_is set_is = (
  λ covered listed held.
      let h = (set_is listed).1 held in
      elim (covered h.number listed h.there h.member) [
        | inl in_claimed ↦ (listed, (claimed_is listed).0 (record { number = h.number; there = h.there; member = in_claimed }), inr refl)
        | inr wider ↦ (wider.0, (claimed_is wider.0).0 wider.1, inl wider.2)
      ],
  λ closed k listed at member.
      let found = closed listed ((set_is listed).0 (record { number = k; there = at; member = member })) in
      elim (found.2) [
        | inl wider ↦ inr (found.0, (claimed_is found.0).1 found.1, wider)
        | inr same ↦
            let h = (claimed_is listed).1 (subst (IsClaimedAs g claims) same found.1) in
            inl (subst (λ m. contains claimed m ≡ true) (same_numbers starts h.number k listed sorted h.there at) h.member)
      ],
)

pub closed_first : (g : Grammar) (claims : List RuleClaim) (nullable : List Bool) (sets : SetsBy) (r : ℕ) (rule : Rule) → AreSetsBy g claims nullable sets → r < length g.rules → rule.body < length g.nodes
    → (starts : List ListedStart) (claimed set : List Bool) → (rules : ℕ) → rules ≡ length g.rules → starts ≡ sets.starts → claimed ≡ set_at sets.of_rules (1 + 0 * rules + r) → set ≡ set_at sets.firsts rule.body
    → SetIsCovered starts claimed set ↔ IsFirstClosed g claims nullable r rule
closed_first g claims nullable sets r rule are below inside starts claimed set rules is_rules is_starts is_claimed is_set =
    rw (is_starts, is_claimed, is_set, is_rules)
    (covered_is g sets.starts (set_of_rule sets (length g.rules) of_first r) (set_at sets.firsts rule.body) (claimed_first claims r) (λ listed. IsFirstBy g claims nullable listed rule.body)
    are.ordered (λ listed. are.claimed_first r listed below) (λ listed. are.first rule.body listed inside))

pub closed_follow : (g : Grammar) (claims : List RuleClaim) (nullable : List Bool) (sets : SetsBy) (r : ℕ) → AreSetsBy g claims nullable sets → r < length g.rules
    → (starts : List ListedStart) (claimed set : List Bool) → (rules : ℕ) → rules ≡ length g.rules → starts ≡ sets.starts → claimed ≡ set_at sets.of_rules (1 + 1 * rules + r) → set ≡ set_at sets.of_rules (1 + 2 * rules + r)
    → SetIsCovered starts claimed set ↔ IsFollowClosed g claims nullable r
closed_follow g claims nullable sets r are below starts claimed set rules is_rules is_starts is_claimed is_set =
    rw (is_starts, is_claimed, is_set, is_rules)
    (covered_is g sets.starts (set_of_rule sets (length g.rules) of_follow r) (set_of_rule sets (length g.rules) of_behind r) (claimed_follow claims r) (λ listed. IsBehind g claims nullable listed r)
    are.ordered (λ listed. are.claimed_follow r listed below) (λ listed. are.behind r listed below))

-- ---- the sets of nodes

pub sets_of_nodes : (g : Grammar) (claims : List RuleClaim) (nullable : List Bool) (sets : SetsBy) → AreSetsBy g claims nullable sets → AreNodeSets g claims nullable (node_sets sets)
sets_of_nodes g claims nullable sets are = record {
  ordered = are.ordered;
  named = are.named;
  long = are.long;
  follow_long = are.follow_long;
  first = are.first;
  follow = are.follow;
  first_limit = are.first_limit;
  follow_limit = are.follow_limit;
}
