-- What is spread along the edges of the claims is the sets by the claims.
use Rattle.std.proofs.Common.{◌≡◌, ℕ, zero, suc, ◌+◌, ◌*◌, ◌<◌, Bool, List, Some, slice_get, length, take, drop, refl, sym, ap, subst, ◌∙◌, arith}
use Rattle.std.specs.Prelude.{◌↔◌}
use Rattle.std.proofs.lemmas.List.{length-take, length-drop}
use Rattle.std.proofs.lemmas.Option.{slice_get_within}
use Rattle.pg_graph_bits.specs.Numbers.{set_at}
use Rattle.pg_certificate.specs.declared.certificate.RuleClaim.{RuleClaim}
use Rattle.pg_grammar_form.specs.Forms.{NamesRule}
use Rattle.pg_grammar_form.specs.declared.form.Form.TheVariants as form
use Rattle.pg_grammar_form.proofs.Each.{all-get}
use Rattle.pg_graph.specs.Graphs.{numbers_at, AreSpread, IsReached}
use Rattle.pg_sets_own.specs.OwnStarts.{MarksKeys}
use Rattle.pg_sets_own.specs.declared.listed.ListedStart.{ListedStart}
use Rattle.pg_sets.specs.Flows.{follow_of, with_flows}
use Rattle.pg_sets.proofs.StartSets.{taken_at, dropped_at}
use Rattle.pg_sets.proofs.FlowSound.{follow_is}
use Rattle.pg_grammar_value.specs.Grammar.{Grammar, IsGrammar}
use Rattle.pg_certificate_verify.specs.Claimed.{claimed_first, claimed_follow}
use Rattle.pg_certificate_verify.specs.Edges.{rule_set, of_first, of_follow, of_behind, claim_graph}
use Rattle.pg_certificate_verify.specs.First as by_first
use Rattle.pg_certificate_verify.specs.First.{IsFirstBy}
use Rattle.pg_certificate_verify.specs.Follow as by_follow
use Rattle.pg_certificate_verify.specs.Follow.{IsFollowBy, IsBehind}
use Rattle.pg_certificate_verify.specs.SetsBy as source
use Rattle.pg_certificate_verify.specs.NodeSets.{HasListed}
use Rattle.pg_certificate_verify.specs.SetsBy.{IsSourceBy, StandsThere, AreListedBy, AreSetsBy}
use Rattle.pg_certificate_verify.specs.Standing.{IsClaimedAs}
use Rattle.pg_certificate_verify.proofs.EdgesSound.{Holds, set_is}
use Rattle.pg_certificate_verify.proofs.EdgesComplete.{NoEdges, ClaimFlows, graph_is, graph_size, reached_holds, first_met, follow_met, first_claim_met, follow_claim_met, behind_met}

-- ---- lists in parts

-- ---- where the starts of sets come from

module _ (g : Grammar) (grammar : IsGrammar g) (claims : List RuleClaim) (nullable : List Bool) (listed : ListedStart) where
  abbrev Comes : Type 0
  Comes = (v : ℕ) × IsSourceBy g claims listed v

  first_comes : {p : ℕ} → IsFirstBy g claims nullable listed p → Comes
  first_comes (by_first.own {p} at owns) = (p, source.own at owns)
  first_comes (by_first.part at no_key h is) = first_comes is
  first_comes (by_first.used {p} {r} at is) =
      (rule_set (length g.nodes) (length g.rules) of_first r, source.first r (all-get (NamesRule (length g.rules)) g.nodes p (form.Rule r) grammar.named at) is refl)

  follow_comes : {q : ℕ} → IsFollowBy g claims nullable listed q → Comes
  follow_comes (by_follow.claimed r {named} at is) = (rule_set (length g.nodes) (length g.rules) of_follow r, source.follow r (slice_get_within g.rules r named at) is refl)
  follow_comes (by_follow.next p at stands is) = first_comes is
  follow_comes (by_follow.over p at stands null is) = follow_comes is
  follow_comes (by_follow.last at stands is) = follow_comes is
  follow_comes (by_follow.alternative at among is) = follow_comes is
  follow_comes (by_follow.next_round p at is) = first_comes is
  follow_comes (by_follow.last_round at is) = follow_comes is
  follow_comes (by_follow.next_link p at joins h is) = first_comes is
  follow_comes (by_follow.last_link at joins is) = follow_comes is
  follow_comes (by_follow.operand p at joins is) = first_comes is
  follow_comes (by_follow.over_operand p at joins null is) = first_comes is
  follow_comes (by_follow.last_operand at joins null is) = follow_comes is
  follow_comes (by_follow.operator p {term} at is named) = (follow_of (length g.nodes) term, source.operator p at is named refl)
  follow_comes (by_follow.last_term at is) = follow_comes is
  follow_comes (by_follow.only at has_only is) = follow_comes is

  behind_comes : (r : ℕ) → IsBehind g claims nullable listed r → Comes
  behind_comes r (by_follow.at_use at is) = follow_comes is
  behind_comes r (by_follow.at_end start end) = (rule_set (length g.nodes) (length g.rules) of_behind g.start, source.at_end end refl)

-- ---- the sets

module _ (g : Grammar) (claims : List RuleClaim) (nullable keys : List Bool) (tries : MarksKeys g keys) (grammar : IsGrammar g)
    (graph roots : List (List ℕ)) (sets : List (List Bool)) (is_graph : graph ≡ claim_graph g nullable keys)
    (starts : List ListedStart) (are : AreListedBy g claims starts roots) (spread : AreSpread graph roots sets) where
  flowing : graph ≡ with_flows (NoEdges g) (ClaimFlows g nullable keys)
  flowing = is_graph ∙ graph_is g nullable keys

  pub size : length graph ≡ length g.nodes + length g.nodes + 1 + 3 * length g.rules
  size = ap length flowing ∙ graph_size g nullable keys

  -- what has a number in a set is in it
  has_holds : (v : ℕ) (listed : ListedStart) → v < length graph → HasListed starts (set_at sets v) listed → Holds g claims nullable keys listed v
  has_holds v listed below h =
      reached_holds g claims nullable keys listed tries grammar graph flowing (numbers_at roots h.number) (λ u among. (are.sources h.number u listed h.there).0 among)
      ((spread.members v h.number below).0 h.member).1

  -- what comes from somewhere and is reached has a number
  is_there : (v : ℕ) (listed : ListedStart) → v < length graph → StandsThere starts listed
      → ((k : ℕ) → slice_get starts k ≡ Some listed → IsReached graph (numbers_at roots k) v) → HasListed starts (set_at sets v) listed
  is_there v listed below stands reached =
      let few = slice_get_within starts stands.0 listed stands.1 in
      let long = are.long in
      record { number = stands.0; there = stands.1; member = (spread.members v stands.0 below).1 (omega arith, reached stands.0 stands.1) }

  comes_there : (listed : ListedStart) → ((v : ℕ) × IsSourceBy g claims listed v) → StandsThere starts listed
  comes_there listed comes = are.all listed comes.0 comes.1

  first_is : (p : ℕ) (listed : ListedStart) → p < length g.nodes → HasListed starts (set_at sets p) listed ↔ IsFirstBy g claims nullable listed p
  first_is p listed below =
      let long = size in (
        λ h. (has_holds p listed (omega arith) h).first below,
        λ is. is_there p listed (omega arith) (comes_there listed (first_comes g grammar claims nullable listed is))
            (λ k at. first_met g claims nullable keys listed tries grammar graph flowing (numbers_at roots k) (λ v from. (are.sources k v listed at).1 from) is),
      )

  follow_is_set : (p : ℕ) (listed : ListedStart) → p < length g.nodes → HasListed starts (set_at sets (follow_of (length g.nodes) p)) listed ↔ IsFollowBy g claims nullable listed p
  follow_is_set p listed below =
      let long = size in
      let e = follow_is (length g.nodes) p below in (
        λ h. (has_holds (follow_of (length g.nodes) p) listed (omega arith) h).follow p below e,
        λ is. is_there (follow_of (length g.nodes) p) listed (omega arith) (comes_there listed (follow_comes g grammar claims nullable listed is))
            (λ k at. follow_met g claims nullable keys listed tries grammar graph flowing (numbers_at roots k) (λ v from. (are.sources k v listed at).1 from) is),
      )

  first_claim_is : (r : ℕ) (listed : ListedStart) → r < length g.rules
      → HasListed starts (set_at sets (rule_set (length g.nodes) (length g.rules) of_first r)) listed ↔ IsClaimedAs g (claimed_first claims r) listed
  first_claim_is r listed below =
      let long = size in
      let e = set_is (length g.nodes) (length g.rules) 0 r below in (
        λ h. (has_holds (rule_set (length g.nodes) (length g.rules) of_first r) listed (omega arith) h).first_claim r below e,
        λ is. is_there (rule_set (length g.nodes) (length g.rules) of_first r) listed (omega arith) (comes_there listed (rule_set (length g.nodes) (length g.rules) of_first r, source.first r below is refl))
            (λ k at. first_claim_met g claims nullable keys listed tries grammar graph flowing (numbers_at roots k) (λ v from. (are.sources k v listed at).1 from) r below is),
      )

  follow_claim_is : (r : ℕ) (listed : ListedStart) → r < length g.rules
      → HasListed starts (set_at sets (rule_set (length g.nodes) (length g.rules) of_follow r)) listed ↔ IsClaimedAs g (claimed_follow claims r) listed
  follow_claim_is r listed below =
      let long = size in
      let e = set_is (length g.nodes) (length g.rules) 1 r below in (
        λ h. (has_holds (rule_set (length g.nodes) (length g.rules) of_follow r) listed (omega arith) h).follow_claim r below e,
        λ is. is_there (rule_set (length g.nodes) (length g.rules) of_follow r) listed (omega arith) (comes_there listed (rule_set (length g.nodes) (length g.rules) of_follow r, source.follow r below is refl))
            (λ k at. follow_claim_met g claims nullable keys listed tries grammar graph flowing (numbers_at roots k) (λ v from. (are.sources k v listed at).1 from) r below is),
      )

  behind_is : (r : ℕ) (listed : ListedStart) → r < length g.rules
      → HasListed starts (set_at sets (rule_set (length g.nodes) (length g.rules) of_behind r)) listed ↔ IsBehind g claims nullable listed r
  behind_is r listed below =
      let long = size in
      let e = set_is (length g.nodes) (length g.rules) 2 r below in (
        λ h. (has_holds (rule_set (length g.nodes) (length g.rules) of_behind r) listed (omega arith) h).behind r below e,
        λ is. is_there (rule_set (length g.nodes) (length g.rules) of_behind r) listed (omega arith) (comes_there listed (behind_comes g grammar claims nullable listed r is))
            (λ k at. behind_met g claims nullable keys listed tries grammar graph flowing (numbers_at roots k) (λ v from. (are.sources k v listed at).1 from) r below is),
      )

  -- ---- in three parts

  first_place : (p : ℕ) → p < length g.nodes → set_at (take (length g.nodes) sets) p ≡ set_at sets p
  first_place p below = taken_at sets (length g.nodes) p below

  follow_place : (p : ℕ) → p < length g.nodes → set_at (take (length g.nodes) (drop (length g.nodes) sets)) p ≡ set_at sets (follow_of (length g.nodes) p)
  follow_place p below =
      taken_at (drop (length g.nodes) sets) (length g.nodes) p below ∙ (dropped_at sets (length g.nodes) p ∙ ap (set_at sets) (sym (follow_is (length g.nodes) p below)))

  rule_place : (k r : ℕ) → r < length g.rules
      → set_at (drop (length g.nodes) (drop (length g.nodes) sets)) (1 + k * length g.rules + r) ≡ set_at sets (rule_set (length g.nodes) (length g.rules) k r)
  rule_place k r below =
      let at = 1 + k * length g.rules + r in
      let e = set_is (length g.nodes) (length g.rules) k r below in
      let same : length g.nodes + (length g.nodes + at) ≡ rule_set (length g.nodes) (length g.rules) k r = sum (length g.nodes) (k * length g.rules) r (rule_set (length g.nodes) (length g.rules) k r) e in
      dropped_at (drop (length g.nodes) sets) (length g.nodes) at ∙ (dropped_at sets (length g.nodes) (length g.nodes + at) ∙ ap (set_at sets) same)
    where
      sum : (n m r v : ℕ) → v ≡ n + n + 1 + m + r → n + (n + (1 + m + r)) ≡ v
      sum n m r v e = omega arith

  whole : length sets ≡ length g.nodes + length g.nodes + 1 + 3 * length g.rules
  whole = spread.long ∙ size

  limited : (v : ℕ) → v < length graph → length (set_at sets v) ≡ length starts
  limited v below = spread.limit v below ∙ are.long

  few_kinds : (k r : ℕ) → k < 3 → r < length g.rules → rule_set (length g.nodes) (length g.rules) k r < length graph
  few_kinds zero r small below = let long = size in let e = set_is (length g.nodes) (length g.rules) 0 r below in omega arith
  few_kinds (suc zero) r small below = let long = size in let e = set_is (length g.nodes) (length g.rules) 1 r below in omega arith
  few_kinds (suc (suc zero)) r small below = let long = size in let e = set_is (length g.nodes) (length g.rules) 2 r below in omega arith
  few_kinds (suc (suc (suc k))) r small below = absurd (omega arith)

  pub are_sets_by : AreSetsBy g claims nullable (record {
    starts = starts;
    firsts = take (length g.nodes) sets;
    follows = take (length g.nodes) (drop (length g.nodes) sets);
    of_rules = drop (length g.nodes) (drop (length g.nodes) sets);
  })
  are_sets_by = record {
    ordered = are.ordered;
    long = let all = whole in let part = length-take (length g.nodes) sets in omega arith;
    follow_long = let all = whole in let part = length-take (length g.nodes) (drop (length g.nodes) sets) in let rest = length-drop (length g.nodes) sets in omega arith;
    rules_long = let all = whole in let part = length-drop (length g.nodes) (drop (length g.nodes) sets) in let rest = length-drop (length g.nodes) sets in omega arith;
    named = are.named;
    first = λ p listed below. subst (λ set. HasListed starts set listed ↔ IsFirstBy g claims nullable listed p) (sym (first_place p below)) (first_is p listed below);
    follow = λ p listed below. subst (λ set. HasListed starts set listed ↔ IsFollowBy g claims nullable listed p) (sym (follow_place p below)) (follow_is_set p listed below);
    first_limit = λ p below. let long = size in ap length (first_place p below) ∙ limited p (omega arith);
    follow_limit = λ p below.
        let long = size in
        let e = follow_is (length g.nodes) p below in
        ap length (follow_place p below) ∙ limited (follow_of (length g.nodes) p) (omega arith);
    claimed_first = λ r listed below.
        subst (λ set. HasListed starts set listed ↔ IsClaimedAs g (claimed_first claims r) listed) (sym (rule_place of_first r below)) (first_claim_is r listed below);
    claimed_follow = λ r listed below.
        subst (λ set. HasListed starts set listed ↔ IsClaimedAs g (claimed_follow claims r) listed) (sym (rule_place of_follow r below)) (follow_claim_is r listed below);
    behind = λ r listed below. subst (λ set. HasListed starts set listed ↔ IsBehind g claims nullable listed r) (sym (rule_place of_behind r below)) (behind_is r listed below);
    rule_limit = λ k r small below. ap length (rule_place k r below) ∙ limited (rule_set (length g.nodes) (length g.rules) k r) (few_kinds k r small below);
  }
