-- Bytes that are verified aren't refuted: what their claims say of nodes is one thing, and so is what is broken by it.
use Rattle.std.proofs.Common.{◌≡◌, ◌<◌, ◌≤◌, ◌+◌, ◌*◌, inl, inr, ℕ, zero, suc, Bool, false, List, Option, Some, None, slice_get, length, refl, sym, ap, ◌∙◌, subst, arith}
use Rattle.std.specs.List.{slice_index_or}
use Rattle.std.proofs.lemmas.List.{ext_get_or, get_or_past}
use Rattle.std.proofs.lemmas.Option.{none-some, slice_get_cases}
use Rattle.pg_graph_bits.specs.Numbers.{set_at}
use Rattle.pg_certificate.specs.Certificates.{IsCertificateText}
use Rattle.pg_certificate.specs.declared.certificate.RuleClaim.{RuleClaim}
use Rattle.pg_predict_costs.specs.FoundCost.{IsCostByCosts}
use Rattle.pg_predict_costs.specs.StepCost.{grammar_levels, greatest_size}
use Rattle.pg_predict_costs.specs.Steps.{number_at, cut_off, row_steps}
use Rattle.pg_grammar_form.specs.Forms.{Node}
use Rattle.pg_sets_own.specs.Listed.{IsListed}
use Rattle.pg_sets_own.specs.declared.listed.ListedStart.{ListedStart}
use Rattle.pg_predict.proofs.Numbered.{listed_once}
use Rattle.pg_predict.specs.Conditions.{ViolatesBy, IsFaultlessBy, claimed_facts}
use Rattle.pg_predict.specs.declared.violation.Broken.{Broken}
use Rattle.pg_sets.specs.Sets.{HasStart}
use Rattle.pg_grammar_value.proofs.Numbers.{parts_are_after}
use Rattle.pg_grammar_value.specs.Grammar.{Grammar, IsGrammar}
use Rattle.pg_certificate_verify.proofs.Locality.{nullable_local, rank_local, cost_local}
use Rattle.pg_certificate_verify.proofs.OnePass.{IsLocal, IsKept}
use Rattle.pg_certificate_verify.specs.Cost.{cost_by, AreCostsBy}
use Rattle.pg_certificate_verify.specs.Judged.{Said, IsSaid, AllHold, IsFirstFault}
use Rattle.pg_certificate_verify.specs.Nullable.{nullable_by}
use Rattle.pg_certificate_verify.specs.Rank.{rank_by, AreRanksBy}
use Rattle.pg_certificate_verify.specs.Refuted.{judged_sets, IsVerified, IsBroken}
use Rattle.pg_certificate_verify.specs.NodeSets.{HasListed, NodeSets, AreNodeSets}
use Rattle.pg_certificate_verify.specs.Verified.{ClaimFails}
use Rattle.pg_certificate_verify.specs.declared.verify_fault.NotClosed.{NotClosed}
use Rattle.pg_certificate_verify.specs.declared.verify_fault.VerifyFault.TheVariants as fault
use Rattle.pg_certificate_laws.specs.Verified.{VerifiedBytesAreNotRefuted}
use Rattle.pg_certificate_laws.proofs.OneReading.{one_reading}
use Rattle.pg_certificate_laws.proofs.OwnMade.{size_by, size_local}
use Rattle.pg_certificate_laws.proofs.SameFacts.{SayTheSame, violates_there}
use Rattle.pg_graph.proofs.Growing.{set_below}

-- ---- lists that are found by parts alone

module _ {V : Type 0} (d : V) (find : (ℕ → V) → Node → V) (g : Grammar) (grammar : IsGrammar g) (local : IsLocal find) (one other : List V)
    (one_long : length one ≡ length g.nodes) (other_long : length other ≡ length g.nodes)
    (one_kept : (p : ℕ) → IsKept d find g one p) (other_kept : (p : ℕ) → IsKept d find g other p) where
  -- past the nodes nothing is in either
  past_same : (p : ℕ) → length g.nodes ≤ p → slice_index_or one p d ≡ slice_index_or other p d
  past_same p past = get_or_past one p d (omega (arith, past, one_long)) ∙ sym (get_or_past other p d (omega (arith, past, other_long)))

  node_same : (p : ℕ) → ((q : ℕ) → p < q → slice_index_or one q d ≡ slice_index_or other q d) → (node : Option Node) → slice_get g.nodes p ≡ node
      → slice_index_or one p d ≡ slice_index_or other p d
  node_same p behind None at =
      elim ((slice_get_cases g.nodes p).1) [
        | inl found ↦ absurd (none-some found.0 (sym at ∙ found.2))
        | inr past ↦ let outside = past.0 in past_same p (omega arith)
      ]
  node_same p behind (Some n) at =
      one_kept p n at
      ∙ (local (λ q. slice_index_or one q d) (λ q. slice_index_or other q d) p (length g.nodes) n behind (parts_are_after g.nodes p n grammar.preorder at)
      ∙ sym (other_kept p n at))

  same_from : (room p : ℕ) → length g.nodes ≤ p + room → slice_index_or one p d ≡ slice_index_or other p d
  same_from zero p small = past_same p (omega (arith, small))
  same_from (suc room) p small = node_same p (λ q after. same_from room q (omega (arith, after, small))) (slice_get g.nodes p) refl

  kept_once : one ≡ other
  kept_once = ext_get_or d one other (one_long ∙ sym other_long) (λ p inside. same_from (length g.nodes) p (omega arith))

-- ---- what claims say

same_said : (one other : Said) → one.nullable ≡ other.nullable → one.ranks ≡ other.ranks → one.costs ≡ other.costs → one ≡ other
same_said one other marks ranks costs =
    ap (λ (x : List Bool). record one { nullable = x }) marks
    ∙ (ap (λ (x : List ℕ). record { nullable = other.nullable; ranks = x; costs = one.costs }) ranks
    ∙ ap (λ (x : List ℕ). record { nullable = other.nullable; ranks = other.ranks; costs = x }) costs)

module _ (g : Grammar) (grammar : IsGrammar g) (claims : List RuleClaim) where
  -- of nodes they say one thing
  said_once : (one other : Said) → IsSaid g claims one → IsSaid g claims other → one ≡ other
  said_once one other said also =
      let marks : one.nullable ≡ other.nullable =
      kept_once false (nullable_by claims) g grammar (nullable_local claims) one.nullable other.nullable said.nullable.long also.nullable.long said.nullable.each also.nullable.each in
      let ranks : AreRanksBy g claims other.nullable one.ranks = subst (λ m. AreRanksBy g claims m one.ranks) marks said.ranks in
      let costs : AreCostsBy g claims other.nullable one.costs = subst (λ m. AreCostsBy g claims m one.costs) marks said.costs in
      same_said one other marks
      (kept_once 0 (rank_by claims other.nullable) g grammar (rank_local claims other.nullable) one.ranks other.ranks ranks.long also.ranks.long ranks.each also.ranks.each)
      (kept_once 0 (λ cost n. cut_off (cost_by g claims other.nullable cost n)) g grammar (cost_local g claims other.nullable) one.costs other.costs costs.long also.costs.long
      costs.each also.costs.each)

  -- and by costs there is one step cost
  cost_once : (costs : List ℕ) (one other : ℕ) → IsCostByCosts g costs one → IsCostByCosts g costs other → one ≡ other
  cost_once costs one other is also =
      let sizes : is.sizes ≡ also.sizes =
      kept_once 0 (size_by g costs) g grammar (size_local g costs) is.sizes also.sizes is.are_sizes.long also.are_sizes.long is.are_sizes.each also.are_sizes.each in
      is.is ∙ (ap (λ list. cut_off (cut_off (grammar_levels g) * greatest_size (number_at list) (cut_off (row_steps g)) g.rules)) sizes ∙ sym also.is)

  -- ---- and of starts

  module _ (said : Said) where
    listed_of : (sets : NodeSets) → AreNodeSets g claims said.nullable sets → (set : List Bool) (listed : ListedStart) → IsListed g listed → HasStart sets.starts set listed.start
        → HasListed sets.starts set listed
    listed_of sets are set listed named h =
        let same : h.listed ≡ listed = listed_once g h.listed listed (are.named h.number h.listed h.there) named h.same in
        record { number = h.number; there = h.there ∙ ap Some same; member = h.member }

    start_of : (sets : NodeSets) (set : List Bool) (listed : ListedStart) → HasListed sets.starts set listed → HasStart sets.starts set listed.start
    start_of sets set listed h = record { number = h.number; listed = listed; member = h.member; there = h.there; same = refl }

    first_there : (one other : NodeSets) → AreNodeSets g claims said.nullable one → AreNodeSets g claims said.nullable other → (p : ℕ) (listed : ListedStart) → IsListed g listed
        → HasStart one.starts (set_at one.firsts p) listed.start → HasStart other.starts (set_at other.firsts p) listed.start
    first_there one other are also p listed named h =
        let low = set_below one.firsts p h.number h.member in
        let long = are.long in
        let inside : p < length g.nodes = omega (arith, low, long) in
        let by = (are.first p listed inside).0 (listed_of one are (set_at one.firsts p) listed named h) in
        start_of other (set_at other.firsts p) listed ((also.first p listed inside).1 by)

    follow_there : (one other : NodeSets) → AreNodeSets g claims said.nullable one → AreNodeSets g claims said.nullable other → (p : ℕ) → p < length g.nodes
        → (listed : ListedStart) → IsListed g listed → HasStart one.starts (set_at one.follows p) listed.start → HasStart other.starts (set_at other.follows p) listed.start
    follow_there one other are also p inside listed named h =
        let by = (are.follow p listed inside).0 (listed_of one are (set_at one.follows p) listed named h) in
        start_of other (set_at other.follows p) listed ((also.follow p listed inside).1 by)

    sets_same : (one other : NodeSets) (cost least : ℕ) → AreNodeSets g claims said.nullable one → AreNodeSets g claims said.nullable other → cost ≡ least
        → SayTheSame g (claimed_facts (judged_sets said one) cost) (claimed_facts (judged_sets said other) least)
    sets_same one other cost least are also same = record {
      nullable = λ p. (λ h. h, λ h. h);
      first = λ p listed named. (first_there one other are also p listed named, first_there other one also are p listed named);
      follow = λ p inside listed named. (follow_there one other are also p inside listed named, follow_there other one also are p inside listed named);
      heads_itself = λ r none. none;
      cost = λ k is above. record { number = k; is = is ∙ same; above = above };
    }

    -- nothing is broken by the other sets and the other cost either
    none_broken : (sets others : NodeSets) (cost least : ℕ) → AreNodeSets g claims said.nullable sets → AreNodeSets g claims said.nullable others → IsCostByCosts g said.costs cost
        → IsCostByCosts g said.costs least → IsFaultlessBy g (claimed_facts (judged_sets said sets) cost) → {p : ℕ} {kind : _}
        → ViolatesBy g (claimed_facts (judged_sets said others) least) p kind → ⊥
    none_broken sets others cost least are also is less faultless {p} {kind} broken =
        faultless p kind
        (violates_there g (claimed_facts (judged_sets said others) least) (claimed_facts (judged_sets said sets) cost)
        (sets_same others sets least cost also are (cost_once said.costs least cost less is)) broken)

-- ---- faults

module _ (g : Grammar) (grammar : IsGrammar g) (bytes : List ℕ) (shown : IsVerified g bytes) where
  -- whatever is read from the bytes are these claims
  read_so : (read : List RuleClaim) → IsCertificateText g bytes read → read ≡ shown.hold.certificate
  read_so read text = one_reading g grammar bytes read shown.hold.certificate text shown.hold.text

  no_claim_fails : (failing : NotClosed) → ClaimFails g bytes failing → ⊥
  no_claim_fails failing fails =
      let there = subst (λ read. IsSaid g read fails.said × IsFirstFault g read fails.said failing) (read_so fails.certificate fails.text) (fails.said_so, fails.first) in
      let same = said_once g grammar shown.hold.certificate shown.said fails.said shown.hold.said_so there.0 in
      let hold = subst (AllHold g shown.hold.certificate) same shown.hold.hold in
      there.1.fails.0 (hold failing.rule there.1.rule there.1.there failing.condition)

  none_is_broken : (broken : Broken) → IsBroken g bytes broken → ⊥
  none_is_broken broken is =
      let there = subst (λ read. IsSaid g read is.said × AreNodeSets g read is.said.nullable is.sets) (read_so is.hold.certificate is.hold.text) (is.hold.said_so, is.hold.are_sets) in
      let same = said_once g grammar shown.hold.certificate is.said shown.said there.0 shown.hold.said_so in
      let by = subst (λ said. AreNodeSets g shown.hold.certificate said.nullable is.sets × (IsCostByCosts g said.costs is.cost
      × ViolatesBy g (claimed_facts (judged_sets said is.sets) is.cost) broken.node is.first.kind)) same (there.1, (is.is_cost, is.first.violates)) in
      none_broken g grammar shown.hold.certificate shown.said shown.sets is.sets shown.cost is.cost shown.hold.are_sets by.0 shown.is_cost by.1.0 shown.faultless by.1.1

pub not_refuted : VerifiedBytesAreNotRefuted
not_refuted g bytes fault.NotJson grammar shown refuted = absurd (refuted (shown.hold.text.0, shown.hold.text.1))
not_refuted g bytes fault.NotACertificate grammar shown refuted = absurd (refuted.1 (shown.hold.certificate, shown.hold.text))
not_refuted g bytes (fault.NotClosed failing) grammar shown refuted = absurd (no_claim_fails g grammar bytes shown failing refuted)
not_refuted g bytes (fault.Broken broken) grammar shown refuted = absurd (none_is_broken g grammar bytes shown broken refuted)
not_refuted g bytes fault.Memory grammar shown refuted = refl
