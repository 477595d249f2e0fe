-- Whatever the claims put into a set is led there by edges.
use Rattle.std.proofs.Common.{◌≡◌, inl, inr, ℕ, ◌+◌, ◌<◌, ◌*◌, Bool, true, cond, List, [], ◌∷◌, ◌++◌, Some, slice_get, length, replicate, refl, sym, ap, subst, ◌∙◌, true≢false, arith}
use Rattle.std.proofs.lemmas.Bool.{cases_Bool}
use Rattle.std.proofs.lemmas.List.{length-replicate}
use Rattle.std.proofs.lemmas.Option.{slice_get_within}
use Rattle.pg_certificate.specs.declared.certificate.RuleClaim.{RuleClaim}
use Rattle.pg_grammar_form.specs.Forms.{Node, parts_of, NamesRule}
use Rattle.pg_grammar_form.specs.declared.form.Around.{Around}
use Rattle.pg_grammar_form.specs.declared.form.Around.TheVariants as kind
use Rattle.pg_grammar_form.specs.declared.form.Form.TheVariants as form
use Rattle.pg_grammar_form.proofs.Each.{all-get}
use Rattle.pg_graph.specs.Graphs.{has, numbers_at, IsReached}
use Rattle.pg_graph.specs.Graphs as walk
use Rattle.pg_graph.specs.Marks.{is_marked}
use Rattle.pg_graph.proofs.Lists.{only_one}
use Rattle.pg_graph.proofs.Joining.{none_at}
use Rattle.pg_graph.proofs.Walking.{reached_below}
use Rattle.pg_sets_nullable.specs.Parts.{reached_parts}
use Rattle.pg_sets_own.specs.OwnStarts.{IsKeyTry, MarksKeys}
use Rattle.pg_sets_own.specs.declared.listed.ListedStart.{ListedStart}
use Rattle.pg_sets.specs.Flows.{Flow, follow_of, flows_of_all, flows_of_some, flows_of_next, flows_after_parts, flows_of_only, flows_of_chain, try_flows, node_flows, with_flows}
use Rattle.pg_sets.specs.Follow.{StandsBefore, IsChain, HasOnly}
use Rattle.pg_sets.specs.Follow as follow
use Rattle.pg_sets.proofs.Flowing.{IsIn, here, further, in_left, in_right, in_cases, with_flows-append, edge_cases, edge_new, flows_length}
use Rattle.pg_sets.proofs.FlowSound.{follow_is}
use Rattle.pg_grammar_value.specs.Follows.{PartsFollow}
use Rattle.pg_grammar_value.specs.Grammar.{Grammar, IsGrammar}
use Rattle.pg_grammar_value.specs.declared.grammar.Rule.{Rule}
use Rattle.pg_grammar_value.proofs.Numbers.{parts_are_after, bodies_are_nodes}
use Rattle.pg_certificate_verify.specs.Claimed.{claimed_first, claimed_follow}
use Rattle.pg_certificate_verify.specs.Edges.{rule_set, of_first, of_follow, of_behind, use_flows, claim_flows, body_flows, flows_of_each, claim_graph}
use Rattle.pg_certificate_verify.specs.First as by_first
use Rattle.pg_certificate_verify.specs.First.{IsFirstBy}
use Rattle.pg_certificate_verify.specs.Follow as by_follow
use Rattle.pg_certificate_verify.specs.Follow.{IsFollowBy, IsBehind}
use Rattle.pg_certificate_verify.specs.SetsBy as source
use Rattle.pg_certificate_verify.specs.SetsBy.{IsSourceBy}
use Rattle.pg_certificate_verify.specs.Standing.{IsClaimedAs}
use Rattle.pg_certificate_verify.proofs.EdgeLists.{told_each, in_each, in_some, in_after, over_next, alternative_first, alternative_follow}
use Rattle.pg_certificate_verify.proofs.EdgesSound.{Holds, set_is, member_below, to_first, to_follow, to_first_claim, to_follow_claim, to_behind, node_sound, body_sound}

-- ---- the graph as one list of edges

abbrev pub ClaimFlows : Grammar → List Bool → List Bool → List Flow
ClaimFlows g nullable keys =
    flows_of_each (claim_flows nullable keys (length g.nodes) (length g.rules)) 0 g.nodes ++ flows_of_each (body_flows (length g.nodes) (length g.rules)) 0 g.rules

abbrev pub NoEdges : Grammar → List (List ℕ)
NoEdges g = replicate (length g.nodes + length g.nodes + 1 + 3 * length g.rules) []

pub graph_is : (g : Grammar) (nullable keys : List Bool) → claim_graph g nullable keys ≡ with_flows (NoEdges g) (ClaimFlows g nullable keys)
graph_is g nullable keys =
    sym (with_flows-append (NoEdges g) (flows_of_each (claim_flows nullable keys (length g.nodes) (length g.rules)) 0 g.nodes) (flows_of_each (body_flows (length g.nodes) (length g.rules)) 0 g.rules))

pub graph_size : (g : Grammar) (nullable keys : List Bool) → length (with_flows (NoEdges g) (ClaimFlows g nullable keys)) ≡ length g.nodes + length g.nodes + 1 + 3 * length g.rules
graph_size g nullable keys = flows_length (NoEdges g) (ClaimFlows g nullable keys) ∙ length-replicate {A = List ℕ} (length g.nodes + length g.nodes + 1 + 3 * length g.rules) []

module _ (g : Grammar) (claims : List RuleClaim) (nullable keys : List Bool) (listed : ListedStart) (tries : MarksKeys g keys) (grammar : IsGrammar g)
    (graph : List (List ℕ)) (is_graph : graph ≡ with_flows (NoEdges g) (ClaimFlows g nullable keys)) (roots : List ℕ) where
  -- ---- what is reached holds the start

  source_holds : {v : ℕ} → IsSourceBy g claims listed v → Holds g claims nullable keys listed v
  source_holds (source.own {p} {n} at owns) = to_first g claims nullable keys listed p (slice_get_within g.nodes p n at) (by_first.own at owns)
  source_holds (source.operator p {term = term} at is named e) =
      subst (Holds g claims nullable keys listed) e (to_follow g claims nullable keys listed term (λ few. by_follow.operator p at is named))
  source_holds (source.first r below is e) = subst (Holds g claims nullable keys listed) e (to_first_claim g claims nullable keys listed r (λ few. is))
  source_holds (source.follow r below is e) = subst (Holds g claims nullable keys listed) e (to_follow_claim g claims nullable keys listed r (λ few. is))
  source_holds (source.at_end end e) = subst (Holds g claims nullable keys listed) e (to_behind g claims nullable keys listed g.start (λ few. by_follow.at_end refl end))

  edge_sound : (u x : ℕ) → IsIn u x (ClaimFlows g nullable keys) → Holds g claims nullable keys listed u → Holds g claims nullable keys listed x
  edge_sound u x is from =
      elim (in_cases u x (flows_of_each (claim_flows nullable keys (length g.nodes) (length g.rules)) 0 g.nodes) (flows_of_each (body_flows (length g.nodes) (length g.rules)) 0 g.rules) is) [
        | inl of_node ↦
            let told = told_each (claim_flows nullable keys (length g.nodes) (length g.rules)) 0 g.nodes u x of_node in
            let zeroth : 0 + told.place ≡ told.place = omega arith in
            node_sound g claims nullable keys listed tries grammar told.place told.one told.there u x
            (subst (λ q. IsIn u x (claim_flows nullable keys (length g.nodes) (length g.rules) q told.one)) zeroth told.told) from
        | inr of_body ↦
            let told = told_each (body_flows (length g.nodes) (length g.rules)) 0 g.rules u x of_body in
            let zeroth : 0 + told.place ≡ told.place = omega arith in
            body_sound g claims nullable keys listed tries grammar told.place told.one told.there u x
            (subst (λ q. IsIn u x (body_flows (length g.nodes) (length g.rules) q told.one)) zeroth told.told) from
      ]

  pub reached_holds : ((v : ℕ) → has roots v ≡ true → IsSourceBy g claims listed v) → {v : ℕ} → IsReached graph roots v → Holds g claims nullable keys listed v
  reached_holds from (walk.root {v} among below) = source_holds (from v among)
  reached_holds from (walk.onward {w} {v} before edge below) =
      elim (edge_cases (NoEdges g) (ClaimFlows g nullable keys) w v (ap (λ gr. has (numbers_at gr w) v) (sym is_graph) ∙ edge)) [
        | inl none ↦ absurd (true≢false (sym none ∙ ap (λ xs. has xs v) (none_at (length g.nodes + length g.nodes + 1 + 3 * length g.rules) w)))
        | inr told ↦ edge_sound w v told (reached_holds from before)
      ]

  -- ---- what holds the start is reached

  module _ (to_roots : (v : ℕ) → IsSourceBy g claims listed v → has roots v ≡ true) where
    size : length graph ≡ length g.nodes + length g.nodes + 1 + 3 * length g.rules
    size = ap length is_graph ∙ graph_size g nullable keys

    abbrev Reached : ℕ → Type 0
    Reached v = IsReached graph roots v

    -- along an edge
    along : (u x : ℕ) → IsIn u x (ClaimFlows g nullable keys) → x < length g.nodes + length g.nodes + 1 + 3 * length g.rules → Reached u → Reached x
    along u x is below from =
        let long = size in
        let some = reached_below from in
        let early : u < length (with_flows (NoEdges g) (ClaimFlows g nullable keys)) = subst (λ n. u < n) (ap length is_graph) some in
        let shorter : u < length (NoEdges g) = subst (λ n. u < n) (flows_length (NoEdges g) (ClaimFlows g nullable keys)) early in
        walk.onward from (ap (λ gr. has (numbers_at gr u) x) is_graph ∙ edge_new (NoEdges g) is shorter) (omega arith)

    along_node : (p : ℕ) (n : Node) (u x : ℕ) → slice_get g.nodes p ≡ Some n → IsIn u x (claim_flows nullable keys (length g.nodes) (length g.rules) p n)
        → x < length g.nodes + length g.nodes + 1 + 3 * length g.rules → Reached u → Reached x
    along_node p n u x at is below from =
        let zeroth : p ≡ 0 + p = omega arith in
        along u x
        (in_left (flows_of_each (body_flows (length g.nodes) (length g.rules)) 0 g.rules)
        (in_each (claim_flows nullable keys (length g.nodes) (length g.rules)) 0 g.nodes p n u x at
        (subst (λ q. IsIn u x (claim_flows nullable keys (length g.nodes) (length g.rules) q n)) zeroth is))) below from

    to_first_set : (p : ℕ) (n : Node) (u : ℕ) → slice_get g.nodes p ≡ Some n → IsIn u p (node_flows [] nullable keys (length g.nodes) p n) → Reached u → Reached p
    to_first_set p n u at is from =
        let inside = slice_get_within g.nodes p n at in
        along_node p n u p at (in_left (use_flows (length g.nodes) (length g.rules) p n) is) (omega arith) from

    to_follow_set : (p : ℕ) (n : Node) (u q : ℕ) → slice_get g.nodes p ≡ Some n → q < length g.nodes
        → IsIn u (follow_of (length g.nodes) q) (node_flows [] nullable keys (length g.nodes) p n) → Reached u → Reached (follow_of (length g.nodes) q)
    to_follow_set p n u q at below is from =
        let e = follow_is (length g.nodes) q below in
        along_node p n u (follow_of (length g.nodes) q) at (in_left (use_flows (length g.nodes) (length g.rules) p n) is) (omega arith) from

    after : (p : ℕ) (n : Node) → slice_get g.nodes p ≡ Some n → PartsFollow p (length g.nodes) (parts_of n)
    after p n at = parts_are_after g.nodes p n grammar.preorder at

    -- ---- edges of the forms

    -- the five lists of edges of a chain, one after another
    chain_1 : (p o s u x : ℕ) → IsIn u x (flows_of_some nullable (o ∷ s ∷ []) p) → IsIn u x (flows_of_chain nullable (length g.nodes) p o s)
    chain_1 p o s u x is = in_left _ (in_left _ (in_left _ (in_left _ is)))

    chain_2 : (p o s u x : ℕ) → IsIn u x (flows_of_some nullable (s ∷ o ∷ []) (follow_of (length g.nodes) o)) → IsIn u x (flows_of_chain nullable (length g.nodes) p o s)
    chain_2 p o s u x is = in_left _ (in_left _ (in_left _ (in_right (flows_of_some nullable (o ∷ s ∷ []) p) is)))

    chain_3 : (p o s u x : ℕ) → IsIn u x (flows_of_all nullable (o ∷ []) (follow_of (length g.nodes) p) (follow_of (length g.nodes) s)) → IsIn u x (flows_of_chain nullable (length g.nodes) p o s)
    chain_3 p o s u x is = in_left _ (in_left _ (in_right (flows_of_some nullable (o ∷ s ∷ []) p ++ flows_of_some nullable (s ∷ o ∷ []) (follow_of (length g.nodes) o)) is))

    chain_4 : (p o s : ℕ) → IsIn (follow_of (length g.nodes) p) (follow_of (length g.nodes) o) (flows_of_chain nullable (length g.nodes) p o s)
    chain_4 p o s =
        in_left _
        (in_right (flows_of_some nullable (o ∷ s ∷ []) p ++ flows_of_some nullable (s ∷ o ∷ []) (follow_of (length g.nodes) o)
        ++ flows_of_all nullable (o ∷ []) (follow_of (length g.nodes) p) (follow_of (length g.nodes) s)) here)

    chain_5 : (p o s : ℕ) → is_marked nullable o ≡ true → IsIn s (follow_of (length g.nodes) s) (flows_of_chain nullable (length g.nodes) p o s)
    chain_5 p o s null =
        in_right (flows_of_some nullable (o ∷ s ∷ []) p ++ flows_of_some nullable (s ∷ o ∷ []) (follow_of (length g.nodes) o)
        ++ flows_of_all nullable (o ∷ []) (follow_of (length g.nodes) p) (follow_of (length g.nodes) s) ++ ((follow_of (length g.nodes) p, follow_of (length g.nodes) o) ∷ []))
        (subst (λ b. IsIn s (follow_of (length g.nodes) s) (cond b (flows_of_some nullable (s ∷ []) (follow_of (length g.nodes) s)) [])) (sym null) here)

    chain_flows : {o s : ℕ} {n : Node} (p u x : ℕ) → IsChain o s n → IsIn u x (flows_of_chain nullable (length g.nodes) p o s) → IsIn u x (node_flows [] nullable keys (length g.nodes) p n)
    chain_flows p u x follow.chain is = is

    chain_below : {o s : ℕ} {n : Node} (p : ℕ) → IsChain o s n → PartsFollow p (length g.nodes) (parts_of n) → (o < length g.nodes) × (s < length g.nodes)
    chain_below p follow.chain b = (b.0.1, b.1.0.1)

    try_follow : (p q : ℕ) → IsIn (follow_of (length g.nodes) p) (follow_of (length g.nodes) q) (try_flows keys (length g.nodes) p q)
    try_follow p q = elim (cases_Bool (is_marked keys p)) [
      | inl e ↦ subst (λ b. IsIn (follow_of (length g.nodes) p) (follow_of (length g.nodes) q) (cond b ((follow_of (length g.nodes) p, follow_of (length g.nodes) q) ∷ []) (flows_of_only (length g.nodes) p q))) (sym e) here
      | inr e ↦ subst (λ b. IsIn (follow_of (length g.nodes) p) (follow_of (length g.nodes) q) (cond b ((follow_of (length g.nodes) p, follow_of (length g.nodes) q) ∷ []) (flows_of_only (length g.nodes) p q))) (sym e) (further here)
    ]

    try_first : (p q : ℕ) → slice_get g.nodes p ≡ Some (form.Around kind.Try q) → (IsKeyTry g (form.Around kind.Try q) → ⊥) → IsIn q p (try_flows keys (length g.nodes) p q)
    try_first p q at no_key = elim (cases_Bool (is_marked keys p)) [
      | inl e ↦ absurd (no_key ((tries p (form.Around kind.Try q) at).0 e))
      | inr e ↦ subst (λ b. IsIn q p (cond b ((follow_of (length g.nodes) p, follow_of (length g.nodes) q) ∷ []) (flows_of_only (length g.nodes) p q))) (sym e) here
    ]

    around_first : (around : Around) (p q : ℕ) → slice_get g.nodes p ≡ Some (form.Around around q) → (IsKeyTry g (form.Around around q) → ⊥)
        → IsIn q p (node_flows [] nullable keys (length g.nodes) p (form.Around around q))
    around_first kind.Try p q at no_key = try_first p q at no_key
    around_first _ p q at no_key = here

    around_follow : (around : Around) (p q : ℕ) → IsIn (follow_of (length g.nodes) p) (follow_of (length g.nodes) q) (node_flows [] nullable keys (length g.nodes) p (form.Around around q))
    around_follow kind.Try p q = try_follow p q
    around_follow _ p q = further here

    only_flow : {q : ℕ} {n : Node} (p : ℕ) → HasOnly q n → IsIn (follow_of (length g.nodes) p) (follow_of (length g.nodes) q) (node_flows [] nullable keys (length g.nodes) p n)
    only_flow {q} p (follow.around {around = around}) = around_follow around p q

    only_below : {q : ℕ} {n : Node} (p : ℕ) → HasOnly q n → PartsFollow p (length g.nodes) (parts_of n) → q < length g.nodes
    only_below p follow.around b = b.0.1

    -- the edge of a part that is reached
    reached_flow : (n : Node) (p q : ℕ) → slice_get g.nodes p ≡ Some n → (IsKeyTry g n → ⊥) → has (reached_parts nullable n) q ≡ true
        → IsIn q p (node_flows [] nullable keys (length g.nodes) p n)
    reached_flow (form.Leaf leaf) p q at no_key h = cc
    reached_flow (form.Seq parts) p q at no_key h = in_left (flows_after_parts nullable (length g.nodes) p parts) (in_some nullable parts p q h)
    reached_flow (form.Choice parts) p q at no_key h = alternative_first (length g.nodes) p parts q h
    reached_flow (form.Many part) p q at no_key h = subst (λ a. IsIn a p (node_flows [] nullable keys (length g.nodes) p (form.Many part))) (only_one part q h) (further here)
    reached_flow (form.Chain side used o s) p q at no_key h = chain_1 p o s q p (in_some nullable (o ∷ s ∷ []) p q h)
    reached_flow (form.Rule r) p q at no_key h = cc
    reached_flow (form.Expression builders part) p q at no_key h =
        subst (λ a. IsIn a p (node_flows [] nullable keys (length g.nodes) p (form.Expression builders part))) (only_one part q h) here
    reached_flow (form.Around around part) p q at no_key h =
        subst (λ a. IsIn a p (node_flows [] nullable keys (length g.nodes) p (form.Around around part))) (only_one part q h) (around_first around p part at no_key)

    -- ---- sets

    rooted : (v : ℕ) → IsSourceBy g claims listed v → v < length g.nodes + length g.nodes + 1 + 3 * length g.rules → Reached v
    rooted v is below = let long = size in walk.root (to_roots v is) (omega arith)

    rule_named : (p r : ℕ) → slice_get g.nodes p ≡ Some (form.Rule r) → r < length g.rules
    rule_named p r at = all-get (NamesRule (length g.rules)) g.nodes p (form.Rule r) grammar.named at

    body_below : (r : ℕ) (named : Rule) → slice_get g.rules r ≡ Some named → named.body < length g.nodes
    body_below r named e = all-get (λ rule. rule.body < length g.nodes) g.rules r named (bodies_are_nodes g.rules g.nodes grammar.bodies) e

    pub first_claim_met : (r : ℕ) → r < length g.rules → IsClaimedAs g (claimed_first claims r) listed → Reached (rule_set (length g.nodes) (length g.rules) of_first r)
    first_claim_met r below is =
        let e = set_is (length g.nodes) (length g.rules) 0 r below in
        rooted (rule_set (length g.nodes) (length g.rules) of_first r) (source.first r below is refl) (omega arith)

    pub follow_claim_met : (r : ℕ) → r < length g.rules → IsClaimedAs g (claimed_follow claims r) listed → Reached (rule_set (length g.nodes) (length g.rules) of_follow r)
    follow_claim_met r below is =
        let e = set_is (length g.nodes) (length g.rules) 1 r below in
        rooted (rule_set (length g.nodes) (length g.rules) of_follow r) (source.follow r below is refl) (omega arith)

    pub first_met : {p : ℕ} → IsFirstBy g claims nullable listed p → Reached p
    first_met (by_first.own {p} {n} at owns) = let inside = slice_get_within g.nodes p n at in rooted p (source.own at owns) (omega arith)
    first_met (by_first.part {p} {q} {n} at no_key h is) = to_first_set p n q at (reached_flow n p q at no_key h) (first_met is)
    first_met (by_first.used {p} {r} at is) =
        let inside = slice_get_within g.nodes p (form.Rule r) at in
        along_node p (form.Rule r) (rule_set (length g.nodes) (length g.rules) of_first r) p at
        (in_right (node_flows [] nullable keys (length g.nodes) p (form.Rule r)) here) (omega arith) (first_claim_met r (rule_named p r at) is)

    seq_below : (p q : ℕ) (rest parts : List ℕ) → StandsBefore q rest parts → PartsFollow p (length g.nodes) parts → q < length g.nodes
    seq_below p q rest parts follow.here b = b.0.1
    seq_below p q rest parts (follow.further {parts = ps} stands) b = seq_below p q rest ps stands b.1

    -- along the parts of a sequence
    along_part : {q : ℕ} {rest parts : List ℕ} (p u : ℕ) → slice_get g.nodes p ≡ Some (form.Seq parts) → StandsBefore q rest parts
        → IsIn u (follow_of (length g.nodes) q) (flows_of_next nullable (length g.nodes) rest (follow_of (length g.nodes) p) (follow_of (length g.nodes) q))
        → Reached u → Reached (follow_of (length g.nodes) q)
    along_part {q} {rest} {parts} p u at stands is from =
        to_follow_set p (form.Seq parts) u q at (seq_below p q rest parts stands (after p (form.Seq parts) at))
        (in_right (flows_of_some nullable parts p) (in_after nullable (length g.nodes) p u (follow_of (length g.nodes) q) stands is)) from

    over_edge : (p o s : ℕ) → is_marked nullable o ≡ true
        → IsIn (follow_of (length g.nodes) p) (follow_of (length g.nodes) s) (flows_of_all nullable (o ∷ []) (follow_of (length g.nodes) p) (follow_of (length g.nodes) s))
    over_edge p o s null =
        further (subst (λ b. IsIn (follow_of (length g.nodes) p) (follow_of (length g.nodes) s) (cond b ((follow_of (length g.nodes) p, follow_of (length g.nodes) s) ∷ []) [])) (sym null) here)

    pub follow_met : {q : ℕ} → IsFollowBy g claims nullable listed q → Reached (follow_of (length g.nodes) q)
    follow_met (by_follow.claimed r {named = named} at is) =
        let inside = slice_get_within g.rules r named at in
        let e = follow_is (length g.nodes) named.body (body_below r named at) in
        let below = body_below r named at in
        let zeroth : r ≡ 0 + r = omega arith in
        along (rule_set (length g.nodes) (length g.rules) of_follow r) (follow_of (length g.nodes) named.body)
        (in_right (flows_of_each (claim_flows nullable keys (length g.nodes) (length g.rules)) 0 g.nodes)
        (in_each (body_flows (length g.nodes) (length g.rules)) 0 g.rules r named (rule_set (length g.nodes) (length g.rules) of_follow r) (follow_of (length g.nodes) named.body) at
        (subst (λ k. IsIn (rule_set (length g.nodes) (length g.rules) of_follow r) (follow_of (length g.nodes) named.body) (body_flows (length g.nodes) (length g.rules) k named)) zeroth here)))
        (omega arith) (follow_claim_met r inside is)
    follow_met (by_follow.next p {q} {r} {rest = rest} at stands is) = along_part p r at stands here (first_met is)
    follow_met (by_follow.over p {q} {r} {rest = rest} at stands null is) =
        along_part p (follow_of (length g.nodes) r) at stands (over_next nullable (length g.nodes) p q r rest null) (follow_met is)
    follow_met (by_follow.last {p = p} at stands is) = along_part p (follow_of (length g.nodes) p) at stands here (follow_met is)
    follow_met (by_follow.alternative {p = p} {q = q} {parts = parts} at among is) =
        to_follow_set p (form.Choice parts) (follow_of (length g.nodes) p) q at (member_below p (length g.nodes) parts q (after p (form.Choice parts) at) among)
        (alternative_follow (length g.nodes) p parts q among) (follow_met is)
    follow_met (by_follow.next_round p {q = q} at is) = to_follow_set p (form.Many q) q q at (after p (form.Many q) at).0.1 here (first_met is)
    follow_met (by_follow.last_round {p = p} {q = q} at is) =
        to_follow_set p (form.Many q) (follow_of (length g.nodes) p) q at (after p (form.Many q) at).0.1 (further (further here)) (follow_met is)
    follow_met (by_follow.next_link p {o = o} {s = s} {q = q} {n = n} at joins h is) =
        to_follow_set p n q o at (chain_below p joins (after p n at)).0
        (chain_flows p q (follow_of (length g.nodes) o) joins (chain_2 p o s q (follow_of (length g.nodes) o) (in_some nullable (s ∷ o ∷ []) (follow_of (length g.nodes) o) q h))) (first_met is)
    follow_met (by_follow.last_link {p = p} {o = o} {s = s} {n = n} at joins is) =
        to_follow_set p n (follow_of (length g.nodes) p) o at (chain_below p joins (after p n at)).0
        (chain_flows p (follow_of (length g.nodes) p) (follow_of (length g.nodes) o) joins (chain_4 p o s)) (follow_met is)
    follow_met (by_follow.operand p {o = o} {s = s} {n = n} at joins is) =
        to_follow_set p n o s at (chain_below p joins (after p n at)).1
        (chain_flows p o (follow_of (length g.nodes) s) joins (chain_3 p o s o (follow_of (length g.nodes) s) here)) (first_met is)
    follow_met (by_follow.over_operand p {o = o} {s = s} {n = n} at joins null is) =
        to_follow_set p n s s at (chain_below p joins (after p n at)).1
        (chain_flows p s (follow_of (length g.nodes) s) joins (chain_5 p o s null)) (first_met is)
    follow_met (by_follow.last_operand {p = p} {o = o} {s = s} {n = n} at joins null is) =
        to_follow_set p n (follow_of (length g.nodes) p) s at (chain_below p joins (after p n at)).1
        (chain_flows p (follow_of (length g.nodes) p) (follow_of (length g.nodes) s) joins (chain_3 p o s (follow_of (length g.nodes) p) (follow_of (length g.nodes) s) (over_edge p o s null))) (follow_met is)
    follow_met (by_follow.operator p {term = term} {builders = builders} at is named) =
        let below = (after p (form.Expression builders term) at).0.1 in
        let e = follow_is (length g.nodes) term below in
        rooted (follow_of (length g.nodes) term) (source.operator p at is named refl) (omega arith)
    follow_met (by_follow.last_term {p = p} {term = term} {builders = builders} at is) =
        to_follow_set p (form.Expression builders term) (follow_of (length g.nodes) p) term at (after p (form.Expression builders term) at).0.1 (further here) (follow_met is)
    follow_met (by_follow.only {p = p} {q = q} {n = n} at has_only is) =
        to_follow_set p n (follow_of (length g.nodes) p) q at (only_below p has_only (after p n at)) (only_flow p has_only) (follow_met is)

    pub behind_met : (r : ℕ) → r < length g.rules → IsBehind g claims nullable listed r → Reached (rule_set (length g.nodes) (length g.rules) of_behind r)
    behind_met r below (by_follow.at_use {p = p} at is) =
        let e = set_is (length g.nodes) (length g.rules) 2 r below in
        along_node p (form.Rule r) (follow_of (length g.nodes) p) (rule_set (length g.nodes) (length g.rules) of_behind r) at
        (in_right (node_flows [] nullable keys (length g.nodes) p (form.Rule r)) (further here)) (omega arith) (follow_met is)
    behind_met r below (by_follow.at_end start end) =
        let e = set_is (length g.nodes) (length g.rules) 2 r below in
        rooted (rule_set (length g.nodes) (length g.rules) of_behind r) (source.at_end end (ap (rule_set (length g.nodes) (length g.rules) of_behind) start)) (omega arith)
