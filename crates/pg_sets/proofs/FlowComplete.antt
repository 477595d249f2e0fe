-- Whatever the definitions put into a set is led there by edges.
use Rattle.std.proofs.Common.{◌≡◌, ℕ, zero, suc, ◌+◌, ◌<◌, Bool, true, cond, List, [], ◌∷◌, ◌++◌, Some, slice_get, length, replicate, refl, sym, ap, subst, inl, inr, ◌∙◌, arith}
use Rattle.std.specs.Prelude.{◌↔◌}
use Rattle.std.specs.List.{AllByRecursion}
use Rattle.std.specs.Option.{option_map_or}
use Rattle.std.proofs.lemmas.Bool.{cases_Bool}
use Rattle.std.proofs.lemmas.List.{length-replicate}
use Rattle.std.proofs.lemmas.Option.{slice_get_within}
use Rattle.pg_grammar_form.specs.Forms.{Node, parts_of}
use Rattle.pg_grammar_value.specs.Grammar.{Grammar, IsGrammar, rule_body}
use Rattle.pg_grammar_form.specs.declared.form.Form.TheVariants as form
use Rattle.pg_grammar_form.specs.declared.form.Around.{Around}
use Rattle.pg_grammar_form.specs.declared.form.Around.TheVariants as kind
use Rattle.pg_grammar_value.specs.declared.grammar.Rule as declared
use Rattle.pg_grammar_value.proofs.Numbers.{bodies_are_nodes}
use Rattle.pg_start.specs.declared.kind.StartKind.{StartKind}
use Rattle.pg_sets.specs.First.{IsFirst, IsFirstOf}
use Rattle.pg_sets.specs.First as first_of
use Rattle.pg_sets.specs.Flows.{Flow, follow_of, flows_of_all, flows_of_some, flows_of_next, flows_after_parts, flows_of_alternatives, flows_of_chain, flows_of_only, try_flows, node_flows, with_flows, all_flows}
use Rattle.pg_sets.specs.Follow.{StandsBefore, IsChain, HasOnly, IsFollow}
use Rattle.pg_sets.specs.Follow as follow
use Rattle.pg_graph.specs.Graphs.{has, numbers_at, IsReached}
use Rattle.pg_graph.specs.Graphs as walk
use Rattle.pg_graph.specs.Marks.{is_marked}
use Rattle.pg_sets_nullable.specs.Nullable.{Nullable, AllNullable}
use Rattle.pg_sets_nullable.specs.Nullable as nullable_of
use Rattle.pg_sets_own.specs.OwnStarts.{IsKeyTry}
use Rattle.pg_sets_nullable.specs.Reached.{ReachedIn, ReachedPart}
use Rattle.pg_sets_nullable.specs.Reached as reached
use Rattle.pg_sets.specs.Sources.{IsSource}
use Rattle.pg_sets.specs.Sources as source
use Rattle.pg_sets.proofs.FlowSound.{follow_is, parts_below}
use Rattle.pg_sets_own.specs.OwnStarts.{MarksKeys}
use Rattle.pg_sets.proofs.Flowing.{IsIn, here, further, in_left, in_right, flows_length, edge_new, all_in}
use Rattle.pg_sets_nullable.proofs.Heading.{MarksNullable, again_left}
use Rattle.pg_grammar_form.proofs.Each.{all-get}
use Rattle.pg_sets.proofs.Placing.{stands_next}
use Rattle.pg_graph.proofs.Walking.{reached_below}

-- ---- edges that are there

module _ (g : Grammar) (nullable : List Bool) (on : MarksNullable g nullable) where
  -- after a nullable part
  over : (q u x : ℕ) (flows : List Flow) → Nullable g q → IsIn u x flows → IsIn u x (cond (is_marked nullable q) flows [])
  over q u x flows null is = subst (λ b. IsIn u x (cond b flows [])) (sym ((on q).1 null)) is

  reached_in : {parts : List ℕ} {q : ℕ} (to : ℕ) → ReachedIn g parts q → IsIn q to (flows_of_some nullable parts to)
  reached_in to reached.first = here
  reached_in to (reached.later {part = p} {reached = q} {parts = ps} null is) = further (over p q to (flows_of_some nullable ps to) null (reached_in to is))

  first_in_some : {start : StartKind} {parts : List ℕ} {R : Type 0} (to : ℕ) → IsFirstOf g start parts
      → ((u : ℕ) → IsIn u to (flows_of_some nullable parts to) → IsFirst g start u → R) → R
  first_in_some to (first_of.here {part = p} is) then_so = then_so p here is
  first_in_some to (first_of.after {part = p} {parts = ps} null later) then_so =
      first_in_some to later (λ u among is. then_so u (further (over p u to (flows_of_some nullable ps to) null among)) is)

  after_all : {parts : List ℕ} (after to : ℕ) → AllNullable g parts → IsIn after to (flows_of_all nullable parts after to)
  after_all after to nullable_of.none = here
  after_all after to (nullable_of.first {part = p} {parts = ps} null all) = further (over p after to (flows_of_all nullable ps after to) null (after_all after to all))

  after_part : {q : ℕ} {rest parts : List ℕ} (p u x : ℕ) → StandsBefore q rest parts
      → IsIn u x (flows_of_next nullable (length g.nodes) rest (follow_of (length g.nodes) p) (follow_of (length g.nodes) q)) → IsIn u x (flows_after_parts nullable (length g.nodes) p parts)
  after_part {q} {rest} p u x follow.here is = in_left (flows_after_parts nullable (length g.nodes) p rest) is
  after_part p u x (follow.further {first = r} {parts = ps} stands) is =
      in_right (flows_of_next nullable (length g.nodes) ps (follow_of (length g.nodes) p) (follow_of (length g.nodes) r)) (after_part p u x stands is)

  alternative_first : (p : ℕ) (parts : List ℕ) (k q : ℕ) → slice_get parts k ≡ Some q → IsIn q p (flows_of_alternatives (length g.nodes) p parts)
  alternative_first p [] zero q e = absurd cc
  alternative_first p [] (suc k) q e = absurd cc
  alternative_first p (r ∷ rs) zero q e = let same : r ≡ q = cc in subst (λ a. IsIn a p (flows_of_alternatives (length g.nodes) p (r ∷ rs))) same here
  alternative_first p (r ∷ rs) (suc k) q e = further (further (alternative_first p rs k q e))

  alternative_follow : (p : ℕ) (parts : List ℕ) (k q : ℕ) → slice_get parts k ≡ Some q
      → IsIn (follow_of (length g.nodes) p) (follow_of (length g.nodes) q) (flows_of_alternatives (length g.nodes) p parts)
  alternative_follow p [] zero q e = absurd cc
  alternative_follow p [] (suc k) q e = absurd cc
  alternative_follow p (r ∷ rs) zero q e =
      let same : r ≡ q = cc in
      subst (λ a. IsIn (follow_of (length g.nodes) p) (follow_of (length g.nodes) a) (flows_of_alternatives (length g.nodes) p (r ∷ rs))) same (further here)
  alternative_follow p (r ∷ rs) (suc k) q e = further (further (alternative_follow p rs k q e))

stands_below : (g : Grammar) {q : ℕ} {rest parts : List ℕ} → StandsBefore q rest parts → AllByRecursion (λ r. r < length g.nodes) parts → q < length g.nodes
stands_below g follow.here below = below.0
stands_below g (follow.further stands) below = stands_below g stands below.1

-- ---- the walk

module _ (g : Grammar) (start : StartKind) (nullable keys : List Bool) (on : MarksNullable g nullable) (tries : MarksKeys g keys) (grammar : IsGrammar g)
    (graph : List (List ℕ)) (roots : List ℕ) (graph_is : graph ≡ with_flows (replicate (length g.nodes + length g.nodes) []) (all_flows g.rules nullable keys (length g.nodes) 0 g.nodes))
    (roots_are : (v : ℕ) → (has roots v ≡ true) ↔ IsSource g start v) where
  flows : ℕ → Node → List Flow
  flows p n = node_flows g.rules nullable keys (length g.nodes) p n

  size : length graph ≡ length g.nodes + length g.nodes
  size = ap length graph_is ∙ (flows_length (replicate (length g.nodes + length g.nodes) []) (all_flows g.rules nullable keys (length g.nodes) 0 g.nodes) ∙ length-replicate {A = List ℕ} (length g.nodes + length g.nodes) [])

  -- along an edge that a node gives
  along : (p : ℕ) (n : Node) (u x : ℕ) → slice_get g.nodes p ≡ Some n → IsIn u x (node_flows g.rules nullable keys (length g.nodes) p n)
      → x < length g.nodes + length g.nodes → IsReached graph roots u → IsReached graph roots x
  along p n u x at is below from =
      let zeroth : p ≡ 0 + p = omega arith in
      let told = all_in g.rules nullable keys (length g.nodes) 0 g.nodes p n u x at (subst (λ q. IsIn u x (node_flows g.rules nullable keys (length g.nodes) q n)) zeroth is) in
      let before = reached_below from in
      let long = size in
      let empty = length-replicate {A = List ℕ} (length g.nodes + length g.nodes) [] in
      walk.onward from (ap (λ gr. has (numbers_at gr u) x) graph_is ∙ edge_new (replicate (length g.nodes + length g.nodes) []) told (omega arith)) (omega arith)

  to_first_set : (p : ℕ) (n : Node) (u : ℕ) → slice_get g.nodes p ≡ Some n → IsIn u p (node_flows g.rules nullable keys (length g.nodes) p n)
      → IsReached graph roots u → IsReached graph roots p
  to_first_set p n u at is from = let inside = slice_get_within g.nodes p n at in along p n u p at is (omega arith) from

  to_follow_set : (p : ℕ) (n : Node) (u q : ℕ) → slice_get g.nodes p ≡ Some n → q < length g.nodes
      → IsIn u (follow_of (length g.nodes) q) (node_flows g.rules nullable keys (length g.nodes) p n) → IsReached graph roots u → IsReached graph roots (follow_of (length g.nodes) q)
  to_follow_set p n u q at below is from = let e = follow_is (length g.nodes) q below in along p n u (follow_of (length g.nodes) q) at is (omega arith) from

  body_below : (r : ℕ) (named : declared.Rule) → slice_get g.rules r ≡ Some named → rule_body named < length g.nodes
  body_below r named e = all-get (λ rule. rule_body rule < length g.nodes) g.rules r named (bodies_are_nodes g.rules g.nodes grammar.bodies) e

  below : (p : ℕ) (n : Node) → slice_get g.nodes p ≡ Some n → AllByRecursion (λ q. q < length g.nodes) (parts_of n)
  below p n at = parts_below g start nullable keys on tries grammar p n at

  use_flows : (p r u x : ℕ) (named : declared.Rule) → slice_get g.rules r ≡ Some named → IsIn u x (flows_of_only (length g.nodes) p (rule_body named))
      → IsIn u x (node_flows g.rules nullable keys (length g.nodes) p (form.Rule r))
  use_flows p r u x named e is = subst (λ found. IsIn u x (option_map_or (λ rule. flows_of_only (length g.nodes) p (rule_body rule)) found [])) (sym e) is

  try_follow : (p q : ℕ) → IsIn (follow_of (length g.nodes) p) (follow_of (length g.nodes) q) (try_flows keys (length g.nodes) p q)
  try_follow p q = elim (cases_Bool (is_marked keys p)) [
    | inl e ↦ subst (λ b. IsIn (follow_of (length g.nodes) p) (follow_of (length g.nodes) q) (cond b ((follow_of (length g.nodes) p, follow_of (length g.nodes) q) ∷ []) (flows_of_only (length g.nodes) p q))) (sym e) here
    | inr e ↦ subst (λ b. IsIn (follow_of (length g.nodes) p) (follow_of (length g.nodes) q) (cond b ((follow_of (length g.nodes) p, follow_of (length g.nodes) q) ∷ []) (flows_of_only (length g.nodes) p q))) (sym e) (further here)
  ]

  try_first : (p q : ℕ) → slice_get g.nodes p ≡ Some (form.Around kind.Try q) → (IsKeyTry g (form.Around kind.Try q) → ⊥) → IsIn q p (try_flows keys (length g.nodes) p q)
  try_first p q at no_key = elim (cases_Bool (is_marked keys p)) [
    | inl e ↦ absurd (no_key ((tries p (form.Around kind.Try q) at).0 e))
    | inr e ↦ subst (λ b. IsIn q p (cond b ((follow_of (length g.nodes) p, follow_of (length g.nodes) q) ∷ []) (flows_of_only (length g.nodes) p q))) (sym e) here
  ]

  -- the five lists of edges of a chain, one after another
  chain_1 : (p o s u x : ℕ) → IsIn u x (flows_of_some nullable (o ∷ s ∷ []) p) → IsIn u x (flows_of_chain nullable (length g.nodes) p o s)
  chain_1 p o s u x is = in_left _ (in_left _ (in_left _ (in_left _ is)))

  chain_2 : (p o s u x : ℕ) → IsIn u x (flows_of_some nullable (s ∷ o ∷ []) (follow_of (length g.nodes) o)) → IsIn u x (flows_of_chain nullable (length g.nodes) p o s)
  chain_2 p o s u x is = in_left _ (in_left _ (in_left _ (in_right (flows_of_some nullable (o ∷ s ∷ []) p) is)))

  chain_3 : (p o s u x : ℕ) → IsIn u x (flows_of_all nullable (o ∷ []) (follow_of (length g.nodes) p) (follow_of (length g.nodes) s)) → IsIn u x (flows_of_chain nullable (length g.nodes) p o s)
  chain_3 p o s u x is = in_left _ (in_left _ (in_right (flows_of_some nullable (o ∷ s ∷ []) p ++ flows_of_some nullable (s ∷ o ∷ []) (follow_of (length g.nodes) o)) is))

  chain_4 : (p o s : ℕ) → IsIn (follow_of (length g.nodes) p) (follow_of (length g.nodes) o) (flows_of_chain nullable (length g.nodes) p o s)
  chain_4 p o s =
      in_left _
      (in_right (flows_of_some nullable (o ∷ s ∷ []) p ++ flows_of_some nullable (s ∷ o ∷ []) (follow_of (length g.nodes) o)
      ++ flows_of_all nullable (o ∷ []) (follow_of (length g.nodes) p) (follow_of (length g.nodes) s)) here)

  chain_5 : (p o s : ℕ) → Nullable g o → IsIn s (follow_of (length g.nodes) s) (flows_of_chain nullable (length g.nodes) p o s)
  chain_5 p o s null =
      in_right (flows_of_some nullable (o ∷ s ∷ []) p ++ flows_of_some nullable (s ∷ o ∷ []) (follow_of (length g.nodes) o)
      ++ flows_of_all nullable (o ∷ []) (follow_of (length g.nodes) p) (follow_of (length g.nodes) s) ++ ((follow_of (length g.nodes) p, follow_of (length g.nodes) o) ∷ []))
      (over g nullable on o s (follow_of (length g.nodes) s) (flows_of_some nullable (s ∷ []) (follow_of (length g.nodes) s)) null here)

  -- the edge from the part of a form around one
  around_first : (around : Around) (p q : ℕ) → slice_get g.nodes p ≡ Some (form.Around around q) → (IsKeyTry g (form.Around around q) → ⊥) →
      IsIn q p (node_flows g.rules nullable keys (length g.nodes) p (form.Around around q))
  around_first kind.Try p q at no_key = try_first p q at no_key
  around_first _ p q at no_key = here

  around_follow : (around : Around) (p q : ℕ) → IsIn (follow_of (length g.nodes) p) (follow_of (length g.nodes) q) (node_flows g.rules nullable keys (length g.nodes) p (form.Around around q))
  around_follow kind.Try p q = try_follow p q
  around_follow _ p q = further here

  -- the edge from a part that is reached
  reached_flow : {n : Node} {q : ℕ} (p : ℕ) → slice_get g.nodes p ≡ Some n → (IsKeyTry g n → ⊥) → ReachedPart g n q → IsIn q p (node_flows g.rules nullable keys (length g.nodes) p n)
  reached_flow p at no_key (reached.seq {parts = parts} r) = in_left (flows_after_parts nullable (length g.nodes) p parts) (reached_in g nullable on p r)
  reached_flow p at no_key (reached.choice {parts = parts} k {part = q} e) = alternative_first g nullable on p parts k q e
  reached_flow p at no_key (reached.chain {operand = o} {separator = s} {part = q} r) = chain_1 p o s q p (reached_in g nullable on p (again_left r))
  reached_flow p at no_key reached.many = further here
  reached_flow p at no_key reached.expression = here
  reached_flow p at no_key (reached.around {around = around} {part = q}) = around_first around p q at no_key

  -- each first set that holds the start is met
  pub first_met : {p : ℕ} → IsFirst g start p → IsReached graph roots p
  first_met (first_of.own {p} {n} at is) =
      let inside = slice_get_within g.nodes p n at in
      let long = size in
      walk.root ((roots_are p).1 (source.own at is)) (omega arith)
  first_met (first_of.part {p} {q} {n} at no_key reaches is) = to_first_set p n q at (reached_flow p at no_key reaches) (first_met is)
  first_met (first_of.rule {p} {r} {named} at e is) = to_first_set p (form.Rule r) (rule_body named) at (use_flows p r (rule_body named) p named e here) (first_met is)

  chain_flows : {o s : ℕ} {n : Node} (p u x : ℕ) → IsChain o s n → IsIn u x (flows_of_chain nullable (length g.nodes) p o s) → IsIn u x (node_flows g.rules nullable keys (length g.nodes) p n)
  chain_flows p u x follow.chain is = is

  chain_below : {o s : ℕ} {n : Node} → IsChain o s n → AllByRecursion (λ q. q < length g.nodes) (parts_of n) → (o < length g.nodes) × (s < length g.nodes)
  chain_below follow.chain b = (b.0, b.1.0)

  only_flow : {q : ℕ} {n : Node} (p : ℕ) → HasOnly q n → IsIn (follow_of (length g.nodes) p) (follow_of (length g.nodes) q) (node_flows g.rules nullable keys (length g.nodes) p n)
  only_flow {q} p (follow.around {around = around}) = around_follow around p q

  only_below : {q : ℕ} {n : Node} → HasOnly q n → AllByRecursion (λ r. r < length g.nodes) (parts_of n) → q < length g.nodes
  only_below follow.around b = b.0

  first_as : {s : StartKind} {p : ℕ} → s ≡ start → IsFirst g s p → IsReached graph roots p
  first_as {p = p} same is = first_met (subst (λ x. IsFirst g x p) same is)

  -- along the parts of a sequence
  along_part : {q : ℕ} {rest parts : List ℕ} (p u : ℕ) → slice_get g.nodes p ≡ Some (form.Seq parts) → StandsBefore q rest parts
      → IsIn u (follow_of (length g.nodes) q) (flows_of_next nullable (length g.nodes) rest (follow_of (length g.nodes) p) (follow_of (length g.nodes) q))
      → IsReached graph roots u → IsReached graph roots (follow_of (length g.nodes) q)
  along_part {q} {rest} {parts} p u at stands is from =
      to_follow_set p (form.Seq parts) u q at (stands_below g stands (below p (form.Seq parts) at))
      (in_right (flows_of_some nullable parts p) (after_part g nullable on p u (follow_of (length g.nodes) q) stands is)) from

  over_next : (q r : ℕ) (rs : List ℕ) (after : ℕ) → Nullable g r → IsIn (follow_of (length g.nodes) r) (follow_of (length g.nodes) q) (flows_of_next nullable (length g.nodes) (r ∷ rs) after (follow_of (length g.nodes) q))
  over_next q r rs after null = further (over g nullable on r (follow_of (length g.nodes) r) (follow_of (length g.nodes) q) ((follow_of (length g.nodes) r, follow_of (length g.nodes) q) ∷ []) null here)

  next_met : {s : StartKind} {q : ℕ} {rest parts : List ℕ} (p : ℕ) → slice_get g.nodes p ≡ Some (form.Seq parts) → StandsBefore q rest parts → s ≡ start → IsFirstOf g s rest
      → IsReached graph roots (follow_of (length g.nodes) q)
  next_met p at stands same (first_of.here {part = r} is) = along_part p r at stands here (first_as same is)
  next_met {q = q} p at stands same (first_of.after {part = r} {parts = rs} null later) =
      along_part p (follow_of (length g.nodes) r) at stands (over_next q r rs (follow_of (length g.nodes) p) null) (next_met p at (stands_next stands) same later)

  last_met : {q : ℕ} {rest parts : List ℕ} (p : ℕ) → slice_get g.nodes p ≡ Some (form.Seq parts) → StandsBefore q rest parts → AllNullable g rest
      → IsReached graph roots (follow_of (length g.nodes) p) → IsReached graph roots (follow_of (length g.nodes) q)
  last_met p at stands nullable_of.none from = along_part p (follow_of (length g.nodes) p) at stands here from
  last_met {q = q} p at stands (nullable_of.first {part = r} {parts = rs} null all) from =
      along_part p (follow_of (length g.nodes) r) at stands (over_next q r rs (follow_of (length g.nodes) p) null) (last_met p at (stands_next stands) all from)

  follow_as : {s : StartKind} {q : ℕ} → s ≡ start → IsFollow g s q → IsReached graph roots (follow_of (length g.nodes) q)
  follow_as same (follow.at_end {named} e) =
      let v = follow_of (length g.nodes) (rule_body named) in
      let inside = body_below g.start named e in
      let is = follow_is (length g.nodes) (rule_body named) inside in
      let long = size in
      walk.root ((roots_are v).1 (subst (λ x. IsSource g x v) same (source.at_end e refl))) (omega arith)
  follow_as same (follow.used {p = p} {r = r} {named = named} at e f) =
      to_follow_set p (form.Rule r) (follow_of (length g.nodes) p) (rule_body named) at (body_below r named e)
      (use_flows p r (follow_of (length g.nodes) p) (follow_of (length g.nodes) (rule_body named)) named e (further here)) (follow_as same f)
  follow_as same (follow.next p at stands f) = next_met p at stands same f
  follow_as same (follow.last {p = p} at stands all f) = last_met p at stands all (follow_as same f)
  follow_as same (follow.alternative {p = p} {q = q} {parts = parts} k at e f) =
      to_follow_set p (form.Choice parts) (follow_of (length g.nodes) p) q at (all-get (λ r. r < length g.nodes) parts k q (below p (form.Choice parts) at) e)
      (alternative_follow g nullable on p parts k q e) (follow_as same f)
  follow_as same (follow.next_round p {q = q} at f) = to_follow_set p (form.Many q) q q at (below p (form.Many q) at).0 here (first_as same f)
  follow_as same (follow.last_round {p = p} {q = q} at f) =
      to_follow_set p (form.Many q) (follow_of (length g.nodes) p) q at (below p (form.Many q) at).0 (further (further here)) (follow_as same f)
  follow_as same (follow.next_link p {o = o} {s = s} {n = n} at chain f) =
      first_in_some g nullable on (follow_of (length g.nodes) o) f
      (λ u is first.
      to_follow_set p n u o at (chain_below chain (below p n at)).0
      (chain_flows p u (follow_of (length g.nodes) o) chain (chain_2 p o s u (follow_of (length g.nodes) o) is)) (first_as same first))
  follow_as same (follow.last_link {p = p} {o = o} {s = s} {n = n} at chain f) =
      to_follow_set p n (follow_of (length g.nodes) p) o at (chain_below chain (below p n at)).0
      (chain_flows p (follow_of (length g.nodes) p) (follow_of (length g.nodes) o) chain (chain_4 p o s)) (follow_as same f)
  follow_as same (follow.operand p {o = o} {s = s} {n = n} at chain f) =
      to_follow_set p n o s at (chain_below chain (below p n at)).1
      (chain_flows p o (follow_of (length g.nodes) s) chain (chain_3 p o s o (follow_of (length g.nodes) s) here)) (first_as same f)
  follow_as same (follow.over_operand p {o = o} {s = s} {n = n} at chain null (first_of.here f)) =
      to_follow_set p n s s at (chain_below chain (below p n at)).1
      (chain_flows p s (follow_of (length g.nodes) s) chain (chain_5 p o s null)) (first_as same f)
  follow_as same (follow.over_operand p {o = o} {s = s} {n = n} at chain null (first_of.after other (first_of.here f))) =
      to_follow_set p n o s at (chain_below chain (below p n at)).1
      (chain_flows p o (follow_of (length g.nodes) s) chain (chain_3 p o s o (follow_of (length g.nodes) s) here)) (first_as same f)
  follow_as same (follow.over_operand p at chain null (first_of.after other (first_of.after again none))) = elim none [ ]
  follow_as same (follow.last_operand {p = p} {o = o} {s = s} {n = n} at chain null f) =
      to_follow_set p n (follow_of (length g.nodes) p) s at (chain_below chain (below p n at)).1
      (chain_flows p (follow_of (length g.nodes) p) (follow_of (length g.nodes) s) chain
      (chain_3 p o s (follow_of (length g.nodes) p) (follow_of (length g.nodes) s)
      (after_all g nullable on (follow_of (length g.nodes) p) (follow_of (length g.nodes) s) (nullable_of.first null nullable_of.none))))
      (follow_as same f)
  follow_as same (follow.operator p {term = term} {builders = builders} at is) =
      let v = follow_of (length g.nodes) term in
      let inside = (below p (form.Expression builders term) at).0 in
      let e = follow_is (length g.nodes) term inside in
      let long = size in
      walk.root ((roots_are v).1 (subst (λ x. IsSource g x v) same (source.operator p at is refl))) (omega arith)
  follow_as same (follow.last_term {p = p} {term = term} {builders = builders} at f) =
      to_follow_set p (form.Expression builders term) (follow_of (length g.nodes) p) term at (below p (form.Expression builders term) at).0 (further here) (follow_as same f)
  follow_as same (follow.only {p = p} {q = q} {n = n} at has_only f) =
      to_follow_set p n (follow_of (length g.nodes) p) q at (only_below has_only (below p n at)) (only_flow p has_only) (follow_as same f)

  -- each follow set that holds the start is met
  pub follow_met : {q : ℕ} → IsFollow g start q → IsReached graph roots (follow_of (length g.nodes) q)
  follow_met is = follow_as refl is
