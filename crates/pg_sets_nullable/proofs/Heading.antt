-- The uses that lead up to a rule's body are those that are reached in it.
use Rattle.std.proofs.Common.{◌≡◌, ℕ, ◌+◌, ◌<◌, Bool, true, false, cond, inl, inr, List, [], ◌∷◌, Option, Some, None, slice_get, length, map, replicate, refl, sym, ap, subst, ◌∙◌, arith}
use Rattle.std.specs.Prelude.{◌↔◌}
use Rattle.std.specs.List.Sorted.{IsStrictlyIncreasing}
use Rattle.std.proofs.lemmas.Bool.{true≢false}
use Rattle.std.proofs.lemmas.List.{length-map, length-replicate}
use Rattle.std.proofs.lemmas.Option.{slice_get_within, none-some, same_Some}
use Rattle.pg_grammar_value.specs.Follows.{BodiesAreNodes}
use Rattle.pg_grammar_form.specs.Forms.{Node, NamesRule}
use Rattle.pg_grammar_value.specs.Grammar.{Grammar, IsGrammar, rule_body}
use Rattle.pg_grammar_form.specs.declared.form.Form.TheVariants as form
use Rattle.pg_grammar_value.specs.declared.grammar.Rule as declared
use Rattle.pg_graph.specs.Graphs.{has, numbers_at, IsReached, root, onward, IsGathered}
use Rattle.pg_graph.specs.Marks.{is_marked}
use Rattle.pg_sets_nullable.specs.Nullable.{Nullable}
use Rattle.pg_sets_nullable.specs.Parts.{up_to_unmarked, reached_parts, used_rules, all_joined}
use Rattle.pg_sets_nullable.specs.Reached as reached_by
use Rattle.pg_sets_nullable.specs.Reached.{ReachedIn, first, later, ReachedPart, seq, choice, many, expression, ReachesUse, here, through, Heads, AreHeads}
use Rattle.pg_graph.proofs.Lists.{has_first, has_after, has_cases, has_at, only_one, stands, map_at, map_past}
use Rattle.pg_grammar_form.proofs.Each.{all-get}
use Rattle.pg_graph.proofs.Walking.{reached_below}
use Rattle.pg_sets_nullable.proofs.Naming.{Names, all_cases, all_new, all_length}
use Rattle.pg_graph.proofs.Joining.{none_at}

-- the marks are on the nullable nodes
abbrev pub MarksNullable : Grammar → List Bool → Type 0
MarksNullable g marks = (p : ℕ) → (is_marked marks p ≡ true) ↔ Nullable g p

-- ---- parts that are reached

-- in a list that is cut after its first unmarked number
in_shown : (g : Grammar) (marks : List Bool) → MarksNullable g marks → (parts : List ℕ) (q : ℕ) → has (up_to_unmarked marks parts) q ≡ true → ReachedIn g parts q
in_shown g marks on [] q h = absurd (true≢false (sym h))
in_shown g marks on (p ∷ ps) q h = go (is_marked marks p) refl h (λ e. in_shown g marks on ps q e)
  where
    one : p ≡ q → ReachedIn g (p ∷ ps) q
    one e = subst (ReachedIn g (p ∷ ps)) e first

    go : (b : Bool) → is_marked marks p ≡ b → has (p ∷ cond b (up_to_unmarked marks ps) []) q ≡ true → (has (up_to_unmarked marks ps) q ≡ true → ReachedIn g ps q)
        → ReachedIn g (p ∷ ps) q
    go true is e ih = elim (has_cases (up_to_unmarked marks ps) p q e) [ inl same ↦ one same | inr after ↦ later ((on p).0 is) (ih after) ]
    go false is e ih = elim (has_cases [] p q e) [ inl same ↦ one same | inr after ↦ absurd (true≢false (sym after)) ]

in_noted : {g : Grammar} (marks : List Bool) {parts : List ℕ} {q : ℕ} → MarksNullable g marks → ReachedIn g parts q → has (up_to_unmarked marks parts) q ≡ true
in_noted marks on (first {part} {parts}) = has_first (cond (is_marked marks part) (up_to_unmarked marks parts) []) part
in_noted marks on (later {part} {reached} {parts} nullable is) =
    let e : cond (is_marked marks part) (up_to_unmarked marks parts) [] ≡ up_to_unmarked marks parts = ap (λ b. cond b (up_to_unmarked marks parts) []) ((on part).1 nullable) in
    has_after (cond (is_marked marks part) (up_to_unmarked marks parts) []) part reached (ap (λ xs. has xs reached) e ∙ in_noted marks on is)

-- a third part that is the first again adds none
pub again_shown : {g : Grammar} {p s q : ℕ} → ReachedIn g (p ∷ s ∷ []) q → ReachedIn g (p ∷ s ∷ p ∷ []) q
again_shown first = first
again_shown (later n first) = later n first
again_shown (later n (later m none)) = elim none [ ]

pub again_left : {g : Grammar} {p s q : ℕ} → ReachedIn g (p ∷ s ∷ p ∷ []) q → ReachedIn g (p ∷ s ∷ []) q
again_left first = first
again_left (later n first) = later n first
again_left (later n (later m first)) = first
again_left (later n (later m (later l none))) = elim none [ ]

-- what is shown by the marks is reached
pub part_shown : (g : Grammar) (marks : List Bool) → MarksNullable g marks → (n : Node) (q : ℕ) → has (reached_parts marks n) q ≡ true → ReachedPart g n q
part_shown g marks on (form.Leaf leaf) q h = absurd (true≢false (sym h))
part_shown g marks on (form.Seq parts) q h = seq (in_shown g marks on parts q h)
part_shown g marks on (form.Choice parts) q h = let at = stands parts q h in choice at.place at.there
part_shown g marks on (form.Many part) q h = subst (ReachedPart g (form.Many part)) (only_one part q h) many
part_shown g marks on (form.Chain side used operand separator) q h = reached_by.chain (again_shown (in_shown g marks on (operand ∷ separator ∷ []) q h))
part_shown g marks on (form.Rule r) q h = absurd (true≢false (sym h))
part_shown g marks on (form.Expression builders term) q h = subst (ReachedPart g (form.Expression builders term)) (only_one term q h) expression
part_shown g marks on (form.Around around part) q h = subst (ReachedPart g (form.Around around part)) (only_one part q h) reached_by.around

-- what is reached is shown
pub part_noted : {g : Grammar} (marks : List Bool) {n : Node} {q : ℕ} → MarksNullable g marks → ReachedPart g n q → has (reached_parts marks n) q ≡ true
part_noted marks on (seq reached) = in_noted marks on reached
part_noted marks on (choice {parts} k {part} at) = has_at parts k part at
part_noted marks on (reached_by.chain r) = in_noted marks on (again_left r)
part_noted marks on (many {part}) = has_first [] part
part_noted marks on (expression {term = term}) = has_first [] term
part_noted marks on (reached_by.around {part = part}) = has_first [] part

-- ---- uses that are reached

-- a rule that is used stands there
pub used_is : (n : Node) (r : ℕ) → has (used_rules n) r ≡ true → n ≡ form.Rule r
used_is (form.Leaf leaf) r h = absurd (true≢false (sym h))
used_is (form.Seq parts) r h = absurd (true≢false (sym h))
used_is (form.Choice parts) r h = absurd (true≢false (sym h))
used_is (form.Many part) r h = absurd (true≢false (sym h))
used_is (form.Chain side used operand separator) r h = absurd (true≢false (sym h))
used_is (form.Around around part) r h = absurd (true≢false (sym h))
used_is (form.Rule rule) r h = ap form.Rule (only_one rule r h)
used_is (form.Expression builders term) r h = absurd (true≢false (sym h))

module _ (g : Grammar) (marks : List Bool) (on : MarksNullable g marks) (graph uses : List (List ℕ))
    (graph_is : graph ≡ all_joined (reached_parts marks) 0 g.nodes (replicate (length g.nodes) []))
    (uses_are : uses ≡ all_joined used_rules 0 g.nodes (replicate (length g.rules) [])) where
  -- an edge leads from a reached part to its node
  edge_is : (w v : ℕ) → has (numbers_at graph w) v ≡ true → Names (reached_parts marks) 0 g.nodes w v
  edge_is w v h =
      elim (all_cases (reached_parts marks) 0 g.nodes (replicate (length g.nodes) []) w v (ap (λ ls. has (numbers_at ls w) v) (sym graph_is) ∙ h)) [
        | inl none ↦ absurd (true≢false (sym none ∙ ap (λ xs. has xs v) (none_at (length g.nodes) w)))
        | inr named ↦ named
      ]

  use_is : (b v : ℕ) → has (numbers_at uses b) v ≡ true → Names used_rules 0 g.nodes b v
  use_is b v h =
      elim (all_cases used_rules 0 g.nodes (replicate (length g.rules) []) b v (ap (λ ls. has (numbers_at ls b) v) (sym uses_are) ∙ h)) [
        | inl none ↦ absurd (true≢false (sym none ∙ ap (λ xs. has xs v) (none_at (length g.rules) b)))
        | inr named ↦ named
      ]

  graph_long : length graph ≡ length g.nodes
  graph_long = ap length graph_is ∙ (all_length (reached_parts marks) 0 g.nodes (replicate (length g.nodes) []) ∙ length-replicate {A = List ℕ} (length g.nodes) [])

  uses_long : length uses ≡ length g.rules
  uses_long = ap length uses_are ∙ (all_length used_rules 0 g.nodes (replicate (length g.rules) []) ∙ length-replicate {A = List ℕ} (length g.rules) [])

  at_place : (v k : ℕ) → v ≡ 0 + k → (n : Node) → slice_get g.nodes k ≡ Some n → slice_get g.nodes v ≡ Some n
  at_place v k e n at = let same : v ≡ k = omega arith in ap (slice_get g.nodes) same ∙ at

  -- what a walk from the uses of a rule meets
  pub use_reached : {b v : ℕ} → IsReached graph (numbers_at uses b) v → ReachesUse g v b
  use_reached {b = b} (root {v} is below) =
      let named = use_is b v is in
      here (at_place v named.place named.is (form.Rule b) (named.there ∙ ap Some (used_is named.node b named.named)))
  use_reached {b = b} (onward {w} {v} from edge below) =
      let named = edge_is w v edge in
      through (at_place v named.place named.is named.node named.there) (part_shown g marks on named.node w named.named) (use_reached from)

  -- the walk meets each node that reaches a use of it
  pub use_met : {b v : ℕ} → b < length g.rules → ReachesUse g v b → IsReached graph (numbers_at uses b) v
  use_met {b} inside (here {p} at) =
      let v = p in let below = slice_get_within g.nodes v (form.Rule b) at in
      let size = length-replicate {A = List ℕ} (length g.rules) [] in
      let noted = all_new used_rules 0 g.nodes (replicate (length g.rules) []) b v (form.Rule b) at (has_first [] b) (omega arith) in
      let same : 0 + v ≡ v = omega arith in
      let long = graph_long in
      root (ap (λ ls. has (numbers_at ls b) v) uses_are ∙ subst (λ x. has (numbers_at (all_joined used_rules 0 g.nodes (replicate (length g.rules) [])) b) x ≡ true) same noted) (omega arith)
  use_met {b} inside (through {p} {part} {n = n} at is reaches) =
      let from = use_met inside reaches in
      let here = reached_below from in
      let below = slice_get_within g.nodes p n at in
      let size = length-replicate {A = List ℕ} (length g.nodes) [] in
      let long = graph_long in
      let noted = all_new (reached_parts marks) 0 g.nodes (replicate (length g.nodes) []) part p n at (part_noted marks on is) (omega arith) in
      let same : 0 + p ≡ p = omega arith in
      let edge : has (numbers_at graph part) p ≡ true =
      ap (λ ls. has (numbers_at ls part) p) graph_is ∙ subst (λ x. has (numbers_at (all_joined (reached_parts marks) 0 g.nodes (replicate (length g.nodes) [])) part) x ≡ true) same noted in
      onward from edge (omega arith)

  -- a use names a rule
  use_named : {v b : ℕ} → IsGrammar g → ReachesUse g v b → b < length g.rules
  use_named {b = b} grammar (here {p} at) = all-get (NamesRule (length g.rules)) g.nodes p (form.Rule b) grammar.named at
  use_named grammar (through at is reaches) = use_named grammar reaches

  -- so the heads of a rule are the rules whose uses are met from its body up
  pub heads_are : (reaching : List (List ℕ)) → IsGrammar g → BodiesAreNodes (length g.nodes) g.rules → IsGathered graph uses (length uses) reaching
      → AreHeads g (map (λ rule. numbers_at reaching rule.body) g.rules)
  heads_are reaching grammar bodies gathered = record {
    long = length-map g.rules (λ rule. numbers_at reaching rule.body);
    members = λ a b. members a b (slice_get g.rules a) refl;
    ascending = λ a. ascending a (slice_get g.rules a) refl;
    rules = λ a b h. use_named grammar ((members a b (slice_get g.rules a) refl).0 h).reached;
  }
    where
      numbers : declared.Rule → List ℕ
      numbers rule = numbers_at reaching rule.body

      ascending : (a : ℕ) (found : Option declared.Rule) → slice_get g.rules a ≡ found
          → IsStrictlyIncreasing (numbers_at (map (λ rule. numbers_at reaching rule.body) g.rules) a)
      ascending a None at = subst IsStrictlyIncreasing (sym (map_past (λ rule. numbers_at reaching rule.body) g.rules a at)) (λ k few. absurd (omega arith))
      ascending a (Some rule) at = subst IsStrictlyIncreasing (sym (map_at (λ rule. numbers_at reaching rule.body) g.rules a rule at)) (gathered.ascending rule.body)

      members : (a b : ℕ) (found : Option declared.Rule) → slice_get g.rules a ≡ found
          → (has (numbers_at (map (λ rule. numbers_at reaching rule.body) g.rules) a) b ≡ true) ↔ Heads g a b
      members a b None at = (
        λ h. absurd (true≢false (sym h ∙ ap (λ xs. has xs b) (map_past (λ rule. numbers_at reaching rule.body) g.rules a at))),
        λ h. absurd (none-some h.rule (sym at ∙ h.is_rule)),
      )
      members a b (Some rule) at =
          let is = map_at (λ rule. numbers_at reaching rule.body) g.rules a rule at in
          let below : rule.body < length g.nodes = all-get (λ r. rule_body r < length g.nodes) g.rules a rule bodies at in
          let long = graph_long in
          let met = gathered.members rule.body b (omega arith) in (
            λ h. record { rule = rule; is_rule = at; reached = use_reached (met.0 (ap (λ xs. has xs b) (sym is) ∙ h)).1 },
            λ h.
                let same = same_Some h.rule rule (sym h.is_rule ∙ at) in
                let reached : ReachesUse g rule.body b = subst (λ r. ReachesUse g (rule_body r) b) same h.reached in
                let named = use_named grammar reached in
                let count = uses_long in
                ap (λ xs. has xs b) is ∙ met.1 (omega arith, use_met named reached),
          )
