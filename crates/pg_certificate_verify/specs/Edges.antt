-- Which sets are contained in which by the claims, as the edges of a graph. Its vertices are the first and the follow sets of nodes, and
-- for each rule its claimed first set, its claimed follow set, and what stands behind its uses.
use Rattle.std.specs.Prelude.{◌+◌, ◌*◌, ℕ, suc, nat_lt, Bool, if◌then◌else◌, List, [], ◌∷◌, ◌++◌, replicate, length}
use Rattle.std.specs.Option.{option_map_or}
use Rattle.pg_grammar_form.specs.Contents.{rule_in}
use Rattle.pg_grammar_form.specs.Forms.{Node}
use Rattle.pg_sets.specs.Flows.{Flow, follow_of, with_flows, node_flows}
use Rattle.pg_grammar_value.specs.Grammar.{Grammar}
use Rattle.pg_grammar_value.specs.declared.grammar.Rule.{Rule}

-- ---- the numbers of sets

-- the three sets of rules
abbrev pub of_first : ℕ
of_first = 0

abbrev pub of_follow : ℕ
of_follow = 1

abbrev pub of_behind : ℕ
of_behind = 2

-- The number of a set of a rule, where `count` and `rules` are the numbers of nodes and rules. It comes after the nodes' sets and one
-- number that is no set, which a rule gets that doesn't exist.
abbrev pub rule_set : ℕ → ℕ → ℕ → ℕ → ℕ
rule_set count rules kind r = if nat_lt r rules then count + count + 1 + kind * rules + r else count + count

-- ---- the edges

-- the edges of a use of a rule: the rule's claimed first set begins it, and what follows it stands behind the rule
abbrev pub use_flows : ℕ → ℕ → ℕ → Node → List Flow
use_flows count rules p n =
    option_map_or (λ rule. (rule_set count rules of_first rule, p) ∷ (follow_of count p, rule_set count rules of_behind rule) ∷ []) (rule_in n) []

-- the edges of the node with the number p
abbrev pub claim_flows : List Bool → List Bool → ℕ → ℕ → ℕ → Node → List Flow
claim_flows nullable keys count rules p n = node_flows [] nullable keys count p n ++ use_flows count rules p n

-- the claimed follow set of a rule follows its body
abbrev pub body_flows : ℕ → ℕ → ℕ → Rule → List Flow
body_flows count rules r rule = (rule_set count rules of_follow r, follow_of count rule.body) ∷ []

-- the edges of each of these things, where the first has the number k
abbrev pub flows_of_each : {A : Type 0} → (ℕ → A → List Flow) → ℕ → List A → List Flow
flows_of_each flows k [] = []
flows_of_each flows k (x ∷ xs) = flows k x ++ flows_of_each flows (suc k) xs

-- the graph of the claims
abbrev pub claim_graph : Grammar → List Bool → List Bool → List (List ℕ)
claim_graph g nullable keys =
    let count = length g.nodes in
    let rules = length g.rules in
    with_flows (with_flows (replicate (count + count + 1 + 3 * rules) []) (flows_of_each (claim_flows nullable keys count rules) 0 g.nodes))
    (flows_of_each (body_flows count rules) 0 g.rules)
