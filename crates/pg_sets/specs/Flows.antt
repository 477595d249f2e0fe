-- Which sets are contained in which, as the edges of a graph whose vertices are the first and the follow sets of nodes.
use Rattle.std.specs.Prelude.{ℕ, suc, ◌+◌, nat_lt, Bool, if◌then◌else◌, List, [], ◌∷◌, ◌++◌, slice_get}
use Rattle.std.specs.Option.{option_map_or}
use Rattle.pg_grammar_form.specs.Contents.{is_try}
use Rattle.pg_grammar_form.specs.Forms.{Node}
use Rattle.pg_grammar_form.specs.declared.form.Form.TheVariants as form
use Rattle.pg_grammar_form.specs.declared.form.Around.{Around}
use Rattle.pg_grammar_value.specs.declared.grammar.Rule.{Rule}
use Rattle.pg_graph.specs.Graphs.{joined}
use Rattle.pg_graph.specs.Marks.{is_marked}

-- the number of a node's follow set, where the first argument is the number of nodes; first sets have lower numbers
abbrev pub follow_of : ℕ → ℕ → ℕ
follow_of count p = if nat_lt p count then count + p else count + count

-- an edge, from a set to one that contains it
abbrev pub Flow : Type 0
Flow = ℕ × ℕ

-- the edges are added to a graph
abbrev pub with_flows : List (List ℕ) → List Flow → List (List ℕ)
with_flows graph [] = graph
with_flows graph (flow ∷ flows) = with_flows (joined graph flow.0 flow.1) flows

-- to a set from the first sets of these nodes in sequence, and from another set after them all; a first set has the
-- number of its node
abbrev pub flows_of_all : List Bool → List ℕ → ℕ → ℕ → List Flow
flows_of_all nullable [] after to = (after, to) ∷ []
flows_of_all nullable (q ∷ qs) after to = (q, to) ∷ (if is_marked nullable q then flows_of_all nullable qs after to else [])

-- as `flows_of_all`, but without another set at the end
abbrev pub flows_of_some : List Bool → List ℕ → ℕ → List Flow
flows_of_some nullable [] to = []
flows_of_some nullable (q ∷ qs) to = (q, to) ∷ (if is_marked nullable q then flows_of_some nullable qs to else [])

-- to a set from the next node, and from what follows it if it is nullable; from another set if there is no next node
abbrev pub flows_of_next : List Bool → ℕ → List ℕ → ℕ → ℕ → List Flow
flows_of_next nullable count [] after to = (after, to) ∷ []
flows_of_next nullable count (q ∷ qs) after to = (q, to) ∷ (if is_marked nullable q then (follow_of count q, to) ∷ [] else [])

-- to the follow set of each part of a sequence
abbrev pub flows_after_parts : List Bool → ℕ → ℕ → List ℕ → List Flow
flows_after_parts nullable count p [] = []
flows_after_parts nullable count p (q ∷ qs) = flows_of_next nullable count qs (follow_of count p) (follow_of count q) ++ flows_after_parts nullable count p qs

-- to and from the sets of each alternative
abbrev pub flows_of_alternatives : ℕ → ℕ → List ℕ → List Flow
flows_of_alternatives count p [] = []
flows_of_alternatives count p (q ∷ qs) = (q, p) ∷ (follow_of count p, follow_of count q) ∷ flows_of_alternatives count p qs

-- of a chain
abbrev pub flows_of_chain : List Bool → ℕ → ℕ → ℕ → ℕ → List Flow
flows_of_chain nullable count p operand separator =
    flows_of_some nullable (operand ∷ separator ∷ []) p
    ++ flows_of_some nullable (separator ∷ operand ∷ []) (follow_of count operand)
    ++ flows_of_all nullable (operand ∷ []) (follow_of count p) (follow_of count separator)
    ++ ((follow_of count p, follow_of count operand) ∷ [])
    ++ (if is_marked nullable operand then flows_of_some nullable (separator ∷ []) (follow_of count separator) else [])

-- of the one part of a form
abbrev pub flows_of_only : ℕ → ℕ → ℕ → List Flow
flows_of_only count p q = (q, p) ∷ (follow_of count p, follow_of count q) ∷ []

-- of a try: the part's first set is left out where the try gives a key
abbrev pub try_flows : List Bool → ℕ → ℕ → ℕ → List Flow
try_flows keys count p q = if is_marked keys p then (follow_of count p, follow_of count q) ∷ [] else flows_of_only count p q

-- of a form around a part
abbrev pub around_flows : List Bool → ℕ → ℕ → Around → ℕ → List Flow
around_flows keys count p around q = if is_try around then try_flows keys count p q else flows_of_only count p q

-- of a use of a rule
abbrev pub flows_of_use : List Rule → ℕ → ℕ → ℕ → List Flow
flows_of_use rules count p r = option_map_or (λ rule. flows_of_only count p rule.body) (slice_get rules r) []

-- of the node with the number p
abbrev pub node_flows : List Rule → List Bool → List Bool → ℕ → ℕ → Node → List Flow
node_flows rules nullable keys count p (form.Leaf leaf) = []
node_flows rules nullable keys count p (form.Seq parts) = flows_of_some nullable parts p ++ flows_after_parts nullable count p parts
node_flows rules nullable keys count p (form.Choice parts) = flows_of_alternatives count p parts
node_flows rules nullable keys count p (form.Many part) = (part, follow_of count part) ∷ flows_of_only count p part
node_flows rules nullable keys count p (form.Chain side used operand separator) = flows_of_chain nullable count p operand separator
node_flows rules nullable keys count p (form.Rule rule) = flows_of_use rules count p rule
node_flows rules nullable keys count p (form.Expression builders term) = flows_of_only count p term
node_flows rules nullable keys count p (form.Around around part) = around_flows keys count p around part

-- of all these nodes, where the first has the number p
abbrev pub all_flows : List Rule → List Bool → List Bool → ℕ → ℕ → List Node → List Flow
all_flows rules nullable keys count p [] = []
all_flows rules nullable keys count p (n ∷ ns) = node_flows rules nullable keys count p n ++ all_flows rules nullable keys count (suc p) ns
