-- Where the parts of a node and the bodies of rules are.
use Rattle.std.specs.Prelude.{◌<◌, ℕ, List}
use Rattle.std.specs.List.{AllByRecursion}
use Rattle.pg_grammar_value.specs.declared.grammar.Rule.{Rule}

-- each part of the node is a later node
abbrev pub PartsFollow : ℕ → ℕ → List ℕ → Type 0
PartsFollow node count parts = AllByRecursion (λ part. (node < part) × (part < count)) parts

-- each rule's body is a node
abbrev pub BodiesAreNodes : ℕ → List Rule → Type 0
BodiesAreNodes count rules = AllByRecursion (λ rule. rule.body < count) rules
