-- Where findings stand: in which rule, at which of its nodes.
use Rattle.std.specs.Prelude.{◌≡◌, ◌-◌, ◌≤◌, ℕ, List, [], ◌∷◌, ◌++◌, Some, slice_get}
use Rattle.std.specs.List.{AllByRecursion}
use Rattle.pg_grammar_form.specs.Forms.{Node, parts_of}
use Rattle.pg_grammar_value.specs.Grammar.{Grammar, IsGrammar, rule_body}
use Rattle.pg_grammar_value.specs.declared.grammar.Rule.{Rule}
use Rattle.pg_sets_own.specs.declared.listed.ListedStart.{ListedStart}
use Rattle.pg_predict_conditions.specs.Conditions.{Violates}
use Rattle.pg_predict.specs.Findings.{Finding, AreFindings, condition_number, name_text, placed_text, violation_text}
use Rattle.pg_predict_conditions.specs.declared.violation.ViolationKind.{ViolationKind}

-- some nodes with all nodes below them, in preorder: a node, then its parts, and then the other nodes
pub data Preorder (g : Grammar) : List ℕ → List ℕ → Type 0 where
  nothing : Preorder g [] []
  node : {p : ℕ} {n : Node} {others inner after : List ℕ} → slice_get g.nodes p ≡ Some n → Preorder g (parts_of n) inner → Preorder g others after
      → Preorder g (p ∷ others) (p ∷ (inner ++ after))

-- in preorder, p has this number, from 1, among the nodes of the rule's body
pub record StandsAs (g : Grammar) (r number p : ℕ) : Type 0 where
  pub rule : Rule
  pub there : slice_get g.rules r ≡ Some rule
  pub nodes : List ℕ
  pub body : Preorder g (rule_body rule ∷ []) nodes
  pub from_one : 1 ≤ number
  pub numbered : slice_get nodes (number - 1) ≡ Some p

-- the finding belongs to a node at which a condition is broken: it has the number of the rule whose body has the node, the
-- node's number there and the condition's, and its line has the rule's name, the node's number and the words
pub record SpeaksOf (g : Grammar) (finding : Finding) : Type 0 where
  pub p : ℕ
  pub kind : ViolationKind ListedStart
  pub violates : Violates g p kind
  pub stands : StandsAs g finding.rule finding.node p
  pub condition : finding.number ≡ condition_number kind
  pub line : finding.line ≡ placed_text (name_text stands.rule) finding.node (violation_text g kind)

-- each finding of a grammar belongs to such a node
abbrev pub FindingsSpeakOfNodes : Type 0
FindingsSpeakOfNodes = (g : Grammar) → IsGrammar g → (findings : List Finding) → AreFindings g findings → AllByRecursion (SpeaksOf g) findings
