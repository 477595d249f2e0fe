-- What can follow what a node reads, by the claims of a certificate. Every rule's body counts, whether the start rule leads to it or
-- not.
use Rattle.std.specs.Prelude.{◌≡◌, ℕ, Bool, true, List, [], ◌∷◌, Some, slice_get}
use Rattle.pg_certificate.specs.declared.certificate.RuleClaim.{RuleClaim}
use Rattle.pg_grammar_form.specs.Forms.{Node}
use Rattle.pg_grammar_form.specs.declared.form.Form.TheVariants as form
use Rattle.pg_grammar_form.specs.declared.used.OperatorBuilders.{OperatorBuilders}
use Rattle.pg_graph.specs.Graphs.{has}
use Rattle.pg_graph.specs.Marks.{is_marked}
use Rattle.pg_sets_nullable.specs.Parts.{up_to_unmarked}
use Rattle.pg_sets_own.specs.Listed.{IsListed}
use Rattle.pg_sets_own.specs.OwnStarts.{IsOperatorStart}
use Rattle.pg_sets_own.specs.declared.listed.ListedStart.{ListedStart}
use Rattle.pg_sets.specs.Follow.{StandsBefore, IsChain, HasOnly}
use Rattle.pg_start.specs.declared.kind.StartKind.TheVariants.{End}
use Rattle.pg_grammar_value.specs.Grammar.{Grammar}
use Rattle.pg_grammar_value.specs.declared.grammar.Rule as declared
use Rattle.pg_certificate_verify.specs.Claimed.{claimed_follow}
use Rattle.pg_certificate_verify.specs.First.{IsFirstBy}
use Rattle.pg_certificate_verify.specs.Standing.{IsClaimedAs}

-- the start is among those that follow the node, by the marks of the nullable nodes
pub data IsFollowBy (g : Grammar) (claims : List RuleClaim) (nullable : List Bool) (listed : ListedStart) : ℕ → Type 0 where
  -- a rule's body is followed by what is claimed to follow the rule
  claimed : (r : ℕ) {named : declared.Rule} → slice_get g.rules r ≡ Some named → IsClaimedAs g (claimed_follow claims r) listed
      → IsFollowBy g claims nullable listed named.body
  -- a part of a sequence is followed by the first of the next part, and by what follows that if it is nullable; the last by what follows the sequence
  next : (p : ℕ) {q r : ℕ} {parts rest : List ℕ} → slice_get g.nodes p ≡ Some (form.Seq parts) → StandsBefore q (r ∷ rest) parts
      → IsFirstBy g claims nullable listed r → IsFollowBy g claims nullable listed q
  over : (p : ℕ) {q r : ℕ} {parts rest : List ℕ} → slice_get g.nodes p ≡ Some (form.Seq parts) → StandsBefore q (r ∷ rest) parts
      → is_marked nullable r ≡ true → IsFollowBy g claims nullable listed r → IsFollowBy g claims nullable listed q
  last : {p q : ℕ} {parts : List ℕ} → slice_get g.nodes p ≡ Some (form.Seq parts) → StandsBefore q [] parts
      → IsFollowBy g claims nullable listed p → IsFollowBy g claims nullable listed q
  -- an alternative is followed by what follows its choice
  alternative : {p q : ℕ} {parts : List ℕ} → slice_get g.nodes p ≡ Some (form.Choice parts) → has parts q ≡ true
      → IsFollowBy g claims nullable listed p → IsFollowBy g claims nullable listed q
  -- the body of a many is followed by its own first, and by what follows the many
  next_round : (p : ℕ) {q : ℕ} → slice_get g.nodes p ≡ Some (form.Many q) → IsFirstBy g claims nullable listed q → IsFollowBy g claims nullable listed q
  last_round : {p q : ℕ} → slice_get g.nodes p ≡ Some (form.Many q) → IsFollowBy g claims nullable listed p → IsFollowBy g claims nullable listed q
  -- the operand of a chain is followed by the first of separator and operand, and by what follows the chain
  next_link : (p : ℕ) {o s q : ℕ} {n : Node} → slice_get g.nodes p ≡ Some n → IsChain o s n → has (up_to_unmarked nullable (s ∷ o ∷ [])) q ≡ true
      → IsFirstBy g claims nullable listed q → IsFollowBy g claims nullable listed o
  last_link : {p o s : ℕ} {n : Node} → slice_get g.nodes p ≡ Some n → IsChain o s n → IsFollowBy g claims nullable listed p → IsFollowBy g claims nullable listed o
  -- the separator is followed by the first of the operand, and by what follows the operand if that is nullable
  operand : (p : ℕ) {o s : ℕ} {n : Node} → slice_get g.nodes p ≡ Some n → IsChain o s n → IsFirstBy g claims nullable listed o → IsFollowBy g claims nullable listed s
  over_operand : (p : ℕ) {o s : ℕ} {n : Node} → slice_get g.nodes p ≡ Some n → IsChain o s n → is_marked nullable o ≡ true
      → IsFirstBy g claims nullable listed s → IsFollowBy g claims nullable listed s
  last_operand : {p o s : ℕ} {n : Node} → slice_get g.nodes p ≡ Some n → IsChain o s n → is_marked nullable o ≡ true
      → IsFollowBy g claims nullable listed p → IsFollowBy g claims nullable listed s
  -- the term of an expression is followed by the operators, and by what follows the expression
  operator : (p : ℕ) {term : ℕ} {builders : OperatorBuilders} → slice_get g.nodes p ≡ Some (form.Expression builders term)
      → IsOperatorStart g listed.start → IsListed g listed → IsFollowBy g claims nullable listed term
  last_term : {p term : ℕ} {builders : OperatorBuilders} → slice_get g.nodes p ≡ Some (form.Expression builders term)
      → IsFollowBy g claims nullable listed p → IsFollowBy g claims nullable listed term
  -- the only part of any other form is followed by what follows the form
  only : {p q : ℕ} {n : Node} → slice_get g.nodes p ≡ Some n → HasOnly q n → IsFollowBy g claims nullable listed p → IsFollowBy g claims nullable listed q

-- the start stands behind a use of the rule, or is the end behind the start rule
pub data IsBehind (g : Grammar) (claims : List RuleClaim) (nullable : List Bool) (listed : ListedStart) (r : ℕ) : Type 0 where
  at_use : {p : ℕ} → slice_get g.nodes p ≡ Some (form.Rule r) → IsFollowBy g claims nullable listed p → IsBehind g claims nullable listed r
  at_end : g.start ≡ r → ◌≡◌ {A = ListedStart} (record { start = End; word = 0 }) listed → IsBehind g claims nullable listed r
