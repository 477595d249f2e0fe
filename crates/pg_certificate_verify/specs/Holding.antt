-- Claims that hold: the claims about each rule are no less than what they require of its body.
use Rattle.std.specs.Prelude.{◌≡◌, ◌≤◌, ℕ, Bool, true, List, Some, slice_get}
use Rattle.pg_certificate.specs.declared.certificate.RuleClaim.{RuleClaim}
use Rattle.pg_predict_costs.specs.Steps.{number_at}
use Rattle.pg_graph.specs.Marks.{is_marked}
use Rattle.pg_grammar_value.specs.Grammar.{Grammar}
use Rattle.pg_grammar_value.specs.declared.grammar.Rule.{Rule}
use Rattle.pg_certificate_verify.specs.Claimed.{claimed_nullable, claimed_rank, claimed_cost}

-- a rule whose body is nullable is claimed to be
abbrev pub NullableHolds : Grammar → List RuleClaim → List Bool → Type 0
NullableHolds g claims marks = (r : ℕ) (rule : Rule) → slice_get g.rules r ≡ Some rule → is_marked marks rule.body ≡ true → claimed_nullable claims r ≡ true

-- a rule's claimed rank is at least the rank that its body requires
abbrev pub RankHolds : Grammar → List RuleClaim → List ℕ → Type 0
RankHolds g claims ranks = (r : ℕ) (rule : Rule) → slice_get g.rules r ≡ Some rule → number_at ranks rule.body ≤ claimed_rank claims r

-- a rule's claimed cost is at least its body's
abbrev pub CostHolds : Grammar → List RuleClaim → List ℕ → Type 0
CostHolds g claims costs = (r : ℕ) (rule : Rule) → slice_get g.rules r ≡ Some rule → number_at costs rule.body ≤ claimed_cost claims r
