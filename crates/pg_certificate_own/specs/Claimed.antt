-- Which starts are claimed, and when the claims about a rule are exact.
use Rattle.std.specs.Prelude.{◌≡◌, ◌↔◌, ◌⊎◌, ℕ, true, List, [], ◌∷◌}
use Rattle.pg_certificate.specs.declared.certificate.ClaimedStart.{ClaimedStart}
use Rattle.pg_certificate.specs.declared.certificate.ClaimedStart.TheVariants as claimed
use Rattle.pg_certificate.specs.declared.certificate.RuleClaim.{RuleClaim}
use Rattle.pg_grammar_form.specs.declared.form.Form.TheVariants as form
use Rattle.pg_grammar_form.specs.declared.form.Leaf.TheVariants as leaf
use Rattle.pg_sets_nullable.specs.Nullable.{Nullable}
use Rattle.pg_sets_nullable.specs.Ranks.{IsRank}
use Rattle.pg_sets_own.specs.OwnStarts.{OwnStart, IsOperatorStart}
use Rattle.pg_sets.specs.First.{IsFirst}
use Rattle.pg_sets.specs.Follow.{IsFollow}
use Rattle.pg_start.specs.declared.kind.StartKind.{StartKind}
use Rattle.pg_start.specs.declared.kind.StartKind.TheVariants.{Class, Key, End}
use Rattle.pg_grammar_value.specs.Grammar.{Grammar}
use Rattle.pg_grammar_value.specs.declared.grammar.Rule.{Rule}

-- the start for which a claimed one stands; for a word, the one that a node gives which reads the word
abbrev pub StandsFor : Grammar → ClaimedStart → StartKind → Type 0
StandsFor g (claimed.Class ranges) start = Class ranges ≡ start
StandsFor g (claimed.Key text excluded) start = Key text excluded ≡ start
StandsFor g (claimed.Word w) start = OwnStart g (form.Leaf (leaf.Word w)) start
StandsFor g claimed.Operator start = IsOperatorStart g start
StandsFor g claimed.End start = End ≡ start

-- one of the claimed starts stands for it
abbrev pub IsClaimedIn : Grammar → List ClaimedStart → StartKind → Type 0
IsClaimedIn g [] start = ⊥
IsClaimedIn g (one ∷ others) start = StandsFor g one start ⊎ IsClaimedIn g others start

-- the claims about the rule with this number are exact
pub record ClaimsTheSets (g : Grammar) (r : ℕ) (rule : Rule) (claim : RuleClaim) : Type 0 where
  pub nullable : (claim.nullable ≡ true) ↔ Nullable g rule.body
  pub rank : IsRank g r claim.rank
  pub first : (start : StartKind) → IsClaimedIn g claim.first start ↔ IsFirst g start rule.body
  pub follow : (start : StartKind) → IsClaimedIn g claim.follow start ↔ IsFollow g start rule.body
