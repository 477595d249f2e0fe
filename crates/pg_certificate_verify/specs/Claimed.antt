-- The claims about a rule, by its number.
use Rattle.std.specs.Prelude.{ℕ, Bool, false, List, [], slice_get}
use Rattle.std.specs.Option.{option_map_or}
use Rattle.pg_certificate.specs.declared.certificate.ClaimedStart.{ClaimedStart}
use Rattle.pg_certificate.specs.declared.certificate.RuleClaim.{RuleClaim}

-- a rule without a claim isn't claimed to be nullable, and its claimed rank and cost are 0
abbrev pub claimed_nullable : List RuleClaim → ℕ → Bool
claimed_nullable claims r = option_map_or (λ claim. claim.nullable) (slice_get claims r) false

-- the claimed rank of the rule with this number
abbrev pub claimed_rank : List RuleClaim → ℕ → ℕ
claimed_rank claims r = option_map_or (λ claim. claim.rank) (slice_get claims r) 0

-- the claimed cost of its body
abbrev pub claimed_cost : List RuleClaim → ℕ → ℕ
claimed_cost claims r = option_map_or (λ claim. claim.cost) (slice_get claims r) 0

-- the claimed first starts; none without a claim
abbrev pub claimed_first : List RuleClaim → ℕ → List ClaimedStart
claimed_first claims r = option_map_or (λ claim. claim.first) (slice_get claims r) []

-- the claimed follow starts; none without a claim
abbrev pub claimed_follow : List RuleClaim → ℕ → List ClaimedStart
claimed_follow claims r = option_map_or (λ claim. claim.follow) (slice_get claims r) []
