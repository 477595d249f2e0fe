-- How far ranks are known.
use Rattle.std.specs.Prelude.{◌≡◌, ◌+◌, ◌<◌, ℕ, max, List, [], ◌∷◌, Option, Some, length, count_by}
use Rattle.std.specs.Option.{option_and_then, is_none}
use Rattle.pg_grammar_value.specs.Grammar.{Grammar}
use Rattle.pg_sets_nullable.specs.Ranks.{IsRank, rank_at}

-- one more than the greatest of these rules' ranks, and at least the given number; none if one of them has no rank
abbrev pub rank_above : List (Option ℕ) → ℕ → List ℕ → Option ℕ
rank_above ranks above [] = Some above
rank_above ranks above (a ∷ others) = option_and_then (λ r. rank_above ranks (max above (r + 1)) others) (rank_at ranks a)

-- how many rules have no rank yet
abbrev pub unranked : List (Option ℕ) → ℕ
unranked ranks = count_by is_none ranks

-- the ranks so far are right, and each is below the number of rules that have one
pub record AreSoFar (g : Grammar) (ranks : List (Option ℕ)) : Type 0 where
  pub right : (a r : ℕ) → rank_at ranks a ≡ Some r → IsRank g a r
  pub small : (a r : ℕ) → rank_at ranks a ≡ Some r → r + unranked ranks < length ranks
