-- A rule has one rank, and none where a chain of heads reaches a cycle.
use Rattle.std.proofs.Common.{◌≡◌, ℕ, suc, ◌<◌, ◌≤◌, arith}
use Rattle.pg_grammar_value.specs.Grammar.{Grammar}
use Rattle.pg_sets_nullable.specs.Reached.{Heads}
use Rattle.pg_sets_nullable.specs.Ranks.{IsRank, no_heads, above, RankUpTo, up_to, Chain, head, heads, ReachesCycle, on_cycle, leads_to}

-- a rank isn't above another rank of the same rule
not_above : {g : Grammar} {a r s : ℕ} → IsRank g a r → IsRank g a s → r ≤ s
not_above (no_heads none) other = omega arith
not_above (above h rank all) (no_heads none) = absurd (none _ h)
not_above (above {b = b} h rank all) (above k other each) = bounded (each b h) (λ t is. not_above rank is)
  where
    bounded : {g : Grammar} {b r s : ℕ} → RankUpTo g b s → ((t : ℕ) → IsRank g b t → r ≤ t) → suc r ≤ suc s
    bounded (up_to {s = t} is below) least = let low = least t is in omega arith

-- a rule has one rank
pub one_rank : {g : Grammar} {a r s : ℕ} → IsRank g a r → IsRank g a s → r ≡ s
one_rank rank other = let low = not_above rank other in let high = not_above other rank in omega arith

-- a rank that is below another
record LowerRank (g : Grammar) (a r : ℕ) : Type 0 where
  lower : ℕ
  is : IsRank g a lower
  below : lower < r

-- a head has a lower rank
head_rank : {g : Grammar} {a b r : ℕ} → IsRank g a r → Heads g a b → LowerRank g b r
head_rank (no_heads none) h = absurd (none _ h)
head_rank {b = b} (above k rank all) h = bounded (all b h)
  where
    bounded : {g : Grammar} {c r : ℕ} → RankUpTo g c r → LowerRank g c (suc r)
    bounded (up_to {s = s} is below) = record { lower = s; is = is; below = omega arith }

-- and so has whatever a chain of heads leads to
chain_rank : {g : Grammar} {a b r : ℕ} → IsRank g a r → Chain g a b → LowerRank g b r
chain_rank rank (head h) = head_rank rank h
chain_rank {r = r} rank (heads h chain) =
    let next = head_rank rank h in
    let last = chain_rank next.is chain in
    let one = next.below in
    let two = last.below in
    record { lower = last.lower; is = last.is; below = omega arith }

-- a rule with a rank is on no cycle, and no chain of heads leads from it to one
pub ranked_no_cycle : {g : Grammar} {a r : ℕ} → IsRank g a r → ReachesCycle g a → ⊥
ranked_no_cycle rank (on_cycle chain) =
    let again = chain_rank rank chain in
    let same = one_rank rank again.is in
    let less = again.below in
    omega arith
ranked_no_cycle rank (leads_to h cycle) = ranked_no_cycle (head_rank rank h).is cycle

-- a chain with a head more at its end
pub chain_on : {g : Grammar} {a b c : ℕ} → Chain g a b → Heads g b c → Chain g a c
chain_on (head h) k = heads h (head k)
chain_on (heads h chain) k = heads h (chain_on chain k)
