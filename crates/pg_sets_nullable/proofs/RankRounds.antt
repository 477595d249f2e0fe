-- What a round of ranks finds, and what is so of the rules that no round ranks.
use Rattle.std.proofs.Common.{◌≡◌, ℕ, zero, suc, ◌+◌, ◌<◌, ◌≤◌, max, Bool, true, false, cond, ◌⊎◌, inl, inr, List, [], ◌∷◌, Option, Some, None, slice_set, length, refl, sym, ap, subst, ◌∙◌, arith}
use Rattle.std.specs.Prelude.{◌==◌}
use Rattle.std.specs.List.{IsDistinct, AllByRecursion, list_any}
use Rattle.std.specs.Option.{option_and_then, is_none}
use Rattle.std.proofs.lemmas.Bool.{cases_eq, cases_Bool, true≢false, eqb-true, eq-eqb, ne_eqb, or_parts, or_cases}
use Rattle.std.proofs.lemmas.List.{get_or-set_same, get_or-set_other, length-set}
use Rattle.std.proofs.lemmas.List.Sums.{sum_by-set, count_by-le-length}
use Rattle.std.proofs.lemmas.Map.Keys.{IsDistinct-cons}
use Rattle.std.proofs.lemmas.Map.Steps.{length-le_from_distinct_below}
use Rattle.std.proofs.lemmas.Option.{none-some, same_Some}
use Rattle.pg_grammar_value.specs.Grammar.{Grammar}
use Rattle.pg_graph.specs.Graphs.{has, AreOnce, numbers_at}
use Rattle.pg_sets_nullable.specs.Reached.{AreHeads}
use Rattle.pg_sets_nullable.specs.Ranks.{IsRank, no_heads, above, up_to, Chain, head, ReachesCycle, on_cycle, leads_to, rank_at, AreRanks}
use Rattle.pg_sets_nullable.specs.Ranking.{rank_above, unranked, AreSoFar}
use Rattle.pg_graph.proofs.Lists.{has_first, has_after, has_cases}
use Rattle.pg_sets_nullable.proofs.RankLaws.{one_rank, ranked_no_cycle, chain_on}

-- ---- the rank above some rules

-- one of these rules has a rank, and the next number is this one
pub record Tops (ranks : List (Option ℕ)) (rs : List ℕ) (s : ℕ) : Type 0 where
  pub rule : ℕ
  pub among : has rs rule ≡ true
  pub rank : ℕ
  pub ranked : rank_at ranks rule ≡ Some rank
  pub is : s ≡ rank + 1

-- a rule has a rank below this number
pub record Below (ranks : List (Option ℕ)) (s a : ℕ) : Type 0 where
  pub rank : ℕ
  pub ranked : rank_at ranks a ≡ Some rank
  pub less : rank + 1 ≤ s

-- what a rank above rules says of them
pub record IsAbove (ranks : List (Option ℕ)) (least : ℕ) (rs : List ℕ) (s : ℕ) : Type 0 where
  pub high : least ≤ s
  pub each : (a : ℕ) → has rs a ≡ true → Below ranks s a
  pub top : (s ≡ least) ⊎ Tops ranks rs s

pub above_is : (ranks : List (Option ℕ)) (least : ℕ) (rs : List ℕ) (s : ℕ) → rank_above ranks least rs ≡ Some s → IsAbove ranks least rs s
above_is ranks least [] s e =
    let same = same_Some least s e in
    record { high = omega arith; each = λ a h. absurd (true≢false (sym h)); top = inl (sym same) }
above_is ranks least (b ∷ bs) s e = go (rank_at ranks b) refl e (λ r h. above_is ranks (max least (r + 1)) bs s h)
  where
    go : (found : Option ℕ) → rank_at ranks b ≡ found → option_and_then (λ r. rank_above ranks (max least (r + 1)) bs) found ≡ Some s
        → ((r : ℕ) → rank_above ranks (max least (r + 1)) bs ≡ Some s → IsAbove ranks (max least (r + 1)) bs s) → IsAbove ranks least (b ∷ bs) s
    go None at h ih = absurd (none-some s h)
    go (Some r) at h ih =
        let rest = ih r h in
        let high = rest.high in
        record {
          high = omega arith;
          each = λ a among. elim (has_cases bs b a among) [ inl same ↦ subst (Below ranks s) same (record { rank = r; ranked = at; less = omega arith }) | inr after ↦ rest.each a after ];
          top =
              elim rest.top [
                | inr tops ↦ inr (record { rule = tops.rule; among = has_after bs b tops.rule tops.among; rank = tops.rank; ranked = tops.ranked; is = tops.is })
                | inl same ↦ either r at same
              ];
        }
      where
        either : (r : ℕ) → rank_at ranks b ≡ Some r → s ≡ max least (r + 1) → (s ≡ least) ⊎ Tops ranks (b ∷ bs) s
        either r at same =
            elim (cases_eq s least) [
              | inl e ↦ inl e
              | inr ne ↦ inr (record { rule = b; among = has_first bs b; rank = r; ranked = at; is = omega arith })
            ]

-- one of these rules has no rank
pub record Lacks (ranks : List (Option ℕ)) (rs : List ℕ) : Type 0 where
  pub rule : ℕ
  pub among : has rs rule ≡ true
  pub none : rank_at ranks rule ≡ None

pub none_above : (ranks : List (Option ℕ)) (least : ℕ) (rs : List ℕ) → rank_above ranks least rs ≡ None → Lacks ranks rs
none_above ranks least [] e = absurd (none-some least (sym e))
none_above ranks least (b ∷ bs) e = go (rank_at ranks b) refl e (λ r h. none_above ranks (max least (r + 1)) bs h)
  where
    go : (found : Option ℕ) → rank_at ranks b ≡ found → option_and_then (λ r. rank_above ranks (max least (r + 1)) bs) found ≡ None
        → ((r : ℕ) → rank_above ranks (max least (r + 1)) bs ≡ None → Lacks ranks bs) → Lacks ranks (b ∷ bs)
    go None at h ih = record { rule = b; among = has_first bs b; none = at }
    go (Some r) at h ih = let rest = ih r h in record { rule = rest.rule; among = has_after bs b rest.rule rest.among; none = rest.none }

-- ---- a rule more

-- the rank above a rule's heads is its rank
pub above_heads : (g : Grammar) (ranks : List (Option ℕ)) (lists : List (List ℕ)) (a s : ℕ) → AreHeads g lists → AreSoFar g ranks
    → rank_above ranks 0 (numbers_at lists a) ≡ Some s → IsRank g a s
above_heads g ranks lists a s are sofar e = go (above_is ranks 0 (numbers_at lists a) s e)
  where
    go : IsAbove ranks 0 (numbers_at lists a) s → IsRank g a s
    go found =
        elim found.top [
          | inl zeroth ↦
              subst (IsRank g a) (sym zeroth)
              (no_heads (λ b h. let under = found.each b ((are.members a b).1 h) in let less = under.less in omega arith))
          | inr tops ↦
              let next : s ≡ suc tops.rank = let is = tops.is in omega arith in
              subst (IsRank g a) (sym next)
              (above ((are.members a tops.rule).0 tops.among) (sofar.right tops.rule tops.rank tops.ranked)
              (λ c h. let under = found.each c ((are.members a c).1 h) in let less = under.less in up_to (sofar.right c under.rank under.ranked) (omega arith)))
        ]

pub one_less : (ranks : List (Option ℕ)) (a r : ℕ) → a < length ranks → rank_at ranks a ≡ None → unranked (slice_set ranks a (Some r)) + 1 ≡ unranked ranks
one_less ranks a r below none =
    let e : unranked (slice_set ranks a (Some r)) + cond {A = ℕ} (is_none (rank_at ranks a)) 1 0 ≡ unranked ranks + 0 =
    sum_by-set (λ o. cond (is_none o) 1 0) ranks a (Some r) None below in
    let was : cond {A = ℕ} (is_none (rank_at ranks a)) 1 0 ≡ 1 = ap (λ o. cond (is_none o) 1 0) none in
    omega arith

-- a right rank more, above the ranks of the rule's heads
pub ranked_more : (g : Grammar) (ranks : List (Option ℕ)) (lists : List (List ℕ)) (a s : ℕ) → AreHeads g lists → AreSoFar g ranks
    → a < length ranks → rank_at ranks a ≡ None → rank_above ranks 0 (numbers_at lists a) ≡ Some s → AreSoFar g (slice_set ranks a (Some s))
ranked_more g ranks lists a s are sofar below none e = record {
  right = λ b r h.
      elim (cases_eq b a) [
        | inr ne ↦ sofar.right b r (sym (get_or-set_other ranks a b (Some s) None ne) ∙ h)
        | inl same ↦
            let is : s ≡ r = same_Some s r (sym (get_or-set_same ranks a (Some s) None below) ∙ (ap (rank_at (slice_set ranks a (Some s))) (sym same) ∙ h)) in
            subst (λ c. IsRank g c r) (sym same) (subst (IsRank g a) is (above_heads g ranks lists a s are sofar e))
      ];
  small = λ b r h.
      let long = length-set ranks a (Some s) in
      let fewer = one_less ranks a s below none in
      elim (cases_eq b a) [
        | inr ne ↦ let less = sofar.small b r (sym (get_or-set_other ranks a b (Some s) None ne) ∙ h) in omega arith
        | inl same ↦
            let is : s ≡ r = same_Some s r (sym (get_or-set_same ranks a (Some s) None below) ∙ (ap (rank_at (slice_set ranks a (Some s))) (sym same) ∙ h)) in
            let few = count_by-le-length is_none ranks in
            let found = above_is ranks 0 (numbers_at lists a) s e in
            top r is found.top fewer long few
      ];
}
  where
    top : (r : ℕ) → s ≡ r → (s ≡ 0) ⊎ Tops ranks (numbers_at lists a) s → unranked (slice_set ranks a (Some s)) + 1 ≡ unranked ranks
        → length (slice_set ranks a (Some s)) ≡ length ranks → unranked ranks ≤ length ranks → r + unranked (slice_set ranks a (Some s)) < length (slice_set ranks a (Some s))
    top r is (inl zeroth) fewer long few = omega arith
    top r is (inr tops) fewer long few = let less = sofar.small tops.rule tops.rank tops.ranked in let next = tops.is in omega arith

-- ---- the rules that are left

once_is_distinct : (xs : List ℕ) → AreOnce xs → IsDistinct ◌==◌ xs
unfolding IsDistinct
once_is_distinct [] once = tt
once_is_distinct (x ∷ xs) once = IsDistinct-cons ◌==◌ x xs (others xs once.0) (once_is_distinct xs once.1)
  where
    others : (ys : List ℕ) → has ys x ≡ false → AllByRecursion (λ y. (x == y) ≡ false) ys
    others [] out = tt
    others (y ∷ ys) out =
        let parts = or_parts (y == x) (has ys x) out in
        (ne_eqb x y (λ e. true≢false (sym (eq-eqb y x (sym e)) ∙ parts.0)), others ys parts.1)

-- n different numbers aren't all below a smaller number
too_many : (xs : List ℕ) (n : ℕ) → AreOnce xs → ((a : ℕ) → has xs a ≡ true → a < n) → length xs ≤ n
too_many xs n once below = length-le_from_distinct_below xs n (once_is_distinct xs once) (λ q h. below q (flipped xs q h))
  where
    flipped : (xs : List ℕ) (q : ℕ) → list_any (λ x. q == x) xs ≡ true → has xs q ≡ true
    flipped [] q h = h
    flipped (x ∷ xs) q h =
        elim (or_cases (q == x) (list_any (λ x. q == x) xs) h) [
          | inl e ↦ ap (λ y. has (x ∷ xs) y) (eqb-true q x e) ∙ has_first xs x
          | inr later ↦ has_after xs x q (flipped xs q later)
        ]

-- when no round ranks a rule more, each rule without a rank heads another one
pub record AreSettled (g : Grammar) (ranks : List (Option ℕ)) (lists : List (List ℕ)) : Type 0 where
  pub heads : AreHeads g lists
  pub sofar : AreSoFar g ranks
  pub long : length ranks ≡ length g.rules
  pub settled : (a : ℕ) → a < length g.rules → rank_at ranks a ≡ None → rank_above ranks 0 (numbers_at lists a) ≡ None

by_cases : {R : Type 0} (b : Bool) → (b ≡ true → R) → (b ≡ false → R) → R
by_cases b at_true at_false = elim (cases_Bool b) [ inl e ↦ at_true e | inr e ↦ at_false e ]

more_below : (seen : List ℕ) (a n : ℕ) → ((b : ℕ) → has seen b ≡ true → b < n) → a < n → (b : ℕ) → has (a ∷ seen) b ≡ true → b < n
more_below seen a n below inside b h = elim (has_cases seen a b h) [ inl e ↦ subst (λ c. c < n) e inside | inr before ↦ below b before ]

-- a chain of such heads is longer than there are rules, so it comes back
cycle_ahead : (g : Grammar) (ranks : List (Option ℕ)) (lists : List (List ℕ)) → AreSettled g ranks lists → (left : ℕ) (seen : List ℕ) (a : ℕ)
    → length seen + left ≡ length g.rules → AreOnce seen → ((b : ℕ) → has seen b ≡ true → b < length g.rules) → ((b : ℕ) → has seen b ≡ true → Chain g b a)
    → a < length g.rules → rank_at ranks a ≡ None → ReachesCycle g a
cycle_ahead g ranks lists are zero seen a count once below chains inside none =
    by_cases (has seen a) (λ is. on_cycle (chains a is))
    (λ is. let few = too_many (a ∷ seen) (length g.rules) (is, once) (more_below seen a (length g.rules) below inside) in absurd (omega arith))
cycle_ahead g ranks lists are (suc left) seen a count once below chains inside none =
    by_cases (has seen a) (λ is. on_cycle (chains a is))
    (λ is.
    let found = none_above ranks 0 (numbers_at lists a) (are.settled a inside none) in
    let link = (are.heads.members a found.rule).0 found.among in
    leads_to link
    (cycle_ahead g ranks lists are left (a ∷ seen) found.rule (omega arith) (is, once) (more_below seen a (length g.rules) below inside)
    (λ b h. elim (has_cases seen a b h) [ inl e ↦ subst (λ c. Chain g c found.rule) e (head link) | inr before ↦ chain_on (chains b before) link ])
    (are.heads.rules a found.rule found.among) found.none))

pub settled_ranks : (g : Grammar) (ranks : List (Option ℕ)) (lists : List (List ℕ)) → AreSettled g ranks lists → AreRanks g ranks
settled_ranks g ranks lists are = record {
  long = are.long;
  ranked = λ a r inside. (λ h. are.sofar.right a r h, λ rank. known a r inside rank (rank_at ranks a) refl);
  cyclic = λ a inside. (λ none. cycle a inside none, λ cycle. lost a cycle (rank_at ranks a) refl);
}
  where
    cycle : (a : ℕ) → a < length g.rules → rank_at ranks a ≡ None → ReachesCycle g a
    cycle a inside none =
        cycle_ahead g ranks lists are (length g.rules) [] a (omega arith) tt (λ b h. absurd (true≢false (sym h))) (λ b h. absurd (true≢false (sym h))) inside none

    known : (a r : ℕ) → a < length g.rules → IsRank g a r → (found : Option ℕ) → rank_at ranks a ≡ found → rank_at ranks a ≡ Some r
    known a r inside rank None at = absurd (ranked_no_cycle rank (cycle a inside at))
    known a r inside rank (Some s) at = at ∙ ap Some (one_rank (are.sofar.right a s at) rank)

    lost : (a : ℕ) → ReachesCycle g a → (found : Option ℕ) → rank_at ranks a ≡ found → rank_at ranks a ≡ None
    lost a cycle None at = at
    lost a cycle (Some r) at = absurd (ranked_no_cycle (are.sofar.right a r at) cycle)
