-- The ranks of a grammar's own claims fall along heads: no body asks for a higher rank than is claimed of its rule.
use Rattle.std.proofs.Common.{◌≡◌, ◌<◌, ◌≤◌, ◌+◌, inl, inr, ℕ, zero, suc, max, Bool, true, false, if◌then◌else◌, List, [], ◌∷◌, Option, Some, None, slice_get, length, refl, sym, ap, ◌∙◌, arith}
use Rattle.std.specs.List.{AllByRecursion}
use Rattle.std.specs.Option.{option_map_or}
use Rattle.std.proofs.lemmas.List.{get_or_past}
use Rattle.std.proofs.lemmas.Option.{none-some, slice_get_cases}
use Rattle.pg_certificate.specs.declared.certificate.RuleClaim.{RuleClaim}
use Rattle.pg_predict_costs.specs.Steps.{number_at}
use Rattle.pg_predict_costs.proofs.Existing.{reached_is}
use Rattle.pg_derive.proofs.PartsFit.{IsPart, are_parts}
use Rattle.pg_grammar_form.proofs.Each.{all-get}
use Rattle.pg_grammar_form.specs.Forms.{Node, parts_of}
use Rattle.pg_grammar_form.specs.declared.form.Form.TheVariants as form
use Rattle.pg_graph.specs.Marks.{is_marked}
use Rattle.pg_sets_nullable.proofs.RankLaws.{one_rank}
use Rattle.pg_sets_nullable.specs.Nullable.{Nullable}
use Rattle.pg_sets_nullable.specs.Parts.{up_to_unmarked}
use Rattle.pg_sets_nullable.specs.Ranks.{IsRank, RankUpTo}
use Rattle.pg_sets_nullable.specs.Ranks as ranks
use Rattle.pg_sets_nullable.specs.Reached.{ReachedIn, ReachedPart, ReachesUse, Heads}
use Rattle.pg_sets_nullable.specs.Reached as way
use Rattle.pg_sets_nullable.proofs.Heading.{again_shown}
use Rattle.pg_grammar_value.specs.Grammar.{Grammar, IsGrammar}
use Rattle.pg_certificate_verify.specs.Claimed.{claimed_rank}
use Rattle.pg_certificate_verify.specs.Holding.{RankHolds}
use Rattle.pg_certificate_verify.specs.Nullable.{AreNullableBy}
use Rattle.pg_certificate_verify.specs.Rank.{greatest_of, rank_by, AreRanksBy}
use Rattle.pg_certificate_laws.proofs.OwnClaims.{AreExact, nullable_so}

-- ---- the greatest of numbers

-- what is reached in these nodes has numbers up to this, and so has the greatest
reached_up_to : {g : Grammar} (marks : List Bool) (f : ℕ → ℕ) (most : ℕ) → ((p : ℕ) → is_marked marks p ≡ true → Nullable g p) → (ps : List ℕ)
    → ((q : ℕ) → ReachedIn g ps q → f q ≤ most) → greatest_of f (up_to_unmarked marks ps) ≤ most
reached_up_to marks f most so [] each = omega arith
reached_up_to marks f most so (p ∷ ps) each =
    go (is_marked marks p) refl (each p way.first) (λ is. reached_up_to marks f most so ps (λ q reached. each q (way.later (so p is) reached)))
  where
    go : (b : Bool) → is_marked marks p ≡ b → f p ≤ most → (is_marked marks p ≡ true → greatest_of f (up_to_unmarked marks ps) ≤ most)
        → max (f p) (greatest_of f (if b then up_to_unmarked marks ps else [])) ≤ most
    go true is first rest = let more = rest is in omega (arith, more, first)
    go false not first rest = omega (arith, first)

each_up_to : (f : ℕ → ℕ) (most : ℕ) (ps : List ℕ) → ((k q : ℕ) → slice_get ps k ≡ Some q → f q ≤ most) → greatest_of f ps ≤ most
each_up_to f most [] each = omega arith
each_up_to f most (p ∷ ps) each =
    let first = each 0 p refl in
    let rest = each_up_to f most ps (λ k q at. each (suc k) q at) in
    omega (arith, first, rest)

-- a part that is reached stands after its node
reached_part : {g : Grammar} {p q : ℕ} {n : Node} → AllByRecursion (IsPart g p) (parts_of n) → ReachedPart g n q → IsPart g p q
reached_part {g} {p} h (way.seq r) = reached_is (IsPart g p) h r
reached_part {g} {p} h (way.choice {parts = parts} k {part = q} at) = all-get (IsPart g p) parts k q h at
reached_part {g} {p} h (way.chain r) = reached_is (IsPart g p) (h.0, (h.1.0, (h.0, tt))) r
reached_part h way.many = h.0
reached_part h way.expression = h.0
reached_part h way.around = h.0

module _ (g : Grammar) (grammar : IsGrammar g) (claims : List RuleClaim) (all : AreExact g claims) (marks : List Bool) (are : AreNullableBy g claims marks) where
  -- no node asks for more than what is reached in it does
  asks_up_to : (f : ℕ → ℕ) (most : ℕ) (n : Node) → ((q : ℕ) → ReachedPart g n q → f q ≤ most) → ((r : ℕ) → n ≡ form.Rule r → claimed_rank claims r < most)
      → rank_by claims marks f n ≤ most
  asks_up_to f most (form.Leaf leaf) parts used = omega arith
  asks_up_to f most (form.Seq qs) parts used = reached_up_to marks f most (nullable_so g grammar claims all marks are) qs (λ q reached. parts q (way.seq reached))
  asks_up_to f most (form.Choice qs) parts used = each_up_to f most qs (λ k q at. parts q (way.choice k at))
  asks_up_to f most (form.Many q) parts used = parts q way.many
  asks_up_to f most (form.Chain side builder o s) parts used =
      reached_up_to marks f most (nullable_so g grammar claims all marks are) (o ∷ s ∷ []) (λ q reached. parts q (way.chain (again_shown reached)))
  asks_up_to f most (form.Rule r) parts used = let less = used r refl in omega (arith, less)
  asks_up_to f most (form.Expression builders q) parts used = parts q way.expression
  asks_up_to f most (form.Around around q) parts used = parts q way.around

  -- the ranks that are claimed of the rules whose uses are reached are below the number
  abbrev AreBelow : ℕ → ℕ → Type 0
  AreBelow p most = (r : ℕ) → ReachesUse g p r → claimed_rank claims r < most

  module _ (numbers : List ℕ) (by : AreRanksBy g claims marks numbers) where
    -- this holds for the nodes after this one
    abbrev AskedBehind : ℕ → Type 0
    AskedBehind p = (q most : ℕ) → p < q → AreBelow q most → number_at numbers q ≤ most

    node_asks : (p most : ℕ) → AskedBehind p → AreBelow p most → (found : Option Node) → slice_get g.nodes p ≡ found → number_at numbers p ≤ most
    node_asks p most behind below None at =
        elim ((slice_get_cases g.nodes p).1) [
          | inl found ↦ absurd (none-some found.0 (sym at ∙ found.2))
          | inr past ↦ let outside = past.0 in let long = by.long in let nothing = get_or_past numbers p 0 (omega arith) in omega arith
        ]
    node_asks p most behind below (Some n) at =
        let is = by.each p n at in
        let up =
        asks_up_to (number_at numbers) most n
        (λ q reached. behind q most (reached_part (are_parts g grammar p n at) reached).after (λ r reaches. below r (way.through at reached reaches)))
        (λ r same. below r (way.here (at ∙ ap Some same))) in
        omega (arith, is, up)

    asked_from : (room p most : ℕ) → length g.nodes ≤ p + room → AreBelow p most → number_at numbers p ≤ most
    asked_from zero p most small below =
        let long = by.long in let nothing = get_or_past numbers p 0 (omega (arith, long, small)) in omega (arith, nothing)
    asked_from (suc room) p most small below =
        node_asks p most (λ q high after under. asked_from room q high (omega (arith, after, small)) under) below (slice_get g.nodes p) refl

    -- ---- heads

    -- a claimed rank is that of the rule, or 0 without a claim
    claimed_up_to : (b s : ℕ) → IsRank g b s → (found : Option RuleClaim) → slice_get claims b ≡ found → option_map_or (λ (claim : RuleClaim). claim.rank) found 0 ≤ s
    claimed_up_to b s is None at = omega arith
    claimed_up_to b s is (Some claim) at = let same = one_rank (all.rules b claim at).so.rank is in omega (arith, same)

    up_to_below : (b r : ℕ) → RankUpTo g b r → claimed_rank claims b < suc r
    up_to_below b r (ranks.up_to {s = s} is below) = let low = claimed_up_to b s is (slice_get claims b) refl in omega (arith, low, below)

    head_below : (a b rank : ℕ) → IsRank g a rank → Heads g a b → claimed_rank claims b < rank
    head_below a b rank (ranks.no_heads none) h = absurd (none b h)
    head_below a b rank (ranks.above {r = r} k is each) h = up_to_below b r (each b h)

    pub ranks_hold : RankHolds g claims numbers
    ranks_hold r rule at =
        let claim = all.claimed r rule at in
        let so = all.rules r claim.0 claim.1 in
        let high = asked_from (length g.nodes) rule.body claim.0.rank (omega arith)
        (λ b reaches. head_below r b claim.0.rank so.so.rank (record { rule = rule; is_rule = at; reached = reaches })) in
        let claimed : claimed_rank claims r ≡ claim.0.rank = ap (λ found. option_map_or (λ (one : RuleClaim). one.rank) found 0) claim.1 in
        omega (arith, high, claimed)
