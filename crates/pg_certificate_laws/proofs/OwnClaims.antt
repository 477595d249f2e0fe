-- What a grammar's own claims say of nodes is no more than what is so.
use Rattle.std.proofs.Common.{◌≡◌, ◌||◌, ◌<◌, ◌≤◌, ◌+◌, inl, inr, ℕ, zero, suc, Bool, true, false, List, [], ◌∷◌, Option, Some, None, slice_get, length, refl, sym, ap, ◌∙◌, subst, arith}
use Rattle.std.specs.List.{AllByRecursion, list_all, list_any}
use Rattle.std.specs.Option.{option_map_or}
use Rattle.std.proofs.lemmas.Bool.{and_parts, true≢false}
use Rattle.std.proofs.lemmas.Option.{same_Some}
use Rattle.pg_certificate.specs.declared.certificate.ClaimedStart.{ClaimedStart}
use Rattle.pg_certificate.specs.declared.certificate.RuleClaim.{RuleClaim}
use Rattle.pg_grammar_form.specs.Forms.{Node, parts_of}
use Rattle.pg_grammar_form.specs.declared.form.Form.TheVariants as form
use Rattle.pg_grammar_form.specs.declared.form.Leaf.TheVariants as leaf
use Rattle.pg_graph.proofs.Lists.{stands}
use Rattle.pg_graph.specs.Marks.{is_marked}
use Rattle.pg_sets_nullable.proofs.Heading.{part_shown}
use Rattle.pg_sets_nullable.specs.Nullable.{Nullable, NullableForm, AllNullable}
use Rattle.pg_sets_nullable.specs.Nullable as null
use Rattle.pg_sets_nullable.specs.Reached.{ReachedIn, ReachedPart}
use Rattle.pg_sets_nullable.specs.Reached as reached_by
use Rattle.pg_certificate_own.specs.Claimed.{IsClaimedIn, ClaimsTheSets}
use Rattle.pg_sets_own.specs.declared.listed.ListedStart.{ListedStart}
use Rattle.pg_sets.proofs.Placing.{stands_next, follow_comes}
use Rattle.pg_sets.specs.First.{IsFirst, IsFirstOf}
use Rattle.pg_sets.specs.First as first_by
use Rattle.pg_sets.specs.Follow.{IsFollow, StandsBefore}
use Rattle.pg_sets.specs.Follow as follow_by
use Rattle.pg_start.specs.declared.kind.StartKind.{StartKind}
use Rattle.pg_grammar_value.specs.Grammar.{Grammar, IsGrammar}
use Rattle.pg_grammar_value.specs.declared.grammar.Rule.{Rule}
use Rattle.pg_sets.specs.Sets.{Sets, AreSets}
use Rattle.pg_certificate_own.specs.Least.{AreLeast}
use Rattle.pg_certificate_own.proofs.Standing.{claims_are_so}
use Rattle.pg_grammar_value.specs.Follows.{BodiesAreNodes}
use Rattle.pg_certificate_verify.proofs.Enough.{nullable_enough}
use Rattle.pg_certificate_verify.specs.Holding.{NullableHolds}
use Rattle.pg_certificate_verify.specs.First.{IsFirstBy}
use Rattle.pg_certificate_verify.specs.First as by_first
use Rattle.pg_certificate_verify.specs.Follow.{IsFollowBy}
use Rattle.pg_certificate_verify.specs.Follow as by_follow
use Rattle.pg_certificate_verify.specs.Nullable.{nullable_by, AreNullableBy}
use Rattle.pg_certificate_verify.specs.Standing.{IsClaimedAs}
use Rattle.pg_derive.proofs.PartsFit.{IsPart, are_parts}
use Rattle.pg_derive.proofs.Quiet.{found}
use Rattle.pg_certificate_laws.specs.Own.{OwnClaimsSayNoMore}

-- the claim belongs to a rule, and is exact
pub record IsExact (g : Grammar) (r : ℕ) (claim : RuleClaim) : Type 0 where
  pub rule : Rule
  pub there : slice_get g.rules r ≡ Some rule
  pub so : ClaimsTheSets g r rule claim

-- each claim is, and each rule has one
pub record AreExact (g : Grammar) (claims : List RuleClaim) : Type 0 where
  pub rules : (r : ℕ) (claim : RuleClaim) → slice_get claims r ≡ Some claim → IsExact g r claim
  pub claimed : (r : ℕ) (rule : Rule) → slice_get g.rules r ≡ Some rule → (claim : RuleClaim) × (slice_get claims r ≡ Some claim)

-- they are where the claims are those of the grammar's sets
claim_of : (g : Grammar) (sets : Sets) (costs : List ℕ) (k : ℕ) (rules : List Rule) (claims : List RuleClaim) → AreLeast g sets costs k rules claims
    → (r : ℕ) (rule : Rule) → slice_get rules r ≡ Some rule → (claim : RuleClaim) × (slice_get claims r ≡ Some claim)
claim_of g sets costs k [] claims least r rule at = absurd cc
claim_of g sets costs k (x ∷ xs) [] least r rule at = absurd least
claim_of g sets costs k (x ∷ xs) (c ∷ cs) least zero rule at = (c, refl)
claim_of g sets costs k (x ∷ xs) (c ∷ cs) least (suc r) rule at = claim_of g sets costs (suc k) xs cs least.1 r rule at

rule_of : (g : Grammar) (sets : Sets) (costs : List ℕ) (k : ℕ) (rules : List Rule) (claims : List RuleClaim) → AreLeast g sets costs k rules claims
    → (r : ℕ) (claim : RuleClaim) → slice_get claims r ≡ Some claim → (rule : Rule) × (slice_get rules r ≡ Some rule)
rule_of g sets costs k rules [] least r claim at = absurd cc
rule_of g sets costs k [] (c ∷ cs) least r claim at = absurd least
rule_of g sets costs k (x ∷ xs) (c ∷ cs) least zero claim at = (x, refl)
rule_of g sets costs k (x ∷ xs) (c ∷ cs) least (suc r) claim at = rule_of g sets costs (suc k) xs cs least.1 r claim at

pub are_exact : (g : Grammar) (sets : Sets) (costs : List ℕ) (claims : List RuleClaim) → BodiesAreNodes (length g.nodes) g.rules → AreSets g sets
    → AreLeast g sets costs 0 g.rules claims → AreExact g claims
are_exact g sets costs claims bodies sets_are least = record {
  rules = λ r claim at.
      let named = rule_of g sets costs 0 g.rules claims least r claim at in
      record { rule = named.0; there = named.1; so = claims_are_so g sets costs claims bodies sets_are least r named.0 claim named.1 at };
  claimed = λ r rule at. claim_of g sets costs 0 g.rules claims least r rule at;
}

marked_inside : (marks : List Bool) (p : ℕ) → is_marked marks p ≡ true → p < length marks
marked_inside [] p marked = cc
marked_inside (m ∷ ms) zero marked = omega arith
marked_inside (m ∷ ms) (suc p) marked = let rest = marked_inside ms p marked in omega (arith, rest)

claimed_in : (g : Grammar) (claimed : List ClaimedStart) (listed : ListedStart) → IsClaimedAs g claimed listed → IsClaimedIn g claimed listed.start
claimed_in g [] listed is = absurd is
claimed_in g (one ∷ others) listed (inl here) = inl here.stands
claimed_in g (one ∷ others) listed (inr later) = inr (claimed_in g others listed later)

module _ (g : Grammar) (grammar : IsGrammar g) (claims : List RuleClaim) (all : AreExact g claims) (marks : List Bool) (are : AreNullableBy g claims marks) where
  -- ---- nullable nodes

  -- whatever is marked behind the node is nullable
  abbrev SoBehind : ℕ → Type 0
  SoBehind p = (q : ℕ) → p < q → is_marked marks q ≡ true → Nullable g q

  all_so : (p : ℕ) → SoBehind p → (parts : List ℕ) → AllByRecursion (IsPart g p) parts → list_all (is_marked marks) parts ≡ true → AllNullable g parts
  all_so p behind [] after e = null.none
  all_so p behind (q ∷ qs) after e =
      let both = and_parts (is_marked marks q) (list_all (is_marked marks) qs) e in
      null.first (behind q after.0.after both.0) (all_so p behind qs after.1 both.1)

  some_so : (p : ℕ) → SoBehind p → (parts : List ℕ) → AllByRecursion (IsPart g p) parts → list_any (is_marked marks) parts ≡ true
      → (k : ℕ) × (q : ℕ) × (slice_get parts k ≡ Some q) × Nullable g q
  some_so p behind [] after e = absurd (true≢false (sym e))
  some_so p behind (q ∷ qs) after e = go (is_marked marks q) refl (some_so p behind qs after.1)
    where
      go : (b : Bool) → is_marked marks q ≡ b → (list_any (is_marked marks) qs ≡ true → (k : ℕ) × (r : ℕ) × (slice_get qs k ≡ Some r) × Nullable g r)
          → (k : ℕ) × (r : ℕ) × (slice_get (q ∷ qs) k ≡ Some r) × Nullable g r
      go true is rest = (zero, q, refl, behind q after.0.after is)
      go false not rest = let later = rest (sym (ap (λ b. b || list_any (is_marked marks) qs) not) ∙ e) in (suc later.0, later.1, later.2, later.3)

  rule_so : (r : ℕ) (found : Option RuleClaim) → slice_get claims r ≡ found → option_map_or (λ claim. claim.nullable) found false ≡ true → NullableForm g (form.Rule r)
  rule_so r None at e = absurd (true≢false (sym e))
  rule_so r (Some claim) at e = let is = all.rules r claim at in null.rule is.there (is.so.nullable.0 e)

  form_so : (p : ℕ) → SoBehind p → (n : Node) → AllByRecursion (IsPart g p) (parts_of n) → nullable_by claims (is_marked marks) n ≡ true → NullableForm g n
  form_so p behind (form.Leaf (leaf.NotFollowedBy class)) after e = null.not_followed_by
  form_so p behind (form.Leaf leaf.EndOfText) after e = null.end_of_text
  form_so p behind (form.Leaf (leaf.Satisfy class)) after e = absurd (true≢false (sym e))
  form_so p behind (form.Leaf (leaf.String s)) after e = absurd (true≢false (sym e))
  form_so p behind (form.Leaf (leaf.Word word)) after e = absurd (true≢false (sym e))
  form_so p behind (form.Leaf (leaf.Declare class)) after e = absurd (true≢false (sym e))
  form_so p behind (form.Seq parts) after e = null.seq (all_so p behind parts after e)
  form_so p behind (form.Choice parts) after e = let one = some_so p behind parts after e in null.choice one.0 one.2 one.3
  form_so p behind (form.Many part) after e = null.many
  form_so p behind (form.Chain side used operand separator) after e = null.chain (behind operand after.0.after e)
  form_so p behind (form.Rule r) after e = rule_so r (slice_get claims r) refl e
  form_so p behind (form.Expression builders term) after e = null.expression (behind term after.0.after e)
  form_so p behind (form.Around around part) after e = null.around (behind part after.0.after e)

  so_from : (room p : ℕ) → length g.nodes ≤ p + room → is_marked marks p ≡ true → Nullable g p
  so_from zero p small is = let inside = marked_inside marks p is in let long = are.long in absurd (omega (arith, inside, long, small))
  so_from (suc room) p small is =
      let inside : p < length g.nodes = (let below = marked_inside marks p is in let long = are.long in omega (arith, below, long)) in
      let there = found g.nodes p inside in
      null.at_node there.1
      (form_so p (λ q after. so_from room q (omega (arith, after, small))) there.0 (are_parts g grammar p there.0 there.1) (sym (are.each p there.0 there.1) ∙ is))

  pub nullable_so : (p : ℕ) → is_marked marks p ≡ true → Nullable g p
  nullable_so p is = so_from (length g.nodes) p (omega arith) is

  -- so the first condition holds, and each nullable node is marked
  pub holds : NullableHolds g claims marks
  holds r rule at is =
      let claim = all.claimed r rule at in
      let so = all.rules r claim.0 claim.1 in
      let same : so.rule ≡ rule = same_Some so.rule rule (sym so.there ∙ at) in
      let body : Nullable g so.rule.body = subst (λ (named : Rule). Nullable g named.body) (sym same) (nullable_so rule.body is) in
      ap (λ found. option_map_or (λ claim. claim.nullable) found false) claim.1 ∙ so.so.nullable.1 body

  pub marked : (p : ℕ) → Nullable g p → is_marked marks p ≡ true
  marked = nullable_enough g claims marks are holds

  -- ---- first sets

  pub first_claimed : (listed : ListedStart) (r : ℕ) (found : Option RuleClaim) → slice_get claims r ≡ found → IsClaimedAs g (option_map_or (λ claim. claim.first) found []) listed
      → (rule : Rule) × (slice_get g.rules r ≡ Some rule) × IsFirst g listed.start rule.body
  first_claimed listed r None at is = absurd is
  first_claimed listed r (Some claim) at is = let so = all.rules r claim at in (so.rule, so.there, (so.so.first listed.start).0 (claimed_in g claim.first listed is))

  pub first_so : {listed : ListedStart} {p : ℕ} → IsFirstBy g claims marks listed p → IsFirst g listed.start p
  first_so (by_first.own at owns) = first_by.own at owns.own
  first_so (by_first.part {q = q} {n} at plain reached is) = first_by.part at plain (part_shown g marks (λ p. (nullable_so p, marked p)) n q reached) (first_so is)
  first_so {listed} (by_first.used {r = r} at is) = let named = first_claimed listed r (slice_get claims r) refl is in first_by.rule at named.1 named.2

  -- ---- follow sets

  pub follow_claimed : (listed : ListedStart) (r : ℕ) (named : Rule) → slice_get g.rules r ≡ Some named → (found : Option RuleClaim) → slice_get claims r ≡ found
      → IsClaimedAs g (option_map_or (λ claim. claim.follow) found []) listed → IsFollow g listed.start named.body
  follow_claimed listed r named there None at is = absurd is
  follow_claimed listed r named there (Some claim) at is =
      let so = all.rules r claim at in
      let same : so.rule ≡ named = same_Some so.rule named (sym so.there ∙ there) in
      subst (λ (rule : Rule). IsFollow g listed.start rule.body) same ((so.so.follow listed.start).0 (claimed_in g claim.follow listed is))

  first_in : {start : StartKind} {parts : List ℕ} {q : ℕ} → ReachedIn g parts q → IsFirst g start q → IsFirstOf g start parts
  first_in reached_by.first is = first_by.here is
  first_in (reached_by.later null rest) is = first_by.after null (first_in rest is)

  reached_of : {parts : List ℕ} {q : ℕ} → ReachedPart g (form.Seq parts) q → ReachedIn g parts q
  reached_of (reached_by.seq reached) = reached

  over_so : {start : StartKind} {q r : ℕ} {parts rest : List ℕ} (p : ℕ) → slice_get g.nodes p ≡ Some (form.Seq parts) → StandsBefore q (r ∷ rest) parts → Nullable g r
      → IsFollow g start r → IsFollow g start q
  over_so {parts = parts} p at before empty is =
      elim (follow_comes g grammar p parts at (stands_next before) is) [
        | inl begins ↦ follow_by.next p at before (first_by.after empty begins)
        | inr ends ↦ follow_by.last at before (null.first empty ends.0) ends.1
      ]

  pub follow_so : {listed : ListedStart} {p : ℕ} → IsFollowBy g claims marks listed p → IsFollow g listed.start p
  follow_so {listed} (by_follow.claimed r {named} there is) = follow_claimed listed r named there (slice_get claims r) refl is
  follow_so (by_follow.next p at before is) = follow_by.next p at before (first_by.here (first_so is))
  follow_so (by_follow.over p {r = r} at before empty is) = over_so p at before (nullable_so r empty) (follow_so is)
  follow_so (by_follow.last at before is) = follow_by.last at before null.none (follow_so is)
  follow_so (by_follow.alternative {q = q} {parts} at part is) = let place = stands parts q part in follow_by.alternative place.place at place.there (follow_so is)
  follow_so (by_follow.next_round p at is) = follow_by.next_round p at (first_so is)
  follow_so (by_follow.last_round at is) = follow_by.last_round at (follow_so is)
  follow_so (by_follow.next_link p {o} {s} {q} at joins reached is) =
      follow_by.next_link p at joins (first_in (reached_of (part_shown g marks (λ k. (nullable_so k, marked k)) (form.Seq (s ∷ o ∷ [])) q reached)) (first_so is))
  follow_so (by_follow.last_link at joins is) = follow_by.last_link at joins (follow_so is)
  follow_so (by_follow.operand p at joins is) = follow_by.operand p at joins (first_so is)
  follow_so (by_follow.over_operand p {o} at joins empty is) = follow_by.over_operand p at joins (nullable_so o empty) (first_by.here (first_so is))
  follow_so (by_follow.last_operand {o = o} at joins empty is) = follow_by.last_operand at joins (nullable_so o empty) (follow_so is)
  follow_so (by_follow.operator p at is named) = follow_by.operator p at is
  follow_so (by_follow.last_term at is) = follow_by.last_term at (follow_so is)
  follow_so (by_follow.only at only is) = follow_by.only at only (follow_so is)

pub say_no_more : OwnClaimsSayNoMore
say_no_more g sets costs claims grammar bodies sets_are least marks are =
    let all = are_exact g sets costs claims bodies sets_are least in
    record {
      nullable = nullable_so g grammar claims all marks are;
      first = λ p listed is. first_so g grammar claims all marks are is;
      follow = λ p listed is. follow_so g grammar claims all marks are is;
    }
