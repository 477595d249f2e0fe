-- A grammar's own claims say all that is so: each start that begins or follows a node does so by them.
use Rattle.std.proofs.Common.{◌≡◌, ℕ, Bool, true, List, [], ◌∷◌, Some, slice_get, sym, ap, ◌∙◌, subst}
use Rattle.std.specs.List.{AllByRecursion}
use Rattle.std.specs.Option.{option_map_or}
use Rattle.std.proofs.lemmas.Option.{same_Some}
use Rattle.pg_certificate.specs.Fitting.{FitsClaim}
use Rattle.pg_certificate.specs.declared.certificate.RuleClaim.{RuleClaim}
use Rattle.pg_grammar_form.proofs.Each.{all-get}
use Rattle.pg_grammar_form.specs.Forms.{Node}
use Rattle.pg_grammar_form.specs.declared.form.Form.TheVariants as form
use Rattle.pg_graph.proofs.Lists.{has_at}
use Rattle.pg_graph.specs.Graphs.{has}
use Rattle.pg_graph.specs.Marks.{is_marked}
use Rattle.pg_sets_nullable.proofs.Heading.{part_noted}
use Rattle.pg_sets_nullable.specs.Nullable.{Nullable, AllNullable}
use Rattle.pg_sets_nullable.specs.Nullable as null
use Rattle.pg_sets_nullable.specs.Parts.{up_to_unmarked}
use Rattle.pg_sets_nullable.specs.Reached as way
use Rattle.pg_certificate_own.specs.Claimed.{ClaimsTheSets}
use Rattle.pg_sets_own.specs.Listed.{IsListed}
use Rattle.pg_sets_own.specs.OwnStarts.{IsOperatorStart}
use Rattle.pg_sets_own.specs.declared.listed.ListedStart.{ListedStart}
use Rattle.pg_sets.proofs.Placing.{stands_next}
use Rattle.pg_sets.specs.First.{IsFirst, IsFirstOf}
use Rattle.pg_sets.specs.First as first_by
use Rattle.pg_sets.specs.Follow.{IsFollow, IsChain, StandsBefore}
use Rattle.pg_sets.specs.Follow as follow_by
use Rattle.pg_start.specs.declared.kind.StartKind.{StartKind}
use Rattle.pg_grammar_value.specs.Grammar.{Grammar, IsGrammar}
use Rattle.pg_grammar_value.specs.declared.grammar.Rule.{Rule}
use Rattle.pg_certificate_verify.specs.Claimed.{claimed_first, claimed_follow}
use Rattle.pg_certificate_verify.specs.First.{IsFirstBy}
use Rattle.pg_certificate_verify.specs.First as by_first
use Rattle.pg_certificate_verify.specs.Follow.{IsFollowBy}
use Rattle.pg_certificate_verify.specs.Follow as by_follow
use Rattle.pg_certificate_verify.specs.Nullable.{AreNullableBy}
use Rattle.pg_certificate_verify.specs.Standing.{IsClaimedAs}
use Rattle.pg_certificate_laws.proofs.OwnClaims.{AreExact, nullable_so, marked}
use Rattle.pg_certificate_laws.proofs.OwnClosed.{as_claimed}

module _ (g : Grammar) (grammar : IsGrammar g) (claims : List RuleClaim) (all : AreExact g claims) (fits : AllByRecursion (FitsClaim g) claims) (marks : List Bool)
    (are : AreNullableBy g claims marks) where
  claim_of : (r : ℕ) (rule : Rule) → slice_get g.rules r ≡ Some rule → (claim : RuleClaim) × (slice_get claims r ≡ Some claim) × ClaimsTheSets g r rule claim
  claim_of r rule at =
      let claim = all.claimed r rule at in
      let is = all.rules r claim.0 claim.1 in
      (claim.0, claim.1, subst (λ (named : Rule). ClaimsTheSets g r named claim.0) (same_Some is.rule rule (sym is.there ∙ at)) is.so)

  -- ---- rules

  -- what begins a rule's body is claimed of it
  pub first_of_rule : (r : ℕ) (rule : Rule) → slice_get g.rules r ≡ Some rule → (listed : ListedStart) → IsListed g listed → IsFirst g listed.start rule.body
      → IsClaimedAs g (claimed_first claims r) listed
  first_of_rule r rule at listed named is =
      let claim = claim_of r rule at in
      let fit : FitsClaim g claim.0 = all-get (FitsClaim g) claims r claim.0 fits claim.1 in
      let same : claimed_first claims r ≡ claim.0.first = ap (λ found. option_map_or (λ (one : RuleClaim). one.first) found []) claim.1 in
      subst (λ starts. IsClaimedAs g starts listed) (sym same) (as_claimed g claim.0.first listed fit.0 ((claim.2.first listed.start).1 is) named)

  -- and so is what follows it
  pub follow_of_rule : (r : ℕ) (rule : Rule) → slice_get g.rules r ≡ Some rule → (listed : ListedStart) → IsListed g listed → IsFollow g listed.start rule.body
      → IsClaimedAs g (claimed_follow claims r) listed
  follow_of_rule r rule at listed named is =
      let claim = claim_of r rule at in
      let fit : FitsClaim g claim.0 = all-get (FitsClaim g) claims r claim.0 fits claim.1 in
      let same : claimed_follow claims r ≡ claim.0.follow = ap (λ found. option_map_or (λ (one : RuleClaim). one.follow) found []) claim.1 in
      subst (λ starts. IsClaimedAs g starts listed) (sym same) (as_claimed g claim.0.follow listed fit.1 ((claim.2.follow listed.start).1 is) named)

  -- ---- nodes

  on : (p : ℕ) → Nullable g p → is_marked marks p ≡ true
  on = marked g grammar claims all marks are

  module _ (listed : ListedStart) (named : IsListed g listed) where
    pub first_back : {p : ℕ} → IsFirst g listed.start p → IsFirstBy g claims marks listed p
    first_back (first_by.own at owns) = by_first.own at (record { own = owns; named = named })
    first_back (first_by.part at plain reached is) =
        by_first.part at plain (part_noted marks (λ k. (nullable_so g grammar claims all marks are k, on k)) reached) (first_back is)
    first_back (first_by.rule {r = r} {named = rule} at there is) = by_first.used at (first_of_rule r rule there listed named is)

    next_back : (p : ℕ) {q : ℕ} {parts rest : List ℕ} → slice_get g.nodes p ≡ Some (form.Seq parts) → StandsBefore q rest parts → IsFirstOf g listed.start rest
        → IsFollowBy g claims marks listed q
    next_back p at before (first_by.here is) = by_follow.next p at before (first_back is)
    next_back p at before (first_by.after {part} empty is) = by_follow.over p at before (on part empty) (next_back p at (stands_next before) is)

    last_back : (p : ℕ) {q : ℕ} {parts rest : List ℕ} → slice_get g.nodes p ≡ Some (form.Seq parts) → StandsBefore q rest parts → AllNullable g rest
        → IsFollowBy g claims marks listed p → IsFollowBy g claims marks listed q
    last_back p at before null.none is = by_follow.last at before is
    last_back p at before (null.first {part} empty others) is = by_follow.over p at before (on part empty) (last_back p at (stands_next before) others is)

    -- separator and operand, as parts of a sequence
    reached_two : (s o : ℕ) (q : ℕ) → way.ReachedIn g (s ∷ o ∷ []) q → has (up_to_unmarked marks (s ∷ o ∷ [])) q ≡ true
    reached_two s o q reached = part_noted marks (λ k. (nullable_so g grammar claims all marks are k, on k)) (way.seq reached)

    link_back : (p : ℕ) {o s : ℕ} {n : Node} → slice_get g.nodes p ≡ Some n → IsChain o s n → IsFirstOf g listed.start (s ∷ o ∷ []) → IsFollowBy g claims marks listed o
    link_back p {o} {s} at joins (first_by.here is) = by_follow.next_link p at joins (reached_two s o s way.first) (first_back is)
    link_back p {o} {s} at joins (first_by.after empty (first_by.here is)) = by_follow.next_link p at joins (reached_two s o o (way.later empty way.first)) (first_back is)
    link_back p at joins (first_by.after empty (first_by.after other none)) = elim none [ ]

    over_back : (p : ℕ) {o s : ℕ} {n : Node} → slice_get g.nodes p ≡ Some n → IsChain o s n → Nullable g o → IsFirstOf g listed.start (s ∷ o ∷ []) → IsFollowBy g claims marks listed s
    over_back p {o} at joins empty (first_by.here is) = by_follow.over_operand p at joins (on o empty) (first_back is)
    over_back p at joins empty (first_by.after other (first_by.here is)) = by_follow.operand p at joins (first_back is)
    over_back p at joins empty (first_by.after other (first_by.after more none)) = elim none [ ]

    body_back : {start : StartKind} (r : ℕ) (rule : Rule) → slice_get g.rules r ≡ Some rule → IsFollow g start rule.body → listed.start ≡ start
        → IsFollowBy g claims marks listed rule.body
    body_back r rule at is same =
        by_follow.claimed r at (follow_of_rule r rule at listed named (subst (λ one. IsFollow g one rule.body) (sym same) is))

    pub follow_back : {start : StartKind} {p : ℕ} → IsFollow g start p → listed.start ≡ start → IsFollowBy g claims marks listed p
    follow_back (follow_by.at_end {named = rule} at) same = body_back g.start rule at (follow_by.at_end at) same
    follow_back (follow_by.used {r = r} {named = rule} at there is) same = body_back r rule there (follow_by.used at there is) same
    follow_back (follow_by.next p {rest = rest} at before is) same = next_back p at before (subst (λ one. IsFirstOf g one rest) (sym same) is)
    follow_back (follow_by.last {p = p} at before empty is) same = last_back p at before empty (follow_back is same)
    follow_back (follow_by.alternative {q = q} {parts} k at part is) same = by_follow.alternative at (has_at parts k q part) (follow_back is same)
    follow_back (follow_by.next_round p {q} at is) same = by_follow.next_round p at (first_back (subst (λ one. IsFirst g one q) (sym same) is))
    follow_back (follow_by.last_round at is) same = by_follow.last_round at (follow_back is same)
    follow_back (follow_by.next_link p {o} {s} at joins is) same = link_back p at joins (subst (λ one. IsFirstOf g one (s ∷ o ∷ [])) (sym same) is)
    follow_back (follow_by.last_link at joins is) same = by_follow.last_link at joins (follow_back is same)
    follow_back (follow_by.operand p {o} at joins is) same = by_follow.operand p at joins (first_back (subst (λ one. IsFirst g one o) (sym same) is))
    follow_back (follow_by.over_operand p {o} {s} at joins empty is) same = over_back p at joins empty (subst (λ one. IsFirstOf g one (s ∷ o ∷ [])) (sym same) is)
    follow_back (follow_by.last_operand {o = o} at joins empty is) same = by_follow.last_operand at joins (on o empty) (follow_back is same)
    follow_back (follow_by.operator p at is) same = by_follow.operator p at (subst (IsOperatorStart g) (sym same) is) named
    follow_back (follow_by.last_term at is) same = by_follow.last_term at (follow_back is same)
    follow_back (follow_by.only at only is) same = by_follow.only at only (follow_back is same)
