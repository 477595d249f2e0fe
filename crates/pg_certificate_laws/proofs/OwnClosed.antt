-- What a grammar's own claims say of first and follow sets is closed.
use Rattle.std.proofs.Common.{◌≡◌, inl, inr, ℕ, Bool, List, [], ◌∷◌, Some, slice_get, refl, sym, ap, ◌∙◌, subst}
use Rattle.std.specs.List.{AllByRecursion}
use Rattle.std.specs.Option.{option_map_or}
use Rattle.std.proofs.lemmas.Option.{same_Some}
use Rattle.pg_certificate.specs.Fitting.{FitsStart, FitsClaim}
use Rattle.pg_certificate.specs.declared.certificate.ClaimedStart.{ClaimedStart}
use Rattle.pg_certificate.specs.declared.certificate.RuleClaim.{RuleClaim}
use Rattle.pg_grammar_form.proofs.Each.{all-get}
use Rattle.pg_certificate_own.proofs.Origin.{least_fits}
use Rattle.pg_certificate_own.specs.Claimed.{IsClaimedIn, ClaimsTheSets}
use Rattle.pg_sets_own.specs.Listed.{IsListed}
use Rattle.pg_sets_own.specs.declared.listed.ListedStart.{ListedStart}
use Rattle.pg_sets.specs.Follow.{IsFollow}
use Rattle.pg_sets.specs.Follow as follow_by
use Rattle.pg_start.specs.declared.kind.StartKind.TheVariants.{End}
use Rattle.pg_grammar_value.specs.Grammar.{Grammar, IsGrammar}
use Rattle.pg_grammar_value.specs.declared.grammar.Rule.{Rule}
use Rattle.pg_certificate_verify.proofs.Coming.{claimed_named}
use Rattle.pg_certificate_verify.specs.Claimed.{claimed_first, claimed_follow}
use Rattle.pg_certificate_verify.specs.Closed.{IsCoveredBy, IsFirstClosed, IsFollowClosed}
use Rattle.pg_certificate_verify.specs.First.{IsFirstBy}
use Rattle.pg_certificate_verify.specs.First as by_first
use Rattle.pg_certificate_verify.specs.Follow.{IsFollowBy}
use Rattle.pg_certificate_verify.specs.Follow as by_follow
use Rattle.pg_certificate_verify.specs.Nullable.{AreNullableBy}
use Rattle.pg_certificate_verify.specs.Standing.{IsClaimedAs}
use Rattle.pg_certificate_laws.specs.Own.{OwnSetsAreClosed}
use Rattle.pg_certificate_laws.proofs.OwnClaims.{AreExact, are_exact, holds, first_so, follow_so}

-- ---- names

pub first_named : {g : Grammar} {claims : List RuleClaim} {marks : List Bool} {listed : ListedStart} {p : ℕ} → IsFirstBy g claims marks listed p → IsListed g listed
first_named (by_first.own at owns) = owns.named
first_named (by_first.part at plain reached is) = first_named is
first_named {g} {claims} {listed = listed} (by_first.used {r = r} at is) = claimed_named g (claimed_first claims r) listed is

pub follow_named : {g : Grammar} {claims : List RuleClaim} {marks : List Bool} {listed : ListedStart} {p : ℕ} → IsFollowBy g claims marks listed p → IsListed g listed
follow_named {g} {claims} {listed = listed} (by_follow.claimed r there is) = claimed_named g (claimed_follow claims r) listed is
follow_named (by_follow.next p at before is) = first_named is
follow_named (by_follow.over p at before empty is) = follow_named is
follow_named (by_follow.last at before is) = follow_named is
follow_named (by_follow.alternative at part is) = follow_named is
follow_named (by_follow.next_round p at is) = first_named is
follow_named (by_follow.last_round at is) = follow_named is
follow_named (by_follow.next_link p at joins reached is) = first_named is
follow_named (by_follow.last_link at joins is) = follow_named is
follow_named (by_follow.operand p at joins is) = first_named is
follow_named (by_follow.over_operand p at joins empty is) = first_named is
follow_named (by_follow.last_operand at joins empty is) = follow_named is
follow_named (by_follow.operator p at is named) = named
follow_named (by_follow.last_term at is) = follow_named is
follow_named (by_follow.only at only is) = follow_named is

-- a start for which a claim stands that the grammar can have
pub as_claimed : (g : Grammar) (claimed : List ClaimedStart) (listed : ListedStart) → AllByRecursion (FitsStart g) claimed → IsClaimedIn g claimed listed.start → IsListed g listed
    → IsClaimedAs g claimed listed
as_claimed g [] listed fits is named = absurd is
as_claimed g (one ∷ others) listed fits (inl stands) named = inl (record { fits = fits.0; stands = stands; named = named })
as_claimed g (one ∷ others) listed fits (inr later) named = inr (as_claimed g others listed fits.1 later named)

module _ (g : Grammar) (grammar : IsGrammar g) (claims : List RuleClaim) (all : AreExact g claims) (fits : AllByRecursion (FitsClaim g) claims) (marks : List Bool)
    (are : AreNullableBy g claims marks) (r : ℕ) (rule : Rule) (at : slice_get g.rules r ≡ Some rule) where
  claim : (claim : RuleClaim) × (slice_get claims r ≡ Some claim)
  claim = all.claimed r rule at

  so : ClaimsTheSets g r rule claim.0
  so =
      let is = all.rules r claim.0 claim.1 in
      subst (λ (named : Rule). ClaimsTheSets g r named claim.0) (same_Some is.rule rule (sym is.there ∙ at)) is.so

  fit : FitsClaim g claim.0
  fit = all-get (FitsClaim g) claims r claim.0 fits claim.1

  pub first_closed : IsFirstClosed g claims marks r rule
  first_closed listed is =
      let there = as_claimed g claim.0.first listed fit.0 ((so.first listed.start).1 (first_so g grammar claims all marks are is)) (first_named is) in
      let same : claimed_first claims r ≡ claim.0.first = ap (λ found. option_map_or (λ (one : RuleClaim). one.first) found []) claim.1 in
      (listed, subst (λ starts. IsClaimedAs g starts listed) (sym same) there, inr refl)

  covered : (listed : ListedStart) → IsFollow g listed.start rule.body → IsListed g listed → IsCoveredBy g (claimed_follow claims r) listed
  covered listed is named =
      let there = as_claimed g claim.0.follow listed fit.1 ((so.follow listed.start).1 is) named in
      let same : claimed_follow claims r ≡ claim.0.follow = ap (λ found. option_map_or (λ (one : RuleClaim). one.follow) found []) claim.1 in
      (listed, subst (λ starts. IsClaimedAs g starts listed) (sym same) there, inr refl)

  pub follow_closed : IsFollowClosed g claims marks r
  follow_closed listed (by_follow.at_use place is) = covered listed (follow_by.used place at (follow_so g grammar claims all marks are is)) (follow_named is)
  follow_closed listed (by_follow.at_end start same) =
      let there = subst (λ k. slice_get g.rules k ≡ Some rule) (sym start) at in
      subst (λ one. IsCoveredBy g (claimed_follow claims r) one) same (covered (record { start = End; word = 0 }) (follow_by.at_end there) refl)

pub own_sets_closed : OwnSetsAreClosed
own_sets_closed g sets costs claims grammar bodies sets_are least marks are r rule at =
    let all = are_exact g sets costs claims bodies sets_are least in
    let fits = least_fits g sets costs claims grammar bodies sets_are least in
    record {
      nullable = holds g grammar claims all marks are r rule at;
      first = first_closed g grammar claims all fits.each marks are r rule at;
      follow = follow_closed g grammar claims all fits.each marks are r rule at;
    }
