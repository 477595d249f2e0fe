-- Where the starts of sets by claims come from.
use Rattle.std.proofs.Common.{◌≡◌, ◌⊎◌, inl, inr, ℕ, ◌+◌, ◌<◌, List, [], ◌∷◌, Some, slice_get, length, unwrap_or, is_some, sym, ap, subst, ◌∙◌, arith}
use Rattle.std.specs.Prelude.{◌↔◌}
use Rattle.std.specs.BTreeMap.{get, keys, values}
use Rattle.std.specs.List.Sorted.{IsStrictlySortedBy}
use Rattle.std.proofs.lemmas.Bool.{cases_eq}
use Rattle.std.proofs.lemmas.List.{length-map}
use Rattle.std.proofs.lemmas.Option.{slice_get_within}
use Rattle.pg_certificate.specs.declared.certificate.ClaimedStart.{ClaimedStart}
use Rattle.pg_certificate.specs.declared.certificate.RuleClaim.{RuleClaim}
use Rattle.pg_grammar_form.specs.Forms.{Node}
use Rattle.pg_graph.specs.Graphs.{has, numbers_at}
use Rattle.pg_sets_own.specs.Listed.{IsListed, start_order}
use Rattle.pg_sets_own.specs.Own.{IsAmong}
use Rattle.pg_sets_own.specs.declared.listed.ListedStart.{ListedStart}
use Rattle.pg_sets.specs.Origins.{Origins, sets_of, HoldsIt, IsThere, SourceAt, AreSoManyOrigins}
use Rattle.pg_sets.specs.Origins as origin
use Rattle.pg_sets.proofs.InOrder.{place_of, value_at, some_if_held}
use Rattle.pg_start.specs.declared.kind.StartKind.TheVariants.{End}
use Rattle.pg_grammar_value.specs.Grammar.{Grammar}
use Rattle.pg_certificate_verify.specs.Claimed.{claimed_first, claimed_follow}
use Rattle.pg_certificate_verify.specs.Edges.{rule_set, of_first, of_follow, of_behind}
use Rattle.pg_certificate_verify.specs.SetsBy as source
use Rattle.pg_certificate_verify.specs.SetsBy.{IsSourceBy, IsClaimOf, ClaimsBelow, AreListedBy}
use Rattle.pg_certificate_verify.specs.Standing.{IsClaimedAs, ListsClaims}

-- what is claimed stands under its name
pub claimed_named : (g : Grammar) (claimed : List ClaimedStart) (listed : ListedStart) → IsClaimedAs g claimed listed → IsListed g listed
claimed_named g [] listed is = elim is [ ]
claimed_named g (one ∷ others) listed (inl this) = this.named
claimed_named g (one ∷ others) listed (inr later) = claimed_named g others listed later

-- ---- one list of claimed starts more

pub claims_held : (g : Grammar) (claimed : List ClaimedStart) (starts : List ListedStart) (before after : Origins) (set : ℕ) → ListsClaims g claimed starts
    → ((other : ListedStart) (v : ℕ) → HoldsIt after other v ↔ (HoldsIt before other v ⊎ (IsAmong starts other × (set ≡ v))))
    → (other : ListedStart) (v : ℕ) → HoldsIt after other v ↔ (HoldsIt before other v ⊎ (IsClaimedAs g claimed other × (set ≡ v)))
claims_held g claimed starts before after set lists added other v = (
  λ h. elim ((added other v).0 h) [ inl old ↦ inl old | inr new ↦ inr ((lists other).0 new.0, new.1) ],
  λ is. (added other v).1 (elim is [ inl old ↦ inl old | inr new ↦ inr ((lists other).1 new.0, new.1) ]),
)

pub claims_there : (g : Grammar) (claimed : List ClaimedStart) (starts : List ListedStart) (before after : Origins) → ListsClaims g claimed starts
    → ((other : ListedStart) → IsThere after other → IsThere before other ⊎ IsAmong starts other)
    → (other : ListedStart) → IsThere after other → IsThere before other ⊎ IsListed g other
claims_there g claimed starts before after lists added other is =
    elim (added other is) [ inl old ↦ inl old | inr new ↦ inr (claimed_named g claimed other ((lists other).0 new)) ]

-- ---- one rule more

pub rule_held : (g : Grammar) (claims : List RuleClaim) (r : ℕ) (before between after : Origins) (first follow : ℕ)
    → rule_set (length g.nodes) (length g.rules) of_first r ≡ first → rule_set (length g.nodes) (length g.rules) of_follow r ≡ follow
    → ((other : ListedStart) (v : ℕ) → HoldsIt between other v ↔ (HoldsIt before other v ⊎ (IsClaimedAs g (claimed_first claims r) other × (first ≡ v))))
    → ((other : ListedStart) (v : ℕ) → HoldsIt after other v ↔ (HoldsIt between other v ⊎ (IsClaimedAs g (claimed_follow claims r) other × (follow ≡ v))))
    → (other : ListedStart) (v : ℕ) → HoldsIt after other v ↔ (HoldsIt before other v ⊎ IsClaimOf g claims r other v)
rule_held g claims r before between after first follow is_first is_follow added added_also other v = (
  λ h. elim ((added_also other v).0 h) [
    | inr new ↦ inr (inr (new.0, is_follow ∙ new.1))
    | inl middle ↦ elim ((added other v).0 middle) [ inl old ↦ inl old | inr new ↦ inr (inl (new.0, is_first ∙ new.1)) ]
  ],
  λ is. elim is [
    | inl old ↦ (added_also other v).1 (inl ((added other v).1 (inl old)))
    | inr claim ↦
        elim claim [
          | inl new ↦ (added_also other v).1 (inl ((added other v).1 (inr (new.0, sym is_first ∙ new.1))))
          | inr new ↦ (added_also other v).1 (inr (new.0, sym is_follow ∙ new.1))
        ]
  ],
)

pub no_rules_yet : (g : Grammar) (claims : List RuleClaim) (origins : Origins) (other : ListedStart) (v : ℕ)
    → HoldsIt origins other v ↔ (HoldsIt origins other v ⊎ ClaimsBelow g claims 0 other v)
no_rules_yet g claims origins other v = (λ h. inl h, λ is. elim is [ inl h ↦ h | inr none ↦ let low = none.below in absurd (omega arith) ])

pub rule_more : (g : Grammar) (claims : List RuleClaim) (first before after : Origins) (k : ℕ)
    → ((other : ListedStart) (v : ℕ) → HoldsIt before other v ↔ (HoldsIt first other v ⊎ ClaimsBelow g claims k other v))
    → ((other : ListedStart) (v : ℕ) → HoldsIt after other v ↔ (HoldsIt before other v ⊎ IsClaimOf g claims k other v))
    → (other : ListedStart) (v : ℕ) → HoldsIt after other v ↔ (HoldsIt first other v ⊎ ClaimsBelow g claims (k + 1) other v)
rule_more g claims first before after k known added other v = (
  λ h. elim ((added other v).0 h) [
    | inr new ↦ inr (record { rule = k; below = omega arith; claim = new })
    | inl old ↦
        elim ((known other v).0 old) [
          | inl oldest ↦ inl oldest
          | inr one ↦ let low = one.below in inr (record { rule = one.rule; below = omega arith; claim = one.claim })
        ]
  ],
  λ is. elim is [
    | inl oldest ↦ (added other v).1 (inl ((known other v).1 (inl oldest)))
    | inr one ↦
        let low = one.below in
        elim (cases_eq one.rule k) [
          | inl same ↦ (added other v).1 (inr (subst (λ r. IsClaimOf g claims r other v) same one.claim))
          | inr differ ↦ (added other v).1 (inl ((known other v).1 (inr (record { rule = one.rule; below = omega (arith, low, differ); claim = one.claim }))))
        ]
  ],
)

pub there_more : (g : Grammar) (first before after : Origins)
    → ((other : ListedStart) → IsThere before other → IsThere first other ⊎ IsListed g other)
    → ((other : ListedStart) → IsThere after other → IsThere before other ⊎ IsListed g other)
    → (other : ListedStart) → IsThere after other → IsThere first other ⊎ IsListed g other
there_more g first before after known added other is = elim (added other is) [ inr named ↦ inr named | inl old ↦ known other old ]

-- ---- all of them

at_node : {g : Grammar} {claims : List RuleClaim} {p : ℕ} {n : Node} {listed : ListedStart} {v : ℕ} → slice_get g.nodes p ≡ Some n → IsListed g listed
    → SourceAt g p n listed.start v → IsSourceBy g claims listed v
at_node at named (origin.own is) = source.own at (record { own = is; named = named })
at_node {p = p} at named (origin.operator is e) = source.operator p at is named e

module _ (g : Grammar) (claims : List RuleClaim) (nodes claimed all : Origins) (are : AreSoManyOrigins g (length g.nodes) nodes)
    (claims_added : (other : ListedStart) (v : ℕ) → HoldsIt claimed other v ↔ (HoldsIt nodes other v ⊎ ClaimsBelow g claims (length g.rules) other v))
    (claims_listed : (other : ListedStart) → IsThere claimed other → IsThere nodes other ⊎ IsListed g other)
    (end_added : (other : ListedStart) (v : ℕ) → HoldsIt all other v ↔ (HoldsIt claimed other v
    ⊎ ((◌≡◌ {A = ListedStart} (record { start = End; word = 0 }) other) × (rule_set (length g.nodes) (length g.rules) of_behind g.start ≡ v))))
    (end_listed : (other : ListedStart) → IsThere all other → IsThere claimed other ⊎ IsListed g other)
    (sorted : IsStrictlySortedBy start_order (keys all)) where
  of_claim : (listed : ListedStart) (v r : ℕ) → r < length g.rules → IsClaimOf g claims r listed v → IsSourceBy g claims listed v
  of_claim listed v r below (inl first) = source.first r below first.0 first.1
  of_claim listed v r below (inr follow) = source.follow r below follow.0 follow.1

  held_is : (listed : ListedStart) (v : ℕ) → HoldsIt all listed v → IsSourceBy g claims listed v
  held_is listed v h =
      elim ((end_added listed v).0 h) [
        | inr end ↦ source.at_end end.0 end.1
        | inl old ↦
            elim ((claims_added listed v).0 old) [
              | inr claim ↦ of_claim listed v claim.rule claim.below claim.claim
              | inl oldest ↦ let of_node = (are.held listed v).0 oldest in at_node of_node.0.there of_node.1 of_node.0.source
            ]
      ]

  from_nodes : (listed : ListedStart) (v : ℕ) → HoldsIt nodes listed v → HoldsIt all listed v
  from_nodes listed v h = (end_added listed v).1 (inl ((claims_added listed v).1 (inl h)))

  from_claims : (listed : ListedStart) (v : ℕ) → ClaimsBelow g claims (length g.rules) listed v → HoldsIt all listed v
  from_claims listed v h = (end_added listed v).1 (inl ((claims_added listed v).1 (inr h)))

  is_held : (listed : ListedStart) (v : ℕ) → IsSourceBy g claims listed v → HoldsIt all listed v
  is_held listed v (source.own {p} {n} at owns) =
      from_nodes listed p ((are.held listed p).1 (record { place = p; node = n; below = slice_get_within g.nodes p n at; there = at; source = origin.own owns.own }, owns.named))
  is_held listed v (source.operator p {term = term} {builders = builders} at is named e) =
      from_nodes listed v ((are.held listed v).1 (record { place = p; node = _; below = slice_get_within g.nodes p _ at; there = at; source = origin.operator is e }, named))
  is_held listed v (source.first r below is e) = from_claims listed v (record { rule = r; below = below; claim = inl (is, e) })
  is_held listed v (source.follow r below is e) = from_claims listed v (record { rule = r; below = below; claim = inr (is, e) })
  is_held listed v (source.at_end end e) = (end_added listed v).1 (inr (end, e))

  there_listed : (listed : ListedStart) → IsThere all listed → IsListed g listed
  there_listed listed is =
      elim (end_listed listed is) [ inr named ↦ named | inl old ↦ elim (claims_listed listed old) [ inr named ↦ named | inl oldest ↦ are.listed listed oldest ] ]

  sets : (k v : ℕ) (listed : ListedStart) → slice_get (keys all) k ≡ Some listed → has (sets_of all listed) v ≡ has (numbers_at (values all) k) v
  sets k v listed at = ap (λ found. has (unwrap_or found []) v) (value_at all.entries k listed sorted at)

  pub are_listed_by : AreListedBy g claims (keys all) (values all)
  are_listed_by = record {
    ordered = sorted;
    long = length-map all.entries (λ (e : ListedStart × List ℕ). e.1) ∙ sym (length-map all.entries (λ (e : ListedStart × List ℕ). e.0));
    named = λ k listed at. there_listed listed (ap is_some (value_at all.entries k listed sorted at));
    sources = λ k v listed at. (λ h. held_is listed v (sets k v listed at ∙ h), λ is. sym (sets k v listed at) ∙ is_held listed v is);
    all = λ listed v is. place_of all.entries listed (some_if_held (get start_order all listed) v (is_held listed v is));
  }
