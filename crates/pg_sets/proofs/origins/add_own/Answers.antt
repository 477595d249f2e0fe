use Rattle.std.proofs.Common.{rules, ◌≡◌, ◌∷◌, ◌++◌, [], ℕ, List, ◌⊎◌, inl, inr, sym, subst, ◌∙◌}
use Rattle.std.specs.Prelude.{◌↔◌}
use Rattle.std.proofs.lemmas.List.{map-id}
use Rattle.std.proofs.lemmas.Iterator.Adapters.{YieldsList-from_vec}
use Rattle.std.proofs.lemmas.Iterator.Consumers.{YieldsList-end}
use Rattle.pg_sets.specs.Origins.{Origins, HoldsIt, IsThere}
use Rattle.pg_sets_own.specs.Own.{IsAmong}
use Rattle.pg_sets_own.specs.declared.listed.ListedStart.{ListedStart}
use Rattle.pg_sets.proofs.Adding.{among_push}
use Rattle.pg_sets.proofs.origins.add_own.Goals as goal

one_more : (first before after : Origins) (starts : List ListedStart) (added : ListedStart) (set : ℕ) (other : ListedStart) (v : ℕ)
    → (HoldsIt before other v ↔ (HoldsIt first other v ⊎ (IsAmong starts other × (set ≡ v)))) → (HoldsIt after other v ↔ (HoldsIt before other v ⊎ ((added ≡ other) × (set ≡ v))))
    → HoldsIt after other v ↔ (HoldsIt first other v ⊎ (IsAmong (starts ++ added ∷ []) other × (set ≡ v)))
one_more first before after starts added set other v known more =
    let among = among_push starts added other in (
      λ h. elim (more.0 h) [
        | inl old ↦ elim (known.0 old) [ inl oldest ↦ inl oldest | inr one ↦ inr (among.1 (inl one.0), one.1) ]
        | inr new ↦ inr (among.1 (inr new.0), new.1)
      ],
      λ is. elim is [
        | inl oldest ↦ more.1 (inl (known.1 (inl oldest)))
        | inr one ↦ elim (among.0 one.0) [ inl old ↦ more.1 (inl (known.1 (inr (old, one.1)))) | inr new ↦ more.1 (inr (new, one.1)) ]
      ],
    )

one_there : (first before after : Origins) (starts : List ListedStart) (added : ListedStart) (other : ListedStart)
    → (IsThere before other → IsThere first other ⊎ IsAmong starts other) → (IsThere after other → IsThere before other ⊎ (added ≡ other))
    → IsThere after other → IsThere first other ⊎ IsAmong (starts ++ added ∷ []) other
one_there first before after starts added other known more is =
    let among = among_push starts added other in
    elim (more is) [
      | inl old ↦ elim (known old) [ inl oldest ↦ inl oldest | inr one ↦ inr (among.1 (inl one)) ]
      | inr new ↦ inr (among.1 (inr new))
    ]

pub loop-listed-init : goal.loop-listed-init
loop-listed-init c = record {
  held = λ other v. (λ h. inl h, λ is. elim is [ inl old ↦ old | inr none ↦ absurd none.0 ]);
  there = λ other is. inl is;
}

pub loop-listed-preserved : goal.loop-listed-preserved
loop-listed-preserved c =
    let first = c.args.origins.now in
    let before = c.loop-listed.origins in
    let after = c.add_origin.new.origins in
    let starts = c.loop-listed.yielded in
    let listed = c.in-Some.listed in
    record {
      held = λ other v. one_more first before after starts listed c.args.set other v (c.loop-listed.invariant.held other v) (c.in_ok-add_origin.ensures.held other v);
      there = λ other is. one_there first before after starts listed other (c.loop-listed.invariant.there other) (c.in_ok-add_origin.ensures.there other) is;
    }

pub returns-clause-held : goal.returns-clause-held
returns-clause-held c =
    let road = YieldsList-from_vec {s = c.into_iter-listed-iterator.result} c.args.own.items (search rules) (search rules) in
    let end = YieldsList-end road c.loop-listed.yielded _ c.loop-listed.yielded_by _ c.next.new.self c.in-None.is c.next.ensures.steps in
    let all : c.loop-listed.yielded ≡ c.args.own.items = sym (map-id c.loop-listed.yielded) ∙ end.0 in
    λ other v. subst (λ starts. HoldsIt c.loop-listed.origins other v ↔ (HoldsIt c.args.origins.now other v ⊎ (IsAmong starts other × (c.args.set ≡ v)))) all (c.loop-listed.invariant.held other v)

pub returns-clause-there : goal.returns-clause-there
returns-clause-there c =
    let road = YieldsList-from_vec {s = c.into_iter-listed-iterator.result} c.args.own.items (search rules) (search rules) in
    let end = YieldsList-end road c.loop-listed.yielded _ c.loop-listed.yielded_by _ c.next.new.self c.in-None.is c.next.ensures.steps in
    let all : c.loop-listed.yielded ≡ c.args.own.items = sym (map-id c.loop-listed.yielded) ∙ end.0 in
    λ other. subst (λ starts. IsThere c.loop-listed.origins other → IsThere c.args.origins.now other ⊎ IsAmong starts other) all (c.loop-listed.invariant.there other)
