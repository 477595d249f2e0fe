-- The sets that hold starts by themselves, node by node.
use Rattle.std.proofs.Common.{◌≡◌, ℕ, ◌+◌, ◌⊎◌, inl, inr, [], Some, None, slice_get, length, unwrap_or, is_some, refl, sym, ap, subst, ◌∙◌, arith}
use Rattle.std.specs.Prelude.{◌↔◌}
use Rattle.std.specs.BTreeMap.{get}
use Rattle.std.proofs.lemmas.Bool.{cases_eq, true≢false}
use Rattle.std.proofs.lemmas.Option.{same_Some, slice_get_within}
use Rattle.pg_grammar_value.specs.Grammar.{Grammar, rule_body}
use Rattle.pg_grammar_form.specs.Forms.{Node}
use Rattle.pg_grammar_form.specs.declared.form.Form.TheVariants as form
use Rattle.pg_grammar_value.specs.declared.grammar.Rule as declared
use Rattle.pg_sets_own.proofs.Owned.{listed_path}
use Rattle.pg_start.specs.declared.kind.StartKind.{StartKind}
use Rattle.pg_start.specs.declared.kind.StartKind.TheVariants.{End}
use Rattle.pg_sets.specs.Flows.{follow_of}
use Rattle.pg_graph.specs.Graphs.{has}
use Rattle.pg_sets_own.specs.Listed.{IsListed, IsNumbered, start_order}
use Rattle.pg_sets.specs.Origins.{Origins, HoldsIt, IsThere, SourceAt, SourceBelow, AreSoManyOrigins, AreOrigins}
use Rattle.pg_sets.specs.Origins as source_of
use Rattle.pg_sets_own.specs.Own.{IsPlain}
use Rattle.pg_sets_own.specs.OwnStarts.{OwnStart}
use Rattle.pg_sets.specs.Sources.{IsSource}
use Rattle.pg_sets.specs.Sources as source
use Rattle.pg_sets_own.specs.declared.listed.ListedStart.{ListedStart}

none_below : {g : Grammar} {s : StartKind} {v : ℕ} → SourceBelow g 0 s v → ⊥
none_below is = let below = is.below in absurd (omega arith)

pub no_origins : (g : Grammar) (origins : Origins) → origins.entries ≡ [] → AreSoManyOrigins g 0 origins
no_origins g origins empty = record {
  held = λ listed v. (
    λ h. absurd (true≢false (sym h ∙ ap (λ found. has (unwrap_or found []) v) (none listed))),
    λ is. absurd (none_below is.0),
  );
  listed = λ listed is. absurd (true≢false (sym is ∙ ap is_some (none listed)));
  plain = λ p n below at is. absurd (omega arith);
}
  where
    none : (listed : ListedStart) → get start_order origins listed ≡ None
    none listed = rw empty refl

pub one_node_more : (g : Grammar) (count : ℕ) (n : Node) (before after : Origins) → slice_get g.nodes count ≡ Some n → AreSoManyOrigins g count before
    → ((other : ListedStart) (v : ℕ) → HoldsIt after other v ↔ (HoldsIt before other v ⊎ (SourceAt g count n other.start v × IsListed g other)))
    → ((other : ListedStart) → IsThere after other → IsThere before other ⊎ IsListed g other)
    → (IsPlain g n → (start : StartKind) × OwnStart g n start) → AreSoManyOrigins g (count + 1) after
one_node_more g count n before after at are added there plain = record {
  held = λ listed v. (
    λ h. elim ((added listed v).0 h) [
      | inl old ↦ let is = (are.held listed v).0 old in (further is.0, is.1)
      | inr new ↦ (record { place = count; node = n; below = omega arith; there = at; source = new.0 }, new.1)
    ],
    λ is. (added listed v).1 (split listed v is.0 is.1),
  );
  listed = λ listed is. elim (there listed is) [ inl old ↦ are.listed listed old | inr new ↦ new ];
  plain = λ p m below known is.
      elim (cases_eq p count) [
        | inl same ↦
            let one : n ≡ m = same_Some n m (sym at ∙ (ap (slice_get g.nodes) (sym same) ∙ known)) in
            subst (λ x. (start : StartKind) × OwnStart g x start) one (plain (subst (IsPlain g) (sym one) is))
        | inr ne ↦ are.plain p m (omega arith) known is
      ];
}
  where
    further : {s : StartKind} {v : ℕ} → SourceBelow g count s v → SourceBelow g (count + 1) s v
    further is = let below = is.below in record { place = is.place; node = is.node; below = omega arith; there = is.there; source = is.source }

    split : (listed : ListedStart) (v : ℕ) → SourceBelow g (count + 1) listed.start v → IsListed g listed → HoldsIt before listed v ⊎ (SourceAt g count n listed.start v × IsListed g listed)
    split listed v is named =
        elim (cases_eq is.place count) [
          | inl same ↦
              let one : is.node ≡ n = same_Some is.node n (sym is.there ∙ (ap (slice_get g.nodes) same ∙ at)) in
              inr (subst (λ p. SourceAt g p n listed.start v) same (subst (λ m. SourceAt g is.place m listed.start v) one is.source), named)
          | inr ne ↦
              let below = is.below in
              inl ((are.held listed v).1 (record { place = is.place; node = is.node; below = omega arith; there = is.there; source = is.source }, named))
        ]

-- ---- the end

at_node : {g : Grammar} {p : ℕ} {n : Node} {s : StartKind} {v : ℕ} → slice_get g.nodes p ≡ Some n → SourceAt g p n s v → IsSource g s v
at_node at (source_of.own is) = source.own at is
at_node {p = p} at (source_of.operator is e) = source.operator p at is (sym e)

below_source : {g : Grammar} {s : StartKind} {v : ℕ} → SourceBelow g (length g.nodes) s v → IsSource g s v
below_source is = at_node is.there is.source

module _ (g : Grammar) (named : declared.Rule) (at : slice_get g.rules g.start ≡ Some named) (set : ℕ) (set_is : set ≡ follow_of (length g.nodes) (rule_body named)) where
  abbrev pub the_end : ListedStart
  the_end = record { start = End; word = 0 }

  cases : (s : StartKind) (w v : ℕ) → IsSource g s v → IsNumbered g s w → SourceBelow g (length g.nodes) s v ⊎ ((the_end ≡ record { start = s; word = w }) × (set ≡ v))
  cases s w v (source.own {p = p} {n = n} known is) numbered = inl (record { place = p; node = n; below = slice_get_within g.nodes p n known; there = known; source = source_of.own is })
  cases s w v (source.at_end {named = other} known e) numbered =
      inr (listed_path refl (sym numbered), set_is ∙ (ap (λ (rule : declared.Rule). follow_of (length g.nodes) (rule_body rule)) (same_Some named other (sym at ∙ known)) ∙ sym e))
  cases s w v (source.operator p {term = term} {builders = builders} known is e) numbered =
      inl (record { place = p; node = form.Expression builders term; below = slice_get_within g.nodes p (form.Expression builders term) known; there = known; source = source_of.operator is (sym e) })

  pub with_end : (before after : Origins) → AreSoManyOrigins g (length g.nodes) before
      → ((other : ListedStart) (v : ℕ) → HoldsIt after other v ↔ (HoldsIt before other v ⊎ ((the_end ≡ other) × (set ≡ v))))
      → ((other : ListedStart) → IsThere after other → IsThere before other ⊎ (the_end ≡ other)) → AreOrigins g after
  with_end before after are added there = record {
    held = λ listed v. (
      λ h. elim ((added listed v).0 h) [
        | inl old ↦ let is = (are.held listed v).0 old in (below_source is.0, is.1)
        | inr new ↦ subst (λ (x : ListedStart). IsSource g x.start v × IsListed g x) new.0 (source.at_end at (sym new.1 ∙ set_is), refl)
      ],
      λ is. (added listed v).1 (elim (cases listed.start listed.word v is.0 is.1) [ inl below ↦ inl ((are.held listed v).1 (below, is.1)) | inr end ↦ inr end ]),
    );
    listed = λ listed is. elim (there listed is) [ inl old ↦ are.listed listed old | inr new ↦ subst (IsListed g) new refl ];
    plain = λ p n known is. are.plain p n (slice_get_within g.nodes p n known) known is;
  }
