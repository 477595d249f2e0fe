-- What each node adds to the sets that hold starts by themselves.
use Rattle.std.proofs.Common.{◌≡◌, ℕ, ◌⊎◌, inl, inr, List, length, refl, subst}
use Rattle.std.specs.Prelude.{◌↔◌}
use Rattle.pg_grammar_value.specs.Grammar.{Grammar}
use Rattle.pg_grammar_form.specs.Forms.{Node}
use Rattle.pg_grammar_form.specs.declared.form.Form.TheVariants as form
use Rattle.pg_grammar_form.specs.declared.used.OperatorBuilders.{OperatorBuilders}
use Rattle.pg_start.specs.declared.kind.StartKind.{StartKind}
use Rattle.pg_sets.specs.Flows.{follow_of}
use Rattle.pg_sets_own.specs.Listed.{IsListed}
use Rattle.pg_sets.specs.Origins.{Origins, HoldsIt, SourceAt}
use Rattle.pg_sets.specs.Origins as source
use Rattle.pg_sets_own.specs.Own.{IsAmong, OwnListed, AreOwn}
use Rattle.pg_sets_own.specs.OwnStarts.{OwnStart, IsOperatorStart}
use Rattle.pg_sets_own.specs.OwnStarts as own
use Rattle.pg_sets_own.specs.declared.listed.ListedStart.{ListedStart}

-- what stands there is no expression
abbrev pub IsPart : Node → Type 0
IsPart n = (builders : OperatorBuilders) (term : ℕ) → n ≡ form.Expression builders term → ⊥

operator_of : {g : Grammar} {builders : OperatorBuilders} {term : ℕ} {s : StartKind} → OwnStart g (form.Expression builders term) s → IsOperatorStart g s
operator_of (own.expression is) = is

plain_source : {g : Grammar} {p : ℕ} {n : Node} {s : StartKind} {v : ℕ} → IsPart n → SourceAt g p n s v → OwnStart g n s × (p ≡ v)
plain_source part (source.own is) = (is, refl)
plain_source part (source.operator {builders = builders} {term = term} is e) = absurd (part builders term refl)

expression_source : {g : Grammar} {p : ℕ} {builders : OperatorBuilders} {term : ℕ} {s : StartKind} {v : ℕ} → SourceAt g p (form.Expression builders term) s v
    → IsOperatorStart g s × ((p ≡ v) ⊎ (follow_of (length g.nodes) term ≡ v))
expression_source (source.own is) = (operator_of is, inl refl)
expression_source (source.operator is e) = (is, inr e)

module _ (g : Grammar) (p : ℕ) (n : Node) (own_starts : List ListedStart) (are : AreOwn g n own_starts) (before after : Origins)
    (added : (other : ListedStart) (v : ℕ) → HoldsIt after other v ↔ (HoldsIt before other v ⊎ (IsAmong own_starts other × (p ≡ v)))) where
  pub part_held : IsPart n → (other : ListedStart) (v : ℕ) → HoldsIt after other v ↔ (HoldsIt before other v ⊎ (SourceAt g p n other.start v × IsListed g other))
  part_held part other v = (
    λ h. elim ((added other v).0 h) [
      | inl old ↦ inl old
      | inr new ↦ let is = (are.members other).0 new.0 in inr (subst (SourceAt g p n other.start) new.1 (source.own is.own), is.named)
    ],
    λ is. (added other v).1 (elim is [
      | inl old ↦ inl old
      | inr new ↦ let gives = plain_source part new.0 in inr ((are.members other).1 (record { own = gives.0; named = new.1 }), gives.1)
    ]),
  )

module _ (g : Grammar) (p : ℕ) (builders : OperatorBuilders) (term : ℕ) (own_starts operators : List ListedStart) (are : AreOwn g (form.Expression builders term) own_starts)
    (are_also : AreOwn g (form.Expression builders term) operators) (before between after : Origins)
    (added : (other : ListedStart) (v : ℕ) → HoldsIt between other v ↔ (HoldsIt before other v ⊎ (IsAmong own_starts other × (p ≡ v))))
    (added_also : (other : ListedStart) (v : ℕ) → HoldsIt after other v ↔ (HoldsIt between other v ⊎ (IsAmong operators other × (follow_of (length g.nodes) term ≡ v)))) where
  pub expression_held : (other : ListedStart) (v : ℕ) → HoldsIt after other v ↔ (HoldsIt before other v ⊎ (SourceAt g p (form.Expression builders term) other.start v × IsListed g other))
  expression_held other v = (
    λ h. elim ((added_also other v).0 h) [
      | inr new ↦ let is = (are_also.members other).0 new.0 in inr (source.operator (operator_of is.own) new.1, is.named)
      | inl middle ↦
          elim ((added other v).0 middle) [
            | inl old ↦ inl old
            | inr new ↦ let is = (are.members other).0 new.0 in inr (subst (SourceAt g p (form.Expression builders term) other.start) new.1 (source.own is.own), is.named)
          ]
    ],
    λ is. elim is [
      | inl old ↦ (added_also other v).1 (inl ((added other v).1 (inl old)))
      | inr new ↦
          let gives = expression_source new.0 in
          let listed : OwnListed g (form.Expression builders term) other = record { own = own.expression gives.0; named = new.1 } in
          elim gives.1 [
            | inl e ↦ (added_also other v).1 (inl ((added other v).1 (inr ((are.members other).1 listed, e))))
            | inr e ↦ (added_also other v).1 (inr ((are_also.members other).1 listed, e))
          ]
    ],
  )
