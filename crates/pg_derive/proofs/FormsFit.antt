-- Choices and repetitions fit where nothing is wrong at them.
use Rattle.std.proofs.Common.{◌≡◌, ◌<◌, inl, inr, ℕ, zero, suc, List, [], ◌∷◌, Some, slice_get, length, refl, ap, ◌∙◌, subst, arith}
use Rattle.std.specs.List.{Contains, AllByRecursion}
use Rattle.std.proofs.lemmas.Bool.{cases_order}
use Rattle.std.proofs.lemmas.Option.{slice_get_within, slice_get-get_or}
use Rattle.pg_grammar_value.specs.Grammar.{Grammar, IsGrammar}
use Rattle.pg_grammar_form.specs.Forms.{Node}
use Rattle.pg_grammar_form.specs.declared.form.Form.TheVariants as form
use Rattle.pg_grammar_form.specs.declared.side.Side.{Side}
use Rattle.pg_grammar_form.specs.declared.used.ChainBuilder.{ChainBuilder}
use Rattle.pg_sets.specs.Follow.{IsChain}
use Rattle.pg_sets.specs.Follow as follow
use Rattle.pg_sets_nullable.specs.Nullable.{Nullable, NullableForm}
use Rattle.pg_sets_nullable.specs.Nullable as null
use Rattle.pg_sets_own.specs.OwnStarts.{IsKeyTry}
use Rattle.pg_sets_nullable.specs.Ranks.{Chain}
use Rattle.pg_sets_nullable.specs.Reached.{ReachedIn, ReachedPart}
use Rattle.pg_sets_nullable.specs.Reached as reached
use Rattle.pg_sets.specs.Sets.{Sets, AreSets}
use Rattle.pg_predict.specs.Conditions.{IsFaultless, EndsNullable, least_facts, empty_round, empty_link, empty_alternative, alternatives_meet, alternative_meets_follow, round_meets_follow, link_meets_follow}
use Rattle.pg_derive.specs.ClosedSets.{NodeSets}
use Rattle.pg_derive.specs.LeastSets.{node_sets}
use Rattle.pg_derive.specs.Predictive.{PartIsPredictive, AlternativesArePredictive, ComesBefore, ManyIsPredictive, ChainIsPredictive}
use Rattle.pg_derive.proofs.LeastSets.{first_is, follow_is, follow_covers, full, firsts_apart, follow_apart, rounds_apart}
use Rattle.pg_derive.proofs.PartsFit.{IsPart, AreNodes, are_parts, begins_first, first_reached, parts_fall, in_falls, part_first, part_fits}
use Rattle.pg_predict_costs.proofs.Existing.{reached_is}

no_key_choice : {g : Grammar} {parts : List ℕ} → IsKeyTry g (form.Choice parts) → ⊥
no_key_choice h = elim h [ ]

no_key_many : {g : Grammar} {q : ℕ} → IsKeyTry g (form.Many q) → ⊥
no_key_many h = elim h [ ]

part_at : (P : ℕ → Type 0) (parts : List ℕ) → AllByRecursion P parts → (k q : ℕ) → slice_get parts k ≡ Some q → P q
part_at P [] h k q e = absurd cc
part_at P (r ∷ rs) h zero q e = let same : r ≡ q = cc in subst P same h.0
part_at P (r ∷ rs) h (suc k) q e = part_at P rs h.1 k q e

-- alternatives fit where each does, and each two
alternatives_fit : (sets : NodeSets) (p : ℕ) (parts : List ℕ) → ((k q : ℕ) → slice_get parts k ≡ Some q → PartIsPredictive sets p q) →
    ((j k q r : ℕ) → j < k → slice_get parts j ≡ Some q → slice_get parts k ≡ Some r → ComesBefore sets p q r) → AlternativesArePredictive sets p parts
alternatives_fit sets p [] fits before = tt
alternatives_fit sets p (q ∷ qs) fits before = (
  fits zero q refl,
  λ other h. after other h,
  alternatives_fit sets p qs (λ k r e. fits (suc k) r e) (λ j k r s l e f. before (suc j) (suc k) r s (omega arith) e f),
)
  where
    after : (other : ℕ) → Contains qs other → ComesBefore sets p q other
    after other (k, l, e) = before zero (suc k) q other (omega arith) refl (slice_get-get_or qs k other l ∙ ap Some e)

-- what a chain has in either direction
record IsLinked (g : Grammar) (q r : ℕ) (n : Node) : Type 0 where
  chain : IsChain q r n
  bare : IsKeyTry g n → ⊥
  reached : (x : ℕ) → ReachedIn g (q ∷ r ∷ q ∷ []) x → ReachedPart g n x
  empty : Nullable g q → NullableForm g n

no_key_chain : {g : Grammar} {side : Side} {used : ChainBuilder} {q r : ℕ} → IsKeyTry g (form.Chain side used q r) → ⊥
no_key_chain h = elim h [ ]

linked : {g : Grammar} (side : Side) (used : ChainBuilder) (q r : ℕ) → IsLinked g q r (form.Chain side used q r)
linked side used q r = record { chain = follow.chain; bare = no_key_chain; reached = λ x is. reached.chain is; empty = λ n. null.chain n }

module _ (g : Grammar) (sets : Sets) (are : AreSets g sets) (acyclic : (r : ℕ) → Chain g r r → ⊥) (grammar : IsGrammar g) (faultless : IsFaultless g) where
  -- ---- choices

  alternative_fits : (p : ℕ) (parts : List ℕ) → slice_get g.nodes p ≡ Some (form.Choice parts) → (k q : ℕ) → slice_get parts k ≡ Some q → PartIsPredictive (node_sets g sets) p q
  alternative_fits p parts e k q at =
      let part = part_at (IsPart g p) parts (are_parts g grammar p (form.Choice parts) e) k q at in
      part_fits g sets are acyclic p q (form.Choice parts) e part no_key_choice (reached.choice k at) (λ n. null.choice k at n) (λ s h. follow.alternative k e at h)

  -- an alternative that can be empty is the last
  ends_nullable : (p : ℕ) (parts : List ℕ) → slice_get g.nodes p ≡ Some (form.Choice parts) → (k r : ℕ) → slice_get parts k ≡ Some r → Nullable g r → EndsNullable (least_facts g) parts
  ends_nullable p parts e k r at n =
      let inside = slice_get_within parts k r at in
      let whole : suc k ≡ length parts =
      elim (cases_order (suc k) (length parts)) [
        | inl same ↦ same
        | inr differ ↦ elim differ [ inl less ↦ absurd (faultless p _ (empty_alternative e at less n)) | inr more ↦ absurd (omega arith) ]
      ] in
      record {
        before = k;
        last = r;
        is_last = omega arith;
        there = at;
        nullable = n;
      }

  comes_before : (p : ℕ) (parts : List ℕ) → slice_get g.nodes p ≡ Some (form.Choice parts) → (j k q r : ℕ) → j < k → slice_get parts j ≡ Some q → slice_get parts k ≡ Some r →
      ComesBefore (node_sets g sets) p q r
  comes_before p parts e j k q r l at_q at_r =
      let all = are_parts g grammar p (form.Choice parts) e in
      let one = part_at (IsPart g p) parts all j q at_q in
      let other = part_at (IsPart g p) parts all k r at_r in
      let below = slice_get_within g.nodes p (form.Choice parts) e in
      let inside = slice_get_within parts k r at_r in
      record {
        full = full g sets are q (λ n. faultless p _ (empty_alternative e at_q (omega arith) n));
        first = λ s t h m.
            firsts_apart g sets are q r one.inside other.inside (λ x y first. faultless p _ (alternatives_meet e l at_q at_r first)) s t
            (first_is g sets are q one.inside s h) (first_is g sets are r other.inside t m);
        follow = λ n s t h m.
            let ends = ends_nullable p parts e k r at_r ((are.nullable r).0 n) in
            follow_apart g sets are q p one.inside below (λ x y first. faultless p _ (alternative_meets_follow e at_q (omega arith) ends first)) s t
            (first_is g sets are q one.inside s h) (follow_is g sets are p below t m);
      }

  pub choice_fits : (p : ℕ) (parts : List ℕ) → slice_get g.nodes p ≡ Some (form.Choice parts) → AlternativesArePredictive (node_sets g sets) p parts
  choice_fits p parts e =
      alternatives_fit (node_sets g sets) p parts (λ k q at. alternative_fits p parts e k q at) (λ j k q r l at_q at_r. comes_before p parts e j k q r l at_q at_r)

  -- ---- repetitions

  pub many_fits : (p q : ℕ) → slice_get g.nodes p ≡ Some (form.Many q) → ManyIsPredictive (node_sets g sets) p q
  many_fits p q e =
      let part = (are_parts g grammar p (form.Many q) e).0 in
      let below = slice_get_within g.nodes p (form.Many q) e in
      record {
        empty = (are.nullable p).1 (null.at_node e null.many);
        full = full g sets are q (λ n. faultless p _ (empty_round e n));
        first = λ s h. part_first g sets are acyclic p q (form.Many q) e no_key_many reached.many s (first_is g sets are q part.inside s h);
        again = λ s h. follow_covers g sets are q part.inside s (follow.next_round p e (first_is g sets are q part.inside s h));
        follow = λ s h. follow_covers g sets are q part.inside s (follow.last_round e (follow_is g sets are p below s h));
        apart = λ s t h m.
            follow_apart g sets are q p part.inside below (λ x y first. faultless p _ (round_meets_follow e first)) s t
            (first_is g sets are q part.inside s h) (follow_is g sets are p below t m);
        falls = in_falls g sets are acyclic p q (form.Many q) e part reached.many;
      }

  -- ---- chains

  chain_fits : (p q r : ℕ) (n : Node) → slice_get g.nodes p ≡ Some n → IsLinked g q r n → IsPart g p q → IsPart g p r → ChainIsPredictive (node_sets g sets) p q r
  chain_fits p q r n e linked operand separator =
      let below = slice_get_within g.nodes p n e in
      let round : AreNodes g (r ∷ q ∷ []) = (separator.inside, (operand.inside, tt)) in
      let parts : AllByRecursion (IsPart g p) (q ∷ r ∷ q ∷ []) = (operand, (separator, (operand, tt))) in
      record {
        empty = λ h. (are.nullable p).1 (null.at_node e (linked.empty ((are.nullable q).0 h)));
        full = λ h. faultless p _ (empty_link e linked.chain ((are.nullable r).0 h.0) ((are.nullable q).0 h.1.0));
        first = λ s h. part_first g sets are acyclic p q n e linked.bare (linked.reached q reached.first) s (first_is g sets are q operand.inside s h);
        next = λ empty s b.
            let found = first_reached g sets are acyclic (begins_first g sets are acyclic (r ∷ q ∷ []) round s b) in
            part_first g sets are acyclic p found.part n e linked.bare (linked.reached found.part (reached.later ((are.nullable q).0 empty) found.reached)) s found.first;
        again = λ s b. follow_covers g sets are q operand.inside s (follow.next_link p e linked.chain (begins_first g sets are acyclic (r ∷ q ∷ []) round s b));
        follow = λ s h. follow_covers g sets are q operand.inside s (follow.last_link e linked.chain (follow_is g sets are p below s h));
        between = λ s h. follow_covers g sets are r separator.inside s (follow.operand p e linked.chain (first_is g sets are q operand.inside s h));
        over_next = λ empty s b.
            follow_covers g sets are r separator.inside s (follow.over_operand p e linked.chain ((are.nullable q).0 empty) (begins_first g sets are acyclic (r ∷ q ∷ []) round s b));
        over_last = λ empty s h. follow_covers g sets are r separator.inside s (follow.last_operand e linked.chain ((are.nullable q).0 empty) (follow_is g sets are p below s h));
        apart = λ s t b m.
            rounds_apart g sets are r q p separator.inside operand.inside below (λ x y first. faultless p _ (link_meets_follow e linked.chain first)) s t
            (begins_first g sets are acyclic (r ∷ q ∷ []) round s b) (follow_is g sets are p below t m);
        falls = parts_fall g sets are acyclic ((node_sets g sets).level p) (q ∷ r ∷ q ∷ []) (λ x is. in_falls g sets are acyclic p x n e (reached_is (IsPart g p) parts is) (linked.reached x is));
      }

  pub links_fit : (p : ℕ) (side : Side) (used : ChainBuilder) (q r : ℕ) → slice_get g.nodes p ≡ Some (form.Chain side used q r) → ChainIsPredictive (node_sets g sets) p q r
  links_fit p side used q r e = let parts = are_parts g grammar p (form.Chain side used q r) e in chain_fits p q r (form.Chain side used q r) e (linked side used q r) parts.0 parts.1.0
