-- The least sets are closed at the parts of a node, one after another.
use Rattle.std.proofs.Common.{◌≡◌, ◌<◌, inl, inr, ℕ, List, [], ◌∷◌, Some, slice_get, length}
use Rattle.std.specs.List.{AllByRecursion}
use Rattle.std.proofs.lemmas.Option.{slice_get_within}
use Rattle.pg_grammar_value.proofs.Numbers.{parts_are_after}
use Rattle.pg_grammar_form.specs.Forms.{Node, parts_of}
use Rattle.pg_grammar_value.specs.Grammar.{Grammar, IsGrammar}
use Rattle.pg_grammar_form.specs.declared.form.Form.TheVariants as form
use Rattle.pg_start.specs.declared.kind.StartKind.{StartKind}
use Rattle.pg_sets.specs.First.{IsFirst, IsFirstOf}
use Rattle.pg_sets.specs.First as of
use Rattle.pg_sets.specs.Follow.{IsFollow, StandsBefore, next, last}
use Rattle.pg_sets.specs.Follow as stands
use Rattle.pg_sets_nullable.specs.Nullable.{Nullable, NullableForm}
use Rattle.pg_sets_nullable.specs.Nullable as null
use Rattle.pg_sets_own.specs.OwnStarts.{IsKeyTry}
use Rattle.pg_sets_nullable.specs.Ranks.{Chain}
use Rattle.pg_sets_nullable.specs.Reached.{ReachedIn, ReachedPart}
use Rattle.pg_sets_nullable.specs.Reached as reached
use Rattle.pg_sets.specs.Sets.{Sets, AreSets}
use Rattle.pg_derive.specs.ClosedSets.{Covers, AllNullable, BeginsParts, PartsFollowed, PartsFall}
use Rattle.pg_derive.specs.LeastSets.{node_sets}
use Rattle.pg_derive.specs.Predictive.{PartIsPredictive, SeqIsPredictive}
use Rattle.pg_derive.proofs.LeastSets.{first_is, first_covers, follow_is, follow_covers}
use Rattle.pg_predict_costs.proofs.Levels.{part_falls}
use Rattle.pg_predict_costs.proofs.Existing.{reached_is}

no_key_seq : {g : Grammar} {parts : List ℕ} → IsKeyTry g (form.Seq parts) → ⊥
no_key_seq h = elim h [ ]

-- each of these is a node
abbrev pub AreNodes : Grammar → List ℕ → Type 0
AreNodes g parts = AllByRecursion (λ q. q < length g.nodes) parts

-- a part of a node stands after it
pub record IsPart (g : Grammar) (p q : ℕ) : Type 0 where
  pub after : p < q
  pub inside : q < length g.nodes

all_parts : (g : Grammar) (p : ℕ) (parts : List ℕ) → AllByRecursion (λ q. (p < q) × (q < length g.nodes)) parts → AllByRecursion (IsPart g p) parts
all_parts g p [] h = tt
all_parts g p (q ∷ qs) h = (record { after = h.0.0; inside = h.0.1 }, all_parts g p qs h.1)

pub are_parts : (g : Grammar) → IsGrammar g → (p : ℕ) (n : Node) → slice_get g.nodes p ≡ Some n → AllByRecursion (IsPart g p) (parts_of n)
are_parts g grammar p n e = all_parts g p (parts_of n) (parts_are_after g.nodes p n grammar.preorder e)

pub are_nodes : (g : Grammar) (p : ℕ) (parts : List ℕ) → AllByRecursion (IsPart g p) parts → AreNodes g parts
are_nodes g p [] h = tt
are_nodes g p (q ∷ qs) h = (h.0.inside, are_nodes g p qs h.1)

module _ (g : Grammar) (sets : Sets) (are : AreSets g sets) (acyclic : (r : ℕ) → Chain g r r → ⊥) where
  -- ---- several parts

  pub all_nullable : (parts : List ℕ) → AllNullable (node_sets g sets) parts → null.AllNullable g parts
  all_nullable [] h = null.none
  all_nullable (q ∷ qs) h = null.first ((are.nullable q).0 h.0) (all_nullable qs h.1)

  pub begins_first : (parts : List ℕ) → AreNodes g parts → (s : StartKind) → BeginsParts (node_sets g sets) parts s → IsFirstOf g s parts
  begins_first [] h s b = absurd b
  begins_first (q ∷ qs) h s (inl b) = of.here (first_is g sets are q h.0 s b)
  begins_first (q ∷ qs) h s (inr b) = of.after ((are.nullable q).0 b.0) (begins_first qs h.1 s b.1)

  -- the part whose first the start is
  pub record FirstReached (parts : List ℕ) (s : StartKind) : Type 0 where
    pub part : ℕ
    pub reached : ReachedIn g parts part
    pub first : IsFirst g s part

  pub first_reached : {s : StartKind} {parts : List ℕ} → IsFirstOf g s parts → FirstReached parts s
  first_reached (of.here h) = record { part = _; reached = reached.first; first = h }
  first_reached (of.after n h) = let rest = first_reached h in record { part = rest.part; reached = reached.later n rest.reached; first = rest.first }

  pub parts_fall : (level : ℕ) (parts : List ℕ) → ((q : ℕ) → ReachedIn g parts q → (node_sets g sets).level q < level) → PartsFall (node_sets g sets) level parts
  parts_fall level [] h = tt
  parts_fall level (q ∷ qs) h = (h q reached.first, λ n. parts_fall level qs (λ r is. h r (reached.later ((are.nullable q).0 n) is)))

  -- ---- one part

  pub in_falls : (p q : ℕ) (n : Node) → slice_get g.nodes p ≡ Some n → IsPart g p q → ReachedPart g n q → (node_sets g sets).level q < (node_sets g sets).level p
  in_falls p q n e part is = part_falls g sets are acyclic p q n e is part.after part.inside

  pub part_first : (p q : ℕ) (n : Node) → slice_get g.nodes p ≡ Some n → (IsKeyTry g n → ⊥) → ReachedPart g n q → (s : StartKind) → IsFirst g s q → Covers ((node_sets g sets).first p) s
  part_first p q n e bare is s h = first_covers g sets are p (slice_get_within g.nodes p n e) s (of.part e bare is h)

  pub part_fits : (p q : ℕ) (n : Node) → slice_get g.nodes p ≡ Some n → IsPart g p q → (IsKeyTry g n → ⊥) → ReachedPart g n q → (Nullable g q → NullableForm g n) →
      ((s : StartKind) → IsFollow g s p → IsFollow g s q) → PartIsPredictive (node_sets g sets) p q
  part_fits p q n e part bare is empty follow =
      let below = slice_get_within g.nodes p n e in
      record {
        empty = λ h. (are.nullable p).1 (null.at_node e (empty ((are.nullable q).0 h)));
        first = λ s h. part_first p q n e bare is s (first_is g sets are q part.inside s h);
        follow = λ s h. follow_covers g sets are q part.inside s (follow s (follow_is g sets are p below s h));
        falls = in_falls p q n e part is;
      }

  -- ---- sequences

  followed : (p : ℕ) (parts : List ℕ) → slice_get g.nodes p ≡ Some (form.Seq parts) → (these : List ℕ) → AreNodes g these →
      ((q : ℕ) (rest : List ℕ) → StandsBefore q rest these → StandsBefore q rest parts) → PartsFollowed (node_sets g sets) ((node_sets g sets).follow p) these
  followed p parts e [] h among = tt
  followed p parts e (q ∷ qs) h among = (
    λ s b. follow_covers g sets are q h.0 s (next p e (among q qs stands.here) (begins_first qs h.1 s b)),
    λ n s b. follow_covers g sets are q h.0 s (last e (among q qs stands.here) (all_nullable qs n) (follow_is g sets are p (slice_get_within g.nodes p (form.Seq parts) e) s b)),
    followed p parts e qs h.1 (λ r rest is. among r rest (stands.further is)),
  )

  pub seq_fits : IsGrammar g → (p : ℕ) (parts : List ℕ) → slice_get g.nodes p ≡ Some (form.Seq parts) → SeqIsPredictive (node_sets g sets) p parts
  seq_fits grammar p parts e =
      let all = are_parts g grammar p (form.Seq parts) e in
      let nodes = are_nodes g p parts all in
      record {
        empty = λ h. (are.nullable p).1 (null.at_node e (null.seq (all_nullable parts h)));
        first = λ s b. let found = first_reached (begins_first parts nodes s b) in part_first p found.part (form.Seq parts) e no_key_seq (reached.seq found.reached) s found.first;
        follow = followed p parts e parts nodes (λ q rest h. h);
        falls = parts_fall ((node_sets g sets).level p) parts (λ q is. in_falls p q (form.Seq parts) e (reached_is (IsPart g p) all is) (reached.seq is));
      }
