-- What is spread from where starts come from is the first and the follow sets.
use Rattle.std.proofs.Common.{◌≡◌, ℕ, zero, suc, ◌+◌, ◌<◌, Bool, true, List, [], ◌∷◌, Some, slice_get, length, map, take, drop, replicate, refl, sym, ap, subst, ◌∙◌, arith}
use Rattle.std.specs.Prelude.{◌↔◌}
use Rattle.std.proofs.lemmas.List.{length-map, length-replicate}
use Rattle.pg_grammar_value.specs.Grammar.{Grammar, IsGrammar}
use Rattle.pg_graph_bits.specs.Numbers.{contains, set_at}
use Rattle.pg_start.specs.declared.kind.StartKind.{StartKind}
use Rattle.pg_sets.specs.First.{IsFirst, IsFirstOf}
use Rattle.pg_sets.specs.First as first_of
use Rattle.pg_sets.specs.Flows.{follow_of, with_flows, all_flows}
use Rattle.pg_sets.specs.Follow.{IsFollow}
use Rattle.pg_sets.specs.Follow as follow_of_node
use Rattle.pg_graph.specs.Graphs.{has, numbers_at, AreSpread}
use Rattle.pg_sets_own.specs.Listed.{start_of}
use Rattle.pg_sets.specs.Origins.{AreListed}
use Rattle.pg_sets_own.specs.OwnStarts.{MarksKeys}
use Rattle.pg_sets.specs.Sets.{AreStartSets}
use Rattle.pg_sets.specs.Sources.{IsSource}
use Rattle.pg_sets.specs.Sources as source
use Rattle.pg_sets_own.specs.declared.listed.ListedStart.{ListedStart}
use Rattle.pg_sets.proofs.FlowSets.{AreSources, first_sets, follow_sets}
use Rattle.pg_sets.proofs.FlowSound.{follow_is}
use Rattle.pg_sets.proofs.Flowing.{flows_length}
use Rattle.pg_sets_nullable.proofs.Heading.{MarksNullable}

-- ---- lists in two parts

-- each of the first sets is unchanged
pub taken_at : (sets : List (List Bool)) (count k : ℕ) → k < count → set_at (take count sets) k ≡ set_at sets k
taken_at sets zero k below = absurd (omega arith)
taken_at [] (suc count) k below = refl
taken_at (l ∷ ls) (suc count) zero below = refl
taken_at (l ∷ ls) (suc count) (suc k) below = taken_at ls count k (omega arith)

-- each set after the first ones is unchanged
pub dropped_at : (sets : List (List Bool)) (count k : ℕ) → set_at (drop count sets) k ≡ set_at sets (count + k)
dropped_at sets zero k = let same : k ≡ 0 + k = omega arith in ap (set_at sets) same
dropped_at [] (suc count) k = cc
dropped_at (l ∷ ls) (suc count) k = let next : suc (count + k) ≡ suc count + k = omega arith in dropped_at ls count k ∙ ap (set_at (l ∷ ls)) next

-- ---- starts without their names

record Listed (starts : List ListedStart) (k : ℕ) (start : StartKind) : Type 0 where
  listed : ListedStart
  there : slice_get starts k ≡ Some listed
  same : listed.start ≡ start

named : (starts : List ListedStart) (k : ℕ) (start : StartKind) → slice_get (map start_of starts) k ≡ Some start → Listed starts k start
named [] zero start at = absurd cc
named [] (suc k) start at = absurd cc
named (s ∷ ss) zero start at = let same : s.start ≡ start = cc in record { listed = s; there = refl; same = same }
named (s ∷ ss) (suc k) start at = let rest = named ss k start at in record { listed = rest.listed; there = rest.there; same = rest.same }

unnamed : (starts : List ListedStart) (k : ℕ) (listed : ListedStart) → slice_get starts k ≡ Some listed → slice_get (map start_of starts) k ≡ Some listed.start
unnamed [] zero listed at = absurd cc
unnamed [] (suc k) listed at = absurd cc
unnamed (s ∷ ss) zero listed at = let same : s ≡ listed = cc in ap (λ (x : ListedStart). Some x.start) same
unnamed (s ∷ ss) (suc k) listed at = unnamed ss k listed at

are_sources : (g : Grammar) (starts : List ListedStart) (roots : List (List ℕ)) → AreListed g starts roots → AreSources g (map start_of starts) roots
are_sources g starts roots are = record {
  long = are.long ∙ sym (length-map starts start_of);
  sources = λ k v start at.
      let one = named starts k start at in
      subst (λ s. (has (numbers_at roots k) v ≡ true) ↔ IsSource g s v) one.same (are.sources k v one.listed one.there);
}

-- ---- where the starts of sets come from

record Comes (g : Grammar) (start : StartKind) : Type 0 where
  set : ℕ
  source : IsSource g start set

first_comes : {g : Grammar} {start : StartKind} {p : ℕ} → IsFirst g start p → Comes g start
first_comes (first_of.own {p = p} at is) = record { set = p; source = source.own at is }
first_comes (first_of.part at no_key reaches is) = first_comes is
first_comes (first_of.rule at e is) = first_comes is

some_comes : {g : Grammar} {start : StartKind} {parts : List ℕ} → IsFirstOf g start parts → Comes g start
some_comes (first_of.here is) = first_comes is
some_comes (first_of.after null is) = some_comes is

follow_comes : {g : Grammar} {start : StartKind} {p : ℕ} → IsFollow g start p → Comes g start
follow_comes (follow_of_node.at_end e) = record { set = _; source = source.at_end e refl }
follow_comes (follow_of_node.used at e is) = follow_comes is
follow_comes (follow_of_node.next p at stands is) = some_comes is
follow_comes (follow_of_node.last at stands all is) = follow_comes is
follow_comes (follow_of_node.alternative k at e is) = follow_comes is
follow_comes (follow_of_node.next_round p at is) = first_comes is
follow_comes (follow_of_node.last_round at is) = follow_comes is
follow_comes (follow_of_node.next_link p at chain is) = some_comes is
follow_comes (follow_of_node.last_link at chain is) = follow_comes is
follow_comes (follow_of_node.operand p at chain is) = first_comes is
follow_comes (follow_of_node.over_operand p at chain null is) = some_comes is
follow_comes (follow_of_node.last_operand at chain null is) = follow_comes is
follow_comes (follow_of_node.operator p at is) = record { set = _; source = source.operator p at is refl }
follow_comes (follow_of_node.last_term at is) = follow_comes is
follow_comes (follow_of_node.only at has_only is) = follow_comes is

module _ (g : Grammar) (nullable keys : List Bool) (on : MarksNullable g nullable) (tries : MarksKeys g keys) (grammar : IsGrammar g)
    (graph roots : List (List ℕ)) (sets : List (List Bool)) (graph_is : graph ≡ with_flows (replicate (length g.nodes + length g.nodes) []) (all_flows g.rules nullable keys (length g.nodes) 0 g.nodes))
    (starts : List ListedStart) (are : AreListed g starts roots) (spread : AreSpread graph roots sets) where
  pub graph_size : length graph ≡ length g.nodes + length g.nodes
  graph_size = ap length graph_is ∙ (flows_length (replicate (length g.nodes + length g.nodes) []) (all_flows g.rules nullable keys (length g.nodes) 0 g.nodes) ∙ length-replicate {A = List ℕ} (length g.nodes + length g.nodes) [])

  firsts_of : (p k : ℕ) (start : StartKind) → p < length g.nodes → slice_get (map start_of starts) k ≡ Some start → (contains (set_at sets p) k ≡ true) ↔ IsFirst g start p
  firsts_of = first_sets g nullable keys on tries grammar graph roots sets graph_is (map start_of starts) (are_sources g starts roots are) spread

  follows_of : (p k : ℕ) (start : StartKind) → p < length g.nodes → slice_get (map start_of starts) k ≡ Some start
      → (contains (set_at sets (follow_of (length g.nodes) p)) k ≡ true) ↔ IsFollow g start p
  follows_of = follow_sets g nullable keys on tries grammar graph roots sets graph_is (map start_of starts) (are_sources g starts roots are) spread

  first_place : (p : ℕ) → p < length g.nodes → set_at (take (length g.nodes) sets) p ≡ set_at sets p
  first_place p below = taken_at sets (length g.nodes) p below

  follow_place : (p : ℕ) → p < length g.nodes → set_at (drop (length g.nodes) sets) p ≡ set_at sets (follow_of (length g.nodes) p)
  follow_place p below = dropped_at sets (length g.nodes) p ∙ ap (set_at sets) (sym (follow_is (length g.nodes) p below))

  limited : (v : ℕ) → v < length graph → length (set_at sets v) ≡ length starts
  limited v below = spread.limit v below ∙ are.long

  pub are_start_sets : AreStartSets g starts (take (length g.nodes) sets) (drop (length g.nodes) sets)
  are_start_sets = record {
    ordered = are.ordered;
    listed = are.listed;
    first = λ p start below. (
      λ h. subst (λ s. IsFirst g s p) h.same ((firsts_of p h.number (start_of h.listed) below (unnamed starts h.number h.listed h.there)).0 (ap (λ set. contains set h.number) (sym (first_place p below)) ∙ h.member)),
      λ is.
          let comes = first_comes is in
          let at = are.all start comes.set comes.source in
          record {
            number = at.place;
            listed = at.listed;
            member = ap (λ set. contains set at.place) (first_place p below)
                ∙ (firsts_of p at.place (start_of at.listed) below (unnamed starts at.place at.listed at.there)).1 (subst (λ s. IsFirst g s p) (sym at.same) is);
            there = at.there;
            same = at.same;
          },
    );
    follow = λ p start below. (
      λ h. subst (λ s. IsFollow g s p) h.same ((follows_of p h.number (start_of h.listed) below (unnamed starts h.number h.listed h.there)).0 (ap (λ set. contains set h.number) (sym (follow_place p below)) ∙ h.member)),
      λ is.
          let comes = follow_comes is in
          let at = are.all start comes.set comes.source in
          record {
            number = at.place;
            listed = at.listed;
            member = ap (λ set. contains set at.place) (follow_place p below)
                ∙ (follows_of p at.place (start_of at.listed) below (unnamed starts at.place at.listed at.there)).1 (subst (λ s. IsFollow g s p) (sym at.same) is);
            there = at.there;
            same = at.same;
          },
    );
    first_limit = λ p below. let size = graph_size in ap length (first_place p below) ∙ limited p (omega arith);
    follow_limit = λ p below.
        let size = graph_size in
        let place = follow_is (length g.nodes) p below in
        ap length (follow_place p below) ∙ limited (follow_of (length g.nodes) p) (omega arith);
    plain = are.plain;
  }
