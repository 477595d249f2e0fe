-- What is spread along the edges is the first and the follow sets.
use Rattle.std.proofs.Common.{◌≡◌, ℕ, ◌+◌, ◌<◌, Bool, true, List, [], Some, slice_get, length, replicate, sym, ap, subst, ◌∙◌, arith}
use Rattle.std.specs.Prelude.{◌↔◌}
use Rattle.std.proofs.lemmas.List.{length-replicate}
use Rattle.std.proofs.lemmas.Option.{slice_get_within}
use Rattle.pg_grammar_value.specs.Grammar.{Grammar, IsGrammar, rule_body}
use Rattle.pg_graph_bits.specs.Numbers.{contains, set_at}
use Rattle.pg_start.specs.declared.kind.StartKind.{StartKind}
use Rattle.pg_sets.specs.First.{IsFirst}
use Rattle.pg_sets.specs.Flows.{follow_of, with_flows, all_flows}
use Rattle.pg_sets.specs.Follow.{IsFollow}
use Rattle.pg_sets.specs.Follow as follow
use Rattle.pg_sets.specs.First as first_of
use Rattle.pg_graph.specs.Graphs.{has, numbers_at, IsReached, AreSpread}
use Rattle.pg_sets.specs.Sources.{IsSource}
use Rattle.pg_sets.specs.Sources as source
use Rattle.pg_sets.proofs.FlowComplete.{first_met, follow_met}
use Rattle.pg_sets.proofs.FlowSound.{Holds, follow_is, to_first, to_follow, from_follow, flow_sound}
use Rattle.pg_sets_own.specs.OwnStarts.{MarksKeys}
use Rattle.pg_sets.proofs.Flowing.{flows_length}
use Rattle.pg_sets_nullable.proofs.Heading.{MarksNullable}

-- a source holds its start
source_holds : {g : Grammar} {start : StartKind} {v : ℕ} → IsSource g start v → Holds g start v
source_holds {g} {start} (source.own {p = p} {n = n} at is) = to_first g start p (slice_get_within g.nodes p n at) (first_of.own at is)
source_holds {g} {start} (source.at_end {named = named} at e) = subst (Holds g start) (sym e) (to_follow g start (rule_body named) (λ below. follow.at_end at))
source_holds {g} {start} (source.operator p {term = term} at is e) = subst (Holds g start) (sym e) (to_follow g start term (λ below. follow.operator p at is))

-- each list of roots has the sources of its start
pub record AreSources (g : Grammar) (starts : List StartKind) (roots : List (List ℕ)) : Type 0 where
  pub long : length roots ≡ length starts
  pub sources : (k v : ℕ) (start : StartKind) → slice_get starts k ≡ Some start → (has (numbers_at roots k) v ≡ true) ↔ IsSource g start v

module _ (g : Grammar) (nullable keys : List Bool) (on : MarksNullable g nullable) (tries : MarksKeys g keys) (grammar : IsGrammar g)
    (graph roots : List (List ℕ)) (sets : List (List Bool)) (graph_is : graph ≡ with_flows (replicate (length g.nodes + length g.nodes) []) (all_flows g.rules nullable keys (length g.nodes) 0 g.nodes))
    (starts : List StartKind) (are : AreSources g starts roots) (spread : AreSpread graph roots sets) where
  size : length graph ≡ length g.nodes + length g.nodes
  size = ap length graph_is ∙ (flows_length (replicate (length g.nodes + length g.nodes) []) (all_flows g.rules nullable keys (length g.nodes) 0 g.nodes) ∙ length-replicate {A = List ℕ} (length g.nodes + length g.nodes) [])

  holds : (k v : ℕ) (start : StartKind) → slice_get starts k ≡ Some start → IsReached graph (numbers_at roots k) v → Holds g start v
  holds k v start at is = flow_sound g start nullable keys on tries grammar graph (numbers_at roots k) graph_is (λ u h. source_holds ((are.sources k u start at).0 h)) is

  -- the first set of a node has the numbers of the starts that are among its first
  pub first_sets : (p k : ℕ) (start : StartKind) → p < length g.nodes → slice_get starts k ≡ Some start → (contains (set_at sets p) k ≡ true) ↔ IsFirst g start p
  first_sets p k start inside at =
      let long = size in
      let some = slice_get_within starts k start at in
      let count = are.long in
      let members = spread.members p k (omega arith) in (
        λ h. (holds k p start at (members.0 h).1).first inside,
        λ is. members.1 (omega arith, first_met g start nullable keys on tries grammar graph (numbers_at roots k) graph_is (λ v. are.sources k v start at) is),
      )

  -- the follow set of a node has the numbers of the starts that can follow it
  pub follow_sets : (p k : ℕ) (start : StartKind) → p < length g.nodes → slice_get starts k ≡ Some start
      → (contains (set_at sets (follow_of (length g.nodes) p)) k ≡ true) ↔ IsFollow g start p
  follow_sets p k start inside at =
      let long = size in
      let some = slice_get_within starts k start at in
      let count = are.long in
      let v = follow_of (length g.nodes) p in
      let place = follow_is (length g.nodes) p inside in
      let members = spread.members v k (omega arith) in (
        λ h. from_follow g start p inside (holds k v start at (members.0 h).1),
        λ is. members.1 (omega arith, follow_met g start nullable keys on tries grammar graph (numbers_at roots k) graph_is (λ u. are.sources k u start at) is),
      )
