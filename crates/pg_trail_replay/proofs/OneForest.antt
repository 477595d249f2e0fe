-- Along a trail over a whole text there is one forest at most, and where there is one, nothing stops.
use Rattle.std.proofs.Common.{◌≡◌, ◌++◌, ℕ, zero, suc, List, [], ◌∷◌, refl, sym, ap, subst, ◌∙◌, append-nil, arith}
use Rattle.std.specs.Prelude.{length}
use Rattle.pg_tree.specs.Trees.{Tree}
use Rattle.pg_grammar_value.specs.Grammar.{Grammar}
use Rattle.pg_grammar_value.specs.declared.grammar.Rule as declared
use Rattle.pg_grammar_value.specs.declared.trail.TrailItem.{TrailItem}
use Rattle.pg_table.specs.Tables.{Table}
use Rattle.pg_language.specs.Derives.{Spot, Derives}
use Rattle.pg_trail_replay.specs.Refusals.{Stop, Refuses}
use Rattle.pg_trail_replay.specs.Ends.{IsDerived, beginning, Stops, in_start, left_over, HasNoForest}
use Rattle.pg_trail_replay.proofs.ProperTables.{IsProper}
use Rattle.pg_trail_replay.proofs.SameDerivation.{same, same_rest}
use Rattle.pg_trail_replay.proofs.Sized.{sized}
use Rattle.pg_trail_replay.proofs.NotRefused.{IsOpen, AreOpen, not_refused}

module _ (g : Grammar) (text : List ℕ) (table : Table) (items : List TrailItem) (proper : IsProper table) where
  pub only_forest : (v w : List Tree) → IsDerived g text table items v → IsDerived g text table items w → v ≡ w
  only_forest v w x y =
      let one = x.derived.is_start in
      let other = y.derived.is_start in
      let rules : y.derived.start ≡ x.derived.start = cc in
      (same [] [] proper (sized x.derived.body).1
      (sized (subst (λ (r : declared.Rule). Derives g text r.body (beginning table) (let b : Spot = record { place = length text; table = y.after } in b) w items) rules y.derived.body)).1 refl).forests

  pub never_stops : (v : List Tree) (s : Stop) → IsDerived g text table items v → Stops g text table items s → ⊥
  never_stops v s x (in_start {start = other} there h) =
      let is = x.derived.is_start in
      let rules : other ≡ x.derived.start = cc in
      let whole = sized x.derived.body in
      let all : items ≡ items ++ [] = sym (append-nil items) in
      not_refused [] items (g.start ∷ []) s proper whole.1 (subst (λ (r : declared.Rule). Refuses g text (g.start ∷ []) r.body (beginning table) items s) rules h) all
      (begun whole.0 (record {
        named = x.derived.start;
        there = is;
        size = whole.0;
        larger = omega arith;
        end = record { place = length text; table = x.after };
        forest = v;
        trail = items;
        rest = [];
        derived = whole.1;
        taken = all;
      }))
    where
      begun : (m : ℕ) → IsOpen g text m g.start (beginning table) items → AreOpen g text m (g.start ∷ []) (beginning table) items
      begun m o zero r e = subst (λ r. IsOpen g text m r (beginning table) items) (let one : g.start ≡ r = cc in one) o
      begun m o (suc k) r e = absurd cc
  never_stops v s x (left_over {start = other} {b = b} {forest = w} {taken = taken} {rest = rest} there d e over) =
      let is = x.derived.is_start in
      let rules : other ≡ x.derived.start = cc in
      let all : items ++ [] ≡ taken ++ rest = append-nil items ∙ e in
      let z = same [] rest proper (sized x.derived.body).1 (sized (subst (λ (r : declared.Rule). Derives g text r.body (beginning table) b w taken) rules d)).1 all in
      over (sym (ap (λ (s : Spot). s.place) z.spots)) (sym (same_rest items taken [] rest z.trails all))

  pub none_where_stopped : (s : Stop) → Stops g text table items s → HasNoForest g text table items
  none_where_stopped s h = λ v x. never_stops v s x h
