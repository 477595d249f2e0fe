-- The result of a whole run.
use Rattle.std.proofs.Common.{◌≡◌, ℕ, List, [], ◌∷◌, ◌++◌, refl, sym, ap, ◌∙◌, subst, length, append-nil}
use Rattle.std.specs.Prelude.{Option, Some, None, slice_get, option_map}
use Rattle.pg_tree.specs.Trees.{Tree}
use Rattle.pg_grammar_value.specs.Grammar.{Grammar, rule_body}
use Rattle.pg_grammar_value.specs.declared.grammar.Rule as declared
use Rattle.pg_grammar_value.specs.declared.trail.TrailItem.{TrailItem}
use Rattle.pg_table.specs.Tables.{Table}
use Rattle.pg_language.specs.Derives.{Spot, Derives}
use Rattle.pg_trail_replay.specs.declared.replay_fault.Stop as declared_stop
use Rattle.pg_trail_replay.specs.declared.replay_fault.ReplayFault.{ReplayFault}
use Rattle.pg_trail_replay.specs.declared.replay_fault.ReplayFault.TheVariants.{Stopped, Memory}
use Rattle.pg_trail_replay.specs.declared.replay_fault.Mismatch.TheVariants.{LeftOver}
use Rattle.pg_trail_replay.specs.Refusals.{Stop, Refuses}
use Rattle.pg_trail_replay.specs.Ends.{IsDerived, beginning, Stops, in_start, left_over, IsTold, IsTheForest, IsFault}
use Rattle.pg_trail_replay.specs.Halts.{first_state, IsEnd, IsStopOf, IsHalt, stop_told}
use Rattle.pg_trail_replay.specs.Tasks.{Looseness, tight, OnTask, node, Setting, State, Turn, on, stops, ended, turn, turn_by, next_turn, with_tasks}
use Rattle.pg_trail_replay.proofs.Alike.{IsAlike}
use Rattle.pg_trail_replay.proofs.Leads.{End, arrived, halted, Leads, no_task, does, refuses, does_node, refuses_node, spot_of, StateLeads, Follows}
use Rattle.pg_trail_replay.proofs.ProperTables.{IsProper, ProperTurn, next_proper}
use Rattle.pg_trail_replay.proofs.Follow.{task_follows}
use Rattle.pg_trail_replay.proofs.KnownBodies.{IsSo, none_known}
use Rattle.pg_trail_replay.proofs.OpenRules.{TellsTruth, tells_on}
use Rattle.pg_trail_replay.proofs.OneForest.{only_forest, none_where_stopped}

-- what the tasks of a state lead to is what comes of the next turn
abbrev pub ComesOf : Grammar → List ℕ → List OnTask → State → Turn → Type 0
ComesOf g text ts s (on after) = (e : End) → StateLeads g text after e → Leads g text s.setting ts s.entered (spot_of s) s.forest s.rest e
ComesOf g text ts s (stops why place rest) = Leads g text s.setting ts s.entered (spot_of s) s.forest s.rest (halted (record { why = why; place = place; rest = rest }))
ComesOf g text ts s (ended after) = (ts ≡ []) × (after ≡ s)

followed : (g : Grammar) (text : List ℕ) (t : OnTask) (ts : List OnTask) (s : State) (x : Turn) → turn g text t (with_tasks ts s) ≡ x → Follows g text t (with_tasks ts s) x → ComesOf g text (t ∷ ts) s x
followed g text t ts s (on after) e h = h
followed g text t ts s (stops why place rest) e h = h
followed g text t ts s (ended after) e h = absurd h

comes : (g : Grammar) (text : List ℕ) (ts : List OnTask) (s : State) → IsProper s.table → IsSo g text s.known s.blank → ComesOf g text ts s (turn_by g text ts s)
comes g text [] s proper known = (refl, refl)
comes g text (t ∷ ts) s proper known = followed g text t ts s (turn g text t (with_tasks ts s)) refl (task_follows g text t (with_tasks ts s) proper known)

-- every end of the one state is one of the other, its table is proper, and everything that it records is true
pub record Onward (g : Grammar) (text : List ℕ) (now first : State) : Type 0 where
  pub ends : (e : End) → StateLeads g text now e → StateLeads g text first e
  pub proper : IsProper now.table
  pub truth : TellsTruth g text now

pub stays_onward : (g : Grammar) (text : List ℕ) (body : ℕ) (table : Table) (items : List TrailItem) (s : State) → IsProper table → s ≡ first_state g body table items → Onward g text s s
stays_onward g text body table items s proper is = record {
  ends = λ e h. h;
  proper = subst (λ (s : State). IsProper s.table) (sym is) proper;
  truth = subst (TellsTruth g text) (sym is) (record { known = none_known g text (length g.rules) (length g.nodes); ends = (tt, tt) });
}

pub turned_onward : (g : Grammar) (text : List ℕ) (s after first : State) → on after ≡ next_turn g text s → Onward g text s first → Onward g text after first
turned_onward g text s after first e h = record {
  ends = λ end k. h.ends end (subst (ComesOf g text s.tasks s) (sym e) (comes g text s.tasks s h.proper h.truth.known) end k);
  proper = subst ProperTurn (sym e) (next_proper g text s.tasks s h.proper);
  truth = tells_on g text s.tasks s after e h.proper h.truth.known h.truth.ends;
}

abbrev spot_at : ℕ → Table → Spot
spot_at place table = record { place = place; table = table }

-- what is around the start rule
abbrev calm_setting : Setting
calm_setting = record { marks = []; loose = tight }

abbrev stop_with : declared_stop.Stop → List TrailItem → Stop
stop_with z rest = record { why = z.why; place = z.place; rest = rest }

module _ (g : Grammar) (text : List ℕ) (table : Table) (items : List TrailItem) where
  -- from the end of the start rule's body
  arrived_start : (ms : Setting) (named : declared.Rule) (entered : List ℕ) (v x : List Tree) (all rest : List TrailItem) (loose : Looseness) (b : Spot) → ms.loose ≡ tight →
      Leads g text ms (node named.body ∷ []) entered (beginning table) v all (arrived loose b x rest) → v ≡ [] →
      (taken : List TrailItem) × (Derives g text named.body (beginning table) b x taken × (all ≡ taken ++ rest))
  arrived_start ms named entered v x all rest loose b calm (does {u = u} (does_node {w = w} {x = y} d h) no_task) e =
      let same : y ≡ w = subst (λ l. IsAlike l y w) calm h.is in
      (u, (subst (λ z. Derives g text named.body (beginning table) b (z ++ y) u) (sym e) (subst (λ z. Derives g text named.body (beginning table) b z u) (sym same) d), refl))

  halted_start : (ms : Setting) (named : declared.Rule) (entered : List ℕ) (v : List Tree) (all : List TrailItem) (s : Stop) → slice_get g.rules g.start ≡ Some named → entered ≡ g.start ∷ [] →
      Leads g text ms (node named.body ∷ []) entered (beginning table) v all (halted s) → Stops g text table all s
  halted_start ms named entered v all s there e (refuses (refuses_node h)) = in_start there (subst (λ o. Refuses g text o named.body (beginning table) all s) e h)
  halted_start ms named entered v all s there e (does d h) = elim h [ ]

  pub whole_derived : (named : declared.Rule) (x : Turn) (s : State) (forest : List Tree) → slice_get g.rules g.start ≡ Some named → x ≡ next_turn g text s → IsEnd text x forest →
      Onward g text s (first_state g named.body table items) → IsDerived g text table items forest
  whole_derived named (on after) s forest there e h k = absurd h
  whole_derived named (stops why place rest) s forest there e h k = absurd h
  whole_derived named (ended after) s forest there e h k =
      let c : ComesOf g text s.tasks s (ended after) = subst (ComesOf g text s.tasks s) (sym e) (comes g text s.tasks s k.proper k.truth.known) in
      let lead : StateLeads g text s (arrived s.setting.loose (spot_of s) s.forest s.rest) =
      subst (λ ts. Leads g text s.setting ts s.entered (spot_of s) s.forest s.rest (arrived s.setting.loose (spot_of s) s.forest s.rest)) (sym c.0) no_task in
      let r = arrived_start calm_setting named (g.start ∷ []) [] s.forest items s.rest s.setting.loose (spot_of s) refl (k.ends (arrived s.setting.loose (spot_of s) s.forest s.rest) lead) refl in
      let place : s.place ≡ length text = sym (ap (λ (z : State). z.place) c.1) ∙ h.0 in
      let none : s.rest ≡ [] = sym (ap (λ (z : State). z.rest) c.1) ∙ h.1 in
      let same : s.forest ≡ forest = sym (h.2 ∙ ap (λ (z : State). z.forest) c.1) in
      let all : r.0 ≡ items = sym (r.1.1 ∙ ap (λ rest. r.0 ++ rest) none ∙ append-nil r.0) in
      record {
        after = s.table;
        derived = record {
          start = named;
          is_start = there;
          body = subst (λ t. Derives g text named.body (beginning table) (spot_at (length text) s.table) forest t) all
              (subst (λ f. Derives g text named.body (beginning table) (spot_at (length text) s.table) f r.0) same
              (subst (λ i. Derives g text named.body (beginning table) (spot_at i s.table) s.forest r.0) place r.1.0));
        };
      }

  whole_stop : (named : declared.Rule) (x : Turn) (s : State) (t : declared_stop.Stop) → slice_get g.rules g.start ≡ Some named → x ≡ next_turn g text s → IsStopOf text x t →
      Onward g text s (first_state g named.body table items) → IsTold g text table items t
  whole_stop named (on after) s t there e h k = absurd h
  whole_stop named (stops why place rest) s t there e h k =
      let c : ComesOf g text s.tasks s (stops why place rest) = subst (ComesOf g text s.tasks s) (sym e) (comes g text s.tasks s k.proper k.truth.known) in
      let at : Stops g text table items (stop_with (stop_told why place (length rest)) rest) = halted_start calm_setting named (g.start ∷ []) [] items _ there refl (k.ends _ c) in
      record {
        rest = rest;
        left = sym (ap (λ (z : declared_stop.Stop). z.left) h);
        stops = subst (λ z. Stops g text table items (stop_with z rest)) (sym h) at;
      }
  whole_stop named (ended after) s t there e h k =
      let c : ComesOf g text s.tasks s (ended after) = subst (ComesOf g text s.tasks s) (sym e) (comes g text s.tasks s k.proper k.truth.known) in
      let lead : StateLeads g text s (arrived s.setting.loose (spot_of s) s.forest s.rest) =
      subst (λ ts. Leads g text s.setting ts s.entered (spot_of s) s.forest s.rest (arrived s.setting.loose (spot_of s) s.forest s.rest)) (sym c.0) no_task in
      let r = arrived_start calm_setting named (g.start ∷ []) [] s.forest items s.rest s.setting.loose (spot_of s) refl (k.ends (arrived s.setting.loose (spot_of s) s.forest s.rest) lead) refl in
      let over = subst (λ (z : State). z.place ≡ length text → z.rest ≡ [] → ⊥) c.1 h.0 in
      let told : t ≡ stop_told LeftOver s.place (length s.rest) = h.1 ∙ ap (λ (z : State). stop_told LeftOver z.place (length z.rest)) c.1 in
      record {
        rest = s.rest;
        left = sym (ap (λ (z : declared_stop.Stop). z.left) told);
        stops = subst (λ z. Stops g text table items (stop_with z s.rest)) (sym told) (left_over there r.1.0 r.1.1 over);
      }

  whole_fault : (named : declared.Rule) (x : Turn) (s : State) (fault : ReplayFault) → IsProper table → slice_get g.rules g.start ≡ Some named → x ≡ next_turn g text s → IsHalt text x fault →
      Onward g text s (first_state g named.body table items) → IsFault g text table items fault
  whole_fault named x s Memory proper there e h k = tt
  whole_fault named x s (Stopped t) proper there e h k = let told = whole_stop named x s t there e h k in (told, none_where_stopped g text table items proper (record { why = t.why; place = t.place; rest = told.rest }) told.stops)

-- the rule whose body that is
pub some_rule : (o : Option declared.Rule) (body : ℕ) → option_map rule_body o ≡ Some body → (named : declared.Rule) × ((o ≡ Some named) × (named.body ≡ body))
some_rule None body e = absurd cc
some_rule (Some named) body e = let same : named.body ≡ body = cc in (named, (refl, same))

module _ (g : Grammar) (text : List ℕ) (table : Table) (items : List TrailItem) (body : ℕ) (x : Turn) (s first : State) (proper : IsProper table) where
  -- where the run began with the start rule's body, its end is the only derivation
  pub derived_from : (forest : List Tree) → option_map rule_body (slice_get g.rules g.start) ≡ Some body → first ≡ first_state g body table items →
      x ≡ next_turn g text s → Onward g text s first → IsEnd text x forest → IsTheForest g text table items forest
  derived_from forest there is e k h =
      let rule = some_rule (slice_get g.rules g.start) body there in
      let begun : first ≡ first_state g rule.0.body table items = is ∙ ap (λ b. first_state g b table items) (sym rule.1.1) in
      let derived = whole_derived g text table items rule.0 x s forest rule.1.0 e h (subst (Onward g text s) begun k) in
      record { derived = derived; only = λ other y. only_forest g text table items proper other forest y derived }

  -- or the place where it stops
  pub fault_from : (fault : ReplayFault) → option_map rule_body (slice_get g.rules g.start) ≡ Some body → first ≡ first_state g body table items →
      x ≡ next_turn g text s → Onward g text s first → IsHalt text x fault → IsFault g text table items fault
  fault_from fault there is e k h =
      let rule = some_rule (slice_get g.rules g.start) body there in
      let begun : first ≡ first_state g rule.0.body table items = is ∙ ap (λ b. first_state g b table items) (sym rule.1.1) in
      whole_fault g text table items rule.0 x s fault proper rule.1.0 e h (subst (Onward g text s) begun k)
