-- Turn by turn, everything known about rules is true, and so are the ends of the open ones.
use Rattle.std.proofs.Common.{◌≡◌, ◌==◌, ◌&&◌, ℕ, Bool, true, false, List, [], ◌∷◌, ◌++◌, length, refl, sym, ap, ◌∙◌, subst, eqb-true, append-nil, if◌then◌else◌}
use Rattle.std.specs.Prelude.{Some, set}
use Rattle.pg_tree.specs.Trees.{Tree}
use Rattle.pg_grammar_form.specs.declared.form.Around.{Around}
use Rattle.pg_grammar_form.specs.declared.form.Form.TheVariants as form
use Rattle.pg_grammar_value.specs.Grammar.{Grammar}
use Rattle.pg_grammar_value.specs.declared.grammar.Rule as declared
use Rattle.pg_grammar_value.specs.declared.trail.TrailItem.{TrailItem}
use Rattle.pg_table.specs.Tables.{Table}
use Rattle.pg_language.specs.Derives as derives
use Rattle.pg_language.specs.Derives.{Spot, left_by, made_by, Derives, DerivesForm}
use Rattle.pg_language.proofs.Onward.{left_still}
use Rattle.pg_trail_replay.specs.Tasks.{Looseness, only_text, OnTask, close, leave, State, Turn, on, stops, ended, with_tasks, is_still, known_now, makes_empty_leaf, turn, turn_by}
use Rattle.pg_trail_replay.proofs.Alike.{text_in, Alike}
use Rattle.pg_trail_replay.proofs.AnyTable.{any_table}
use Rattle.pg_trail_replay.proofs.Follow.{task_follows}
use Rattle.pg_trail_replay.proofs.KnownBodies.{TakesNothing, AreKnown, IsBlank, AreBlank, IsSo, one_more_known, one_more_blank}
use Rattle.pg_trail_replay.proofs.Leads.{arrived, Leads, no_task, spot_of, Follows}
use Rattle.pg_trail_replay.proofs.LeftOut.{no_tree_more, no_item_more}
use Rattle.pg_trail_replay.proofs.NoText.{no_text, empty_made}
use Rattle.pg_trail_replay.proofs.Open.{HasDerived, BodyDerived, PartDerived, AreTrueAfter, true_after_both, all_true}
use Rattle.pg_trail_replay.proofs.ProperTables.{IsProper}
use Rattle.pg_trail_replay.proofs.TasksBelow.{bare, below, TellsTruly, known_by, blank_by, turn_goes}

abbrev spot_at : ℕ → Table → Spot
spot_at place table = record { place = place; table = table }

-- everything that the state records is true
pub record TellsTruth (g : Grammar) (text : List ℕ) (s : State) : Type 0 where
  pub known : IsSo g text s.known s.blank
  pub ends : AreTrueAfter g text (bare s) [] s.tasks

module _ (g : Grammar) (text : List ℕ) where
  -- ---- what took nothing

  -- it takes nothing whatever the table
  still : (q trees : ℕ) (loose : Looseness) (s : State) (h : HasDerived g text q s.place trees (length s.rest) loose (spot_of s) s.forest s.rest) → (table : Table) →
      Derives g text q (spot_at s.place table) (spot_at s.place table) h.real []
  still q trees loose s h table =
      let taken : h.taken ≡ [] = no_item_more h.taken s.rest h.counted in
      subst (λ i. Derives g text q (spot_at i table) (spot_at i table) h.real []) h.at_place
      (subst (λ u. Derives g text q (spot_at h.from.place table) (spot_at h.from.place table) h.real u) taken (any_table h.derived taken h.at_place table))

  -- where there are as many trees as before, it gives none that can't be left out
  no_tree_given : (q trees : ℕ) (loose : Looseness) (s : State) (h : HasDerived g text q s.place trees (length s.rest) loose (spot_of s) s.forest s.rest) →
      trees ≡ length s.forest → Alike loose [] h.real
  no_tree_given q trees loose s h many =
      subst (λ x. Alike loose x h.real) (no_tree_more h.before h.given (h.after_trees ∙ many ∙ ap length h.made)) h.alike

  given_then : (q trees : ℕ) (loose : Looseness) (s : State) (h : HasDerived g text q s.place trees (length s.rest) loose (spot_of s) s.forest s.rest) → text_in h.real ≡ [] →
      (many : Bool) → (trees == length s.forest) ≡ many → Alike (if many then loose else only_text) [] h.real
  given_then q trees loose s h none true e = no_tree_given q trees loose s h (eqb-true trees (length s.forest) e)
  given_then q trees loose s h none false e = record { is = sym none }

  nothing_taken : (r trees : ℕ) (s : State) → BodyDerived g text r s.place trees (length s.rest) s.setting.loose (spot_of s) s.forest s.rest → TakesNothing g text r (known_now trees s)
  nothing_taken r trees s b =
      let h : HasDerived g text b.0.body s.place trees (length s.rest) s.setting.loose (spot_of s) s.forest s.rest = b.2 in
      let there = b.1 in
      λ named is table.
      let one : b.0 ≡ named = (let other = is in cc) in (
        h.real,
        (
          subst (λ (n : declared.Rule). Derives g text n.body (spot_at s.place table) (spot_at s.place table) h.real []) one (still b.0.body trees s.setting.loose s h table),
          given_then b.0.body trees s.setting.loose s h (no_text (still b.0.body trees s.setting.loose s h s.table) refl refl) (trees == length s.forest) refl,
        ),
      )

  blank_made : (k : Around) (p trees : ℕ) (loose : Looseness) (s : State) → makes_empty_leaf k ≡ true → PartDerived g text k p s.place trees (length s.rest) loose (spot_of s) s.forest s.rest → IsBlank g text p s.place
  blank_made k p trees loose s makes b = λ table.
      let q = b.0 in
      let h : HasDerived g text q s.place trees (length s.rest) loose (spot_of s) s.forest s.rest = b.2 in
      let d : Derives g text q (spot_at s.place table) (spot_at s.place table) h.real [] = still q trees loose s h table in
      let made : DerivesForm g text (form.Around k q) (spot_at s.place table) (left_by k (spot_at s.place table) (spot_at s.place table)) (made_by k text s.place s.place h.real) [] = derives.around d in
      subst (λ w. Derives g text p (spot_at s.place table) (spot_at s.place table) w []) (empty_made text k s.place h.real makes (no_text d refl refl))
      (derives.at_node b.1 (subst (λ e. DerivesForm g text (form.Around k q) (spot_at s.place table) e (made_by k text s.place s.place h.real) []) (left_still k (spot_at s.place table) (spot_at s.place table) refl) made))

  all_two : (a b : Bool) → a && b ≡ true → (a ≡ true) × (b ≡ true)
  all_two true b e = (refl, e)
  all_two false b e = absurd cc

  known_then : (r place trees count : ℕ) (s : State) → AreKnown g text s.known →
      ((loose : Looseness) (b : Spot) (x : List Tree) (rest : List TrailItem) → Leads g text s.setting [] s.entered (spot_of s) s.forest s.rest (arrived loose b x rest) → BodyDerived g text r place trees count loose b x rest) →
      (unchanged : Bool) → is_still place count s ≡ unchanged → AreKnown g text (if unchanged then set s.known r (Some (known_now trees s)) else s.known)
  known_then r place trees count s known told false e = known
  known_then r place trees count s known told true e =
      let same = all_two (place == s.place) (count == length s.rest) e in
      let h : BodyDerived g text r s.place trees (length s.rest) s.setting.loose (spot_of s) s.forest s.rest =
      subst (λ i. BodyDerived g text r i trees (length s.rest) s.setting.loose (spot_of s) s.forest s.rest) (eqb-true place s.place same.0)
      (subst (λ n. BodyDerived g text r place trees n s.setting.loose (spot_of s) s.forest s.rest) (eqb-true count (length s.rest) same.1) (told s.setting.loose (spot_of s) s.forest s.rest no_task)) in
      one_more_known g text s.known r (known_now trees s) known (nothing_taken r trees s h)

  blank_then : (k : Around) (p place trees count : ℕ) (s : State) → AreBlank g text s.blank →
      ((loose : Looseness) (b : Spot) (x : List Tree) (rest : List TrailItem) → Leads g text s.setting [] s.entered (spot_of s) s.forest s.rest (arrived loose b x rest) → PartDerived g text k p place trees count loose b x rest) →
      (blank : Bool) → makes_empty_leaf k && is_still place count s ≡ blank → AreBlank g text (if blank then set s.blank p (Some s.place) else s.blank)
  blank_then k p place trees count s are told false e = are
  blank_then k p place trees count s are told true e =
      let makes = all_two (makes_empty_leaf k) (is_still place count s) e in
      let same = all_two (place == s.place) (count == length s.rest) makes.1 in
      let h : PartDerived g text k p s.place trees (length s.rest) s.setting.loose (spot_of s) s.forest s.rest =
      subst (λ i. PartDerived g text k p i trees (length s.rest) s.setting.loose (spot_of s) s.forest s.rest) (eqb-true place s.place same.0)
      (subst (λ n. PartDerived g text k p place trees n s.setting.loose (spot_of s) s.forest s.rest) (eqb-true count (length s.rest) same.1) (told s.setting.loose (spot_of s) s.forest s.rest no_task)) in
      one_more_blank g text s.blank p s.place are (blank_made k p trees s.setting.loose s makes.0 h)

  so_on : (t : OnTask) (ts : List OnTask) (s : State) → IsSo g text s.known s.blank → AreTrueAfter g text (bare s) [] (t ∷ ts) → IsSo g text (known_by t s) (blank_by t s)
  so_on (leave r place trees count) ts s known told = (known_then r place trees count s known.0 told.0 (is_still place count s) refl, known.1)
  so_on (close k p place trees operators count loose) ts s known told =
      (known.0, blank_then k p place trees count s known.1 told.0 (makes_empty_leaf k && is_still place count s) refl)
  so_on _ ts s known told = known

  -- ---- a turn

  turned : (t : OnTask) (ts : List OnTask) (s after : State) (x : Turn) → turn g text t (bare s) ≡ x → on after ≡ turn g text t (with_tasks ts s) →
      IsProper s.table → IsSo g text s.known s.blank → AreTrueAfter g text (bare s) [] (t ∷ ts) → TellsTruth g text after
  turned t ts s after (stops why place rest) f e proper known told =
      let goes : turn g text t (with_tasks ts s) ≡ stops why place rest = (turn_goes g text t s).0 ts ∙ ap (below ts) f in
      absurd cc
  turned t ts s after (ended z) f e proper known told =
      let goes : turn g text t (with_tasks ts s) ≡ ended z = (turn_goes g text t s).0 ts ∙ ap (below ts) f in
      absurd cc
  turned t ts s after (on z) f e proper known told =
      let tells : TellsTruly g text (known_by t s) (blank_by t s) (on z) = subst (TellsTruly g text (known_by t s) (blank_by t s)) f (turn_goes g text t s).1 in
      let goes : on after ≡ on (with_tasks (z.tasks ++ ts) z) = e ∙ (turn_goes g text t s).0 ts ∙ ap (below ts) f in
      let same : after ≡ with_tasks (z.tasks ++ ts) z = cc in
      let later : AreTrueAfter g text (bare z) (z.tasks ++ []) ts =
      all_true g text t z.tasks (bare s) (bare z)
      (λ above loose b y rest k.
      let one : turn g text t (with_tasks above s) ≡ on (with_tasks (z.tasks ++ above) z) = (turn_goes g text t s).0 above ∙ ap (below above) f in
      let h : Follows g text t (with_tasks above s) (on (with_tasks (z.tasks ++ above) z)) = subst (Follows g text t (with_tasks above s)) one (task_follows g text t (with_tasks above s) proper known) in
      h (arrived loose b y rest) k)
      [] ts told.1 in
      let all : AreTrueAfter g text (bare z) [] (z.tasks ++ ts) =
      true_after_both g text (bare z) [] z.tasks ts tells.0 (subst (λ a. AreTrueAfter g text (bare z) a ts) (append-nil z.tasks) later) in
      subst (TellsTruth g text) (sym same) (record {
        known = subst (λ k. IsSo g text k z.blank) (sym tells.1.0) (subst (IsSo g text (known_by t s)) (sym tells.1.1) (so_on t ts s known told));
        ends = all;
      })

  pub tells_on : (ts : List OnTask) (s after : State) → on after ≡ turn_by g text ts s → IsProper s.table → IsSo g text s.known s.blank → AreTrueAfter g text (bare s) [] ts → TellsTruth g text after
  tells_on [] s after e proper known told = absurd cc
  tells_on (t ∷ ts) s after e proper known told = turned t ts s after (turn g text t (bare s)) refl e proper known told
