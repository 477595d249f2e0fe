-- Alternatives that meet none after them.
use Rattle.std.proofs.Common.{◌≡◌, ℕ, ◌+◌, ◌<◌, ◌≤◌, Bool, true, false, List, [], Option, Some, None, slice_get, length, refl, sym, ap, subst, ◌∙◌, inl, inr, arith}
use Rattle.std.specs.Prelude.{◌||◌, nat_lt, is_some, if◌then◌else◌}
use Rattle.std.proofs.lemmas.Bool.{cases_eq, true≢false, or_left, or_right}
use Rattle.std.proofs.lemmas.Option.{same_Some, slice_get_within}
use Rattle.pg_grammar_value.specs.Grammar.{Grammar, IsGrammar}
use Rattle.pg_grammar_form.specs.Forms.{Node}
use Rattle.pg_grammar_form.specs.declared.form.Form.TheVariants as form
use Rattle.pg_graph_bits.specs.Numbers.{contains, set_at}
use Rattle.pg_graph.specs.Marks.{is_marked}
use Rattle.pg_sets.specs.Sets.{Sets}
use Rattle.pg_predict_conditions.specs.Judged.{Facts, part_at, node_meeting, noted_meeting, meeting_alternatives, meetings_of_alternative}
use Rattle.pg_predict_conditions.specs.Meetings.{first_meeting}
use Rattle.pg_predict_conditions.specs.Shown.{AreWellFormed}
use Rattle.pg_predict_conditions.specs.Suspects.{AreParts, HasParts, MarkSuspects, MarkNode, AreSuspects}
use Rattle.pg_predict_conditions.specs.declared.violation.ViolationKind.TheVariants.{AlternativesMeet}
use Rattle.pg_predict_conditions.specs.declared.meetings.Meeting.{Meeting}
use Rattle.pg_predict_conditions.proofs.AllBelow.{all_below_none}
use Rattle.pg_predict_conditions.proofs.FirstMeetings.{Met, MeetingFound, meeting_found, no_meeting}
use Rattle.pg_predict_conditions.proofs.FirstMeetings as of_sets
use Rattle.pg_predict_conditions.proofs.Parts.{part_inside, parts_below}
use Rattle.std.proofs.lemmas.Bool.{and_parts, and_from}

-- ---- the parts of a choice

pub parts_of_choice : (g : Grammar) (sets : Sets) (p count : ℕ) (parts : List ℕ) → AreWellFormed g sets → IsGrammar g → slice_get g.nodes p ≡ Some (form.Choice parts) → count ≡ length g.nodes
    → AreParts sets count parts
parts_of_choice g sets p count parts are grammar at all =
    let inside : (k : ℕ) → k < length parts → part_at parts k < length g.nodes =
    λ k below. parts_below g p (form.Choice parts) k (part_at parts k) grammar at (part_inside parts k below) in
    record {
      below = λ k below. (let there = inside k below in omega arith);
      limit = λ k below. are.first_limit (part_at parts k) (inside k below);
    }

-- ---- what isn't noted

-- where no two meet, nothing is noted of an alternative
nothing_noted : (facts : Facts) (p : ℕ) (parts : List ℕ) (j : ℕ) → ((k : ℕ) → j < k → k < length parts → node_meeting facts (part_at parts j) (part_at parts k) ≡ None)
    → meetings_of_alternative facts p parts j ≡ []
nothing_noted facts p parts j none = all_below_none (meeting_alternatives facts p parts j) (length parts) (λ k below. go k below (nat_lt j k) refl)
  where
    before : (k : ℕ) → nat_lt j k ≡ true → j < k
    before k e = grind (arith, e)

    go : (k : ℕ) → k < length parts → (t : Bool) → nat_lt j k ≡ t
        → (if t then noted_meeting (node_meeting facts (part_at parts j) (part_at parts k)) p (AlternativesMeet (j + 1) (k + 1)) else []) ≡ []
    go k below true e = ap (λ (o : Option Meeting). noted_meeting o p (AlternativesMeet (j + 1) (k + 1))) (none k (before k e) below)
    go k below false e = refl

pub none_noted : (facts : Facts) (p : ℕ) (parts : List ℕ) (j : ℕ) → MarkSuspects facts.sets facts.meetings parts facts.suspects → is_marked facts.suspects (part_at parts j) ≡ false
    → meetings_of_alternative facts p parts j ≡ []
none_noted facts p parts j are unmarked = nothing_noted facts p parts j (λ k before below. are j k before below unmarked)

-- ---- more marks

-- a number without a mark had none before
pub unmarked_before : (old new : List Bool) (p : ℕ) → (is_marked old p ≡ true → is_marked new p ≡ true) → is_marked new p ≡ false → is_marked old p ≡ false
unmarked_before old new p more unmarked = go (is_marked old p) refl
  where
    go : (b : Bool) → is_marked old p ≡ b → is_marked old p ≡ false
    go true e = absurd (true≢false (sym (more e) ∙ unmarked))
    go false e = e

-- where alternatives were marked, more marks change nothing
pub still_marked : (sets : Sets) (meetings : List (List Bool)) (parts : List ℕ) (old new : List Bool) → ((p : ℕ) → is_marked old p ≡ true → is_marked new p ≡ true)
    → MarkSuspects sets meetings parts old → MarkSuspects sets meetings parts new
still_marked sets meetings parts old new more are j k before below unmarked = are j k before below (unmarked_before old new (part_at parts j) (more (part_at parts j)) unmarked)

-- ---- looking from the last alternative to the first

-- the alternatives from this one on were looked at: the set has their starts
pub record HaveLooked (sets : Sets) (meetings : List (List Bool)) (parts : List ℕ) (next : ℕ) (old marks following : List Bool) : Type 0 where
  pub inside : next ≤ length parts
  pub long : length marks ≡ length old
  pub limit : length following ≡ length sets.starts
  pub more : (p : ℕ) → is_marked old p ≡ true → is_marked marks p ≡ true
  pub has : (k t : ℕ) → next ≤ k → k < length parts → contains (set_at sets.firsts (part_at parts k)) t ≡ true → contains following t ≡ true
  pub told : (j k : ℕ) → next ≤ j → j < k → k < length parts → is_marked marks (part_at parts j) ≡ false
      → first_meeting meetings (set_at sets.firsts (part_at parts j)) (set_at sets.firsts (part_at parts k)) ≡ None

-- a set that meets none of a wider set meets none of a set
none_of_part : (meetings : List (List Bool)) (one other wider : List Bool) → ((t : ℕ) → contains other t ≡ true → contains wider t ≡ true)
    → is_some (first_meeting meetings one wider) ≡ false → first_meeting meetings one other ≡ None
none_of_part meetings one other wider within none = no_meeting meetings one other (λ s t met. go (first_meeting meetings one wider) (meeting_found meetings one wider) none s t met)
  where
    go : (o : Option Meeting) → MeetingFound meetings one wider o → is_some o ≡ false → (s t : ℕ) → Met meetings one other s t → ⊥
    go (Some m) (of_sets.some is) e s t met = true≢false e
    go None (of_sets.none out) e s t met =
        let both = and_parts (contains (set_at meetings s) t) (contains other t) met.both in
        out s t (record { begins = met.begins; both = and_from (contains (set_at meetings s) t) (contains wider t) both.0 (within t both.1) })

pub look_more : (sets : Sets) (meetings : List (List Bool)) (parts : List ℕ) (next last : ℕ) (old marks following after new : List Bool) (meets : Bool) → last ≡ next + 1
    → HaveLooked sets meetings parts last old marks following
    → meets ≡ is_some (first_meeting meetings (set_at sets.firsts (part_at parts next)) following)
    → length new ≡ length marks
    → ((p : ℕ) → is_marked marks p ≡ true → is_marked new p ≡ true)
    → (meets ≡ true → is_marked new (part_at parts next) ≡ true)
    → length after ≡ length following
    → ((n : ℕ) → contains after n ≡ (contains following n || contains (set_at sets.firsts (part_at parts next)) n))
    → HaveLooked sets meetings parts next old new after
look_more sets meetings parts next last old marks following after new meets one before is long_new more_new marked same united =
    let inside = before.inside in
    let long = before.long in
    let limit = before.limit in
    record {
      inside = omega arith;
      long = long_new ∙ long;
      limit = same ∙ limit;
      more = λ p marked_old. more_new p (before.more p marked_old);
      has = λ k t more below h.
          let first = contains (set_at sets.firsts (part_at parts next)) t in
          elim (cases_eq k next) [
            | inl here ↦ united t ∙ or_right (contains following t) first (ap (λ (i : ℕ). contains (set_at sets.firsts (part_at parts i)) t) (sym here) ∙ h)
            | inr other ↦ united t ∙ or_left (contains following t) first (before.has k t (omega arith) below h)
          ];
      told = λ j k more between below unmarked.
          elim (cases_eq j next) [
            | inl here ↦
                let none : is_some (first_meeting meetings (set_at sets.firsts (part_at parts next)) following) ≡ false =
                sym is ∙ unmet meets (λ e. ap (λ (i : ℕ). is_marked new (part_at parts i)) here ∙ marked e) unmarked in
                ap (λ (i : ℕ). first_meeting meetings (set_at sets.firsts (part_at parts i)) (set_at sets.firsts (part_at parts k))) here
                ∙ none_of_part meetings (set_at sets.firsts (part_at parts next)) (set_at sets.firsts (part_at parts k)) following
                (λ t h. before.has k t (omega arith) below h) none
            | inr other ↦ before.told j k (omega arith) between below (unmarked_before marks new (part_at parts j) (more_new (part_at parts j)) unmarked)
          ];
    }
  where
    unmet : {mark : Bool} (b : Bool) → (b ≡ true → mark ≡ true) → mark ≡ false → b ≡ false
    unmet true is_true is_false = absurd (true≢false (sym (is_true refl) ∙ is_false))
    unmet false is_true is_false = refl

-- ---- choice by choice

pub parts_of_node : (g : Grammar) (sets : Sets) (p count : ℕ) (n : Node) → AreWellFormed g sets → IsGrammar g → slice_get g.nodes p ≡ Some n → count ≡ length g.nodes → HasParts sets count n
parts_of_node g sets p count (form.Choice parts) are grammar at all = parts_of_choice g sets p count parts are grammar at all
parts_of_node g sets p count n are grammar at all = tt

still_marked_node : (sets : Sets) (meetings : List (List Bool)) (n : Node) (old new : List Bool) → ((p : ℕ) → is_marked old p ≡ true → is_marked new p ≡ true)
    → MarkNode sets meetings n old → MarkNode sets meetings n new
still_marked_node sets meetings (form.Choice parts) old new more are = still_marked sets meetings parts old new more are
still_marked_node sets meetings n old new more are = tt

-- the choices before this node were marked
pub record HaveMarked (g : Grammar) (sets : Sets) (meetings : List (List Bool)) (i : ℕ) (marks : List Bool) : Type 0 where
  pub long : length marks ≡ length g.nodes
  pub marked : (p : ℕ) (n : Node) → p < i → slice_get g.nodes p ≡ Some n → MarkNode sets meetings n marks

pub mark_none : (g : Grammar) (sets : Sets) (meetings : List (List Bool)) (marks : List Bool) → length marks ≡ length g.nodes → HaveMarked g sets meetings 0 marks
mark_none g sets meetings marks long = record { long = long; marked = λ p n below at. absurd (omega arith) }

pub mark_next : (g : Grammar) (sets : Sets) (meetings : List (List Bool)) (i : ℕ) (old new : List Bool) (n : Node) → HaveMarked g sets meetings i old → slice_get g.nodes i ≡ Some n
    → MarkNode sets meetings n new → length new ≡ length old → ((p : ℕ) → is_marked old p ≡ true → is_marked new p ≡ true) → HaveMarked g sets meetings (i + 1) new
mark_next g sets meetings i old new n before at marked long more = record {
  long = long ∙ before.long;
  marked = λ p m below there.
      elim (cases_eq p i) [
        | inl here ↦
            let same : n ≡ m = same_Some n m (sym at ∙ (ap (slice_get g.nodes) (sym here) ∙ there)) in
            subst (λ (x : Node). MarkNode sets meetings x new) same marked
        | inr other ↦ still_marked_node sets meetings m old new more (before.marked p m (omega arith) there)
      ];
}

pub mark_all : (g : Grammar) (sets : Sets) (meetings : List (List Bool)) (i : ℕ) (marks : List Bool) → HaveMarked g sets meetings i marks → i ≡ length g.nodes → AreSuspects g sets meetings marks
mark_all g sets meetings i marks are all p parts at =
    let inside = slice_get_within g.nodes p (form.Choice parts) at in
    are.marked p (form.Choice parts) (omega (arith, all)) at
