-- Alternatives that may meet a later one.
use Rattle.std.specs.Prelude.{◌≡◌, ◌<◌, ℕ, Bool, false, List, Some, None, slice_get, length}
use Rattle.pg_grammar_value.specs.Grammar.{Grammar}
use Rattle.pg_grammar_form.specs.Forms.{Node}
use Rattle.pg_grammar_form.specs.declared.form.Form.TheVariants as form
use Rattle.pg_graph_bits.specs.Numbers.{set_at}
use Rattle.pg_graph.specs.Marks.{is_marked}
use Rattle.pg_sets.specs.Sets.{Sets}
use Rattle.pg_predict_conditions.specs.Judged.{part_at}
use Rattle.pg_predict_conditions.specs.Meetings.{first_meeting}

-- each of these nodes has a number below `count`, and its first set has numbers below the number of starts
pub record AreParts (sets : Sets) (count : ℕ) (parts : List ℕ) : Type 0 where
  pub below : (k : ℕ) → k < length parts → part_at parts k < count
  pub limit : (k : ℕ) → k < length parts → length (set_at sets.firsts (part_at parts k)) ≡ length sets.starts

-- any of these alternatives without a mark meets no later one
abbrev pub MarkSuspects : Sets → List (List Bool) → List ℕ → List Bool → Type 0
MarkSuspects sets meetings parts marks =
    (j k : ℕ) → j < k → k < length parts → is_marked marks (part_at parts j) ≡ false
    → first_meeting meetings (set_at sets.firsts (part_at parts j)) (set_at sets.firsts (part_at parts k)) ≡ None

-- a choice has such parts; by `MarkNode` its alternatives have such marks
abbrev pub HasParts : Sets → ℕ → Node → Type 0
HasParts sets count (form.Choice parts) = AreParts sets count parts
HasParts sets count n = Unit {0}

abbrev pub MarkNode : Sets → List (List Bool) → Node → List Bool → Type 0
MarkNode sets meetings (form.Choice parts) marks = MarkSuspects sets meetings parts marks
MarkNode sets meetings n marks = Unit {0}

-- an alternative without a mark meets no later one, in any choice of the grammar
abbrev pub AreSuspects : Grammar → Sets → List (List Bool) → List Bool → Type 0
AreSuspects g sets meetings marks = (p : ℕ) (parts : List ℕ) → slice_get g.nodes p ≡ Some (form.Choice parts) → MarkSuspects sets meetings parts marks
