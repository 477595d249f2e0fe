-- What is claimed of a grammar's texts, and of what becomes of them in another grammar.
use Rattle.std.specs.Prelude.{◌≡◌, ℕ, List, Option, Some, None, length}
use Rattle.pg_tree.specs.Trees.{Tree}
use Rattle.pg_tree.specs.Json.{json}
use Rattle.pg_grammar_value.specs.Grammar.{Grammar}
use Rattle.pg_grammar_value.specs.declared.trail.TrailItem.{TrailItem}
use Rattle.pg_table.specs.Tables.{Table}
use Rattle.pg_trail_replay.specs.Ends.{IsDerived}
use Rattle.pg_machine.specs.declared.answer.Success.{Success}
use Rattle.pg_explain_comparison.specs.declared.samples.Sample.{Sample}
use Rattle.pg_explain_comparison.specs.declared.fate.Fate.{Fate}
use Rattle.pg_explain_comparison.specs.declared.fate.Fate.TheVariants.{SameTrees, OtherTrees, Unread, Lost, Unknown}

-- the grammar derives its text, with its trail and its forest
abbrev pub IsSample : Grammar → Table → Sample → Type 0
IsSample g table s = IsDerived g s.text table s.trail s.forest

-- the grammar derives the text with a forest for which this holds
pub record IsDerivedTo (g : Grammar) (table : Table) (text : List ℕ) (IsSo : List Tree → Type 0) : Type 0 where
  pub trail : List TrailItem
  pub forest : List Tree
  pub derived : IsDerived g text table trail forest
  pub so : IsSo forest

-- two forests are printed alike
abbrev pub AreAlike : List Tree → List Tree → Type 0
AreAlike one other = json one ≡ json other

-- the success of a run has the trail and the forest of a derivation of the text
abbrev pub IsReadSo : Grammar → Table → List ℕ → Success → Type 0
IsReadSo g table text s = IsDerived g text table s.trail s.forest

-- an ok answer of a run is this success, and it has read the whole text
abbrev pub IsWhole : List ℕ → Option Success → Success → Type 0
IsWhole text found s = (found ≡ Some s) × (s.place ≡ length text)

-- the fate of a text with this forest: if it is kept, the grammar derives it, with a forest that prints the same or doesn't
abbrev pub IsFate : Grammar → Table → List ℕ → List Tree → Fate → Type 0
IsFate g table text forest SameTrees = IsDerivedTo g table text (AreAlike forest)
IsFate g table text forest OtherTrees = IsDerivedTo g table text (λ other. AreAlike forest other → ⊥)
IsFate g table text forest Unread = Unit {0}
IsFate g table text forest Lost = Unit {0}
IsFate g table text forest Unknown = Unit {0}

-- a success has read the whole text, with a forest that prints the same or doesn't
abbrev pub IsRead : List ℕ → List Tree → Success → Fate → Type 0
IsRead text forest s SameTrees = (s.place ≡ length text) × AreAlike forest s.forest
IsRead text forest s OtherTrees = (s.place ≡ length text) × (AreAlike forest s.forest → ⊥)
IsRead text forest s Unread = ⊥
IsRead text forest s Lost = ⊥
IsRead text forest s Unknown = ⊥

-- nothing is claimed about the text
abbrev pub IsUnread : Fate → Type 0
IsUnread SameTrees = ⊥
IsUnread OtherTrees = ⊥
IsUnread Unread = Unit {0}
IsUnread Lost = Unit {0}
IsUnread Unknown = Unit {0}

-- the fate of a text with this answer: if it counts as read, a success has read it so
abbrev pub IsAnsweredSo : List ℕ → List Tree → Option Success → Fate → Type 0
IsAnsweredSo text forest None fate = IsUnread fate
IsAnsweredSo text forest (Some s) SameTrees = IsRead text forest s SameTrees
IsAnsweredSo text forest (Some s) OtherTrees = IsRead text forest s OtherTrees
IsAnsweredSo text forest (Some s) Unread = Unit {0}
IsAnsweredSo text forest (Some s) Lost = Unit {0}
IsAnsweredSo text forest (Some s) Unknown = Unit {0}
