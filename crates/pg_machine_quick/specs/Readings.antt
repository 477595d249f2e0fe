-- What a leaf reads, as its outcome.
use Rattle.std.specs.Prelude.{◌≡◌, ◌+◌, ℕ, List, [], ◌∷◌, true, false, Some, take, drop, slice_get}
use Rattle.pg_grammar_value.specs.declared.trail.TrailItem.{TrailItem}
use Rattle.pg_grammar_form.specs.Forms.{Node}
use Rattle.pg_grammar_form.specs.declared.class.ClassPart.{ClassPart}
use Rattle.pg_grammar_form.specs.declared.form.Form.TheVariants as form
use Rattle.pg_grammar_form.specs.declared.form.Leaf.TheVariants as leaf
use Rattle.pg_grammar_value.specs.Grammar.{Grammar}
use Rattle.pg_language.specs.Derives.{leaf_of}
use Rattle.pg_language.specs.Errors.{Error}
use Rattle.pg_language.specs.Leaves.{leaf_outcome, some_word_outcome}
use Rattle.pg_language.specs.Outcomes.{Outcome, ok, failed}
use Rattle.pg_table.specs.Tables.{Table}
use Rattle.pg_machine_quick.specs.Tape.{spot_at}
use Rattle.pg_machine_quick.specs.declared.reading.Reading.{Reading}
use Rattle.pg_machine_quick.specs.declared.reading.Reading.TheVariants.{Took, Nothing, Failed}

-- at a place of the text, for some trail and error: so many characters as one leaf, or nothing, or a failure
abbrev pub Reads : List ℕ → Table → ℕ → Outcome → Reading → Type 0
Reads text table i o (Took n) =
    (t : List TrailItem) × (e : Error) × (o ≡ ok true (spot_at table (i + n)) (leaf_of (take n (drop i text)) ∷ []) t e)
Reads text table i o Nothing = (t : List TrailItem) × (e : Error) × (o ≡ ok false (spot_at table i) [] t e)
Reads text table i o (Failed c) = (e : Error) × (o ≡ failed c e)

-- a word of the item with this number is read so at a place
abbrev pub IsWordReadAt : Grammar → List ℕ → Table → ℕ → ℕ → Reading → Type 0
IsWordReadAt g text table i w r = (o : Outcome) × (some_word_outcome g text (spot_at table i) (slice_get g.words w) ≡ Some o) × Reads text table i o r

-- a declaration, after whose keyword no character of the class may come, fails so at a place
abbrev pub IsUndeclaredAt : Grammar → List ℕ → Table → ℕ → List ClassPart → Reading → Type 0
IsUndeclaredAt g text table i class (Failed c) = (o : Outcome) × (leaf_outcome g text (leaf.Declare class) (spot_at table i) ≡ Some o) × Reads text table i o (Failed c)
IsUndeclaredAt g text table i class _ = ⊥

-- a node is a leaf that reads so at a place; of a declaration only a failure is told
abbrev pub IsReadAt : Grammar → List ℕ → Table → ℕ → Node → Reading → Type 0
IsReadAt g text table i (form.Leaf (leaf.Declare class)) r = IsUndeclaredAt g text table i class r
IsReadAt g text table i (form.Leaf l) r = (o : Outcome) × (leaf_outcome g text l (spot_at table i) ≡ Some o) × Reads text table i o r
IsReadAt g text table i _ r = ⊥
