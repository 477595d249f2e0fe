-- The log of a run, in order: when something was consumed, and when a `try` gave a place back.
use Rattle.std.specs.Prelude.{◌&&◌, ℕ, List, [], ◌∷◌, ◌++◌, Bool, true, false, Option, Some, None}
use Rattle.pg_grammar_form.specs.Forms.{Node}
use Rattle.pg_grammar_form.specs.declared.form.Form.TheVariants as form
use Rattle.pg_grammar_form.specs.declared.form.Leaf.TheVariants as leaf
use Rattle.pg_grammar_form.specs.declared.form.Around.{Around}
use Rattle.pg_grammar_form.specs.declared.form.Around.TheVariants as kind
use Rattle.pg_predict_costs.specs.Costs.{is_string, is_not_followed_by, is_at}
use Rattle.pg_language.specs.OperatorReads.{Read}
use Rattle.pg_language.specs.Outcomes.{Outcome, ok, failed, empty_round}

-- something that begins at a place was consumed, or a `try` that begins there gave it back
pub data Event : Type 0 where
  -- something that begins at the place was consumed
  Consumed : (place : ℕ) → Event
  -- a `try` that begins at the place failed after consumed input, and went back
  GaveBack : (place : ℕ) → Event

-- a leaf at the place notes what it consumed, whether it is ok or fails
abbrev pub leaf_log : ℕ → Outcome → List Event
leaf_log i (ok true b v t e) = Consumed i ∷ []
leaf_log i (ok false b v t e) = []
leaf_log i (failed true e) = Consumed i ∷ []
leaf_log i (failed false e) = []
leaf_log i empty_round = []

-- an operator that is read at the place is consumed
abbrev pub operator_log : ℕ → Option Read → List Event
operator_log i None = []
operator_log i (Some q) = Consumed i ∷ []

-- ---- `try`

-- a form that reads one word of a text: a character, a string, one that a class doesn't follow, or a word
abbrev pub is_lexeme : List Node → Node → Bool
is_lexeme nodes (form.Leaf (leaf.Satisfy class)) = true
is_lexeme nodes (form.Leaf (leaf.String text)) = true
is_lexeme nodes (form.Leaf (leaf.Word word)) = true
is_lexeme nodes (form.Seq (first ∷ second ∷ [])) = is_at is_string nodes first && is_at is_not_followed_by nodes second
is_lexeme nodes _ = false

-- a `try` around a lexeme looks ahead: it notes that the lexeme was consumed if it is ok, and nothing otherwise
abbrev pub lexeme_log : ℕ → Outcome → List Event
lexeme_log i (ok true b v t e) = Consumed i ∷ []
lexeme_log i (ok false b v t e) = []
lexeme_log i (failed c e) = []
lexeme_log i empty_round = []

-- a `try` around anything else notes the place that it gives back
abbrev pub given_back : ℕ → Outcome → List Event
given_back i (ok c b v t e) = []
given_back i (failed true e) = GaveBack i ∷ []
given_back i (failed false e) = []
given_back i empty_round = []

-- the log of a `try` at the place, whose part has this outcome and this log
abbrev pub try_log : (is_around_lexeme : Bool) → ℕ → Outcome → List Event → List Event
try_log true i o l = lexeme_log i o
try_log false i o l = l ++ given_back i o

-- the log of a form around a part at the place, where the part has this outcome and this log
abbrev pub around_log : List Node → Around → (part : ℕ) → ℕ → Outcome → List Event → List Event
around_log nodes kind.Try q i o l = try_log (is_at (is_lexeme nodes) nodes q) i o l
around_log nodes kind.Text q i o l = l
around_log nodes kind.Skip q i o l = l
around_log nodes (kind.Build used symbol) q i o l = l
around_log nodes (kind.Label message) q i o l = l
around_log nodes kind.Local q i o l = l
