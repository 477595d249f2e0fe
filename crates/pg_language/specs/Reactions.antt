-- How forms react to the outcomes of their parts.
use Rattle.std.specs.Prelude.{ℕ, List, [], ◌∷◌, ◌++◌, Bool, true, false, ◌||◌}
use Rattle.std.specs.Str.{encode_utf8_all}
use Rattle.pg_message.specs.declared.answer.AnswerKind.{AnswerKind}
use Rattle.pg_message.specs.declared.answer.AnswerKind.TheVariants.{ConsumedOk, ConsumedError, EmptyOk, EmptyError}
use Rattle.pg_tree.specs.Trees.{Tree}
use Rattle.pg_tree.specs.declared.shape.Shape.{Shape}
use Rattle.pg_language.specs.Derives.{Spot, finished, made_by, left_by}
use Rattle.pg_grammar_form.specs.declared.form.Around.{Around}
use Rattle.pg_grammar_form.specs.declared.form.Around.TheVariants as kind
use Rattle.pg_grammar_form.specs.declared.side.Side.{Side}
use Rattle.pg_grammar_value.specs.declared.trail.TrailItem.{TrailItem}
use Rattle.pg_language.specs.Errors.{Error, merge, relabel, no_messages_at}
use Rattle.pg_language.specs.Outcomes.{Outcome, ok, failed, empty_round}

-- an error after an earlier one: alone if something was consumed since, otherwise merged with it
abbrev pub error_after : Bool → Error → Error → Error
error_after true e f = f
error_after false e f = merge e f

-- ---- sequences and repetitions

-- the outcome of a sequence, from a part that was ok and the outcome of the parts after it
abbrev pub then_rest : Bool → List Tree → List TrailItem → Error → Outcome → Outcome
then_rest c v t e (ok d b w u f) = ok (c || d) b (v ++ w) (t ++ u) (error_after d e f)
then_rest c v t e (failed d f) = failed (c || d) (error_after d e f)
then_rest c v t e empty_round = empty_round

-- the outcome of a repetition, from a round that was ok and the outcome of the rounds after it; the round's error is dropped
abbrev pub then_round : List Tree → List TrailItem → Outcome → Outcome
then_round v t (ok d b w u f) = ok true b (v ++ w) (t ++ u) f
then_round v t (failed d f) = failed true f
then_round v t empty_round = empty_round

-- the outcome with an item put before its trail
abbrev pub noted : TrailItem → Outcome → Outcome
noted x (ok c b v t e) = ok c b v (x ∷ t) e
noted x (failed c e) = failed c e
noted x empty_round = empty_round

-- ---- choices

-- the outcome of a choice, from an alternative that failed empty and the outcome of those after it
abbrev pub after_failure : Error → Outcome → Outcome
after_failure e (ok c b v t f) = ok c b v t (error_after c e f)
after_failure e (failed c f) = failed c (error_after c e f)
after_failure e empty_round = empty_round

-- as above, in the report's reading and for an alternative that was empty ok: it stands, unless a later one consumed
abbrev pub unless_consumed : Spot → List Tree → List TrailItem → Error → Outcome → Outcome
unless_consumed b v t e (ok true d w u f) = ok true d w u f
unless_consumed b v t e (ok false d w u f) = ok false b v t (merge e f)
unless_consumed b v t e (failed true f) = failed true f
unless_consumed b v t e (failed false f) = ok false b v t (merge e f)
unless_consumed b v t e empty_round = empty_round

-- ---- forms around one part

abbrev pub ok_kind : Bool → AnswerKind
ok_kind true = ConsumedOk
ok_kind false = EmptyOk

abbrev pub error_kind : Bool → AnswerKind
error_kind true = ConsumedError
error_kind false = EmptyError

-- whether the form's failure counts as consumed, given whether the part's does
abbrev pub counted_by : Around → Bool → Bool
counted_by kind.Try c = false
counted_by kind.Text c = c
counted_by kind.Skip c = c
counted_by (kind.Build used symbol) c = c
counted_by (kind.Label message) c = c
counted_by kind.Local c = c

-- the form's error, from the part's kind of answer and its error
abbrev pub labelled_by : Around → AnswerKind → Error → Error
labelled_by kind.Try answer e = e
labelled_by kind.Text answer e = e
labelled_by kind.Skip answer e = e
labelled_by (kind.Build used symbol) answer e = e
labelled_by (kind.Label message) answer e = relabel answer (encode_utf8_all message) e
labelled_by kind.Local answer e = e

-- the outcome of a form around a part, run at a spot of the text, from the part's outcome
abbrev pub surrounded : Around → List ℕ → Spot → Outcome → Outcome
surrounded k text a (ok c b v t e) = ok c (left_by k a b) (made_by k text a.place b.place v) t (labelled_by k (ok_kind c) e)
surrounded k text a (failed c e) = failed (counted_by k c) (labelled_by k (error_kind c) e)
surrounded k text a empty_round = empty_round

-- ---- chains

-- the outcome with its forest put after a forest and a separator's
abbrev pub as_finished : Side → Shape → List Tree → List Tree → Outcome → Outcome
as_finished side shape x s (ok c b z t e) = ok c b (finished side shape x s z) t e
as_finished side shape x s (failed c e) = failed c e
as_finished side shape x s empty_round = empty_round

-- after a failed round, the chain ends before it with its forest, or fails if the round had consumed
abbrev pub unless_begun : Bool → Spot → List Tree → Error → Outcome
unless_begun true a x e = failed true e
unless_begun false a x e = ok false a x [] (merge e (no_messages_at a.place))
