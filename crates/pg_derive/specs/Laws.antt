-- Laws of the relation, as one fact each.
use Rattle.std.specs.Prelude.{◌≡◌, ℕ, List, Bool}
use Rattle.pg_tree.specs.Trees.{Tree}
use Rattle.pg_language.specs.Derives.{Spot, Derives}
use Rattle.pg_grammar_value.specs.declared.trail.TrailItem.{TrailItem}
use Rattle.pg_language.specs.Answers.{Given, Answers}
use Rattle.pg_message.specs.Errors.{merged, labelled}
use Rattle.pg_message.specs.Messages.{Text}
use Rattle.pg_message.specs.declared.answer.AnswerKind.{AnswerKind}
use Rattle.pg_language.specs.Errors.{Error, in_text, merge, relabel}
use Rattle.pg_language.specs.Outcomes.{Outcome, ok}

-- there is at most one outcome, with one number of nodes
abbrev pub OutcomesAreUnique : Type 0
OutcomesAreUnique = (G : Given) (p : ℕ) (a : Spot) (o q : Outcome) (m n : ℕ) → Answers G p a o m → Answers G p a q n → (o ≡ q) × (m ≡ n)

-- an ok answer is a derivation
abbrev pub OkAnswersAreDerivations : Type 0
OkAnswersAreDerivations = (G : Given) (p : ℕ) (a b : Spot) (c : Bool) (forest : List Tree) (trail : List TrailItem) (e : Error) (m : ℕ) →
    Answers G p a (ok c b forest trail e) m → Derives G.grammar G.text p a b forest trail

-- errors with their positions in a text are merged and labelled as errors without positions are
pub record ErrorsStandInText : Type 0 where
  pub merges : (text : List ℕ) (one other : Error) → in_text text (merge one other) ≡ merged (in_text text one) (in_text text other)
  pub labels : (text : List ℕ) (kind : AnswerKind) (name : Text) (e : Error) → in_text text (relabel kind name e) ≡ labelled (in_text text e) kind name
