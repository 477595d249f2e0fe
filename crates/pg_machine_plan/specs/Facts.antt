-- What is known of a node at a spot before it is run: that it fails there, is empty there, or consumes there.
use Rattle.std.specs.Prelude.{◌≡◌, ℕ, List, true, false}
use Rattle.pg_tree.specs.Trees.{Tree}
use Rattle.pg_grammar_value.specs.declared.trail.TrailItem.{TrailItem}
use Rattle.pg_language.specs.Answers.{Given, Answers}
use Rattle.pg_language.specs.Derives.{Spot}
use Rattle.pg_language.specs.Errors.{Error}
use Rattle.pg_language.specs.Outcomes.{Outcome, ok, failed, empty_round}

-- something has these outcomes, each with so many nodes entered
abbrev pub Outcomes : Type 1
Outcomes = Outcome → ℕ → Type 0

-- the outcomes of a node at a spot
abbrev pub outcomes_of : Given → ℕ → Spot → Outcomes
outcomes_of G p a = λ o m. Answers G p a o m

-- it fails with nothing consumed, and enters so many nodes
pub record FailsAtOnce (Has : Outcomes) (m : ℕ) : Type 0 where
  pub error : Error
  pub so : Has (failed false error) m

-- it is ok at this spot with nothing consumed, and enters so many nodes
pub record IsEmptyAtOnce (Has : Outcomes) (a : Spot) (m : ℕ) : Type 0 where
  pub forest : List Tree
  pub trail : List TrailItem
  pub error : Error
  pub so : Has (ok false a forest trail error) m

-- the outcome has consumed something, if it is an outcome
abbrev pub Consumes : Outcome → Type 0
Consumes (ok c b v t e) = c ≡ true
Consumes (failed c e) = c ≡ true
Consumes empty_round = Unit {0}

-- whatever comes of it, it has consumed something
abbrev pub TakesAtOnce : Outcomes → Type 0
TakesAtOnce Has = (o : Outcome) (m : ℕ) → Has o m → Consumes o

-- it doesn't fail with nothing consumed
abbrev pub NeverFailsEmpty : Outcomes → Type 0
NeverFailsEmpty Has = (e : Error) (m : ℕ) → Has (failed false e) m → ⊥
