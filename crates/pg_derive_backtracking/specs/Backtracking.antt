-- Backtracking does no harm on a predictive grammar, as one fact each: after a place that a `try` gave back, nothing is
-- consumed any more, so nothing is read twice.
use Rattle.std.specs.Prelude.{◌≡◌, ℕ, List, [], ◌∷◌}
use Rattle.pg_sets.specs.Sets.{Sets}
use Rattle.pg_table.specs.Tables.{Table, ComesFrom}
use Rattle.pg_language.specs.Answers.{Given, Answers, AnswersStart}
use Rattle.pg_language.specs.Derives.{Spot}
use Rattle.pg_language.specs.Outcomes.{Outcome}
use Rattle.pg_derive.specs.Accepted.{Accepts}
use Rattle.pg_derive.specs.ClosedSets.{NodeSets}
use Rattle.pg_derive.specs.PredictiveLaws.{Predicts}
use Rattle.pg_derive_backtracking.specs.Events.{Event, Consumed, GaveBack}
use Rattle.pg_derive_backtracking.specs.Logs.{log}

-- all runs of a node at a spot have the same log
abbrev pub LogsAreUnique : Type 0
LogsAreUnique = (G : Given) (p : ℕ) (a : Spot) (o q : Outcome) (m n : ℕ) (run : Answers G p a o m) (other : Answers G p a q n) → log run ≡ log other

-- nothing is consumed
abbrev pub ConsumesNothing : List Event → Type 0
ConsumesNothing [] = Unit {0}
ConsumesNothing (Consumed i ∷ l) = ⊥
ConsumesNothing (GaveBack i ∷ l) = ConsumesNothing l

-- after a place that was given back nothing is consumed, there or anywhere
abbrev pub ReadsNothingTwice : List Event → Type 0
ReadsNothingTwice [] = Unit {0}
ReadsNothingTwice (Consumed i ∷ l) = ReadsNothingTwice l
ReadsNothingTwice (GaveBack i ∷ l) = ConsumesNothing l

-- no run of the start rule reads anything twice, under any table that comes from the grammar
abbrev pub StartReadsNothingTwice : Given → Type 0
StartReadsNothingTwice G = (table : Table) → ComesFrom G.grammar table → (o : Outcome) (m : ℕ) (run : AnswersStart G table o m) → ReadsNothingTwice (log run.body)

-- on a grammar that closed sets show to be predictive
abbrev pub PredictiveGrammarsReadNothingTwice : Type 0
PredictiveGrammarsReadNothingTwice = (G : Given) (sets : NodeSets) → Predicts G sets → StartReadsNothingTwice G

-- on an accepted grammar, by its least sets
abbrev pub AcceptedGrammarsReadNothingTwice : Type 0
AcceptedGrammarsReadNothingTwice = (G : Given) (sets : Sets) → Accepts G sets → StartReadsNothingTwice G
