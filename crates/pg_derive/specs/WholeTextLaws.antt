-- Laws of runs of the start rule over a whole text, with the end of the text after it, as one fact each.
use Rattle.std.specs.Prelude.{◌≡◌, ℕ, List, Bool, length, nat_lt}
use Rattle.pg_tree.specs.Trees.{Tree}
use Rattle.pg_grammar_value.specs.declared.trail.TrailItem.{TrailItem}
use Rattle.pg_table.specs.Tables.{Table, ComesFrom}
use Rattle.pg_language.specs.Answers.{Given}
use Rattle.pg_language.specs.Derives.{Spot, DerivesText}
use Rattle.pg_language.specs.Errors.{Error}
use Rattle.pg_language.specs.Outcomes.{ok, failed}
use Rattle.pg_language.specs.WholeTexts.{AnswersText}
use Rattle.pg_derive.specs.ClosedSets.{NodeSets}
use Rattle.pg_derive.specs.PredictiveLaws.{Predicts}

-- ---- on any grammar

-- a text that is answered ok is derived, with that forest and trail
abbrev pub AnsweredTextsAreDerived : Type 0
AnsweredTextsAreDerived = (G : Given) (table : Table) (c : Bool) (b : Spot) (forest : List Tree) (trail : List TrailItem) (e : Error) (m : ℕ) →
    AnswersText G table (ok c b forest trail e) m → (b.place ≡ length G.text) × DerivesText G.grammar G.text table b.table forest trail

-- ---- on a predictive grammar

-- each text is answered
pub data TextIsAnswered (G : Given) (table : Table) : Type 0 where
  answered_ok : (c : Bool) (b : Spot) (forest : List Tree) (trail : List TrailItem) (e : Error) (m : ℕ) → AnswersText G table (ok c b forest trail e) m → TextIsAnswered G table
  answered_failed : (c : Bool) (e : Error) (m : ℕ) → AnswersText G table (failed c e) m → TextIsAnswered G table

abbrev pub TextsAreAnswered : Type 0
TextsAreAnswered = (G : Given) (sets : NodeSets) → Predicts G sets → (table : Table) → ComesFrom G.grammar table → TextIsAnswered G table

-- a text that is derived is answered ok, with the derivation's forest and trail
abbrev pub DerivedTextsAreAnswered : Type 0
DerivedTextsAreAnswered = (G : Given) (sets : NodeSets) → Predicts G sets → (before after : Table) (forest : List Tree) (trail : List TrailItem) →
    ComesFrom G.grammar before → DerivesText G.grammar G.text before after forest trail →
    (e : Error) × (m : ℕ) × AnswersText G before (ok (nat_lt 0 (length G.text)) (record { place = length G.text; table = after }) forest trail e) m

-- a text that is refused isn't derived
abbrev pub RefusedTextsAreNotDerived : Type 0
RefusedTextsAreNotDerived = (G : Given) (sets : NodeSets) → Predicts G sets → (before : Table) (c : Bool) (e : Error) (m : ℕ) → ComesFrom G.grammar before →
    AnswersText G before (failed c e) m →
    (after : Table) (forest : List Tree) (trail : List TrailItem) → DerivesText G.grammar G.text before after forest trail → ⊥

-- a text is derived in one way at most
abbrev pub TextsHaveOneDerivation : Type 0
TextsHaveOneDerivation = (G : Given) (sets : NodeSets) → Predicts G sets → (before after other : Table) (forest others : List Tree) (trail items : List TrailItem) →
    ComesFrom G.grammar before → DerivesText G.grammar G.text before after forest trail → DerivesText G.grammar G.text before other others items →
    (after ≡ other) × (forest ≡ others) × (trail ≡ items)
