-- Laws of grammars with nothing wrong at any node, as one fact each.
use Rattle.std.specs.Prelude.{◌≡◌, ℕ, List, Bool, true, length, nat_lt}
use Rattle.std.specs.Str.{all_scalars}
use Rattle.pg_tree.specs.Trees.{Tree}
use Rattle.pg_grammar_value.specs.Grammar.{Grammar, IsGrammar}
use Rattle.pg_grammar_value.specs.declared.trail.TrailItem.{TrailItem}
use Rattle.pg_sets.specs.Sets.{Sets, AreSets}
use Rattle.pg_predict.specs.Conditions.{IsFaultless}
use Rattle.pg_language.specs.Derives.{DerivesText}
use Rattle.pg_table.specs.Tables.{Table, ComesFrom}
use Rattle.pg_language.specs.Answers.{Given}
use Rattle.pg_language.specs.Errors.{Error}
use Rattle.pg_derive.specs.LeastSets.{node_sets}
use Rattle.pg_language.specs.Outcomes.{ok, failed}
use Rattle.pg_derive.specs.Predictive.{IsPredictive}
use Rattle.pg_derive.specs.PredictiveLaws.{LosesNoAlternative, EachRoundConsumes, EachLinkConsumes}
use Rattle.pg_language.specs.WholeTexts.{AnswersText}
use Rattle.pg_derive.specs.WholeTextLaws.{TextIsAnswered}

-- if nothing is wrong at any node of a grammar, its least sets show that it is predictive
abbrev pub AcceptedGrammarsArePredictive : Type 0
AcceptedGrammarsArePredictive = (g : Grammar) (sets : Sets) → IsGrammar g → AreSets g sets → IsFaultless g → IsPredictive g (node_sets g sets)

-- nothing is wrong with the grammar, and these are its sets; the text is one of characters
pub record Accepts (G : Given) (sets : Sets) : Type 0 where
  pub grammar : IsGrammar G.grammar
  pub least : AreSets G.grammar sets
  pub faultless : IsFaultless G.grammar
  pub text : all_scalars G.text ≡ true

-- ---- commitment

-- no choice loses an alternative to consumed input; the least follow set says what can follow a choice
abbrev pub AcceptedGrammarsLoseNoAlternative : Type 0
AcceptedGrammarsLoseNoAlternative = (G : Given) (sets : Sets) → Accepts G sets → LosesNoAlternative G (node_sets G.grammar sets)

-- each round of a repetition consumes
abbrev pub AcceptedRoundsConsume : Type 0
AcceptedRoundsConsume = (G : Given) (sets : Sets) → Accepts G sets → EachRoundConsumes G

-- each link of a chain, a separator with the operand after it, consumes
abbrev pub AcceptedLinksConsume : Type 0
AcceptedLinksConsume = (G : Given) (sets : Sets) → Accepts G sets → EachLinkConsumes G

-- ---- whole texts

-- each text is answered
abbrev pub AcceptedGrammarsAnswer : Type 0
AcceptedGrammarsAnswer = (G : Given) (sets : Sets) → Accepts G sets → (table : Table) → ComesFrom G.grammar table → TextIsAnswered G table

-- a text that is derived is answered ok, with the derivation's forest and trail
abbrev pub AcceptedGrammarsAnswerWhatTheyDerive : Type 0
AcceptedGrammarsAnswerWhatTheyDerive = (G : Given) (sets : Sets) → Accepts G sets → (before after : Table) (forest : List Tree) (trail : List TrailItem) →
    ComesFrom G.grammar before → DerivesText G.grammar G.text before after forest trail →
    (e : Error) × (m : ℕ) × AnswersText G before (ok (nat_lt 0 (length G.text)) (record { place = length G.text; table = after }) forest trail e) m

-- a text that is refused isn't derived
abbrev pub AcceptedGrammarsRefuseRightly : Type 0
AcceptedGrammarsRefuseRightly = (G : Given) (sets : Sets) → Accepts G sets → (before : Table) (c : Bool) (e : Error) (m : ℕ) → ComesFrom G.grammar before →
    AnswersText G before (failed c e) m →
    (after : Table) (forest : List Tree) (trail : List TrailItem) → DerivesText G.grammar G.text before after forest trail → ⊥

-- a text is derived in one way at most
abbrev pub AcceptedGrammarsDeriveOnce : Type 0
AcceptedGrammarsDeriveOnce = (G : Given) (sets : Sets) → Accepts G sets → (before after other : Table) (forest others : List Tree) (trail items : List TrailItem) →
    ComesFrom G.grammar before → DerivesText G.grammar G.text before after forest trail → DerivesText G.grammar G.text before other others items →
    (after ≡ other) × (forest ≡ others) × (trail ≡ items)
