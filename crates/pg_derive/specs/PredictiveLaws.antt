-- Laws of predictive grammars, as one fact each.
use Rattle.std.specs.Prelude.{◌≡◌, ◌<◌, ◌≤◌, ◌⊎◌, ℕ, List, Bool, true, Some, slice_get, length, nat_lt}
use Rattle.std.specs.Str.{all_scalars}
use Rattle.pg_tree.specs.Trees.{Tree}
use Rattle.pg_grammar_value.specs.Grammar.{IsGrammar}
use Rattle.pg_grammar_form.specs.declared.form.Form.TheVariants as form
use Rattle.pg_grammar_form.specs.declared.side.Side.TheVariants as side
use Rattle.pg_grammar_value.specs.declared.trail.TrailItem.{TrailItem}
use Rattle.pg_grammar_form.specs.declared.used.ChainBuilder.{ChainBuilder}
use Rattle.pg_language.specs.Derives.{Spot, Derives}
use Rattle.pg_table.specs.Tables.{ComesFrom}
use Rattle.pg_language.specs.Answers.{Given, Answers}
use Rattle.pg_language.specs.Errors.{Error}
use Rattle.pg_language.specs.Outcomes.{Outcome, ok, failed}
use Rattle.pg_derive.specs.ClosedSets.{NodeSets, SomeMatches}
use Rattle.pg_derive.specs.Predictive.{IsPredictive}
use Rattle.pg_language.specs.declared.reading.Reading.{Reading}

-- a grammar that some sets show to be predictive, on a text of characters
pub record Predicts (G : Given) (sets : NodeSets) : Type 0 where
  pub grammar : IsGrammar G.grammar
  pub predictive : IsPredictive G.grammar sets
  pub text : all_scalars G.text ≡ true

-- the node answers ok from one spot to the other, with this forest and trail, some error, and some number of nodes entered
pub record AnswersOk (G : Given) (p : ℕ) (a b : Spot) (forest : List Tree) (trail : List TrailItem) : Type 0 where
  pub error : Error
  pub count : ℕ
  pub answers : Answers G p a (ok (nat_lt a.place b.place) b forest trail error) count

-- a derivation of a node that ends where something that can follow the node comes next is the node's answer
abbrev pub DerivationsAreAnswers : Type 0
DerivationsAreAnswers = (G : Given) (sets : NodeSets) → Predicts G sets → (p : ℕ) (a b : Spot) (forest : List Tree) (trail : List TrailItem) →
    ComesFrom G.grammar a.table → Derives G.grammar G.text p a b forest trail → SomeMatches G.text (sets.follow p) b.place →
    AnswersOk G p a b forest trail

-- there is at most one such derivation
abbrev pub DerivationsAreUnique : Type 0
DerivationsAreUnique = (G : Given) (sets : NodeSets) → Predicts G sets → (p : ℕ) (a b c : Spot) (forest others : List Tree) (trail items : List TrailItem) →
    ComesFrom G.grammar a.table → Derives G.grammar G.text p a b forest trail → SomeMatches G.text (sets.follow p) b.place →
    Derives G.grammar G.text p a c others items → SomeMatches G.text (sets.follow p) c.place →
    (b ≡ c) × (forest ≡ others) × (trail ≡ items)

-- each node has an answer at each place: no run goes on for ever, no repetition meets a round that consumes nothing
pub data HasAnswer (G : Given) (p : ℕ) (a : Spot) : Type 0 where
  is_ok : (c : Bool) (b : Spot) (forest : List Tree) (trail : List TrailItem) (e : Error) (m : ℕ) → Answers G p a (ok c b forest trail e) m → HasAnswer G p a
  has_failed : (c : Bool) (e : Error) (m : ℕ) → Answers G p a (failed c e) m → HasAnswer G p a

abbrev pub AnswersExist : Type 0
AnswersExist = (G : Given) (sets : NodeSets) → Predicts G sets → (p : ℕ) → p < length G.grammar.nodes → (a : Spot) → ComesFrom G.grammar a.table → a.place ≤ length G.text →
    HasAnswer G p a

-- if an alternative of a choice fails after consumed input, no later alternative derives anything that ends where
-- something that can follow the choice comes next
abbrev pub LosesNoAlternative : Given → NodeSets → Type 0
LosesNoAlternative G sets = (p : ℕ) (parts : List ℕ) → slice_get G.grammar.nodes p ≡ Some (form.Choice parts) →
    (j k q r : ℕ) → j < k → slice_get parts j ≡ Some q → slice_get parts k ≡ Some r →
    (a b : Spot) (e : Error) (m : ℕ) (forest : List Tree) (trail : List TrailItem) → ComesFrom G.grammar a.table →
    Answers G q a (failed true e) m → Derives G.grammar G.text r a b forest trail → SomeMatches G.text (sets.follow p) b.place → ⊥

abbrev pub NoAlternativeIsLost : Type 0
NoAlternativeIsLost = (G : Given) (sets : NodeSets) → Predicts G sets → LosesNoAlternative G sets

-- each round of a repetition consumes
abbrev pub EachRoundConsumes : Given → Type 0
EachRoundConsumes G = (p q : ℕ) → slice_get G.grammar.nodes p ≡ Some (form.Many q) →
    (a b : Spot) (forest : List Tree) (trail : List TrailItem) → Derives G.grammar G.text q a b forest trail → a.place < b.place

abbrev pub RoundsConsume : Type 0
RoundsConsume = (G : Given) (sets : NodeSets) → Predicts G sets → EachRoundConsumes G

-- each link of a chain, a separator with the operand after it, consumes
abbrev pub EachLinkConsumes : Given → Type 0
EachLinkConsumes G = (p q r : ℕ) (used : ChainBuilder) →
    ((slice_get G.grammar.nodes p ≡ Some (form.Chain side.Left used q r)) ⊎ (slice_get G.grammar.nodes p ≡ Some (form.Chain side.Right used q r))) →
    (a b c : Spot) (forest others : List Tree) (trail items : List TrailItem) →
    Derives G.grammar G.text r a b forest trail → Derives G.grammar G.text q b c others items → a.place < c.place

abbrev pub LinksConsume : Type 0
LinksConsume = (G : Given) (sets : NodeSets) → Predicts G sets → EachLinkConsumes G

-- the same run in a reading of choice
abbrev pub as_read : Reading → Given → Given
as_read reading G = record G { reading = reading }

-- both readings of choice give the same answer, with the same error and number of nodes entered
abbrev pub ReadingsAgree : Type 0
ReadingsAgree = (G : Given) (sets : NodeSets) → Predicts G sets → (one other : Reading) (p : ℕ) → p < length G.grammar.nodes → (a : Spot) (o : Outcome) (m : ℕ) →
    ComesFrom G.grammar a.table → a.place ≤ length G.text → Answers (as_read one G) p a o m → Answers (as_read other G) p a o m
