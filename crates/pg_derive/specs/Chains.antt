-- Chains as sequences: an operand followed by `rest`, where `rest` is `choice(seq(separator, operand, rest), seq())`.
use Rattle.std.specs.Prelude.{◌≡◌, ℕ, List, [], ◌∷◌, ◌++◌, Bool, Some, slice_get, length}
use Rattle.pg_tree.specs.Trees.{Tree}
use Rattle.pg_tree.specs.declared.shape.Shape.{Shape}
use Rattle.pg_grammar_form.specs.Forms.{Node}
use Rattle.pg_grammar_value.specs.Grammar.{Grammar}
use Rattle.pg_grammar_form.specs.declared.form.Form.TheVariants as form
use Rattle.pg_grammar_value.specs.declared.grammar.Rule as declared
use Rattle.pg_grammar_form.specs.declared.side.Side.{Side}
use Rattle.pg_grammar_value.specs.declared.trail.TrailItem.{TrailItem}
use Rattle.pg_grammar_value.specs.declared.trail.TrailItem.TheVariants.{Alt, Rounds}
use Rattle.pg_grammar_form.specs.declared.used.ChainBuilder.{ChainBuilder}
use Rattle.pg_language.specs.Answers.{Given, Answers, AnswersForm}
use Rattle.pg_language.specs.Derives.{Spot, Link, folded}
use Rattle.pg_language.specs.Errors.{Error}
use Rattle.pg_language.specs.Outcomes.{Outcome, ok, failed, empty_round}

-- ---- rest

-- the same form stands at both nodes, so they answer alike
abbrev pub AreCopies : Grammar → ℕ → ℕ → Type 0
AreCopies g p q = slice_get g.nodes p ≡ slice_get g.nodes q

-- the node is `rest`: a use of a rule that is `choice(seq(separator, operand, rest), seq())`, with copies of these parts
pub record IsRest (g : Grammar) (operand separator rest : ℕ) : Type 0 where
  pub rule : ℕ
  pub named : declared.Rule
  pub is_use : slice_get g.nodes rest ≡ Some (form.Rule rule)
  pub is_rule : slice_get g.rules rule ≡ Some named
  pub round : ℕ
  pub nothing : ℕ
  pub is_choice : slice_get g.nodes named.body ≡ Some (form.Choice (round ∷ nothing ∷ []))
  pub first : ℕ
  pub second : ℕ
  pub third : ℕ
  pub is_round : slice_get g.nodes round ≡ Some (form.Seq (first ∷ second ∷ third ∷ []))
  pub is_separator : AreCopies g first separator
  pub is_operand : AreCopies g second operand
  pub is_rest : AreCopies g third rest
  pub is_nothing : slice_get g.nodes nothing ≡ Some (form.Seq [])

-- ---- rounds

-- a separator and the operand after it, with their forests and trails
pub record Round : Type 0 where
  pub separator : List Tree
  pub separator_trail : List TrailItem
  pub operand : List Tree
  pub operand_trail : List TrailItem

-- separators and operands answer ok, one after another, from one spot to the other
pub data OkRounds (G : Given) (operand separator : ℕ) : List Round → Spot → Spot → Type 0 where
  no_round : {a : Spot} → OkRounds G operand separator [] a a
  ok_round : {a b c d : Spot} {x y : Bool} {v w : List Tree} {t u : List TrailItem} {e f : Error} {m n : ℕ} {rounds : List Round} →
      Answers G separator a (ok x b v t e) m → Answers G operand b (ok y c w u f) n → OkRounds G operand separator rounds c d →
      OkRounds G operand separator (record { separator = v; separator_trail = t; operand = w; operand_trail = u } ∷ rounds) a d

-- the forests of rounds, as a chain folds them and as a sequence joins them
abbrev pub links_of : List Round → List Link
links_of [] = []
links_of (r ∷ rounds) = (r.separator, r.operand) ∷ links_of rounds

abbrev pub forest_of : List Round → List Tree
forest_of [] = []
forest_of (r ∷ rounds) = r.separator ++ (r.operand ++ forest_of rounds)

-- the trails of rounds, and the trails that `rest` has for them: it notes its first alternative for each round, and its second after
-- the last
abbrev pub trail_of : List Round → List TrailItem
trail_of [] = []
trail_of (r ∷ rounds) = r.separator_trail ++ (r.operand_trail ++ trail_of rounds)

abbrev pub rest_trail : List Round → List TrailItem
rest_trail [] = Alt 2 ∷ []
rest_trail (r ∷ rounds) = Alt 1 ∷ (r.separator_trail ++ (r.operand_trail ++ rest_trail rounds))

-- ---- the law

-- a chain's outcome at a spot beside that of `seq(operand, rest)`: the same kind of answer, up to the same place and table,
-- with the same error and messages. If both are ok, one folds the forests of the operand and the rounds and the other
-- joins them, and one trail counts the rounds for which the other notes the alternatives of `rest`
pub data AreAlike (G : Given) (side : Side) (shape : Shape) (operand separator : ℕ) (a : Spot) : Outcome → Outcome → Type 0 where
  both_ok : {x y : Bool} {b c : Spot} {v : List Tree} {t : List TrailItem} {e f : Error} {m : ℕ} {rounds : List Round} →
      Answers G operand a (ok x b v t e) m → OkRounds G operand separator rounds b c →
      AreAlike G side shape operand separator a
      (ok y c (folded side shape v (links_of rounds)) (Rounds (length rounds) ∷ (t ++ trail_of rounds)) f)
      (ok y c (v ++ forest_of rounds) (t ++ rest_trail rounds) f)
  both_failed : {x : Bool} {e : Error} → AreAlike G side shape operand separator a (failed x e) (failed x e)
  both_stuck : AreAlike G side shape operand separator a empty_round empty_round

-- some run of the form at the spot has an outcome for which `IsSo` holds
pub record SomeRun (G : Given) (n : Node) (a : Spot) (IsSo : Outcome → Type 0) : Type 0 where
  pub outcome : Outcome
  pub count : ℕ
  pub run : AnswersForm G n a outcome count
  pub is_so : IsSo outcome

-- a chain answers as its operand followed by `rest`, and the other way round
abbrev pub ChainsAreOperandsAndRests : Type 0
ChainsAreOperandsAndRests = (G : Given) (side : Side) (used : ChainBuilder) (operand separator p rest : ℕ) →
    AreCopies G.grammar p operand → IsRest G.grammar operand separator rest → (a : Spot) →
    ((o : Outcome) (m : ℕ) → AnswersForm G (form.Chain side used operand separator) a o m →
    SomeRun G (form.Seq (p ∷ rest ∷ [])) a (λ q. AreAlike G side used.shape operand separator a o q))
    × ((q : Outcome) (n : ℕ) → AnswersForm G (form.Seq (p ∷ rest ∷ [])) a q n →
    SomeRun G (form.Chain side used operand separator) a (λ o. AreAlike G side used.shape operand separator a o q))
