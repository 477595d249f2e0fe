-- A node that is entered counts.
use Rattle.std.proofs.Common.{◌≡◌, ◌+◌, ℕ, suc, subst, Some, slice_get, arith}
use Rattle.pg_grammar_form.specs.Forms.{Node}
use Rattle.pg_language.specs.Answers.{Given, Answers, entered, AnswersForm}
use Rattle.pg_language.specs.Derives.{Spot}
use Rattle.pg_language.specs.Outcomes.{Outcome}

-- the node itself counts
pub entered_too : (G : Given) (q : ℕ) (n : Node) (a : Spot) (o : Outcome) (m : ℕ) → slice_get G.grammar.nodes q ≡ Some n → AnswersForm G n a o m → Answers G q a o (1 + m)
entered_too G q n a o m h d = let one : suc m ≡ 1 + m = omega arith in subst (Answers G q a o) one (entered h d)
