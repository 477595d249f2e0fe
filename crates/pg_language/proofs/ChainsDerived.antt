-- The forests of chains, and what a chain derives.
use Rattle.std.proofs.Common.{◌≡◌, ℕ, zero, List, [], ◌++◌, Bool, true, false, refl}
use Rattle.pg_tree.specs.Trees.{Tree}
use Rattle.pg_tree.specs.declared.shape.Shape.{Shape}
use Rattle.pg_language.specs.Derives.{Spot, Link, folded, Derives, DerivesLinks, no_link}
use Rattle.pg_grammar_value.specs.declared.trail.TrailItem.{TrailItem}
use Rattle.pg_language.specs.Answers.{Given}
use Rattle.pg_language.specs.Errors.{Error}
use Rattle.pg_grammar_form.specs.declared.side.Side.{Side}
use Rattle.pg_language.specs.Reactions.{unless_begun}
use Rattle.pg_language.proofs.Derived.{WhereOk}

-- links after a forest, which is folded with theirs
pub record DerivesAfter (G : Given) (side : Side) (shape : Shape) (p s : ℕ) (left : List Tree) (k : ℕ) (a b : Spot) (v : List Tree) (t : List TrailItem) : Type 0 where
  pub links : List Link
  pub derived : DerivesLinks G.grammar G.text p s k a b links t
  pub forest : v ≡ folded side shape left links

-- an operand, and links after it
pub record DerivesChain (G : Given) (side : Side) (shape : Shape) (p s k : ℕ) (a b : Spot) (v : List Tree) (t : List TrailItem) : Type 0 where
  pub middle : Spot
  pub first : List Tree
  pub trail : List TrailItem
  pub items : List TrailItem
  pub operand : Derives G.grammar G.text p a middle first trail
  pub after : DerivesAfter G side shape p s first k middle b v items
  pub noted : t ≡ trail ++ items

pub none_after : (G : Given) (side : Side) (shape : Shape) (p s : ℕ) (left : List Tree) (a : Spot) (c : Bool) (e : Error) →
    WhereOk (DerivesAfter G side shape p s left zero a) (unless_begun c a left e)
none_after G side shape p s left a true e = tt
none_after G side shape p s left a false e = record { links = []; derived = no_link; forest = refl }
