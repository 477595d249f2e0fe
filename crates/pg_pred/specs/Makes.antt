-- What a stored function owes to its shape.
use Rattle.std.specs.Prelude.{◌≡◌, ℕ, List, Result}
use Rattle.std.specs.Result.{ForOk}
use Rattle.std.specs.Coded.{Coded-set, Π_prop}
use denote.Bor.{Bor}
use Rattle.pg_tree.specs.Trees.{Tree}
use Rattle.pg_tree.specs.Marks.{tree_code}
use Rattle.pg_tree.specs.Built.{built}
use Rattle.pg_tree.specs.declared.shape.Shape.{Shape}

-- a relation of calls and results that makes a shape's trees: the tree made of a symbol and kids is the shape's
abbrev pub Makes : {A E : Type 0} → Shape → (A → Bor (List ℕ) → List Tree → Result Tree E → Type 0) → Type 0
Makes {A} {E} shape results =
    (alloc : A) (symbol : Bor (List ℕ)) (kids : List Tree) (r : Result Tree E) → results alloc symbol kids r → ForOk r (λ tree. tree ≡ built shape symbol.now kids)

-- `Makes` is a proposition
pub Makes-prop : {A E : Type 0} (shape : Shape) (results : A → Bor (List ℕ) → List Tree → Result Tree E → Type 0) → IsProp (Makes shape results)
Makes-prop shape results =
    Π_prop (λ alloc. Π_prop (λ symbol. Π_prop (λ kids. Π_prop (λ r. Π_prop (λ made. Π_prop (λ tree. Π_prop (λ is. Coded-set tree_code tree (built shape symbol.now kids))))))))
