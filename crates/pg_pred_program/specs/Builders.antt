-- The names of the program's builders, and the shapes that they make.
use Rattle.std.specs.Prelude.{List, [], ◌∷◌, codes}
use Rattle.pg_tree.specs.declared.shape.Shape.{Shape}
use Rattle.pg_tree.specs.declared.shape.Shape.TheVariants.{Node, Symbol, Join, Flat}
use Rattle.pg_pred.specs.Names.{Name}

-- each builder's name and its shape
abbrev pub builder_shapes : List (Name × Shape)
builder_shapes =
    (codes "node", Symbol)
    ∷ (codes "num", Node (codes "num"))
    ∷ (codes "name", Node (codes "name"))
    ∷ (codes "list", Node (codes "list"))
    ∷ (codes "call", Node (codes "call"))
    ∷ (codes "flat", Flat (codes "list"))
    ∷ (codes "join", Join)
    ∷ []
