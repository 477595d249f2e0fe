-- What a chain folds with: a builder that is handed the same symbol at each link.
use Rattle.std.specs.Prelude.{ℕ, List}
use Rattle.pg_tree.specs.declared.shape.Shape.{Shape}
use Rattle.pg_tree.specs.declared.shape.Shape.TheVariants.{Node, Symbol, Join, Flat}
use Rattle.pg_grammar_form.specs.declared.used.BuilderUse.{BuilderUse}
use Rattle.pg_grammar_form.specs.declared.used.ChainBuilder.{ChainBuilder}

-- the shape that makes with no symbol what this one makes with the symbol
abbrev pub with_symbol : Shape → List ℕ → Shape
with_symbol (Node label) symbol = Node label
with_symbol Symbol symbol = Node symbol
with_symbol Join symbol = Join
with_symbol (Flat label) symbol = Flat label

-- the builder of a chain that hands this builder the symbol
abbrev pub handed : BuilderUse → List ℕ → ChainBuilder
handed used symbol = record { name = used.name; symbol = symbol; shape = with_symbol used.shape symbol }
