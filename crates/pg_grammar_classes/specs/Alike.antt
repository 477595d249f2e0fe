-- A key that determines a part of a class expression, unless it is a predicate.
use Rattle.std.specs.Prelude.{ℕ, List}
use Rattle.pg_grammar_form.specs.declared.class.ClassPart.{ClassPart}
use Rattle.pg_grammar_form.specs.declared.class.ClassPart.TheVariants as part
use Rattle.pg_grammar_classes.specs.declared.alike.Kind.{Kind}
use Rattle.pg_grammar_classes.specs.declared.alike.Kind.TheVariants as kind

-- the part with this kind, these characters and these numbers
abbrev pub part_of : Kind → List ℕ → ℕ → ℕ → ClassPart
part_of kind.Literal characters first last = part.Literal characters
part_of kind.Range characters first last = part.Range first last
part_of kind.Union characters first last = part.Union first
part_of kind.Complement characters first last = part.Complement
part_of kind.Class characters first last = part.Class first
