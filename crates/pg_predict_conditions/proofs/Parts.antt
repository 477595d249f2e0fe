-- The parts of a node are nodes.
use Rattle.std.proofs.Common.{◌≡◌, ℕ, ◌<◌, List, Some, slice_get, length}
use Rattle.std.proofs.lemmas.Option.{slice_get-get_or}
use Rattle.pg_grammar_form.specs.Forms.{Node, parts_of}
use Rattle.pg_grammar_form.proofs.Each.{all-get}
use Rattle.pg_grammar_value.specs.Grammar.{Grammar, IsGrammar}
use Rattle.pg_grammar_value.proofs.Numbers.{parts_are_after}
use Rattle.pg_predict_conditions.specs.Judged.{part_at}

pub part_inside : (parts : List ℕ) (k : ℕ) → k < length parts → slice_get parts k ≡ Some (part_at parts k)
part_inside parts k below = slice_get-get_or parts k 0 below

pub parts_below : (g : Grammar) (p : ℕ) (n : Node) (k q : ℕ) → IsGrammar g → slice_get g.nodes p ≡ Some n → slice_get (parts_of n) k ≡ Some q → q < length g.nodes
parts_below g p n k q is at part = (all-get (λ r. (p < r) × (r < length g.nodes)) (parts_of n) k q (parts_are_after g.nodes p n is.preorder at) part).1
