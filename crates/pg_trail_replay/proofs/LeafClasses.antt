-- The class expression that stands in a leaf is what stands at its node.
use Rattle.std.proofs.Common.{◌≡◌, ℕ, List}
use Rattle.std.specs.Prelude.{Some, slice_get}
use Rattle.pg_grammar_form.specs.declared.class.ClassPart.{ClassPart}
use Rattle.pg_grammar_form.specs.declared.form.Form.TheVariants as form
use Rattle.pg_grammar_form.specs.declared.form.Leaf.TheVariants as leaf
use Rattle.pg_grammar_classes.specs.declared.site.ClassSite.TheVariants as site
use Rattle.pg_grammar_value.specs.Grammar.{Grammar}
use Rattle.pg_grammar_value.specs.Sites.{class_at}
use Rattle.pg_grammar_value.proofs.Sites.{class_at_node}

pub satisfy_class : (g : Grammar) (p : ℕ) (class : List ClassPart) → slice_get g.nodes p ≡ Some (form.Leaf (leaf.Satisfy class)) → class_at g (site.Node p) ≡ class
satisfy_class g p class at = class_at_node g p (form.Leaf (leaf.Satisfy class)) at

pub not_followed_class : (g : Grammar) (p : ℕ) (class : List ClassPart) → slice_get g.nodes p ≡ Some (form.Leaf (leaf.NotFollowedBy class)) → class_at g (site.Node p) ≡ class
not_followed_class g p class at = class_at_node g p (form.Leaf (leaf.NotFollowedBy class)) at

pub declare_class : (g : Grammar) (p : ℕ) (class : List ClassPart) → slice_get g.nodes p ≡ Some (form.Leaf (leaf.Declare class)) → class_at g (site.Node p) ≡ class
declare_class g p class at = class_at_node g p (form.Leaf (leaf.Declare class)) at
