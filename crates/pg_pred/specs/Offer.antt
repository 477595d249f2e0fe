-- What a registry offers, as plain values.
use Rattle.std.specs.Prelude.{List, map, Option, string_bytes}
use Rattle.pg_class.specs.Ranges.{Range}
use Rattle.pg_tree.specs.declared.shape.Shape.{Shape}
use Rattle.pg_pred.specs.Names.{Name, under_name}
use Rattle.pg_pred.specs.declared.registry.Registry.{Registry}

-- a class for each predicate's name, and a shape for each builder's name
pub record Offer : Type 0 where
  pub classes : List (Name × List Range)
  pub shapes : List (Name × Shape)

-- the offer of a registry
abbrev pub offer_of : {T M : Type 0} {F : T → Type 0} {G : M → Type 0} {f : _} {g : _} → Registry T M F G f g → Offer
offer_of registry = record {
  classes = map (λ p. (string_bytes p.name, p.class)) registry.predicates.items;
  shapes = map (λ b. (string_bytes b.name, b.shape)) registry.builders.items;
}

-- the class of the predicate with a name
abbrev pub predicate_class : Offer → Name → Option (List Range)
predicate_class offer name = under_name offer.classes name

-- the shape of the builder with a name
abbrev pub builder_shape : Offer → Name → Option Shape
builder_shape offer name = under_name offer.shapes name
