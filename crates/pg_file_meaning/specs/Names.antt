-- The meaning of the names of a file, given the offer of a registry and the names of the class items above.
use Rattle.std.specs.Prelude.{◌≡◌, ℕ, Bool, true, ◌||◌, List, [], Option, Some, None, unwrap_or}
use Rattle.std.specs.List.{AllByRecursion}
use Rattle.std.specs.Option.{is_some}
use Rattle.std.specs.Str.{encode_utf8_all}
use Rattle.pg_tree.specs.declared.shape.Shape.TheVariants.{Symbol}
use Rattle.pg_pred.specs.Offer.{Offer, predicate_class, builder_shape}
use Rattle.pg_grammar_form.specs.Chains.{handed}
use Rattle.pg_grammar_form.specs.Names.{Name, has_name, place_of_name}
use Rattle.pg_grammar_form.specs.declared.class.ClassPart.{ClassPart}
use Rattle.pg_grammar_form.specs.declared.class.ClassPart.TheVariants as class
use Rattle.pg_grammar_form.specs.declared.used.PredicateUse.{PredicateUse}
use Rattle.pg_grammar_form.specs.declared.used.BuilderUse.{BuilderUse}
use Rattle.pg_grammar_form.specs.declared.used.ChainBuilder.{ChainBuilder}
use Rattle.pg_file_items.specs.declared.written.WrittenPart.{WrittenPart}
use Rattle.pg_file_items.specs.declared.written.WrittenPart.TheVariants as part
use Rattle.pg_file_items.specs.declared.written.WrittenForm.{WrittenForm}
use Rattle.pg_file_items.specs.declared.written.WrittenForm.TheVariants as written

-- the offered predicate with a name
abbrev pub predicate_named : Offer → Name → PredicateUse
predicate_named offer s = record { name = encode_utf8_all s; class = unwrap_or (predicate_class offer (encode_utf8_all s)) [] }

-- the offered builder with a name
abbrev pub builder_named : Offer → Name → BuilderUse
builder_named offer s = record { name = encode_utf8_all s; shape = unwrap_or (builder_shape offer (encode_utf8_all s)) Symbol }

-- the offered builder with a name, handed a chain's symbol
abbrev pub chain_builder_named : Offer → (builder symbol : Name) → ChainBuilder
chain_builder_named offer s symbol = handed (builder_named offer s) (encode_utf8_all symbol)

-- the class item with a number, or otherwise the predicate with the name
abbrev pub item_or_predicate : Offer → Name → Option ℕ → ClassPart
item_or_predicate offer s (Some k) = class.Class k
item_or_predicate offer s None = class.Predicate (predicate_named offer s)

-- the meaning of a name in a class expression
abbrev pub class_named : Offer → List Name → Name → ClassPart
class_named offer classes s = item_or_predicate offer s (place_of_name classes s)

-- whether a predicate has the name
abbrev pub is_predicate_name : Offer → Name → Bool
is_predicate_name offer s = is_some (predicate_class offer (encode_utf8_all s))

-- whether a class item above or a predicate has the name
abbrev pub is_class_name : Offer → List Name → Name → Bool
is_class_name offer classes s = has_name classes s || is_predicate_name offer s

-- whether a builder has the name
abbrev pub is_builder_name : Offer → Name → Bool
is_builder_name offer s = is_some (builder_shape offer (encode_utf8_all s))

-- ---- names that are known

-- the name in a part of a class expression is known
abbrev pub PartIsKnown : Offer → List Name → WrittenPart → Type 0
PartIsKnown offer classes (part.Literal s) = Unit {0}
PartIsKnown offer classes (part.Range low high) = Unit {0}
PartIsKnown offer classes (part.Union n) = Unit {0}
PartIsKnown offer classes part.Complement = Unit {0}
PartIsKnown offer classes (part.Named s) = is_class_name offer classes s ≡ true

-- each name in a class expression is known
abbrev pub ClassIsKnown : Offer → List Name → List WrittenPart → Type 0
ClassIsKnown offer classes parts = AllByRecursion (PartIsKnown offer classes) parts

-- a builder has the name
abbrev pub BuilderIsKnown : Offer → Name → Type 0
BuilderIsKnown offer s = is_builder_name offer s ≡ true

-- the names of classes and builders in a form are known
abbrev pub FormIsKnown : Offer → List Name → WrittenForm → Type 0
FormIsKnown offer classes (written.OfClass form parts) = ClassIsKnown offer classes parts
FormIsKnown offer classes (written.String s) = Unit {0}
FormIsKnown offer classes (written.Seq n) = Unit {0}
FormIsKnown offer classes (written.OfSome form n) = Unit {0}
FormIsKnown offer classes (written.OfOne form) = Unit {0}
FormIsKnown offer classes (written.OfTwo form) = Unit {0}
FormIsKnown offer classes written.Between = Unit {0}
FormIsKnown offer classes (written.Chain form builder symbol) = BuilderIsKnown offer builder
FormIsKnown offer classes (written.Expression infixes prefixes postfixes) = BuilderIsKnown offer infixes × BuilderIsKnown offer prefixes × BuilderIsKnown offer postfixes
FormIsKnown offer classes (written.Build builder symbol) = BuilderIsKnown offer builder
FormIsKnown offer classes (written.Label message) = Unit {0}
FormIsKnown offer classes written.EndOfText = Unit {0}
FormIsKnown offer classes (written.Word s) = Unit {0}
FormIsKnown offer classes (written.Rule s) = Unit {0}
