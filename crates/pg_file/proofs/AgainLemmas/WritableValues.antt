-- The values that are printed of a body that a file may have are such as a file may have.
use Rattle.std.proofs.Common.{◌≡◌, ℕ, zero, suc, true, List, [], ◌∷◌, take, refl}
use Rattle.pg_file_items.proofs.ItemLemmas.Whole.{all_append}
use Rattle.std.specs.List.{AllByRecursion}
use Rattle.std.specs.Str.{chars}
use Rattle.pg_pred.specs.Offer.{Offer}
use Rattle.pg_grammar_form.specs.Names as names
use Rattle.pg_grammar_form.specs.Forms.{BaseForm, part_count}
use Rattle.pg_grammar_form.proofs.Each.{all-take, all-drop}
use Rattle.pg_grammar_form.specs.declared.class.ClassPart.{ClassPart}
use Rattle.pg_grammar_form.specs.declared.form.Form.TheVariants as form
use Rattle.pg_grammar_form.specs.declared.form.Leaf.{Leaf}
use Rattle.pg_grammar_form.specs.declared.form.Leaf.TheVariants as leaf
use Rattle.pg_grammar_form.specs.declared.form.Around.{Around}
use Rattle.pg_grammar_form.specs.declared.form.Around.TheVariants as around
use Rattle.pg_grammar_form.specs.declared.used.BuilderUse.{BuilderUse}
use Rattle.pg_grammar_form.specs.declared.used.ChainBuilder.{ChainBuilder}
use Rattle.pg_file_items.specs.declared.words.ClassForm.{ClassForm}
use Rattle.pg_file_items.specs.declared.words.ClassForm.TheVariants as class_form
use Rattle.pg_file_items.specs.declared.words.SomeForm.{SomeForm}
use Rattle.pg_file_items.specs.declared.words.SomeForm.TheVariants as some_form
use Rattle.pg_file_items.specs.declared.words.OneForm.{OneForm}
use Rattle.pg_file_items.specs.declared.words.OneForm.TheVariants as one_form
use Rattle.pg_grammar_form.specs.declared.side.Side.{Side}
use Rattle.pg_grammar_form.specs.declared.side.Side.TheVariants as side
use Rattle.pg_file_tokens.specs.declared.token.Mark.TheVariants.{Comma, Close}
use Rattle.pg_file_tokens.specs.Tokens.{Token, mark, literal}
use Rattle.pg_file_tokens.specs.Lexical.{passes, is_name, is_scalar}
use Rattle.pg_file_items.specs.Tree.{Value, Of_class, Seq, Of_some, Of_one, Chain, Values, No_value}
use Rattle.pg_file_items.specs.Syntax.{class_word, some_word, one_word, chain_word, written, written_list, written_more}
use Rattle.pg_file_items.specs.Proper.{IsLiteral, IsProper, AreProper}
use Rattle.pg_file_items.specs.Heads.{heads, all_heads}
use Rattle.pg_file_meaning.specs.Names.{FormIsKnown}
use Rattle.pg_file_print.specs.Canonical.{class_from, values_from, value_at, choice_from, build_from, chain_from, leaf_value, around_value, value_of_form, values_of}
use Rattle.pg_file.proofs.AgainLemmas.Printable.{ArePrintable}
use Rattle.pg_file.proofs.AgainLemmas.WritableClasses.{IsWritableExpression, printed_class_writable, IsWritableClass}
use Rattle.pg_file.proofs.AgainLemmas.WritableBodies.{IsWritableBuilder, IsWritableChain, IsWritableForm, IsWritableBody}

-- a value that a file may have
pub record IsWritableValue (offer : Offer) (items : List names.Name) (v : Value) : Type 0 where
  pub proper : IsProper v
  pub printable : (rest : List Token) → ArePrintable rest → ArePrintable (written v rest)
  pub known : AllByRecursion (FormIsKnown offer items) (heads v)

-- values that it may have
record AreWritableValues (offer : Offer) (items : List names.Name) (vs : Values) : Type 0 where
  proper : AreProper vs
  list : (rest : List Token) → ArePrintable rest → ArePrintable (written_list vs rest)
  more : (rest : List Token) → ArePrintable rest → ArePrintable (written_more vs rest)
  known : AllByRecursion (FormIsKnown offer items) (all_heads vs)

abbrev AreWritable : Offer → (items : List names.Name) → List Value → Type 0
AreWritable offer items values = AllByRecursion (IsWritableValue offer items) values

values_writable : (offer : Offer) (items : List names.Name) (values : List Value) → AreWritable offer items values → AreWritableValues offer items (values_from values)
values_writable offer items [] h = record { proper = tt; list = λ rest p. (tt, p); more = λ rest p. (tt, p); known = tt }
values_writable offer items (v ∷ values) h =
    let others = values_writable offer items values h.1 in
    record {
      proper = (h.0.proper, others.proper);
      list = λ rest p. h.0.printable (written_more (values_from values) rest) (others.more rest p);
      more = λ rest p. (tt, h.0.printable (written_more (values_from values) rest) (others.more rest p));
      known = all_append (FormIsKnown offer items) (heads v) (all_heads (values_from values)) h.0.known others.known;
    }

seq_writable : (offer : Offer) (items : List names.Name) (values : List Value) → AreWritable offer items values → IsWritableValue offer items (Seq (values_from values))
seq_writable offer items values h =
    let all = values_writable offer items values h in
    record { proper = all.proper; printable = λ rest p. (refl, (tt, all.list rest p)); known = (tt, all.known) }

no_seq : (offer : Offer) (items : List names.Name) → IsWritableValue offer items (Seq No_value)
no_seq offer items = seq_writable offer items [] tt

value_at_writable : (offer : Offer) (items : List names.Name) (k : ℕ) (values : List Value) → AreWritable offer items values → IsWritableValue offer items (value_at k values)
value_at_writable offer items k [] h = no_seq offer items
value_at_writable offer items zero (v ∷ values) h = h.0
value_at_writable offer items (suc k) (v ∷ values) h = value_at_writable offer items k values h.1

some_word_is_name : (form : SomeForm) → is_name (some_word form) ≡ true
some_word_is_name some_form.Choice = refl
some_word_is_name some_form.Try = refl
some_word_is_name some_form.Local = refl

some_writable : (offer : Offer) (items : List names.Name) (form : SomeForm) (v : Value) (values : List Value) → IsWritableValue offer items v → AreWritable offer items values
    → IsWritableValue offer items (Of_some form v (values_from values))
some_writable offer items form v values h e =
    let others = values_writable offer items values e in
    record {
      proper = (h.proper, others.proper);
      printable = λ rest p. (some_word_is_name form, (tt, h.printable (written_more (values_from values) rest) (others.more rest p)));
      known = (tt, all_append (FormIsKnown offer items) (heads v) (all_heads (values_from values)) h.known others.known);
    }

choice_writable : (offer : Offer) (items : List names.Name) (values : List Value) → AreWritable offer items values → IsWritableValue offer items (choice_from values)
choice_writable offer items [] h = some_writable offer items some_form.Choice (Seq No_value) [] (no_seq offer items) tt
choice_writable offer items (v ∷ values) h = some_writable offer items some_form.Choice v values h.0 h.1

class_word_is_name : (form : ClassForm) → is_name (class_word form) ≡ true
class_word_is_name class_form.Satisfy = refl
class_word_is_name class_form.NotFollowedBy = refl
class_word_is_name class_form.Declare = refl

class_value_writable : (offer : Offer) (items : List names.Name) (form : ClassForm) (class : List ClassPart) → IsWritableExpression offer items items class
    → IsWritableValue offer items (Of_class form (class_from items class))
class_value_writable offer items form class h =
    let c : IsWritableClass offer items (class_from items class) = printed_class_writable offer items items class h.writable in
    record { proper = c.proper; printable = λ rest p. (class_word_is_name form, (tt, c.printable (mark Close ∷ rest) (tt, p))); known = (c.known, tt) }

one_word_is_name : (form : OneForm) → is_name (one_word form) ≡ true
one_word_is_name one_form.Many = refl
one_word_is_name one_form.Many1 = refl
one_word_is_name one_form.Option = refl
one_word_is_name one_form.Text = refl
one_word_is_name one_form.Skip = refl

one_writable : (offer : Offer) (items : List names.Name) (form : OneForm) (v : Value) → IsWritableValue offer items v → IsWritableValue offer items (Of_one form v)
one_writable offer items form v h =
    record { proper = h.proper; printable = λ rest p. (one_word_is_name form, (tt, h.printable (mark Close ∷ rest) (tt, p))); known = (tt, h.known) }

chain_word_is_name : (form : Side) → is_name (chain_word form) ≡ true
chain_word_is_name side.Left = refl
chain_word_is_name side.Right = refl

chain_value_writable : (offer : Offer) (items : List names.Name) (side : Side) (used : ChainBuilder) (symbol : List ℕ) (operand separator : Value) → IsWritableChain offer used
    → IsLiteral symbol → passes is_scalar symbol ≡ true → IsWritableValue offer items operand → IsWritableValue offer items separator
    → IsWritableValue offer items (chain_from side (chars used.name) symbol operand separator)
chain_value_writable offer items side used [] operand separator b short scalars h e = record {
  proper = (b.short, h.proper, e.proper);
  printable = λ rest p.
      (chain_word_is_name side, (tt, (b.name, (tt, h.printable (mark Comma ∷ written separator (mark Close ∷ rest)) (tt, e.printable (mark Close ∷ rest) (tt, p))))));
  known = (b.known, all_append (FormIsKnown offer items) (heads operand) (heads separator) h.known e.known);
}
chain_value_writable offer items side used (c ∷ symbol) operand separator b short scalars h e = record {
  proper = (b.short, short, h.proper, e.proper);
  printable = λ rest p.
      (chain_word_is_name side, (tt, (b.name, (tt, (scalars, (tt, h.printable (mark Comma ∷ written separator (mark Close ∷ rest)) (tt, e.printable (mark Close ∷ rest) (tt, p))))))));
  known = (b.known, all_append (FormIsKnown offer items) (heads operand) (heads separator) h.known e.known);
}

build_writable : (offer : Offer) (items : List names.Name) (used : BuilderUse) (symbol : List ℕ) (v : Value) → IsWritableBuilder offer used → IsLiteral symbol → passes is_scalar symbol ≡ true
    → IsWritableValue offer items v → IsWritableValue offer items (build_from (chars used.name) symbol v)
build_writable offer items used [] v b short scalars h = record {
  proper = (b.short, h.proper);
  printable = λ rest p. (refl, (tt, (b.name, (tt, h.printable (mark Close ∷ rest) (tt, p)))));
  known = (b.known, h.known);
}
build_writable offer items used (c ∷ symbol) v b short scalars h = record {
  proper = (b.short, short, h.proper);
  printable = λ rest p. (refl, (tt, (b.name, (tt, (scalars, (tt, h.printable (mark Close ∷ rest) (tt, p)))))));
  known = (b.known, h.known);
}

leaf_value_writable : (offer : Offer) (items : List names.Name) (l : Leaf names.Name) → IsWritableForm offer items (form.Leaf l) → IsWritableValue offer items (leaf_value items l)
leaf_value_writable offer items (leaf.Satisfy class) h = class_value_writable offer items class_form.Satisfy class h
leaf_value_writable offer items (leaf.String s) h = record { proper = h.0; printable = λ rest p. (refl, (tt, (h.1, (tt, p)))); known = (tt, tt) }
leaf_value_writable offer items (leaf.Word s) h = record { proper = h.free; printable = λ rest p. (refl, (tt, (h.name, (tt, p)))); known = (tt, tt) }
leaf_value_writable offer items (leaf.NotFollowedBy class) h = class_value_writable offer items class_form.NotFollowedBy class h
leaf_value_writable offer items leaf.EndOfText h = record { proper = tt; printable = λ rest p. (refl, p); known = (tt, tt) }
leaf_value_writable offer items (leaf.Declare class) h = class_value_writable offer items class_form.Declare class h

around_value_writable : (offer : Offer) (items : List names.Name) (k : Around) (v : Value) → IsWritableForm offer items (form.Around k (record {})) → IsWritableValue offer items v
    → IsWritableValue offer items (around_value k v)
around_value_writable offer items around.Try v h e = some_writable offer items some_form.Try v [] e tt
around_value_writable offer items around.Text v h e = one_writable offer items one_form.Text v e
around_value_writable offer items around.Skip v h e = one_writable offer items one_form.Skip v e
around_value_writable offer items (around.Build used symbol) v h e = build_writable offer items used (chars symbol) v h.0 h.1.short h.1.scalars e
around_value_writable offer items (around.Label message) v h e = record {
  proper = (e.proper, h.0);
  printable = λ rest p. (refl, (tt, e.printable (mark Comma ∷ literal message ∷ mark Close ∷ rest) (tt, (h.1, (tt, p)))));
  known = (tt, e.known);
}
around_value_writable offer items around.Local v h e = some_writable offer items some_form.Local v [] e tt

form_value_writable : (offer : Offer) (items : List names.Name) (form : BaseForm) (values : List Value) → IsWritableForm offer items form → AreWritable offer items values
    → IsWritableValue offer items (value_of_form items form values)
form_value_writable offer items (form.Leaf l) values h e = leaf_value_writable offer items l h
form_value_writable offer items (form.Seq n) values h e = seq_writable offer items values e
form_value_writable offer items (form.Choice n) values h e = choice_writable offer items values e
form_value_writable offer items (form.Many part) values h e = one_writable offer items one_form.Many _ (value_at_writable offer items 0 values e)
form_value_writable offer items (form.Chain side used operand separator) values h e =
    chain_value_writable offer items side used (chars used.symbol) _ _ h h.symbol.short h.symbol.scalars (value_at_writable offer items 0 values e) (value_at_writable offer items 1 values e)
form_value_writable offer items (form.Rule s) values h e = record { proper = h.free; printable = λ rest p. (h.name, p); known = (tt, tt) }
form_value_writable offer items (form.Expression builders part) values h e =
    let term = value_at_writable offer items 0 values e in
    record {
      proper = (h.0.short, h.1.short, h.2.short, term.proper);
      printable = λ rest p. (refl, (tt, (h.0.name, (tt, (h.1.name, (tt, (h.2.name, (tt, term.printable (mark Close ∷ rest) (tt, p)))))))));
      known = ((h.0.known, h.1.known, h.2.known), term.known);
    }
form_value_writable offer items (form.Around k part) values h e = around_value_writable offer items k _ h (value_at_writable offer items 0 values e)

-- what is printed of such a body
pub printed_values_writable : (offer : Offer) (items : List names.Name) (forms : List BaseForm) → IsWritableBody offer items forms → AllByRecursion (IsWritableValue offer items) (values_of items forms)
printed_values_writable offer items [] h = tt
printed_values_writable offer items (form ∷ forms) h =
    let others = printed_values_writable offer items forms h.1 in
    let P = IsWritableValue offer items in (
      form_value_writable offer items form (take (part_count form) (values_of items forms)) h.0 (all-take P (part_count form) (values_of items forms) others),
      all-drop P (part_count form) (values_of items forms) others,
    )
