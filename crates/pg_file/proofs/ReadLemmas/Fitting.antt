-- A registry that offers what the names of a file stand for fits the grammar.
use Rattle.std.proofs.Common.{◌≡◌, ℕ, zero, suc, Bool, true, false, ◌||◌, List, [], ◌∷◌, map, take, Option, Some, None, unwrap_or, option_map, refl, ap, subst}
use Rattle.pg_grammar_form.proofs.Each.{all-take, all-drop}
use Rattle.pg_file_items.proofs.ItemLemmas.Whole.{all_append}
use Rattle.std.specs.List.{AllByRecursion}
use Rattle.std.specs.Option.{is_some}
use Rattle.std.specs.Str.{encode_utf8_all}
use Rattle.pg_pred.specs.Offer.{Offer, predicate_class, builder_shape}
use Rattle.pg_grammar_form.specs.Contents.{class_parts, builders_in, chain_builder_in}
use Rattle.pg_grammar_form.specs.Chains.{with_symbol}
use Rattle.pg_grammar_value.specs.Fits.{PartFits, ClassFits, BuilderFits, BuildersFit, ChainFits, NodeFits, ItemsFit, WordFits, WordsFit, OperatorsFit, NodesFit, Fits}
use Rattle.pg_grammar_form.specs.Forms.{BaseForm, Node, form_of}
use Rattle.pg_grammar_value.specs.Grammar.{Grammar, rule_names, word_names}
use Rattle.pg_grammar_form.specs.ClassItems.{item_class}
use Rattle.pg_grammar.specs.Made.{Made, nothing_made}
use Rattle.pg_grammar_form.specs.Names as names
use Rattle.pg_grammar_form.specs.Names.{place_of_name, has_name}
use Rattle.pg_grammar_form.specs.declared.form.Form.TheVariants as form
use Rattle.pg_grammar_form.specs.declared.form.Around.{Around}
use Rattle.pg_grammar_form.specs.declared.form.Around.TheVariants as around
use Rattle.pg_grammar_form.specs.declared.form.Leaf.TheVariants as leaf
use Rattle.pg_file_items.specs.declared.written.WrittenPart.{WrittenPart}
use Rattle.pg_file_items.specs.declared.written.WrittenPart.TheVariants as part
use Rattle.pg_file_items.specs.declared.written.WrittenForm.{WrittenForm}
use Rattle.pg_file_items.specs.declared.written.WrittenForm.TheVariants as written
use Rattle.pg_file_items.specs.declared.words.ClassForm.{ClassForm}
use Rattle.pg_file_items.specs.declared.words.ClassForm.TheVariants.{Satisfy}
use Rattle.pg_file_items.specs.declared.words.SomeForm.{SomeForm}
use Rattle.pg_file_items.specs.declared.words.SomeForm.TheVariants.{Choice, Try, Local}
use Rattle.pg_grammar_form.specs.declared.side.Side.{Side}
use Rattle.pg_file_meaning.specs.Names.{builder_named, chain_builder_named, item_or_predicate, PartIsKnown, ClassIsKnown, BuilderIsKnown, FormIsKnown}
use Rattle.pg_file_items.specs.Joined.{joined}
use Rattle.pg_file_meaning.specs.Meaning.{Body, some_of, class_of, chain_of}
use Rattle.pg_file_meaning.specs.Bodies.{part_meant, parts_meant, body_at, body_of_form, bodies, body_meant}
use Rattle.pg_file_items.specs.Sizes.{part_count}
use Rattle.pg_file_items.specs.Entries as entry
use Rattle.pg_file_items.specs.Entries.{Entry}
use Rattle.pg_file_making.specs.Spells.{made_classes}
use Rattle.pg_file_making.specs.Making.{with_entry, with_entries, EntriesAreInOrder, IsGrammarOfEntries}
use Rattle.pg_file_meaning.proofs.MeaningLemmas.Composing.{IsBare, Composes, composes_some, composes_one, composes_two, composes_between}
use Rattle.pg_file_meaning.proofs.MeaningLemmas.Lookup.{none_is_absent}

-- ---- what is offered

-- what is there is what stands in its place
is_there : {A : Type 0} (o : Option A) (otherwise : A) → is_some o ≡ true → o ≡ Some (unwrap_or o otherwise)
is_there (Some x) otherwise h = refl
is_there None otherwise h = absurd cc

named_fits : (offer : Offer) (s : names.Name) (place : Option ℕ) (known : Bool) → ((place ≡ None) → known ≡ false)
    → (known || is_some (predicate_class offer (encode_utf8_all s))) ≡ true → PartFits offer (item_or_predicate offer s place)
named_fits offer s (Some k) known none h = tt
named_fits offer s None known none h =
    let there : is_some (predicate_class offer (encode_utf8_all s)) ≡ true = rw (none refl) at h in is_there (predicate_class offer (encode_utf8_all s)) _ there

part_fits : (offer : Offer) (classes : List names.Name) (p : WrittenPart) → PartIsKnown offer classes p → PartFits offer (part_meant offer classes p)
part_fits offer classes (part.Literal s) h = tt
part_fits offer classes (part.Range low high) h = tt
part_fits offer classes (part.Union n) h = tt
part_fits offer classes part.Complement h = tt
part_fits offer classes (part.Named s) h = named_fits offer s (place_of_name classes s) (has_name classes s) (none_is_absent classes s) h

class_fits : (offer : Offer) (classes : List names.Name) (parts : List WrittenPart) → ClassIsKnown offer classes parts → ClassFits offer (parts_meant offer classes parts)
class_fits offer classes [] h = tt
class_fits offer classes (p ∷ parts) h = (part_fits offer classes p h.0, class_fits offer classes parts h.1)

builder_fits : (offer : Offer) (s : names.Name) → BuilderIsKnown offer s → BuilderFits offer (builder_named offer s)
builder_fits offer s h = is_there (builder_shape offer (encode_utf8_all s)) _ h

-- ---- bodies

-- the predicates and the builders that a base form names are offered
abbrev FormFits : Offer → BaseForm → Type 0
FormFits offer f = ClassFits offer (class_parts f) × BuildersFit offer (builders_in f) × ChainFits offer (chain_builder_in f)

abbrev BodyFits : Offer → Body → Type 0
BodyFits offer body = AllByRecursion (FormFits offer) body

abbrev BodiesFit : Offer → List Body → Type 0
BodiesFit offer bs = AllByRecursion (BodyFits offer) bs

joined_fit : (offer : Offer) (bs : List Body) → BodiesFit offer bs → BodyFits offer (joined bs)
joined_fit offer [] h = tt
joined_fit offer (b ∷ bs) h = all_append (FormFits offer) b (joined bs) h.0 (joined_fit offer bs h.1)

body_fits : (offer : Offer) (k : ℕ) (bs : List Body) → BodiesFit offer bs → BodyFits offer (body_at k bs)
body_fits offer k [] h = tt
body_fits offer zero (b ∷ bs) h = h.0
body_fits offer (suc k) (b ∷ bs) h = body_fits offer k bs h.1

-- a form in which nothing is named
plain : Unit {0} × Unit {0} × Unit {0}
plain = (tt, tt, tt)

bare_fits : (offer : Offer) (k : Around) → IsBare k → FormFits offer (form.Around k (record {}))
bare_fits offer (around.Build used symbol) bare = absurd bare
bare_fits offer _ bare = plain

fits_composes : (offer : Offer) → Composes (BodyFits offer)
fits_composes offer = record {
  seq = λ bodies h. (plain, joined_fit offer bodies h);
  choice = λ body bodies h. (plain, joined_fit offer (body ∷ bodies) h);
  many = λ body h. (plain, h);
  around = λ k bare body h. (bare_fits offer k bare, h);
}

some_fits : (offer : Offer) (form : SomeForm) (bs : List Body) → BodiesFit offer bs → BodyFits offer (some_of form bs)
some_fits offer Choice [] h = (plain, tt)
some_fits offer Try [] h = (plain, (plain, tt))
some_fits offer Local [] h = (plain, (plain, tt))
some_fits offer form (b ∷ bs) h = composes_some (BodyFits offer) (fits_composes offer) form b bs h

of_class_fits : (offer : Offer) (classes : List names.Name) (form : ClassForm) (parts : List WrittenPart) → ClassIsKnown offer classes parts → FormFits offer (class_of form (parts_meant offer classes parts))
of_class_fits offer classes Satisfy parts h = (class_fits offer classes parts h, tt, tt)
of_class_fits offer classes _ parts h = (class_fits offer classes parts h, tt, tt)

chain_fits : (offer : Offer) (side : Side) (s symbol : names.Name) → BuilderIsKnown offer s → FormFits offer (chain_of side (chain_builder_named offer s symbol))
chain_fits offer side s symbol h = (tt, tt, ap (option_map (λ shape. with_symbol shape (encode_utf8_all symbol))) (builder_fits offer s h))

form_fits : (offer : Offer) (classes : List names.Name) (form : WrittenForm) (bs : List Body) → FormIsKnown offer classes form → BodiesFit offer bs → BodyFits offer (body_of_form offer classes form bs)
form_fits offer classes (written.OfClass form parts) bs h e = (of_class_fits offer classes form parts h, tt)
form_fits offer classes (written.String s) bs h e = (plain, tt)
form_fits offer classes (written.Seq n) bs h e = (plain, joined_fit offer bs e)
form_fits offer classes (written.OfSome form n) bs h e = some_fits offer form bs e
form_fits offer classes (written.OfOne form) bs h e = composes_one (BodyFits offer) (fits_composes offer) form (body_at 0 bs) (body_fits offer 0 bs e)
form_fits offer classes (written.OfTwo form) bs h e = composes_two (BodyFits offer) (fits_composes offer) form (body_at 0 bs) (body_at 1 bs) (body_fits offer 0 bs e) (body_fits offer 1 bs e)
form_fits offer classes written.Between bs h e =
    composes_between (BodyFits offer) (fits_composes offer) (body_at 0 bs) (body_at 1 bs) (body_at 2 bs) (body_fits offer 0 bs e) (body_fits offer 1 bs e) (body_fits offer 2 bs e)
form_fits offer classes (written.Chain side builder symbol) bs h e =
    (chain_fits offer side builder symbol h, all_append (FormFits offer) (body_at 0 bs) (body_at 1 bs) (body_fits offer 0 bs e) (body_fits offer 1 bs e))
form_fits offer classes (written.Expression infixes prefixes postfixes) bs h e =
    ((tt, (builder_fits offer infixes h.0, (builder_fits offer prefixes h.1, (builder_fits offer postfixes h.2, tt))), tt), body_fits offer 0 bs e)
form_fits offer classes (written.Build builder symbol) bs h e = ((tt, (builder_fits offer builder h, tt), tt), body_fits offer 0 bs e)
form_fits offer classes (written.Label message) bs h e = (plain, body_fits offer 0 bs e)
form_fits offer classes written.EndOfText bs h e = (plain, tt)
form_fits offer classes (written.Word s) bs h e = (plain, tt)
form_fits offer classes (written.Rule s) bs h e = (plain, tt)

bodies_fit : (offer : Offer) (classes : List names.Name) (forms : List WrittenForm) → AllByRecursion (FormIsKnown offer classes) forms → BodiesFit offer (bodies offer classes forms)
bodies_fit offer classes [] h = tt
bodies_fit offer classes (form ∷ forms) h =
    let others = bodies_fit offer classes forms h.1 in
    let n = part_count form in (
      form_fits offer classes form (take n (bodies offer classes forms)) h.0 (all-take (BodyFits offer) n (bodies offer classes forms) others),
      all-drop (BodyFits offer) n (bodies offer classes forms) others,
    )

-- ---- what is handed in

-- what was handed in names nothing but what is offered
record MadeFits (offer : Offer) (made : Made) : Type 0 where
  classes : ItemsFit offer made.classes
  words : WordsFit offer made.words
  operators : OperatorsFit offer made.operators
  forms : BodyFits offer made.forms

entry_fits : (offer : Offer) (made : Made) (e : Entry) → MadeFits offer made → EntriesAreInOrder offer made (e ∷ []) → MadeFits offer (with_entry offer made e)
entry_fits offer made (entry.class s parts) m h =
    let one = class_fits offer (made_classes made) parts h.0.known in
    record { classes = all_append (λ item. ClassFits offer (item_class item)) made.classes _ m.classes (one, tt); words = m.words; operators = m.operators; forms = m.forms }
entry_fits offer made (entry.word s head after reserved) m h =
    let one = class_fits offer (made_classes made) head h.0.known.0 in
    let other = class_fits offer (made_classes made) after h.0.known.1 in
    record { classes = m.classes; words = all_append (WordFits offer) made.words _ m.words ((one, other), tt); operators = m.operators; forms = m.forms }
entry_fits offer made (entry.operators parts gap reserved most) m h =
    let one = class_fits offer (made_classes made) parts h.0.known.0 in
    let other = class_fits offer (made_classes made) gap h.0.known.1 in
    record { classes = m.classes; words = m.words; operators = (one, other); forms = m.forms }
entry_fits offer made (entry.table role precedence symbol) m h = record { classes = m.classes; words = m.words; operators = m.operators; forms = m.forms }
entry_fits offer made (entry.start s) m h = record { classes = m.classes; words = m.words; operators = m.operators; forms = m.forms }
entry_fits offer made (entry.rule s forms) m h =
    let body = body_fits offer 0 (bodies offer (made_classes made) forms) (bodies_fit offer (made_classes made) forms h.0.known) in
    record { classes = m.classes; words = m.words; operators = m.operators; forms = all_append (FormFits offer) made.forms (body_meant offer (made_classes made) forms) m.forms body }

entries_fit : (offer : Offer) (made : Made) (entries : List Entry) → MadeFits offer made → EntriesAreInOrder offer made entries → MadeFits offer (with_entries offer made entries)
entries_fit offer made [] m h = m
entries_fit offer made (e ∷ entries) m h = entries_fit offer (with_entry offer made e) entries (entry_fits offer made e m (h.0, tt)) h.1

-- ---- grammars

node_fits : (offer : Offer) (rules words : List names.Name) (n : Node) → FormFits offer (form_of rules words n) → NodeFits offer n
node_fits offer rules words (form.Leaf (leaf.Word word)) h = h
node_fits offer rules words (form.Around around.Try part) h = h
node_fits offer rules words _ h = h

nodes_fit : (offer : Offer) (rules words : List names.Name) (nodes : List Node) → BodyFits offer (map (form_of rules words) nodes) → NodesFit offer nodes
nodes_fit offer rules words [] h = tt
nodes_fit offer rules words (n ∷ nodes) h = (node_fits offer rules words n h.0, nodes_fit offer rules words nodes h.1)

-- a registry that offers what is named fits the grammar
pub grammar_fits : (offer : Offer) (entries : List Entry) (g : Grammar) → IsGrammarOfEntries offer entries g → Fits offer g
grammar_fits offer entries g h =
    let nothing : MadeFits offer nothing_made = record { classes = tt; words = tt; operators = tt; forms = tt } in
    let made = entries_fit offer nothing_made entries nothing h.ordered in
    let says = h.says in
    record {
      classes = subst (ItemsFit offer) says.classes made.classes;
      words = subst (WordsFit offer) says.words made.words;
      operators = subst (OperatorsFit offer) says.operators made.operators;
      nodes = nodes_fit offer (rule_names g) (word_names g) g.nodes (subst (BodyFits offer) says.forms made.forms);
    }
