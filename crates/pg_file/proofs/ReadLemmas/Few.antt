-- Items that make a grammar keep the limits: each is counted in what was handed in.
use Rattle.std.proofs.Common.{◌≡◌, ◌≤◌, ℕ, ◌+◌, Bool, true, false, cond, leb, leb-false, List, [], ◌∷◌, length, map, refl, ap, arith, length-append}
use Rattle.std.proofs.lemmas.List.{length-map}
use Rattle.pg_pred.specs.Offer.{Offer}
use Rattle.pg_grammar_value.specs.Grammar.{Grammar, rule_name, rule_names, word_names}
use Rattle.pg_grammar_form.specs.Forms.{form_of}
use Rattle.pg_grammar_form.specs.declared.class_item.ClassItem.{ClassItem}
use Rattle.pg_grammar_form.specs.declared.word_item.WordItem.{WordItem}
use Rattle.pg_grammar.specs.Made.{Made, nothing_made, Says}
use Rattle.pg_file_items.specs.Tree.{Item, Class_item, Word_item, Operators, Table, Start, Rule_item}
use Rattle.pg_file_items.specs.Heads.{heads, entry_of_item}
use Rattle.pg_file_items.specs.Entries.{Entry}
use Rattle.pg_file_items.specs.Sizes.{counted, body_size}
use Rattle.pg_file_meaning.specs.Meaning.{class_meant, meant}
use Rattle.pg_file_parser.specs.Limits.{class_count, word_count, rule_count, node_count, KeepWithin, full_allowance}
use Rattle.pg_file_making.specs.Spells.{made_classes, with_item, with_items}
use Rattle.pg_file_meaning.proofs.MeaningLemmas.Meant.{heads_sized}

-- what was handed in and these entries are counted in what is made of them
record Counts (made : Made) (entries : List Entry) (all : Made) : Type 0 where
  classes : length made.classes + class_count entries ≤ length all.classes
  words : length made.words + word_count entries ≤ length all.words
  rules : length made.names + rule_count entries ≤ length all.names
  nodes : length made.forms + node_count entries ≤ length all.forms

counted_most : (n : ℕ) → counted n ≤ n
counted_most n = go (leb n 8192) refl
  where
    go : (b : Bool) → leb n 8192 ≡ b → cond b n 8193 ≤ n
    go true e = omega arith
    go false e = omega (arith, leb-false n 8192 e)

counts : (offer : Offer) (made : Made) (items : List Item) → Counts made (map entry_of_item items) (with_items offer made items)
counts offer made [] = record { classes = omega arith; words = omega arith; rules = omega arith; nodes = omega arith }
counts offer made (Class_item s c ∷ items) =
    let ih = counts offer (with_item offer made (Class_item s c)) items in
    let added : ClassItem = record { name = s; class = class_meant offer (made_classes made) c } in
    let more = length-append made.classes (added ∷ []) in
    record { classes = omega (arith, ih.classes, more); words = ih.words; rules = ih.rules; nodes = ih.nodes }
counts offer made (Word_item s head after reserved ∷ items) =
    let ih = counts offer (with_item offer made (Word_item s head after reserved)) items in
    let classes = made_classes made in
    let added : WordItem = record { name = s; head = class_meant offer classes head; rest = class_meant offer classes after; reserved = reserved } in
    let more = length-append made.words (added ∷ []) in
    record { classes = ih.classes; words = omega (arith, ih.words, more); rules = ih.rules; nodes = ih.nodes }
counts offer made (Operators c gap reserved most ∷ items) =
    let ih = counts offer (with_item offer made (Operators c gap reserved most)) items in
    record { classes = ih.classes; words = ih.words; rules = ih.rules; nodes = ih.nodes }
counts offer made (Table role precedence symbol ∷ items) =
    let ih = counts offer (with_item offer made (Table role precedence symbol)) items in
    record { classes = ih.classes; words = ih.words; rules = ih.rules; nodes = ih.nodes }
counts offer made (Start s ∷ items) =
    let ih = counts offer (with_item offer made (Start s)) items in
    record { classes = ih.classes; words = ih.words; rules = ih.rules; nodes = ih.nodes }
counts offer made (Rule_item s v ∷ items) =
    let ih = counts offer (with_item offer made (Rule_item s v)) items in
    let body = meant offer (made_classes made) v in
    let name = length-append made.names (s ∷ []) in
    let more = length-append made.forms body in
    let sized : body_size (heads v) ≡ length body = heads_sized offer (made_classes made) v in
    let most = counted_most (body_size (heads v)) in
    record { classes = ih.classes; words = ih.words; rules = omega (arith, ih.rules, name); nodes = omega (arith, ih.nodes, more, sized, most) }

-- the items of a grammar are few enough
pub keep_within : (offer : Offer) (items : List Item) (g : Grammar) → Says (with_items offer nothing_made items) g → KeepWithin full_allowance (map entry_of_item items)
keep_within offer items g says =
    let c = counts offer nothing_made items in
    let grammar = says.sound in
    record {
      few_classes = omega (arith, c.classes, ap length says.classes, grammar.classes.few);
      few_words = omega (arith, c.words, ap length says.words, grammar.words.few);
      few_rules = omega (arith, c.rules, ap length says.names, length-map g.rules rule_name, grammar.few_rules);
      few_nodes = omega (arith, c.nodes, ap length says.forms, length-map g.nodes (form_of (rule_names g) (word_names g)), grammar.few_nodes);
    }
