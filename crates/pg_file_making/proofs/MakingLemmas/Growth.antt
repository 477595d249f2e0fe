-- Nothing that is handed in is taken back, so the limits that a grammar keeps bound what was handed in at any time.
use Rattle.std.proofs.Common.{◌≤◌, List, [], ◌∷◌, ◌++◌, length, ap, arith}
use Rattle.std.proofs.lemmas.List.{length-append, length-map}
use Rattle.pg_pred.specs.Offer.{Offer}
use Rattle.pg_grammar_value.specs.Grammar.{Grammar, rule_name, rule_names, word_names}
use Rattle.pg_grammar_form.specs.Forms.{form_of}
use Rattle.pg_grammar.specs.Made.{Made, Says}
use Rattle.pg_file_items.specs.Entries.{Entry, class, word, operators, table, start, rule}
use Rattle.pg_file_making.specs.Making.{with_entry, with_entries}

-- there is no more of anything in the one than in the other
record IsWithin (made whole : Made) : Type 0 where
  classes : length made.classes ≤ length whole.classes
  words : length made.words ≤ length whole.words
  names : length made.names ≤ length whole.names
  forms : length made.forms ≤ length whole.forms

itself : (made : Made) → IsWithin made made
itself made = record { classes = omega arith; words = omega arith; names = omega arith; forms = omega arith }

through : (made middle whole : Made) → IsWithin made middle → IsWithin middle whole → IsWithin made whole
through made middle whole h k = record {
  classes = omega (arith, h.classes, k.classes);
  words = omega (arith, h.words, k.words);
  names = omega (arith, h.names, k.names);
  forms = omega (arith, h.forms, k.forms);
}

longer : {A : Type 0} (xs ys : List A) → length xs ≤ length (xs ++ ys)
longer xs ys = omega (arith, length-append xs ys)

within_entry : (offer : Offer) (made : Made) (entry : Entry) → IsWithin made (with_entry offer made entry)
within_entry offer made (class s parts) = record { classes = longer made.classes _; words = omega arith; names = omega arith; forms = omega arith }
within_entry offer made (word s head after reserved) = record { classes = omega arith; words = longer made.words _; names = omega arith; forms = omega arith }
within_entry offer made (operators parts gap reserved most) = record { classes = omega arith; words = omega arith; names = omega arith; forms = omega arith }
within_entry offer made (table role precedence symbol) = record { classes = omega arith; words = omega arith; names = omega arith; forms = omega arith }
within_entry offer made (start s) = record { classes = omega arith; words = omega arith; names = omega arith; forms = omega arith }
within_entry offer made (rule s forms) = record { classes = omega arith; words = omega arith; names = longer made.names _; forms = longer made.forms _ }

within_entries : (offer : Offer) (made : Made) (entries : List Entry) → IsWithin made (with_entries offer made entries)
within_entries offer made [] = itself made
within_entries offer made (entry ∷ entries) =
    through made (with_entry offer made entry) (with_entries offer (with_entry offer made entry) entries)
    (within_entry offer made entry) (within_entries offer (with_entry offer made entry) entries)

-- no limit is passed
pub record IsInLimits (made : Made) : Type 0 where
  pub classes : length made.classes ≤ 256
  pub words : length made.words ≤ 64
  pub names : length made.names ≤ 512
  pub forms : length made.forms ≤ 8192

said_in_limits : (made : Made) (g : Grammar) → Says made g → IsInLimits made
said_in_limits made g says =
    let names = length-map g.rules rule_name in
    let forms = length-map g.nodes (form_of (rule_names g) (word_names g)) in
    record {
      classes = omega (arith, ap length says.classes, says.sound.classes.few);
      words = omega (arith, ap length says.words, says.sound.words.few);
      names = omega (arith, ap length says.names, names, says.sound.few_rules);
      forms = omega (arith, ap length says.forms, forms, says.sound.few_nodes);
    }

-- what becomes a grammar with what follows it passes no limit
pub front_in_limits : (offer : Offer) (made : Made) (entries : List Entry) (g : Grammar) → Says (with_entries offer made entries) g → IsInLimits made
front_in_limits offer made entries g says =
    let whole = said_in_limits (with_entries offer made entries) g says in
    let h = within_entries offer made entries in
    record {
      classes = omega (arith, h.classes, whole.classes);
      words = omega (arith, h.words, whole.words);
      names = omega (arith, h.names, whole.names);
      forms = omega (arith, h.forms, whole.forms);
    }
