-- The grammar that a file spells is printed as a file that spells it.
use Rattle.std.proofs.Common.{ℕ, List, refl, sym, subst}
use Rattle.pg_pred.specs.Offer.{Offer}
use Rattle.pg_grammar_value.specs.Grammar.{Grammar}
use Rattle.pg_file_print.specs.declared.layout.Edge.TheVariants.{Tight}
use Rattle.pg_file_items.specs.Syntax.{file_written}
use Rattle.pg_file_tokens.specs.Lexical.{Spelled}
use Rattle.pg_file_print.specs.Canonical.{items_of}
use Rattle.pg_file_print.specs.Printed.{characters_printed, printed, PrintKeepsLimits}
use Rattle.pg_file_making.specs.Spells.{SpelledIn, Spells, SpellsWithinLimits}
use Rattle.pg_file_print.proofs.PrinterLemmas.Texts.{printed_laid}
use Rattle.pg_file_tokens.proofs.Encoded.{chars_encoded}
use Rattle.pg_file.proofs.AgainLemmas.Printable.{MayBePrinted}
use Rattle.pg_file.proofs.AgainLemmas.Low.{printed_utf8}
use Rattle.pg_file.proofs.AgainLemmas.Spelled.{laid_spells}
use Rattle.pg_file.proofs.AgainLemmas.ItemsAgain.{items_say}
use Rattle.pg_file.proofs.AgainLemmas.WritableItems.{grammar_writable}
use Rattle.pg_file.proofs.AgainLemmas.Named.{grammar_named}
use Rattle.pg_file.proofs.AgainLemmas.Proper.{grammar_proper, grammar_printable}
use Rattle.pg_file.proofs.AgainLemmas.Ordered.{grammar_ordered}
use Rattle.pg_file.proofs.ReadLemmas.Spelled.{spells_within}

-- a grammar that a file spells has what is asked of one that is printed
pub may_be_printed : (offer : Offer) (bytes : List ℕ) (g : Grammar) → Spells offer bytes g → MayBePrinted offer g
may_be_printed offer bytes g h =
    let writable = grammar_writable offer bytes g h in
    let named = grammar_named offer g h.spelled.grammar.says.sound writable in
    record {
      named = named;
      printable = grammar_printable offer g writable;
      proper = grammar_proper offer g writable;
      ordered = grammar_ordered offer g named writable;
      admitted = h.spelled.grammar.admitted;
    }

spelled : (offer : Offer) (g : Grammar) → MayBePrinted offer g → SpelledIn offer (characters_printed g) g
spelled offer g h = record {
  tokens = file_written (items_of g);
  spelled = subst (λ (cs : List ℕ). Spelled cs (file_written (items_of g))) (printed_laid g) (laid_spells Tight (file_written (items_of g)) h.printable);
  items = items_of g;
  written = refl;
  proper = h.proper;
  grammar = record { ordered = h.ordered; says = items_say offer g h.named; admitted = h.admitted };
}

pub spells_again : (offer : Offer) (g : Grammar) → MayBePrinted offer g → Spells offer (printed g) g
spells_again offer g h = record {
  utf8 = printed_utf8 g h.printable;
  spelled = subst (λ (cs : List ℕ). SpelledIn offer cs g) (sym (chars_encoded (characters_printed g))) (spelled offer g h);
}

-- within the limits, if what is printed keeps them
pub within_limits_again : (offer : Offer) (g : Grammar) → MayBePrinted offer g → PrintKeepsLimits g → SpellsWithinLimits offer (printed g) g
unfolding spelled
within_limits_again offer g h limits =
    spells_within offer (printed g) (printed g) (characters_printed g) g (printed_utf8 g h.printable) refl (sym (chars_encoded (characters_printed g))) limits.short
    (record { spelled = spelled offer g h; shallow = limits.shallow })
