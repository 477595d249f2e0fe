-- What is read in three steps is what the characters spell, and nothing else is.
use Rattle.std.proofs.Common.{◌≡◌, ◌≤◌, ℕ, List, length, map, refl, sym, ap, subst, ◌∙◌}
use Rattle.std.specs.Str.{chars, IsUtf8}
use Rattle.pg_pred.specs.Offer.{Offer}
use Rattle.pg_grammar_value.specs.Grammar.{Grammar}
use Rattle.pg_file_tokens.specs.Tokens.{Token, AreGood}
use Rattle.pg_file_tokens.specs.Lexical.{SpelledIfGood, OnlySpelled}
use Rattle.pg_file_items.specs.Heads.{entry_of_item}
use Rattle.pg_file_items.specs.Entries.{Entry}
use Rattle.pg_file_parser.specs.Items.{AreItems, OnlyItems}
use Rattle.pg_file_making.specs.Spells.{SpelledWithinDepth, SpellsWithinLimits}
use Rattle.pg_file_making.specs.Making.{IsGrammarOfEntries}
use Rattle.pg_file_making.proofs.MakingLemmas.Entries.{grammar_of_entries, grammar_of_items}
use Rattle.pg_file.proofs.ReadLemmas.Good.{file_good}
use Rattle.pg_file.proofs.ReadLemmas.Few.{keep_within}

-- what is read is what the characters spell, and nests no deeper than it may
pub is_spelled : (offer : Offer) (cs : List ℕ) (tokens : List Token) (entries : List Entry) (g : Grammar) → SpelledIfGood cs tokens → AreItems tokens entries
    → IsGrammarOfEntries offer entries g → SpelledWithinDepth offer cs g
is_spelled offer cs tokens entries g spelled read made =
    let grammar = grammar_of_items offer read.items g (subst (λ es. IsGrammarOfEntries offer es g) read.meant made) in
    let tokens_spelled = spelled (subst AreGood (sym read.written) (file_good read.items)) in
    record {
      spelled = record { tokens = tokens; spelled = tokens_spelled; items = read.items; written = read.written; proper = read.proper; grammar = grammar };
      shallow = read.shallow;
    }

-- the items of what is spelled are what the tokens spell
pub spelled_items : (offer : Offer) (cs : List ℕ) (tokens : List Token) (g : Grammar) → OnlySpelled cs tokens → (h : SpelledWithinDepth offer cs g)
    → AreItems tokens (map entry_of_item h.spelled.items)
spelled_items offer cs tokens g only h =
    let spelled = h.spelled in
    record {
      items = spelled.items;
      written = only spelled.tokens spelled.spelled ∙ spelled.written;
      proper = spelled.proper;
      shallow = h.shallow;
      few = keep_within offer spelled.items g spelled.grammar.says;
      meant = refl;
    }

-- and its grammar is one of the entries that were read
pub spelled_grammar : (offer : Offer) (cs : List ℕ) (tokens : List Token) (entries : List Entry) (g : Grammar) → OnlySpelled cs tokens → OnlyItems tokens entries
    → SpelledWithinDepth offer cs g → IsGrammarOfEntries offer entries g
spelled_grammar offer cs tokens entries g only only_items h =
    let items = h.spelled.items in
    let same : entries ≡ map entry_of_item items = only_items (map entry_of_item items) (spelled_items offer cs tokens g only h) in
    subst (λ es. IsGrammarOfEntries offer es g) (sym same) (grammar_of_entries offer items g h.spelled.grammar)

-- ---- the bytes of a file

-- what the characters of few bytes spell, the bytes spell within the limits
pub spells_within : (offer : Offer) (bytes text characters : List ℕ) (g : Grammar) → IsUtf8 bytes → text ≡ bytes → characters ≡ chars text → length text ≤ 262144
    → SpelledWithinDepth offer characters g → SpellsWithinLimits offer bytes g
spells_within offer bytes text characters g utf8 same are short h =
    let found = subst (λ (cs : List ℕ). SpelledWithinDepth offer cs g) (are ∙ ap chars same) h in
    record {
      spells = record { utf8 = utf8; spelled = found.spelled };
      short = subst (λ (bs : List ℕ). length bs ≤ 262144) same short;
      shallow = found.shallow;
    }

-- and what the bytes spell, their characters do
pub spelled_within : (offer : Offer) (bytes text characters : List ℕ) (g : Grammar) → text ≡ bytes → characters ≡ chars text → SpellsWithinLimits offer bytes g
    → SpelledWithinDepth offer characters g
spelled_within offer bytes text characters g same are h =
    let found : SpelledWithinDepth offer (chars bytes) g = record { spelled = h.spells.spelled; shallow = h.shallow } in
    subst (λ (cs : List ℕ). SpelledWithinDepth offer cs g) (sym (are ∙ ap chars same)) found
