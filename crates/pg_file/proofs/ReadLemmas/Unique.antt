-- Items that are written with the same tokens are the same, and so characters spell one grammar, however deep parentheses
-- nest.
use Rattle.std.proofs.Common.{◌≡◌, ◌≤◌, ℕ, max, List, [], ◌∷◌, map, Some, refl, sym, ap, subst, ◌∙◌, arith}
use Rattle.std.proofs.Math.Nat.{le-max_left, le-max_right}
use Rattle.std.specs.List.{AllByRecursion}
use Rattle.pg_pred.specs.Offer.{Offer}
use Rattle.pg_grammar_value.specs.Grammar.{Grammar}
use Rattle.pg_grammar.proofs.Unique.{same_grammar}
use Rattle.pg_file_tokens.specs.declared.token.Mark.TheVariants.{Semicolon}
use Rattle.pg_file_tokens.specs.Tokens.{Token, mark}
use Rattle.pg_file_items.specs.Tree.{Item}
use Rattle.pg_file_items.specs.Syntax.{item_written, file_written}
use Rattle.pg_file_items.specs.Proper.{IsProperItem}
use Rattle.pg_file_items.specs.Depth.{item_depth}
use Rattle.pg_file_items.specs.Heads.{entry_of_item}
use Rattle.pg_file_items.specs.Entries.{Entry}
use Rattle.pg_file_making.specs.Spells.{SpelledIn}
use Rattle.pg_file_making.specs.Making.{IsGrammarOfEntries}
use Rattle.pg_file_tokens.proofs.LexerLemmas.Complete.{lex_complete}
use Rattle.pg_file_making.proofs.MakingLemmas.Entries.{grammar_of_entries}
use Rattle.pg_file_parser.proofs.ParserLemmas.Steps.{some_is}
use Rattle.pg_file_parser.proofs.ParserLemmas.ItemsFound.{item_within, item_found}

-- ---- items

-- the same entry, and the same tokens after it
same_item : (item other : Item) (rest more : List Token) → IsProperItem item → IsProperItem other → item_written item rest ≡ item_written other more
    → (entry_of_item item ≡ entry_of_item other) × (rest ≡ more)
same_item item other rest more p q e =
    let deep : ℕ = max (item_depth item) (item_depth other) in
    let one = item_found deep item rest p (le-max_left (item_depth item) (item_depth other)) in
    let two = item_found deep other more q (le-max_right (item_depth item) (item_depth other)) in
    let same = some_is (entry_of_item item, mark Semicolon ∷ rest) (entry_of_item other, mark Semicolon ∷ more) (sym one ∙ ap (item_within deep) e ∙ two) in
    let after : mark Semicolon ∷ rest ≡ mark Semicolon ∷ more = ap (λ (x : Entry × List Token). x.1) same in
    (ap (λ (x : Entry × List Token). x.0) same, cc)

some_tokens : (item : Item) (rest : List Token) → IsProperItem item → item_written item rest ≡ [] → ⊥
some_tokens item rest p e =
    let deep : item_depth item ≤ item_depth item = omega arith in
    let found = item_found (item_depth item) item rest p deep in
    let q : item_within (item_depth item) [] ≡ Some (entry_of_item item, mark Semicolon ∷ rest) = sym (ap (item_within (item_depth item)) e) ∙ found in absurd cc

same_items : (items others : List Item) → AllByRecursion IsProperItem items → AllByRecursion IsProperItem others → file_written items ≡ file_written others
    → map entry_of_item items ≡ map entry_of_item others
same_items [] [] p q e = refl
same_items [] (other ∷ others) p q e = absurd (some_tokens other (file_written others) q.0 (sym e))
same_items (item ∷ items) [] p q e = absurd (some_tokens item (file_written items) p.0 e)
same_items (item ∷ items) (other ∷ others) p q e =
    let first = same_item item other (file_written items) (file_written others) p.0 q.0 e in
    let after = same_items items others p.1 q.1 first.1 in
    let entry = first.0 in
    cc

-- ---- grammars

pub one_grammar : (offer : Offer) (cs : List ℕ) (one other : Grammar) → SpelledIn offer cs one → SpelledIn offer cs other → one ≡ other
one_grammar offer cs one other h k =
    let tokens : h.tokens ≡ k.tokens = sym (lex_complete h.spelled) ∙ lex_complete k.spelled in
    let same : map entry_of_item h.items ≡ map entry_of_item k.items = same_items h.items k.items h.proper k.proper (sym h.written ∙ tokens ∙ k.written) in
    let first = grammar_of_entries offer h.items one h.grammar in
    let second = subst (λ (es : List Entry). IsGrammarOfEntries offer es other) (sym same) (grammar_of_entries offer k.items other k.grammar) in
    same_grammar _ one other first.says second.says
