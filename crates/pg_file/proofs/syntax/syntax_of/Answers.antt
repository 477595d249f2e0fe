use Rattle.std.proofs.Common.{◌≡◌, true, List, length, ap, sym, subst, ◌∙◌}
use Rattle.std.specs.List.{list_any}
use Rattle.pg_file_items.specs.Entries.{entries_of}
use Rattle.pg_file_tokens.specs.declared.token.Lexeme.{Lexeme}
use Rattle.pg_file_tokens.specs.Lexical.{OnlySpelled}
use Rattle.pg_file_tokens.specs.Lexing.{placed_of, up_to}
use Rattle.pg_file_tokens.specs.View.{tokens_of, placed_tokens_of, is_bad_at}
use Rattle.pg_file_tokens.proofs.LexerLemmas.Exact.{up_to_all}
use Rattle.pg_file_parser.specs.Items.{AreItems, OnlyItems}
use Rattle.pg_file_parser.specs.Places.{AreItemsInPlace}
use Rattle.pg_file.specs.Refusals.{IsBadAt}
use Rattle.pg_file.proofs.ReadLemmas.Refused.{found_bad, error_leads}
use Rattle.pg_file.proofs.ReadLemmas.Spelled.{spelled_items}
use Rattle.pg_file.proofs.syntax.syntax_of.Goals as goal

pub returns-in-Ok-clause-ok : goal.returns-in-Ok-clause-ok
returns-in-Ok-clause-ok c =
    let read = c.in_ok-lexemes.ensures in
    let same = c.as_slice.ensures.value in
    record {
      places = read.places;
      spelled = read.spelled;
      only_tokens = read.only;
      written = subst (λ (ls : List Lexeme). AreItems (tokens_of ls) (entries_of c.in-Ok.items.items)) same c.in-Ok.ensures.items;
      only_items = subst (λ (ls : List Lexeme). OnlyItems (tokens_of ls) (entries_of c.in-Ok.items.items)) same c.in-Ok.ensures.only;
      in_place = subst (λ (ls : List Lexeme). AreItemsInPlace ls c.in-Ok.items.items) same c.in-Ok.ensures.places;
    }

pub returns-in-Err-clause-refused : goal.returns-in-Err-clause-refused
returns-in-Err-clause-refused c =
    let only = subst (λ (ls : List Lexeme). OnlySpelled c.args.characters.now (tokens_of ls)) (sym c.as_slice.ensures.value) c.in_ok-lexemes.ensures.only in
    λ fault offer g h. c.in-Err.ensures.refused fault _ (spelled_items offer _ _ g only h)

pub returns-in-Err-clause-err : goal.returns-in-Err-clause-err
returns-in-Err-clause-err c =
    let characters = c.args.characters.now in
    let passed = c.as_slice.result.now in
    let found : placed_tokens_of passed ≡ up_to (length characters) (placed_of characters) =
    ap placed_tokens_of c.as_slice.ensures.value ∙ c.in_ok-lexemes.ensures.places ∙ sym (up_to_all characters) in
    error_leads (λ place. list_any (is_bad_at place) passed ≡ true) (IsBadAt characters) (λ place h. found_bad characters (length characters) passed found place h)
    c.in-Err.error c.in-Err.ensures.err
