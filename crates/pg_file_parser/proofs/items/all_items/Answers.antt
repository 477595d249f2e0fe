use Rattle.std.proofs.Common.{◌≡◌, ◌<◌, [], ◌∷◌, ◌++◌, length, arith}
use Rattle.std.proofs.lemmas.Grind.{common_steps}
use Rattle.std.proofs.lemmas.List.{map_push}
use Rattle.std.proofs.lemmas.Result.{err_from_is_err_and}
use Rattle.pg_file_tokens.specs.View.{tokens_of}
use Rattle.pg_file_items.specs.Entries.{entry_of, entries_of}
use Rattle.pg_file_parser.proofs.ParserLemmas.Loop.{tokens_len}
use Rattle.pg_file_parser.proofs.ParserLemmas.Files.{turn_shorter, one_more, no_more, all_read}
use Rattle.pg_file_parser.proofs.ParserLemmas.Rests.{ends_on}
use Rattle.pg_file_parser.proofs.ParserLemmas.Covered.{item_on, items_push}
use Rattle.pg_file_parser.proofs.items.all_items.Goals as goal

pub returns-in_err-item-clause-read : goal.returns-in_err-item-clause-read
returns-in_err-item-clause-read c =
    let p = err_from_is_err_and c.from_residual.result c.from_residual.ensures.1 in
    let some : 0 < length c.loop-rest.rest.now = grind (arith, common_steps) in
    let tokens : 0 < length (tokens_of c.loop-rest.rest.now) = omega (arith, some, tokens_len c.loop-rest.rest.now) in
    rw (p.1, p.2) (no_more c.loop-rest.allowance (tokens_of c.loop-rest.rest.now) (entries_of c.loop-rest.items.items) _ c.in_err-item.field-0.0 tokens c.in_err-item.ensures.read c.loop-rest.invariant.read)

pub loop-rest-smaller : goal.loop-rest-smaller
loop-rest-smaller c =
    let shorter = turn_shorter c.loop-rest.allowance (tokens_of c.loop-rest.rest.now) ((entry_of c.in_ok-item.item, c.in_ok-item.left), tokens_of c.in_ok-item.after.now) c.in_ok-item.ensures.read in
    omega (arith, shorter, tokens_len c.loop-rest.rest.now, tokens_len c.in_ok-item.after.now)

pub loop-rest-preserved : goal.loop-rest-preserved
loop-rest-preserved c =
    let entries = entries_of c.loop-rest.items.items in
    let pushed : entries_of c.push.new.self.items ≡ entries ++ entry_of c.in_ok-item.item ∷ [] = rw c.in_ok-push.ensures.items (map_push _ c.loop-rest.items.items c.in_ok-item.item) in
    record {
      read = rw pushed (one_more c.loop-rest.allowance (tokens_of c.loop-rest.rest.now) entries _ (entry_of c.in_ok-item.item) c.in_ok-item.left (tokens_of c.in_ok-item.after.now) c.in_ok-item.ensures.read c.loop-rest.invariant.read);
      places = rw c.in_ok-push.ensures.items (items_push _ c.loop-rest.items.items c.in_ok-item.item c.loop-rest.invariant.places (item_on _ _ c.in_ok-item.item c.loop-rest.invariant.rest c.in_ok-item.ensures.places));
      rest = ends_on _ _ _ c.loop-rest.invariant.rest c.in_ok-item.ensures.rest;
    }

pub returns-clause-read : goal.returns-clause-read
returns-clause-read c =
    let none : tokens_of c.loop-rest.rest.now ≡ [] = grind (arith, common_steps) in
    all_read c.loop-rest.allowance (tokens_of c.loop-rest.rest.now) (entries_of c.loop-rest.items.items) _ none c.loop-rest.invariant.read
