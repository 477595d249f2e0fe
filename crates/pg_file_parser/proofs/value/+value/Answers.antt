use Rattle.std.proofs.Common.{◌≡◌, ◌<◌, ◌++◌, ◌∷◌, [], false, true, None, Some, sym, ◌∙◌, arith}
use Rattle.std.specs.Prelude.{codes}
use Rattle.std.specs.Str.{bytes_eq}
use Rattle.std.proofs.lemmas.Grind.{common_steps}
use Rattle.std.proofs.lemmas.Result.{err_from_is_err_and}
use Rattle.std.proofs.lemmas.List.{map_push}
use Rattle.pg_file_tokens.specs.declared.token.Mark.TheVariants.{Comma}
use Rattle.pg_file_tokens.specs.View.{tokens_of}
use Rattle.pg_file_items.specs.declared.written.WrittenForm.TheVariants as written
use Rattle.pg_file_items.specs.Entries.{forms_of}
use Rattle.pg_file_items.specs.Words.{form_word}
use Rattle.pg_file_parser.specs.Given.{bodies_of}
use Rattle.pg_file_parser.specs.Reading.{value_at}
use Rattle.pg_file_parser.proofs.ParserLemmas.Rests.{ends_on, answer_ends}
use Rattle.pg_file_parser.proofs.ParserLemmas.Covered.{in_place_on, all_in_place_push, end_read, rule_read, form_read, name_in_place, rule_in_place, form_in_place}
use Rattle.pg_file_parser.proofs.ParserLemmas.Loop.{goes_on, stops, is_full, ends}
use Rattle.pg_file_parser.proofs.value.+value.Goals as goal

pub more_values-returns-in_default-clause-read : goal.more_values-returns-in_default-clause-read
more_values-returns-in_default-clause-read t c =
    stops Comma (value_at c.args.depth) (bodies_of c.loop.values.items) _ c.loop.counter (tokens_of c.loop.rest.now) _ c.loop-test.true (sym c.in_default.ensures.read) c.loop.invariant.read

pub more_values-returns-in_err-next-clause-read : goal.more_values-returns-in_err-next-clause-read
more_values-returns-in_err-next-clause-read t c =
    let p = err_from_is_err_and c.from_residual.result c.from_residual.ensures.1 in
    rw (p.1, p.2) (ends c.in_err-next.field-0.0 Comma (value_at c.args.depth) (bodies_of c.loop.values.items) _ c.loop.counter (tokens_of c.loop.rest.now) _ _ c.loop-test.true (sym c.in-Some.ensures.read) c.in_err-next.ensures.read c.loop.invariant.read)

pub more_values-loop-preserved : goal.more_values-loop-preserved
more_values-loop-preserved t c =
    let e : bodies_of c.push.new.self.items ≡ bodies_of c.loop.values.items ++ forms_of c.in_ok-next.next.items ∷ [] = rw c.in_ok-push.ensures.items (map_push _ c.loop.values.items c.in_ok-next.next) in
    record {
      read = rw e (goes_on Comma (value_at c.args.depth) (bodies_of c.loop.values.items) _ c.loop.counter (tokens_of c.loop.rest.now) _ (forms_of c.in_ok-next.next.items) (tokens_of c.in_ok-next.after.now) _ c.loop-test.true (sym c.in-Some.ensures.read) c.in_ok-next.ensures.read c.loop.invariant.read);
      places = rw c.in_ok-push.ensures.items (all_in_place_push _ c.loop.values.items c.in_ok-next.next c.loop.invariant.places (in_place_on _ _ _ (ends_on _ _ _ c.loop.invariant.rest c.in-Some.ensures.rest) c.in_ok-next.ensures.places));
      rest = ends_on _ _ _ (ends_on _ _ _ c.loop.invariant.rest c.in-Some.ensures.rest) c.in_ok-next.ensures.rest;
    }

pub more_values-returns-clause-read : goal.more_values-returns-clause-read
more_values-returns-clause-read t c = is_full Comma (value_at c.args.depth) (bodies_of c.loop.values.items) _ c.loop.counter (tokens_of c.loop.rest.now) _ c.loop-test.false c.loop.invariant.read

pub value-returns-then-is_word-clause-places : goal.value-returns-then-is_word-clause-places
value-returns-then-is_word-clause-places t c =
    let word : bytes_eq (codes "eof") c.in_ok-text.text.now ≡ true = sym c.is_word.ensures ∙ c.if-is_word.true in
    let read = end_read c.args.depth _ _ _ c.in_ok-text.ensures.read word in
    name_in_place c.args.depth _ c.in_ok-text.rest.now _ c.in_ok-text.place written.EndOfText _ read c.in_ok-text.ensures.read c.in_ok-text.ensures.place c.in_ok-text.ensures.rest c.in_ok-single.ensures.forms c.in_ok-single.ensures.spans

pub value-returns-in_default-clause-places : goal.value-returns-in_default-clause-places
value-returns-in_default-clause-places t c =
    let word : bytes_eq (codes "eof") c.in_ok-text.text.now ≡ false = sym c.is_word.ensures ∙ c.if-is_word.false in
    let none : form_word c.in_ok-text.text.now ≡ None = grind (arith, common_steps) in
    let read = rule_read c.args.depth _ _ _ c.in_ok-text.ensures.read word none in
    rule_in_place c.args.depth _ c.in_ok-text.rest.now _ c.in_ok-text.place c.rule_named.result read c.in_ok-text.ensures.read c.in_ok-text.ensures.place c.in_ok-text.ensures.rest c.rule_named.ensures.read c.rule_named.ensures.spans

pub value-returns-clause-places : goal.value-returns-clause-places
value-returns-clause-places t c =
    let word : bytes_eq (codes "eof") c.in_ok-text.text.now ≡ false = sym c.is_word.ensures ∙ c.if-is_word.false in
    let some : form_word c.in_ok-text.text.now ≡ Some c.in-Some.word = grind (arith, common_steps) in
    let deep : 0 < c.args.depth = grind (arith, common_steps) in
    let read = form_read c.args.depth _ _ _ _ c.in-Some.word _ deep c.in_ok-text.ensures.read word some c.in_ok-inside.ensures.read c.in_ok-form.ensures.read in
    let inside = ends_on _ _ _ c.in_ok-text.ensures.rest c.in_ok-inside.ensures.rest in
    form_in_place c.args.depth _ c.in_ok-form.rest.now c.in_ok-text.place c.in_ok-form.form.form c.in_ok-form.form.parts.items c.closed.result read c.in_ok-text.ensures.place
    (ends_on _ _ _ inside c.in_ok-form.ensures.rest) (in_place_on _ _ _ inside c.in_ok-form.ensures.places) c.closed.ensures.read c.closed.ensures.spans c.closed.ensures.rest

pub value-returns-clause-rest : goal.value-returns-clause-rest
value-returns-clause-rest t c =
    answer_ends _ _ c.closed.result (ends_on _ _ _ (ends_on _ _ _ c.in_ok-text.ensures.rest c.in_ok-inside.ensures.rest) c.in_ok-form.ensures.rest) c.closed.ensures.rest
