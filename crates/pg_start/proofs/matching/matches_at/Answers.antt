use Rattle.std.proofs.Common.{drop, ap, sym, ◌∙◌}
use Rattle.pg_text.specs.Texts.{is_among}
use Rattle.pg_start.specs.Prefixes.{begins_in, word_prefix}
use Rattle.pg_start.proofs.Tested.{from_place, class_tested, key_tested, word_tested, no_word_tested}
use Rattle.pg_start.proofs.matching.matches_at.Goals as goal

pub returns-in-Class : goal.returns-in-Class
returns-in-Class c =
    let ahead = from_place c.characters.result.now c.args.place ∙ ap (drop c.args.place) c.characters.ensures.same in
    let start = sym c.view.ensures.same ∙ c.in-Class.is in
    class_tested _ _ _ _ _ start (c.begins_in.ensures ∙ ap (begins_in c.in-Class.class) ahead)

pub returns-in-Key : goal.returns-in-Key
returns-in-Key c =
    let ahead = from_place c.characters.result.now c.args.place ∙ ap (drop c.args.place) c.characters.ensures.same in
    let start = sym c.view.ensures.same ∙ c.in-Key.is in
    key_tested _ _ _ _ _ _ _ _ start c.view.ensures.start c.as_slice.ensures ahead c.begins_with_key.ensures

pub returns-then-begins_in : goal.returns-then-begins_in
returns-then-begins_in c =
    let ahead = from_place c.characters.result.now c.args.place ∙ ap (drop c.args.place) c.characters.ensures.same in
    let start = sym c.view.ensures.same ∙ c.in-Word.is in
    let begins = sym (ap (begins_in c.in-Word.heads) ahead) ∙ sym c.begins_in-in-Word.ensures ∙ c.if-begins_in.true in
    let prefix = c.word_prefix.ensures ∙ ap (word_prefix c.in-Word.rest) ahead in
    word_tested _ _ _ _ _ _ _ start begins (c.contains.ensures ∙ ap (is_among c.in-Word.reserved) prefix)

pub returns-else-begins_in : goal.returns-else-begins_in
returns-else-begins_in c =
    let ahead = from_place c.characters.result.now c.args.place ∙ ap (drop c.args.place) c.characters.ensures.same in
    let start = sym c.view.ensures.same ∙ c.in-Word.is in
    let begins = c.begins_in-in-Word.ensures ∙ ap (begins_in c.in-Word.heads) ahead in
    no_word_tested _ _ _ _ _ _ _ start begins c.if-begins_in.false
