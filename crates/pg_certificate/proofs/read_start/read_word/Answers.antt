use Rattle.std.proofs.Common.{◌∙◌, map, slice_get, subst, ap, sym}
use Rattle.serde_json.specs.View.{view}
use Rattle.pg_grammar_form.specs.Names.{AreDistinct}
use Rattle.pg_grammar_form.specs.WordItems.{word_name}
use Rattle.pg_certificate.proofs.Words.{word_found}
use Rattle.pg_certificate.proofs.read_start.read_word.Goals as goal

pub returns-in-Some : goal.returns-in-Some
returns-in-Some c =
    let found = c.in-Some.ensures in
    let distinct = subst (λ words. AreDistinct (map word_name words)) c.word_items.ensures.all c.word_items.ensures.words.distinct in
    let there = ap (λ words. slice_get words c.in-Some.place) (sym c.word_items.ensures.all) ∙ found.1 in
    rw c.new.ensures
    (word_found c.args.grammar.now (view c.args.value.now) c.in_ok-name.name c.in-Some.place found.0 distinct c.in_ok-name.ensures there (found.2 ∙ c.as_slice.ensures))
