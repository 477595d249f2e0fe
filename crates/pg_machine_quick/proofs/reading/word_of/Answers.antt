use Rattle.std.proofs.Common.{◌∙◌, ap, drop}
use Rattle.pg_machine_quick.proofs.Readings.{no_word, reserved_word, free_word, ended_word}
use Rattle.pg_machine_quick.proofs.reading.word_of.Goals as goal

pub returns-then-not-contains : goal.returns-then-not-contains
returns-then-not-contains c = λ table.
    let same = c.after-there.ensures ∙ ap (drop c.args.place) c.characters.ensures.same in
    no_word c.args.grammar.now c.args.text.now c.args.item.now c.args.number c.args.place c.first-item.result c.after-there.result.now c.requires same c.in-len1-up.len_at_least
    c.first-item.is table c.contains.result c.contains.ensures c.if-not-contains.true

pub returns-in-empty : goal.returns-in-empty
returns-in-empty c =
    let same = c.after-there.ensures ∙ ap (drop c.args.place) c.characters.ensures.same in
    ended_word c.args.grammar.now c.args.text.now c.args.item.now c.args.number c.args.place c.after-there.result.now c.requires same c.in-empty.len_below

pub returns-then-contains : goal.returns-then-contains
returns-then-contains c = λ table.
    let same = c.after-there.ensures ∙ ap (drop c.args.place) c.characters.ensures.same in
    reserved_word c.args.grammar.now c.args.text.now c.args.item.now c.args.number c.args.place c.first-item.result c.after-there.result.now c.requires same c.in-len1-up.len_at_least
    c.first-item.is table c.counted-count.result c.after.result.now c.after.ensures c.counted-count.ensures.value c.contains.result c.contains-in-len1-up.result c.contains.ensures
    c.if-not-contains.false c.contains-in-len1-up.ensures c.if-contains.true

pub returns-else-contains : goal.returns-else-contains
returns-else-contains c = λ table.
    let same = c.after-there.ensures ∙ ap (drop c.args.place) c.characters.ensures.same in
    free_word c.args.grammar.now c.args.text.now c.args.item.now c.args.number c.args.place c.first-item.result c.after-there.result.now c.requires same c.in-len1-up.len_at_least
    c.first-item.is table c.counted-count.result c.after.result.now c.after.ensures c.counted-count.ensures.value c.contains.result c.contains-in-len1-up.result c.contains.ensures
    c.if-not-contains.false c.counted-count.ensures.within c.contains-in-len1-up.ensures c.if-contains.false
