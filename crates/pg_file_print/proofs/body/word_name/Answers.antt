use Rattle.std.proofs.Common.{arith}
use Rattle.std.proofs.lemmas.Bool.Decides.{nat_tests}
use Rattle.pg_grammar_form.specs.WordItems.{word_name}
use Rattle.pg_file_print.proofs.PrinterLemmas.Names.{name_known, name_missing}
use Rattle.pg_file_print.proofs.body.word_name.Goals as goal

pub returns-in-Some : goal.returns-in-Some
returns-in-Some c =
    let h = c.in-Some.ensures.lookup in
    let known = name_known word_name c.word_items.result.now c.index.result c.in-Some.item.now (grind (arith, nat_tests)) (grind arith) in
    let all = c.word_items.ensures.all in
    grind (arith, known)

pub returns-in-None : goal.returns-in-None
returns-in-None c =
    let h = c.in-None.ensures.lookup in
    let missing = name_missing word_name c.word_items.result.now c.index.result (grind (arith, nat_tests)) in
    let all = c.word_items.ensures.all in
    grind (arith, missing)
