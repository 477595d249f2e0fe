use Rattle.std.proofs.Common.{arith}
use Rattle.std.proofs.lemmas.Bool.Decides.{nat_tests}
use Rattle.pg_grammar_form.specs.ClassItems.{item_name}
use Rattle.pg_file_print.proofs.PrinterLemmas.Names.{name_known, name_missing}
use Rattle.pg_file_print.proofs.class.class_name.Goals as goal

pub returns-in-Some : goal.returns-in-Some
returns-in-Some c =
    let h = c.in-Some.ensures.lookup in
    let known = name_known item_name c.args.items.now c.index.result c.in-Some.item.now (grind (arith, nat_tests)) (grind arith) in
    grind (arith, known)

pub returns-in-None : goal.returns-in-None
returns-in-None c =
    let h = c.in-None.ensures.lookup in
    let missing = name_missing item_name c.args.items.now c.index.result (grind (arith, nat_tests)) in
    grind (arith, missing)
