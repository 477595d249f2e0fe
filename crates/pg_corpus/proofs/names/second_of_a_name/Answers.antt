use Rattle.std.proofs.Common.{◌≡◌, true, rules}
use Rattle.pg_corpus.proofs.Apart.{one_name}
use Rattle.pg_corpus.proofs.names.second_of_a_name.Goals as goal

pub loop-case-preserved : goal.loop-case-preserved
loop-case-preserved c =
    let added : c.in_ok-add.field-0 ≡ true = search rules in
    one_name c.args.cases.now c.loop-case.case-index _ c.in_ok-from_slice.field-0.items c.loop-case.names.keys c.add.new.names.keys c.loop-case.invariant c.loop-case-test.true
    c.in_ok-from_slice.ensures.items (c.in_ok-add.ensures added)
