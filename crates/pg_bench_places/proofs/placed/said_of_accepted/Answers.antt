use Rattle.std.proofs.lemmas.Result.{IfOk-weaker}
use Rattle.pg_bench_places.proofs.Told.{certified_line, accepted_word}
use Rattle.pg_bench_places.proofs.placed.said_of_accepted.Goals as goal

pub returns-then-certificate : goal.returns-then-certificate
returns-then-certificate c =
    IfOk-weaker c.certificate_line.result _ _
    (λ line own. certified_line c.args.checked.now c.args.certificate c.grammar-grammar.ensures.checked c.if-certificate.true line.items own) c.certificate_line.ensures

pub returns-else-certificate : goal.returns-else-certificate
returns-else-certificate c =
    IfOk-weaker c.from_slice.result _ _
    (λ line word. accepted_word c.args.checked.now c.args.certificate c.grammar-grammar.ensures.checked c.if-certificate.false line.items word) c.from_slice.ensures.items
