use Rattle.std.proofs.Common.{List, sym, subst}
use Rattle.pg_corpus.specs.declared.case.Case.{Case}
use Rattle.pg_corpus.proofs.Reading.{AreRead, one_case}
use Rattle.pg_corpus.proofs.corpus.read_cases.Goals as goal

pub loop-left-preserved : goal.loop-left-preserved
loop-left-preserved c =
    subst (λ (cases : List Case). AreRead c.args.rest.now c.in_ok-case.behind.now cases) (sym c.in_ok-push.ensures.items)
    (one_case c.args.rest.now c.loop-left.left.now c.in_ok-case.behind.now c.loop-left.cases.items c.in_ok-case.case c.loop-left.invariant
    c.in_ok-case.ensures.case c.in_ok-case.ensures.joined)
