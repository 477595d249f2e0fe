use Rattle.std.proofs.Common.{◌++◌, ap, ◌∙◌}
use Rattle.pg_corpus.proofs.Reading.{same_written}
use Rattle.pg_corpus.proofs.corpus.read_corpus.Goals as goal

pub returns-clause-written : goal.returns-clause-written
returns-clause-written c =
    same_written _ c.args.bytes.now (record { head = c.cut.result.0; cases = c.in_ok-cases.cases }) c.with_names.ensures.same (record {
      joined = c.cut.ensures.joined ∙ ap (λ l. c.cut.result.0.now ++ l) c.in_ok-cases.ensures.joined;
      surrounds = c.cut.ensures.belong;
      are_cases = c.in_ok-cases.ensures.cases;
    })
