use Rattle.pg_bench_grammar.specs.Checking.{is_accepted}
use Rattle.pg_bench_grammar.proofs.laws.verified_files_are_accepted.Goals as goal

pub returns : goal.returns
returns c = λ offer file certificate shown.
    let spelled = shown.1 in
    record {
      grammar = shown.0;
      spelled = spelled;
      judged = is_accepted (c.verified_grammars_are_accepted.ensures shown.0 certificate spelled.spells.spelled.grammar.says.sound shown.2);
    }
