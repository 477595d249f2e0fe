use Rattle.std.proofs.Common.{subst, sym}
use Rattle.std.specs.Prelude.{IfOk}
use Rattle.pg_bench_grammar.specs.Loading.{judged_grammar}
use Rattle.pg_bench_grammar.specs.declared.loaded.Judgement.{Judgement}
use Rattle.pg.specs.Status.{IsJudgedStatus}
use Rattle.pg.proofs.commands.cost.tell_loaded.Goals as goal

pub returns-in-Accepted : goal.returns-in-Accepted
returns-in-Accepted g c = subst (λ (j : Judgement). IfOk c.tell_cost.result (IsJudgedStatus (judged_grammar j))) (sym c.in-Accepted.is) c.tell_cost.ensures
