use Rattle.std.proofs.lemmas.Result.{IfOk-weaker}
use Rattle.pg.proofs.Statuses.{faultless_grammar, faulty_grammar, unusable_grammar, write_fault_status}
use Rattle.pg.proofs.commands.explain.explain_grammar.Goals as goal

pub returns-in-Ok-Accepted : goal.returns-in-Ok-Accepted
returns-in-Ok-Accepted g c = faultless_grammar _ _ _ (rw c.in-Ok-Accepted.field-0-is at c.in-Ok-Accepted.ensures.ok)

pub returns-in-Ok-Refused : goal.returns-in-Ok-Refused
returns-in-Ok-Refused g c = faulty_grammar _ _ _ (rw c.in-Ok-Refused.field-0-is at c.in-Ok-Refused.ensures.ok)

pub returns-in-Ok-NotThere : goal.returns-in-Ok-NotThere
returns-in-Ok-NotThere g c = IfOk-weaker c.tell_nearest.result _ _ (λ status is. unusable_grammar _ status is) c.tell_nearest.ensures

pub returns-in-Err : goal.returns-in-Err
returns-in-Err g c = IfOk-weaker c.print_report.result _ _ (λ status is. write_fault_status _ c.in-Err.fault status c.in-Err.ensures.err is) c.print_report.ensures
