use Rattle.std.proofs.Common.{rules}
use Rattle.std.proofs.lemmas.Result.{IfOk-weaker}
use Rattle.pg_explain_witness.proofs.losing.have_two_ends.Goals as goal

pub returns : goal.returns
returns g c =
    IfOk-weaker c.has_round.result _ _
    (λ b h e. record { part = c.in-Some.part; begins = c.in-Some.ensures; place = c.args.parted.now.place; ends = search rules; goes_on = h e }) c.has_round.ensures
