use Rattle.std.proofs.Common.{refl, sym, subst}
use Rattle.pg_machine_quick.specs.Landmarks.{IsLandmark}
use Rattle.pg_machine_quick.specs.Looks.{IsPassedTo}
use Rattle.pg_machine_quick.specs.Running.{shown}
use Rattle.pg_machine_quick.proofs.RowPasses.{prefixes_passed}
use Rattle.pg_machine_quick.proofs.running.Running.past_prefixes.Goals as goal

pub returns-then-is_bare : goal.returns-then-is_bare
returns-then-is_bare c =
    let known = c.in-Some-BeginsPrefixes in
    let there = subst (IsLandmark c.args.context.plan.now c.args.self.now.pc) known.field-0-is known.ensures in
    subst (IsPassedTo c.args.context (shown c.args.self.now) c.args.self.now.pc) (sym c.in_ok-next.ensures.1)
    (prefixes_passed c.args.context c.args.self.now.place known.count (c.if-is_bare.ensures refl) (shown c.args.self.now) c.args.self.now.pc refl there)
