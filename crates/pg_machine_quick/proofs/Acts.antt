-- Turns by one instruction.
use Rattle.std.proofs.Common.{◌≡◌, ◌∙◌, ◌+◌, ap, subst, Some, Result, Ok, Err, IfOk, slice_get}
use Rattle.pg_table.specs.Tables.{Table}
use Rattle.pg_machine_plan.specs.declared.instruction.Instruction.{Instruction}
use Rattle.pg_machine_quick.specs.Looks.{Leads, program_of}
use Rattle.pg_machine_plan.specs.Plans.{Program}
use Rattle.pg_machine_quick.specs.Ran.{LeadsTo, Makes}
use Rattle.pg_machine_quick.specs.Running.{Does}
use Rattle.pg_machine_quick.specs.Tape.{Tape, tape_act}
use Rattle.pg_machine_quick.specs.declared.context.Context.{Context}
use Rattle.pg_machine_quick.specs.declared.step.Step.{Step}
use Rattle.pg_machine_quick.specs.declared.step.Step.TheVariants.{GoesOn, GivesUp, Stops}
use Rattle.pg_machine_quick.proofs.Ran.{leads_trans, one_turn, turn_made}

-- the instruction that is there, is this one, which does the turn
pub acts : {E : Type 0} (c : Context) (s z : Tape) (i j : Instruction) (r : Result Step E) → slice_get c.plan.now.code s.pc ≡ Some i → i ≡ j →
    IfOk r (λ step. (table : Table) → table.operators ≡ c.operators.now → Does (tape_act (program_of c) table s (Some j)) step z) → IfOk r (λ step. Leads c s step z)
acts c s z i j r at is d = turn_made c s z j r (at ∙ ap (λ x. Some x) is) d

-- the same of a turn that needs no memory
pub steps : (c : Context) (s z : Tape) (i j : Instruction) (step : Step) → slice_get c.plan.now.code s.pc ≡ Some i → i ≡ j →
    ((table : Table) → Does (tape_act (program_of c) table s (Some j)) step z) → Leads c s step z
steps c s z i j step at is d = λ table same. one_turn (program_of c) table s z (Some j) step (at ∙ ap (λ x. Some x) is) (d table)

-- what needs no table
pub by_any : {E : Type 0} (c : Context) (r : Result Step E) (P : Step → Type 0) → IfOk r P → IfOk r (λ step. (table : Table) → table.operators ≡ c.operators.now → P step)
by_any c (Ok x) P h = λ table same. h
by_any c (Err e) P h = h

-- what needs no operators
pub by_each : {E : Type 0} (c : Context) (r : Result Step E) (P : Step → Table → Type 0) → IfOk r (λ step. (table : Table) → P step table) →
    IfOk r (λ step. (table : Table) → table.operators ≡ c.operators.now → P step table)
by_each c (Ok x) P h = λ table same. h table
by_each c (Err e) P h = h

-- ---- a turn, and more after it

makes_on : (P : Program) (table : Table) (s y z : Tape) (step : Step) → LeadsTo P table s y → Makes P table y step z → Makes P table s step z
makes_on P table s y z GoesOn h d = leads_trans P table s y z h d
makes_on P table s y z Stops h d = (h.turns + d.0, h.so d.0 z d.1)
makes_on P table s y z GivesUp h d = tt

-- this instruction is there, and its turn goes on
leads_first : (c : Context) (table : Table) (s y : Tape) (i : Instruction) (first : Step) → slice_get c.plan.now.code s.pc ≡ Some i → first ≡ GoesOn →
    Does (tape_act (program_of c) table s (Some i)) first y → LeadsTo (program_of c) table s y
leads_first c table s y i first at is d = one_turn (program_of c) table s y (Some i) GoesOn at (subst (λ (x : Step). Does (tape_act (program_of c) table s (Some i)) x y) is d)

pub goes_further : (c : Context) (s y z : Tape) (i : Instruction) (first step : Step) → slice_get c.plan.now.code s.pc ≡ Some i → first ≡ GoesOn →
    ((table : Table) → Does (tape_act (program_of c) table s (Some i)) first y) → Leads c y step z → Leads c s step z
goes_further c s y z i first step at is d h = λ table same. makes_on (program_of c) table s y z step (leads_first c table s y i first at is (d table)) (h table same)

pub goes_further_if : {E : Type 0} (c : Context) (s y z : Tape) (i : Instruction) (first : Step) (r : Result Step E) → slice_get c.plan.now.code s.pc ≡ Some i → first ≡ GoesOn →
    ((table : Table) → Does (tape_act (program_of c) table s (Some i)) first y) → IfOk r (λ step. Leads c y step z) → IfOk r (λ step. Leads c s step z)
goes_further_if c s y z i first (Ok step) at is d h = goes_further c s y z i first step at is d h
goes_further_if c s y z i first (Err e) at is d h = h
