-- Where a run of turns leads.
use Rattle.std.proofs.Common.{◌≡◌, ◌∙◌, ◌+◌, ℕ, suc, List, sym, ap, subst, Option, Some, None, Result, Ok, Err, IfOk, IfSome, slice_get, arith}
use Rattle.pg_grammar_form.specs.Operators.{Operator}
use Rattle.pg_table.specs.Tables.{Table}
use Rattle.pg_machine_quick.specs.Laws.{TapeHasAnswered, TapesAnswer}
use Rattle.pg_machine_plan.specs.Layout.{IsForTexts}
use Rattle.pg_machine_quick.specs.Looks.{Leads, program_of}
use Rattle.pg_machine_quick.specs.Ran.{LeadsTo, StopsAt, Makes}
use Rattle.pg_machine_quick.specs.Running.{shown, Does}
use Rattle.pg_machine_quick.specs.Tape.{Tape, tape_act, tape_goes, on_tape_turn, tape_run, first_tape}
use Rattle.pg_machine_plan.specs.Plans.{Program}
use Rattle.pg_machine_plan.specs.declared.instruction.Instruction.{Instruction}
use Rattle.pg_machine_quick.specs.declared.context.Context.{Context}
use Rattle.pg_machine_quick.specs.declared.running.Running.{Running}
use Rattle.pg_machine_quick.specs.declared.step.Step.{Step}
use Rattle.pg_machine_quick.specs.declared.step.Step.TheVariants.{GoesOn, GivesUp, Stops}

pub leads_here : (P : Program) (table : Table) (s z : Tape) → z ≡ s → LeadsTo P table s z
leads_here P table s z e = record {
  turns = 0;
  so = λ m t h. let none : m ≡ 0 + m = omega arith in subst (λ n. tape_run P table n s ≡ Some t) none (subst (λ (y : Tape). tape_run P table m y ≡ Some t) e h);
}

pub leads_trans : (P : Program) (table : Table) (s y z : Tape) → LeadsTo P table s y → LeadsTo P table y z → LeadsTo P table s z
leads_trans P table s y z h d = record {
  turns = h.turns + d.turns;
  so = λ m t r.
      let more : h.turns + (d.turns + m) ≡ h.turns + d.turns + m = omega arith in
      subst (λ n. tape_run P table n s ≡ Some t) more (h.so (d.turns + m) t (d.so m t r));
}

-- a turn that goes on
pub leads_by : (P : Program) (table : Table) (s z : Tape) → tape_act P table s (slice_get P.plan.code s.pc) ≡ tape_goes z → LeadsTo P table s z
leads_by P table s z turn = record {
  turns = 1;
  so = λ m t r.
      let more : suc m ≡ 1 + m = omega arith in
      subst (λ n. tape_run P table n s ≡ Some t) more (ap (λ u. on_tape_turn u (λ x. tape_run P table m x)) turn ∙ r);
}

-- one turn is some turns
pub one_turn : (P : Program) (table : Table) (s z : Tape) (i : Option Instruction) (step : Step) → slice_get P.plan.code s.pc ≡ i → Does (tape_act P table s i) step z → Makes P table s step z
one_turn P table s z i GoesOn e d = leads_by P table s z (ap (λ x. tape_act P table s x) e ∙ d)
one_turn P table s z i Stops e d = (1, ap (λ x. on_tape_turn (tape_act P table s x) (λ y. tape_run P table 0 y)) e ∙ ap (λ u. on_tape_turn u (λ y. tape_run P table 0 y)) d)
one_turn P table s z i GivesUp e d = tt

-- some turns more
pub leads_on : (P : Program) (table : Table) (s y z : Tape) (step : Step) → LeadsTo P table s y → step ≡ GoesOn → Makes P table y step z → LeadsTo P table s z
leads_on P table s y z step h is d =
    let on : Makes P table y GoesOn z = subst (λ (x : Step). Makes P table y x z) is d in
    leads_trans P table s y z h on

pub leads_out : (P : Program) (table : Table) (s y z : Tape) (step : Step) → LeadsTo P table s y → step ≡ Stops → Makes P table y step z → StopsAt P table s z
leads_out P table s y z step h is d =
    let out : Makes P table y Stops z = subst (λ (x : Step). Makes P table y x z) is d in
    (h.turns + out.0, h.so out.0 z out.1)

-- the code of rows passes up to an instruction, which goes on
pub leads_past : (P : Program) (table : Table) (s y z : Tape) (pc : ℕ) (i : Instruction) (step : Step) → LeadsTo P table s y → LeadsTo P table y (record y { pc = pc }) →
    slice_get P.plan.code pc ≡ Some i → Does (tape_act P table (record y { pc = pc }) (Some i)) step z → step ≡ GoesOn → LeadsTo P table s z
leads_past P table s y z pc i step h p e d is =
    let x : Tape = record y { pc = pc } in
    leads_on P table s x z step (leads_trans P table s y x h p) is (one_turn P table x z (Some i) step e d)

-- a turn by an instruction is some turns
pub turn_made : {E : Type 0} (c : Context) (s z : Tape) (i : Instruction) (r : Result Step E) → slice_get c.plan.now.code s.pc ≡ Some i →
    IfOk r (λ step. (table : Table) → table.operators ≡ c.operators.now → Does (tape_act (program_of c) table s (Some i)) step z) → IfOk r (λ step. Leads c s step z)
turn_made c s z i (Ok step) at d = λ table same. one_turn (program_of c) table s z (Some i) step at (d table same)
turn_made c s z i (Err e) at d = d

-- what stops has answered
pub answers_so : {E : Type 0} (law : TapesAnswer) (P : Program) (table : Table) (os : List Operator) → os ≡ table.operators → IsForTexts P → (r : Result (Option Running) E) →
    IfOk r (λ ran. IfSome ran (λ s. (table : Table) → table.operators ≡ os → StopsAt P table (first_tape P) (shown s))) →
    IfOk r (λ ran. IfSome ran (λ s. TapeHasAnswered P table (shown s)))
answers_so law P table os e whole (Ok (Some s)) h = let w = h table (sym e) in law P whole table w.0 (shown s) w.1
answers_so law P table os e whole (Ok None) h = h
answers_so law P table os e whole (Err e') h = h
