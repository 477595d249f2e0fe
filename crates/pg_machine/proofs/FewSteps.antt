-- A run of an accepted grammar takes few steps.
use Rattle.std.proofs.Common.{◌≤◌, ◌+◌, ◌*◌, ℕ, length, arith}
use Rattle.pg_sets.specs.Sets.{Sets}
use Rattle.pg_table.specs.Tables.{Table, ComesFrom}
use Rattle.pg_language.specs.Answers.{Given}
use Rattle.pg_predict_costs.specs.StepCost.{IsStepCost}
use Rattle.pg_derive.specs.Accepted.{Accepts}
use Rattle.pg_derive_bound.proofs.InTime.{accepted_texts}
use Rattle.pg_machine.specs.CheckedRuns.{IsTextAnswer}
use Rattle.pg_machine.specs.Outcomes.{outcome_of}
use Rattle.pg_machine.specs.declared.answer.Answer.{Answer}

pub few_steps : (G : Given) (sets : Sets) → Accepts G sets → (cost : ℕ) → IsStepCost G.grammar sets.nullable cost → (table : Table) → ComesFrom G.grammar table
    → (a : Answer) → IsTextAnswer G table a → a.steps ≤ cost * (length G.text + 1)
few_steps G sets accepts cost is table from a answer =
    let few = accepted_texts G sets accepts cost is table from (outcome_of a) answer.nodes answer.answers in
    let steps = answer.steps in
    omega arith
