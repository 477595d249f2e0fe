-- As many steps as can be counted are enough for a run of an accepted grammar.
use Rattle.std.proofs.Common.{◌≡◌, ◌≤◌, ◌+◌, ◌-◌, ◌*◌, ◌^◌, ℕ, length, arith}
use Rattle.std.proofs.lemmas.Nat.{row_fits}
use Rattle.pg_sets.specs.Sets.{Sets}
use Rattle.pg_table.specs.Tables.{Table, ComesFrom}
use Rattle.pg_predict_costs.specs.StepCost.{IsStepCost}
use Rattle.pg_predict.specs.Conditions.{cost_limit}
use Rattle.pg_derive.specs.Accepted.{Accepts}
use Rattle.pg_language.specs.Answers.{Given}
use Rattle.pg_machine.specs.Laws.{AcceptedProbesAnswer}
use Rattle.pg_machine.specs.Outcomes.{IsOutcome}
use Rattle.pg_machine.specs.declared.answer.Answer.{Answer}
use Rattle.pg_machine.specs.declared.answer.Outcome as ended
use Rattle.pg_machine.specs.declared.answer.Outcome.TheVariants.{Answered}

pub enough : (cost n : ℕ) → cost ≤ cost_limit → n ≤ 1048576 → cost * (n + 1) ≤ 2 ^ 64 - 1
enough cost n cheap short = let fits = row_fits cost (n + 1) 4294967297 1048577 (omega arith) (omega arith) in omega arith

-- a run with the greatest number of steps ends with an answer
pub comes_to_answer : AcceptedProbesAnswer → (G : Given) (sets : Sets) → Accepts G sets → (cost : ℕ) → IsStepCost G.grammar sets.nullable cost → cost ≤ cost_limit → length G.text ≤ 1048576 →
    (T : Table) → ComesFrom G.grammar T → (o : ended.Outcome) → IsOutcome G T (2 ^ 64 - 1) o → (a : Answer) × (o ≡ Answered a)
comes_to_answer law G sets accepts cost is cheap short T from o h = law G sets accepts cost is T from (2 ^ 64 - 1) (enough cost (length G.text) cheap short) o h
