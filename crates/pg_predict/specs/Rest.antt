-- What is still to be found: by the questions at a node from one on, and at the nodes after it.
use Rattle.std.specs.Prelude.{◌+◌, ◌-◌, ℕ, zero, suc, nat_lt, if◌then◌else◌, List, [], ◌++◌, length, Option, slice_get}
use Rattle.std.specs.Option.{option_map_or}
use Rattle.pg_grammar_value.specs.Grammar.{Grammar}
use Rattle.pg_grammar_form.specs.Forms.{Node}
use Rattle.pg_predict_conditions.specs.Judged.{Facts, is_costly, noted, noted_at}
use Rattle.pg_predict_conditions.specs.Questions.{form_series_count, node_questions, asked_node}
use Rattle.pg_predict_conditions.specs.Violations.{Violation}
use Rattle.pg_predict_conditions.specs.declared.violation.ViolationKind.TheVariants.{StepCostOver}
use Rattle.pg_predict.specs.declared.asking.Asking.{Asking}
use Rattle.pg_predict.specs.declared.way.Way.{Way}

-- the violations for `count` numbers from one on, in order
abbrev pub all_from : (ℕ → List (Violation ℕ)) → ℕ → ℕ → List (Violation ℕ)
all_from note k zero = []
all_from note k (suc n) = note k ++ all_from note (suc k) n

-- the violations for the numbers from one on that are below a limit
abbrev pub between : (ℕ → List (Violation ℕ)) → ℕ → ℕ → List (Violation ℕ)
between note k n = all_from note k (n - k)

-- what the questions of a series find, from one on
unfoldable pub rest_of_series : Facts → ℕ → Node → ℕ → ℕ → List (Violation ℕ)
rest_of_series facts p n j k = between (asked_node facts p n j) k (node_questions facts n j)

-- the violation if a step cost above the limit is reported at this node: the one question after all series
abbrev pub rest_of_cost : Facts → ℕ → ℕ → List (Violation ℕ)
rest_of_cost facts p zero = noted (is_costly facts p) p StepCostOver
rest_of_cost facts p (suc k) = []

-- what is found at a node: by the rest of a series, by the later series, and by the question on the step cost
unfoldable pub rest_at : Facts → ℕ → Node → Asking → List (Violation ℕ)
rest_at facts p n asking =
    if nat_lt asking.series (form_series_count n + 1)
    then rest_of_series facts p n asking.series asking.question
    ++ (between (λ j. rest_of_series facts p n j 0) (asking.series + 1) (form_series_count n + 1) ++ rest_of_cost facts p 0)
    else rest_of_cost facts p asking.question

-- what is found in a grammar: by the rest of the questions at a node, and at the nodes after it
unfoldable pub rest_of : Grammar → Facts → Way → List (Violation ℕ)
rest_of g facts way =
    option_map_or (λ n. rest_at facts way.node n way.asking) (slice_get g.nodes way.node) [] ++ between (noted_at g facts) (way.node + 1) (length g.nodes)
