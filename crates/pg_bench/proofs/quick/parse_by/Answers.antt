use Rattle.std.proofs.Common.{◌≡◌, ◌+◌, ◌-◌, ◌*◌, ◌^◌, ℕ, min, true, IfSome, List, length, subst, sym, ◌∙◌}
use Rattle.pg_grammar_value.specs.Grammar.{Grammar, IsGrammar}
use Rattle.pg_table.proofs.Added.{own_table}
use Rattle.pg_machine_quick.specs.Laws.{TapeHasAnswered}
use Rattle.pg_machine_plan.specs.Plans.{program}
use Rattle.pg_machine_quick.specs.Running.{shown}
use Rattle.pg_bench.specs.declared.done.Done.{Done}
use Rattle.pg_bench.specs.Promise.{most_steps}
use Rattle.pg_bench.proofs.QuickForest.{quick_forest}
use Rattle.pg_bench.proofs.quick.parse_by.Goals as goal

pub returns-in-Some : goal.returns-in-Some
returns-in-Some c =
    let checked = c.args.checked.now in
    let plan = c.args.plan.now in
    let text = c.args.text.now in
    let table = c.args.table.now in
    let running = c.in-Some.running in
    let same = c.grammar-grammar.ensures.grammar in
    let found = subst (λ o. IfSome o (λ s. TapeHasAnswered (program c.grammar-grammar.result.now plan text) table (shown s))) c.in-Some.is c.in_ok-running.ensures in
    let answered : TapeHasAnswered (program checked.grammar plan text) table (shown running) =
    subst (λ (g : Grammar). TapeHasAnswered (program g plan text) table (shown running)) same found in
    let steps = min (2 * running.nodes - 1) (2 ^ 64 - 1) in
    let done = c.done_of-done.result in
    let counted : done ≡ record { steps = steps; cost = c.cost-in-Some.result; most = most_steps c.cost-in-Some.result (length text + 1); planned = true } =
    subst (λ (n : ℕ). done ≡ record { steps = steps; cost = c.cost-in-Some.result; most = most_steps c.cost-in-Some.result (n + 1); planned = true }) c.len-places.ensures.count c.done_of-done.ensures in
    let took : done ≡ record { steps = steps; cost = checked.cost; most = most_steps checked.cost (length text + 1); planned = true } =
    subst (λ (k : ℕ). done ≡ record { steps = steps; cost = k; most = most_steps k (length text + 1); planned = true }) c.cost-in-Some.ensures.cost counted in
    quick_forest checked plan text table (shown running) done c.grammar-grammar.ensures.checked (subst IsGrammar same c.nodes-nodes.ensures.grammar)
    c.characters-characters.ensures.scalars c.requires.table (own_table checked.grammar table c.requires.table) answered took
