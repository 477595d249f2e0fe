-- The steps of a tree are tasks, which stand in the code the other way round, and so do the operands that wait.
use Rattle.std.proofs.Common.{◌≡◌, ◌-◌, ℕ, List, [], ◌∷◌, ◌++◌, length, refl, sym, ap, ◌∙◌, append_assoc, arith}
use Rattle.std.specs.Prelude.{Some, None, slice_get, map}
use Rattle.std.proofs.lemmas.List.{map-append}
use Rattle.pg_grammar_form.specs.declared.used.OperatorBuilders.{OperatorBuilders}
use Rattle.pg_expand_fitting.specs.Steps.{Step}
use Rattle.pg_expand_fitting.specs.declared.step.Step as declared
use Rattle.pg_expand_fitting.specs.Judge.{step_of}
use Rattle.pg_trail_replay.specs.declared.task.Looseness as declared_loose
use Rattle.pg_trail_replay.specs.Tasks.{Looseness, OnTask, State, newest_waiting, others_waiting, waiting_before, waiting, step_task, step_tasks, with_task, with_tasks, with_steps}
use Rattle.pg_trail_replay.specs.View.{loose_of, waiting_on, waiting_of}

-- ---- steps

pub waiting_both : (builders : OperatorBuilders) (steps more : List Step) (ls : List Looseness) → waiting builders (steps ++ more) ls ≡ waiting builders steps (waiting builders more ls)
waiting_both builders [] more ls = refl
waiting_both builders (step ∷ steps) more ls = ap (waiting_before builders step) (waiting_both builders steps more ls)

pub tasks_both : (builders : OperatorBuilders) (p : ℕ) (steps more : List Step) (ls : List Looseness) →
    step_tasks builders p (steps ++ more) ls ≡ step_tasks builders p steps (waiting builders more ls) ++ step_tasks builders p more ls
tasks_both builders p [] more ls = refl
tasks_both builders p (step ∷ steps) more ls =
    ap (λ ms. step_task builders p (newest_waiting ms) step ∷ step_tasks builders p (steps ++ more) ls) (waiting_both builders steps more ls)
    ∙ ap (λ ts. step_task builders p (newest_waiting (waiting builders steps (waiting builders more ls))) step ∷ ts) (tasks_both builders p steps more ls)

pub no_steps : (builders : OperatorBuilders) (p : ℕ) (ls : List Looseness) (s : State) → with_steps builders p (map step_of []) ls s ≡ s
no_steps builders p ls s = refl

pub steps_pushed : (builders : OperatorBuilders) (p : ℕ) (steps : List declared.Step) (step : declared.Step) (ls : List Looseness) (s : State) →
    with_steps builders p (map step_of (steps ++ step ∷ [])) ls s
    ≡ with_steps builders p (map step_of steps) (waiting_before builders (step_of step) ls) (with_task (step_task builders p (newest_waiting ls) (step_of step)) s)
steps_pushed builders p steps step ls s =
    let first : map step_of (steps ++ step ∷ []) ≡ map step_of steps ++ step_of step ∷ [] = map-append step_of steps (step ∷ []) in
    let before : List Looseness = waiting_before builders (step_of step) ls in
    let task : OnTask = step_task builders p (newest_waiting ls) (step_of step) in
    let tasks : step_tasks builders p (map step_of (steps ++ step ∷ [])) ls ++ s.tasks ≡ step_tasks builders p (map step_of steps) before ++ (task ∷ s.tasks) =
    ap (λ xs. step_tasks builders p xs ls ++ s.tasks) first
    ∙ ap (λ ts. ts ++ s.tasks) (tasks_both builders p (map step_of steps) (step_of step ∷ []) ls)
    ∙ append_assoc (step_tasks builders p (map step_of steps) before) (task ∷ []) s.tasks in
    ap (λ ts. with_tasks ts s) tasks

-- where the last of the steps that are left becomes a task, the tasks are the same
pub step_pushed : (builders : OperatorBuilders) (p : ℕ) (all steps : List declared.Step) (step : declared.Step) (ls ms : List Looseness) (l : Looseness) (s z : State) → all ≡ steps ++ step ∷ [] →
    ms ≡ waiting_before builders (step_of step) ls → l ≡ newest_waiting ls → z ≡ with_task (step_task builders p l (step_of step)) s →
    with_steps builders p (map step_of steps) ms z ≡ with_steps builders p (map step_of all) ls s
step_pushed builders p all steps step ls ms l s z e f h k =
    ap (λ x. with_steps builders p (map step_of steps) x z) f
    ∙ ap (λ x. with_steps builders p (map step_of steps) (waiting_before builders (step_of step) ls) x) (k ∙ ap (λ x. with_task (step_task builders p x (step_of step)) s) h)
    ∙ sym (steps_pushed builders p steps step ls s)
    ∙ ap (λ x. with_steps builders p (map step_of x) ls s) (sym e)

-- ---- operands that wait

pub waits_pushed : (xs more : List declared_loose.Looseness) → waiting_of (xs ++ more) ≡ waiting_on (waiting_of xs) more
waits_pushed xs more = go xs []
  where
    go : (xs : List declared_loose.Looseness) (ls : List Looseness) → waiting_on ls (xs ++ more) ≡ waiting_on (waiting_on ls xs) more
    go [] ls = refl
    go (y ∷ xs) ls = go xs (loose_of y ∷ ls)

pub waits_less : (xs : List declared_loose.Looseness) (x : declared_loose.Looseness) → others_waiting (waiting_of (xs ++ x ∷ [])) ≡ waiting_of xs
waits_less xs x = ap others_waiting (waits_pushed xs (x ∷ []))

-- ---- the newest

abbrev last_of : declared_loose.Looseness → List declared_loose.Looseness → declared_loose.Looseness
last_of x [] = x
last_of x (y ∷ ys) = last_of y ys

last_there : (x : declared_loose.Looseness) (xs : List declared_loose.Looseness) → slice_get (x ∷ xs) (length xs) ≡ Some (last_of x xs)
last_there x [] = refl
last_there x (y ∷ ys) = last_there y ys

last_first : (x : declared_loose.Looseness) (xs : List declared_loose.Looseness) (ls : List Looseness) → newest_waiting (waiting_on ls (x ∷ xs)) ≡ loose_of (last_of x xs)
last_first x [] ls = refl
last_first x (y ∷ ys) ls = last_first y ys (loose_of x ∷ ls)

pub newest_last : (xs : List declared_loose.Looseness) (x : declared_loose.Looseness) → slice_get xs (length xs - 1) ≡ Some x → newest_waiting (waiting_of xs) ≡ loose_of x
newest_last [] x e = absurd cc
newest_last (y ∷ ys) x e =
    let one : length (y ∷ ys) - 1 ≡ length ys = omega arith in
    let same : Some x ≡ Some (last_of y ys) = sym e ∙ ap (slice_get (y ∷ ys)) one ∙ last_there y ys in
    last_first y ys [] ∙ ap loose_of (let there : last_of y ys ≡ x = cc in there)

pub newest_none : (xs : List declared_loose.Looseness) → slice_get xs (length xs - 1) ≡ None → newest_waiting (waiting_of xs) ≡ newest_waiting []
newest_none [] e = refl
newest_none (y ∷ ys) e =
    let one : length (y ∷ ys) - 1 ≡ length ys = omega arith in
    let same : None ≡ Some (last_of y ys) = sym e ∙ ap (slice_get (y ∷ ys)) one ∙ last_there y ys in
    absurd cc
