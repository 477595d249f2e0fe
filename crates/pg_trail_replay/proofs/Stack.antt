-- The next task stands last in the code, and so does the newest rule.
use Rattle.std.proofs.Common.{◌≡◌, ◌-◌, ℕ, List, [], ◌∷◌, ◌++◌, length, refl, ap, sym, ◌∙◌, arith}
use Rattle.std.specs.Prelude.{reverse, ◌||◌, Bool, true, false, ◌==◌, Some, None, slice_get}
use Rattle.std.proofs.lemmas.List.{reverse-append}
use Rattle.pg_trail_replay.specs.declared.task.ShortTask.{ShortTask}
use Rattle.pg_trail_replay.specs.declared.task.RoundsTask.{RoundsTask}
use Rattle.pg_trail_replay.specs.declared.task.Closing.{Closing}
use Rattle.pg_trail_replay.specs.declared.task.Leaving.{Leaving}
use Rattle.pg_trail_replay.specs.declared.task_lists.TaskKind.{TaskKind}
use Rattle.pg_trail_replay.specs.declared.task_lists.TaskKind.TheVariants as kind
use Rattle.pg_grammar_value.specs.Grammar.{Grammar}
use Rattle.pg_trail_replay.specs.Tasks.{OnTask, State, turn, turn_by, with_tasks, without_newest, first_mark, is_entered}
use Rattle.pg_trail_replay.specs.View.{first_by, others, tasks_by, short_of, rounds_of, closing_of, leaving_of}

newest : {A : Type 0} (xs : List A) (x : A) → reverse (xs ++ x ∷ []) ≡ x ∷ reverse xs
newest xs x = reverse-append xs (x ∷ [])

pub first_taken : {A : Type 0} (f : A → OnTask) (old new : List A) (x : A) → old ≡ new ++ x ∷ [] → first_by f (reverse old) ≡ f x
first_taken f old new x e = ap (λ xs. first_by f xs) (ap reverse e ∙ newest new x)

pub rest_taken : {A : Type 0} (old new : List A) (x : A) → old ≡ new ++ x ∷ [] → reverse new ≡ others (reverse old)
rest_taken old new x e = sym (ap (λ xs. others xs) (ap reverse e ∙ newest new x))

pub short_pushed : (ks more : List TaskKind) (ss all : List ShortTask) (rs : List RoundsTask) (cs : List Closing) (ls : List Leaving) (t : ShortTask) → more ≡ ks ++ kind.Short ∷ [] → all ≡ ss ++ t ∷ [] →
    tasks_by (reverse more) (reverse all) rs cs ls ≡ short_of t ∷ tasks_by (reverse ks) (reverse ss) rs cs ls
short_pushed ks more ss all rs cs ls t e f =
    ap (λ (k : List TaskKind). tasks_by k (reverse all) rs cs ls) (ap reverse e ∙ newest ks kind.Short) ∙ ap (λ (xs : List ShortTask). first_by short_of xs ∷ tasks_by (reverse ks) (others xs) rs cs ls) (ap reverse f ∙ newest ss t)

pub rounds_pushed : (ks more : List TaskKind) (ss : List ShortTask) (rs all : List RoundsTask) (cs : List Closing) (ls : List Leaving) (t : RoundsTask) → more ≡ ks ++ kind.Rounds ∷ [] → all ≡ rs ++ t ∷ [] →
    tasks_by (reverse more) ss (reverse all) cs ls ≡ rounds_of t ∷ tasks_by (reverse ks) ss (reverse rs) cs ls
rounds_pushed ks more ss rs all cs ls t e f =
    ap (λ (k : List TaskKind). tasks_by k ss (reverse all) cs ls) (ap reverse e ∙ newest ks kind.Rounds) ∙ ap (λ (xs : List RoundsTask). first_by rounds_of xs ∷ tasks_by (reverse ks) ss (others xs) cs ls) (ap reverse f ∙ newest rs t)

pub closing_pushed : (ks more : List TaskKind) (ss : List ShortTask) (rs : List RoundsTask) (cs all : List Closing) (ls : List Leaving) (t : Closing) → more ≡ ks ++ kind.Close ∷ [] → all ≡ cs ++ t ∷ [] →
    tasks_by (reverse more) ss rs (reverse all) ls ≡ closing_of t ∷ tasks_by (reverse ks) ss rs (reverse cs) ls
closing_pushed ks more ss rs cs all ls t e f =
    ap (λ (k : List TaskKind). tasks_by k ss rs (reverse all) ls) (ap reverse e ∙ newest ks kind.Close) ∙ ap (λ (xs : List Closing). first_by closing_of xs ∷ tasks_by (reverse ks) ss rs (others xs) ls) (ap reverse f ∙ newest cs t)

pub leaving_pushed : (ks more : List TaskKind) (ss : List ShortTask) (rs : List RoundsTask) (cs : List Closing) (ls all : List Leaving) (t : Leaving) → more ≡ ks ++ kind.Leave ∷ [] → all ≡ ls ++ t ∷ [] →
    tasks_by (reverse more) ss rs cs (reverse all) ≡ leaving_of t ∷ tasks_by (reverse ks) ss rs cs (reverse ls)
leaving_pushed ks more ss rs cs ls all t e f =
    ap (λ (k : List TaskKind). tasks_by k ss rs cs (reverse all)) (ap reverse e ∙ newest ks kind.Leave) ∙ ap (λ (xs : List Leaving). first_by leaving_of xs ∷ tasks_by (reverse ks) ss rs cs (others xs)) (ap reverse f ∙ newest ls t)

-- of the newest kind the newest task is taken off
pub short_popped : (ks all : List TaskKind) (ss left : List ShortTask) (rs : List RoundsTask) (cs : List Closing) (ls : List Leaving) (t : OnTask) → all ≡ ks ++ kind.Short ∷ [] → t ≡ first_by short_of (reverse ss) → reverse left ≡ others (reverse ss) →
    tasks_by (reverse all) (reverse ss) rs cs ls ≡ t ∷ tasks_by (reverse ks) (reverse left) rs cs ls
short_popped ks all ss left rs cs ls t e f g =
    ap (λ (k : List TaskKind). tasks_by k (reverse ss) rs cs ls) (ap reverse e ∙ newest ks kind.Short) ∙ ap (λ (x : OnTask). x ∷ tasks_by (reverse ks) (others (reverse ss)) rs cs ls) (sym f) ∙ ap (λ (xs : List ShortTask). t ∷ tasks_by (reverse ks) xs rs cs ls) (sym g)

pub rounds_popped : (ks all : List TaskKind) (ss : List ShortTask) (rs left : List RoundsTask) (cs : List Closing) (ls : List Leaving) (t : OnTask) → all ≡ ks ++ kind.Rounds ∷ [] → t ≡ first_by rounds_of (reverse rs) → reverse left ≡ others (reverse rs) →
    tasks_by (reverse all) ss (reverse rs) cs ls ≡ t ∷ tasks_by (reverse ks) ss (reverse left) cs ls
rounds_popped ks all ss rs left cs ls t e f g =
    ap (λ (k : List TaskKind). tasks_by k ss (reverse rs) cs ls) (ap reverse e ∙ newest ks kind.Rounds) ∙ ap (λ (x : OnTask). x ∷ tasks_by (reverse ks) ss (others (reverse rs)) cs ls) (sym f) ∙ ap (λ (xs : List RoundsTask). t ∷ tasks_by (reverse ks) ss xs cs ls) (sym g)

pub closing_popped : (ks all : List TaskKind) (ss : List ShortTask) (rs : List RoundsTask) (cs left : List Closing) (ls : List Leaving) (t : OnTask) → all ≡ ks ++ kind.Close ∷ [] → t ≡ first_by closing_of (reverse cs) → reverse left ≡ others (reverse cs) →
    tasks_by (reverse all) ss rs (reverse cs) ls ≡ t ∷ tasks_by (reverse ks) ss rs (reverse left) ls
closing_popped ks all ss rs cs left ls t e f g =
    ap (λ (k : List TaskKind). tasks_by k ss rs (reverse cs) ls) (ap reverse e ∙ newest ks kind.Close) ∙ ap (λ (x : OnTask). x ∷ tasks_by (reverse ks) ss rs (others (reverse cs)) ls) (sym f) ∙ ap (λ (xs : List Closing). t ∷ tasks_by (reverse ks) ss rs xs ls) (sym g)

pub leaving_popped : (ks all : List TaskKind) (ss : List ShortTask) (rs : List RoundsTask) (cs : List Closing) (ls left : List Leaving) (t : OnTask) → all ≡ ks ++ kind.Leave ∷ [] → t ≡ first_by leaving_of (reverse ls) → reverse left ≡ others (reverse ls) →
    tasks_by (reverse all) ss rs cs (reverse ls) ≡ t ∷ tasks_by (reverse ks) ss rs cs (reverse left)
leaving_popped ks all ss rs cs ls left t e f g =
    ap (λ (k : List TaskKind). tasks_by k ss rs cs (reverse ls)) (ap reverse e ∙ newest ks kind.Leave) ∙ ap (λ (x : OnTask). x ∷ tasks_by (reverse ks) ss rs cs (others (reverse ls))) (sym f) ∙ ap (λ (xs : List Leaving). t ∷ tasks_by (reverse ks) ss rs cs xs) (sym g)

pub rule_entered : (entered : List ℕ) (r : ℕ) → reverse (entered ++ r ∷ []) ≡ r ∷ reverse entered
rule_entered entered r = reverse-append entered (r ∷ [])

pub rule_left : (entered : List ℕ) (r : ℕ) → without_newest (reverse (entered ++ r ∷ [])) ≡ reverse entered
rule_left entered r = ap without_newest (rule_entered entered r)

-- whether one of these is so doesn't depend on their order
or_false : (b : Bool) → b || false ≡ b
or_false true = refl
or_false false = refl

or_moved : (b c d : Bool) → b || (c || d) ≡ c || (b || d)
or_moved true true d = refl
or_moved true false d = refl
or_moved false true d = refl
or_moved false false d = refl

any_last : (r q : ℕ) (xs : List ℕ) → is_entered r (xs ++ q ∷ []) ≡ (q == r) || is_entered r xs
any_last r q [] = refl
any_last r q (x ∷ xs) = ap (λ b. (x == r) || b) (any_last r q xs) ∙ or_moved (x == r) (q == r) (is_entered r xs)

pub entered_reversed : (r : ℕ) (xs : List ℕ) → is_entered r (reverse xs) ≡ is_entered r xs
entered_reversed r [] = refl
entered_reversed r (x ∷ xs) = ap (is_entered r) (reverse-append (x ∷ []) xs) ∙ any_last r x (reverse xs) ∙ ap (λ b. (x == r) || b) (entered_reversed r xs)

-- where the next task is taken off, it is done
pub turned : (g : Grammar) (text : List ℕ) (all ts : List OnTask) (t : OnTask) (s : State) → all ≡ t ∷ ts → turn g text t (with_tasks ts s) ≡ turn_by g text all s
turned g text all ts t s e = ap (λ xs. turn_by g text xs s) (sym e)

-- ---- the newest

abbrev last_of : ℕ → List ℕ → ℕ
last_of x [] = x
last_of x (y ∷ ys) = last_of y ys

last_there : (x : ℕ) (xs : List ℕ) → slice_get (x ∷ xs) (length xs) ≡ Some (last_of x xs)
last_there x [] = refl
last_there x (y ∷ ys) = last_there y ys

last_first : (x : ℕ) (xs : List ℕ) → (others : List ℕ) × (reverse (x ∷ xs) ≡ last_of x xs ∷ others)
last_first x [] = ([], refl)
last_first x (y ∷ ys) = let there = last_first y ys in (there.0 ++ x ∷ [], reverse-append (x ∷ []) (y ∷ ys) ∙ ap (λ zs. zs ++ x ∷ []) there.1)

pub mark_last : (xs : List ℕ) (m : ℕ) → slice_get xs (length xs - 1) ≡ Some m → first_mark (reverse xs) ≡ m
mark_last [] m e = absurd cc
mark_last (x ∷ xs) m e =
    let one : length (x ∷ xs) - 1 ≡ length xs = omega arith in
    let same : Some m ≡ Some (last_of x xs) = sym e ∙ ap (slice_get (x ∷ xs)) one ∙ last_there x xs in
    ap first_mark (last_first x xs).1 ∙ (let there : last_of x xs ≡ m = cc in there)

pub mark_none : (xs : List ℕ) → slice_get xs (length xs - 1) ≡ None → first_mark (reverse xs) ≡ 0
mark_none [] e = refl
mark_none (x ∷ xs) e =
    let one : length (x ∷ xs) - 1 ≡ length xs = omega arith in
    let same : None ≡ Some (last_of x xs) = sym e ∙ ap (slice_get (x ∷ xs)) one ∙ last_there x xs in
    absurd cc
