-- The newest operator that waits stands last in the code, and so does the last step.
use Rattle.std.proofs.Common.{◌≡◌, ◌-◌, ◌+◌, Bool, true, false, List, [], ◌∷◌, ◌++◌, length, refl, sym, ap, ◌∙◌, arith}
use Rattle.std.specs.Prelude.{Option, None, Some, map, option_map, slice_get}
use Rattle.std.proofs.lemmas.List.{map-append}
use Rattle.pg_expand_fitting.specs.declared.known.Known as declared
use Rattle.pg_expand_fitting.specs.declared.step.Step as declared_step
use Rattle.pg_expand_fitting.specs.Steps.{Step, an_application}
use Rattle.pg_expand_fitting.specs.Judge.{Known, goes_under, top_takes, closed_until, known_of, step_of, waiting_on, waiting_of}
use Rattle.pg_expand_fitting.proofs.Places.{if_true, if_false}

pub waiting_pushed : (ws : List declared.Known) (w : declared.Known) → waiting_of (ws ++ w ∷ []) ≡ known_of w ∷ waiting_of ws
waiting_pushed ws w = go ws []
  where
    go : (ws : List declared.Known) (below : List Known) → waiting_on below (ws ++ w ∷ []) ≡ known_of w ∷ waiting_on below ws
    go [] below = refl
    go (x ∷ ws) below = go ws (known_of x ∷ below)

pub step_pushed : (xs : List declared_step.Step) (x : declared_step.Step) → map step_of (xs ++ x ∷ []) ≡ map step_of xs ++ step_of x ∷ []
step_pushed xs x = map-append step_of xs (x ∷ [])

-- ---- the newest

abbrev takes_if : Option Known → Known → Bool
takes_if None k = true
takes_if (Some w) k = goes_under w k

abbrev last_of : declared.Known → List declared.Known → declared.Known
last_of w [] = w
last_of w (x ∷ xs) = last_of x xs

last_there : (w : declared.Known) (ws : List declared.Known) → slice_get (w ∷ ws) (length ws) ≡ Some (last_of w ws)
last_there w [] = refl
last_there w (x ∷ xs) = last_there x xs

last_taken : (w : declared.Known) (ws : List declared.Known) (below : List Known) (k : Known) → top_takes (waiting_on (known_of w ∷ below) ws) k ≡ goes_under (known_of (last_of w ws)) k
last_taken w [] below k = refl
last_taken w (x ∷ xs) below k = last_taken x xs (known_of w ∷ below) k

newest_by : (ws : List declared.Known) (k : Known) → top_takes (waiting_of ws) k ≡ takes_if (option_map known_of (slice_get ws (length ws - 1))) k
newest_by [] k = refl
newest_by (w ∷ ws) k =
    let one : length (w ∷ ws) - 1 ≡ length ws = omega arith in
    last_taken w ws [] k ∙ ap (λ o. takes_if (option_map known_of o) k) (sym (ap (slice_get (w ∷ ws)) one ∙ last_there w ws))

pub newest_takes : (ws : List declared.Known) (w : declared.Known) (k : Known) → slice_get ws (length ws - 1) ≡ Some w → top_takes (waiting_of ws) k ≡ goes_under (known_of w) k
newest_takes ws w k e = newest_by ws k ∙ ap (λ o. takes_if (option_map known_of o) k) e

pub none_takes : (ws : List declared.Known) (k : Known) → slice_get ws (length ws - 1) ≡ None → top_takes (waiting_of ws) k ≡ true
none_takes ws k e = newest_by ws k ∙ ap (λ o. takes_if (option_map known_of o) k) e

-- ---- closing

pub closes_here : (o w : Known) (ws : List Known) (root : Option Known) (steps : List Step) → goes_under w o ≡ true →
    closed_until o (w ∷ ws) root steps ≡ record { waiting = w ∷ ws; root = root; steps = steps }
closes_here o w ws root steps e = if_true (goes_under w o) _ _ e

pub closes_on : (o w : Known) (ws : List Known) (root : Option Known) (steps : List Step) → goes_under w o ≡ false →
    closed_until o (w ∷ ws) root steps ≡ closed_until o ws (Some w) (steps ++ an_application w.applied ∷ [])
closes_on o w ws root steps e = if_false (goes_under w o) _ _ e
