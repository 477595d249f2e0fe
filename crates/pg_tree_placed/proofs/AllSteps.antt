-- The text of all steps, from the last to the first.
use Rattle.std.proofs.Common.{◌≡◌, ◌+◌, ◌<◌, ◌≤◌, ℕ, false, List, [], ◌∷◌, ◌++◌, length, take, get_or, codes, ap, sym, ◌∙◌, append_assoc}
use Rattle.std.proofs.lemmas.List.{take_more, take_all}
use Rattle.pg_tree_placed.specs.Made.{made_on}
use Rattle.pg_tree_placed.specs.Written.{back_text, Left, left_text, outside, IsWritten, GoesBack, Settles}
use Rattle.pg_tree_placed.specs.declared.entry.Entry.{Entry}
use Rattle.pg_tree_placed.specs.declared.pending.Around.{Around}
use Rattle.pg_tree_placed.proofs.Making.{made_more}
use Rattle.pg_tree_placed.proofs.BackText.{back-kids}

pub written_first : (text : List ℕ) (labels : List (List ℕ)) (es : List Entry) (n : ℕ) (out : List ℕ) → length es ≤ n → out ≡ codes "]"
    → IsWritten text labels es n (outside false) [] out
written_first text labels es n out all is =
    let ts = made_on text labels [] es in
    ap (λ xs. codes "[" ++ (xs ++ codes "]")) (sym (back-kids ts))
    ∙ sym (append_assoc (codes "[") (back_text false ts) (codes "]"))
    ∙ ap (λ ds. (codes "[" ++ back_text false (made_on text labels [] ds)) ++ codes "]") (sym (take_all n es all))
    ∙ ap (λ xs. (codes "[" ++ back_text false (made_on text labels [] (take n es))) ++ xs) (sym is)

pub written_more : (text : List ℕ) (labels : List (List ℕ)) (es : List Entry) (steps : ℕ) (s z : Left) (cs ds : List Around) (e d : Entry) (old new : List ℕ)
    → steps < length es → e ≡ get_or es steps d → GoesBack text labels s cs e old z ds new → IsWritten text labels es (steps + 1) s cs old
    → IsWritten text labels es steps z ds new
written_more text labels es steps s z cs ds e d old new within is back so =
    let front : take (steps + 1) es ≡ take steps es ++ e ∷ [] = take_more es steps d within ∙ ap (λ x. take steps es ++ x ∷ []) (sym is) in
    so ∙ ap (λ us. left_text labels s cs us ++ old) (ap (λ xs. made_on text labels [] xs) front ∙ made_more text labels [] (take steps es) e)
    ∙ back (made_on text labels [] (take steps es))

-- what begins there
pub written_settled : (text : List ℕ) (labels : List (List ℕ)) (es : List Entry) (steps : ℕ) (s z : Left) (cs ds : List Around) (old new : List ℕ)
    → Settles labels s cs old z ds new → IsWritten text labels es steps s cs old → IsWritten text labels es steps z ds new
written_settled text labels es steps s z cs ds old new settles so = so ∙ settles (made_on text labels [] (take steps es))
