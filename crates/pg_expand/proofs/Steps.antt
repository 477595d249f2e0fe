-- One more precedence, and one more operator.
use Rattle.std.proofs.Common.{◌≡◌, ◌+◌, ◌<◌, ℕ, Bool, true, false, cond, List, [], ◌∷◌, ◌++◌, length, take, get_or, filter, map, refl, sym, ap, ◌∙◌, append-nil}
use Rattle.std.proofs.lemmas.List.{map-append}
use Rattle.std.proofs.lemmas.List.Elements.{filter_more}
use Rattle.pg_grammar_form.specs.Operators.{Operator}
use Rattle.pg_table.specs.Rows.{holds}
use Rattle.pg_expand.specs.declared.rows.Row.{Row}
use Rattle.pg_expand.specs.Rows.{row_at}

map_cond : (f : ℕ → Row) (b : Bool) (p : ℕ) → map f (cond b (p ∷ []) []) ≡ cond b (f p ∷ []) []
map_cond f true p = refl
map_cond f false p = refl

-- the rows of one more precedence
pub rows_more : (os : List Operator) (ps : List ℕ) (i : ℕ) → i < length ps →
    map (row_at os) (filter (holds os) (take (i + 1) ps)) ≡ map (row_at os) (filter (holds os) (take i ps)) ++ cond (holds os (get_or ps i 0)) (row_at os (get_or ps i 0) ∷ []) []
rows_more os ps i l =
    ap (map (row_at os)) (filter_more (holds os) ps i 0 l)
    ∙ (map-append (row_at os) (filter (holds os) (take i ps)) (cond (holds os (get_or ps i 0)) (get_or ps i 0 ∷ []) [])
    ∙ ap (λ (rows : List Row). map (row_at os) (filter (holds os) (take i ps)) ++ rows) (map_cond (row_at os) (holds os (get_or ps i 0)) (get_or ps i 0)))

-- so where the next precedence holds an operator its row is added, and else none is
pub row_added : (os : List Operator) (ps : List ℕ) (i : ℕ) (old new : List Row) (row : Row) → i < length ps → holds os (get_or ps i 0) ≡ true → old ≡ map (row_at os) (filter (holds os) (take i ps)) →
    row ≡ row_at os (get_or ps i 0) → new ≡ old ++ row ∷ [] → new ≡ map (row_at os) (filter (holds os) (take (i + 1) ps))
row_added os ps i old new row l held so_far is added =
    added ∙ (ap (λ (rows : List Row). rows ++ row ∷ []) so_far ∙ (ap (λ (row : Row). map (row_at os) (filter (holds os) (take i ps)) ++ row ∷ []) is
    ∙ (ap (λ b. map (row_at os) (filter (holds os) (take i ps)) ++ cond b (row_at os (get_or ps i 0) ∷ []) []) (sym held) ∙ sym (rows_more os ps i l))))

pub row_skipped : (os : List Operator) (ps : List ℕ) (i : ℕ) (old : List Row) → i < length ps → holds os (get_or ps i 0) ≡ false → old ≡ map (row_at os) (filter (holds os) (take i ps)) →
    old ≡ map (row_at os) (filter (holds os) (take (i + 1) ps))
row_skipped os ps i old l free so_far =
    so_far ∙ (sym (append-nil (map (row_at os) (filter (holds os) (take i ps))))
    ∙ (ap (λ b. map (row_at os) (filter (holds os) (take i ps)) ++ cond b (row_at os (get_or ps i 0) ∷ []) []) (sym free) ∙ sym (rows_more os ps i l)))
