-- The text of trees from the back is that of kids in order.
use Rattle.std.proofs.Common.{◌≡◌, Bool, true, false, List, [], ◌∷◌, ◌++◌, refl, ap, sym, ◌∙◌, append_assoc}
use Rattle.std.specs.Prelude.{reverse}
use Rattle.std.proofs.lemmas.List.{append-nil, reverse-append, reverse-reverse}
use Rattle.pg_tree.specs.Trees.{Tree, kids_of}
use Rattle.pg_tree.specs.Json.{json_tree, json_kids, json_rest}
use Rattle.pg_tree_placed.specs.Written.{comma, back_text}

-- whether another tree comes after the first of these, from the back
abbrev after : Bool → List Tree → Bool
after later [] = later
after later (t ∷ ts) = true

after_true : (ts : List Tree) → after true ts ≡ true
after_true [] = refl
after_true (t ∷ ts) = refl

after_more : (later : Bool) (ts : List Tree) (t : Tree) → after later (ts ++ t ∷ []) ≡ true
after_more later [] t = refl
after_more later (u ∷ ts) t = refl

-- one more in front of them, which is the last from the back
back-more : (later : Bool) (ts : List Tree) (t : Tree) → back_text later (ts ++ t ∷ []) ≡ json_tree t ++ (comma (after later ts) ++ back_text later ts)
back-more later [] t = ap (λ xs. json_tree t ++ xs) (sym (append-nil (comma later)))
back-more later (u ∷ ts) t =
    ap (λ xs. xs ++ (json_tree u ++ comma later)) (back-more true ts t ∙ ap (λ b. json_tree t ++ (comma b ++ back_text true ts)) (after_true ts))
    ∙ append_assoc (json_tree t) (comma true ++ back_text true ts) (json_tree u ++ comma later)
    ∙ ap (λ xs. json_tree t ++ xs) (append_assoc (comma true) (back_text true ts) (json_tree u ++ comma later))

back-rest : (ts : List Tree) → comma (after false (reverse ts)) ++ back_text false (reverse ts) ≡ json_rest (kids_of ts)
back-rest [] = refl
back-rest (t ∷ ts) =
    ap (λ us. comma (after false us) ++ back_text false us) (reverse-append (t ∷ []) ts)
    ∙ ap (λ b. comma b ++ back_text false (reverse ts ++ t ∷ [])) (after_more false (reverse ts) t)
    ∙ ap (λ xs. comma true ++ xs) (back-more false (reverse ts) t ∙ ap (λ xs. json_tree t ++ xs) (back-rest ts))

back-reverse : (ts : List Tree) → back_text false (reverse ts) ≡ json_kids (kids_of ts)
back-reverse [] = refl
back-reverse (t ∷ ts) =
    ap (λ us. back_text false us) (reverse-append (t ∷ []) ts) ∙ back-more false (reverse ts) t ∙ ap (λ xs. json_tree t ++ xs) (back-rest ts)

pub back-kids : (ts : List Tree) → back_text false ts ≡ json_kids (kids_of (reverse ts))
back-kids ts = ap (λ us. back_text false us) (sym (reverse-reverse ts)) ∙ back-reverse (reverse ts)
