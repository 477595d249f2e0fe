-- What is printed of the tokens of trees is their outline.
use Rattle.std.proofs.Common.{◌≡◌, ◌+◌, ◌-◌, ◌*◌, ◌<◌, ◌≤◌, ℕ, Bool, false, List, [], ◌∷◌, ◌++◌, Option, length, drop, get_or, refl, ap, sym, subst, ◌∙◌, append_assoc, arith}
use Rattle.std.specs.Prelude.{is_some, replicate}
use Rattle.std.proofs.lemmas.List.{append-nil, drop_more, drop_all, replicate-append-replicate}
use Rattle.pg_tree.specs.Json.{quoted}
use Rattle.pg_tree.specs.Trees.{Trees, leaf, node, no_trees, tree}
use Rattle.pg_corpus_outline.specs.declared.piece.Piece.{Piece}
use Rattle.pg_corpus_outline.specs.Pieces.{Token, token_of, leaf_token, open_token, close_token, tokens_of, trees_tokens}
use Rattle.pg_corpus_outline.specs.Outlines.{line, name_of, beside, unless_beside, sole, outline, sole_token, token_bytes, silent_after, depth_after, tokens_page}

-- the leaf that stands on its node's line
sole-tokens : (kids : Trees) (rest : List Token) → sole_token (trees_tokens kids ++ close_token ∷ rest) ≡ sole kids
sole-tokens no_trees rest = refl
sole-tokens (tree (node label kids) ts) rest = refl
sole-tokens (tree (leaf text) no_trees) rest = refl
sole-tokens (tree (leaf text) (tree (leaf other) ts)) rest = refl
sole-tokens (tree (leaf text) (tree (node label kids) ts)) rest = refl

-- behind the end of a node
closed : (depth : ℕ) (rest : List Token) → tokens_page false (depth + 1) (close_token ∷ rest) ≡ tokens_page false depth rest
closed depth rest = let e : depth + 1 - 1 ≡ depth = omega arith in ap (λ n. tokens_page false n rest) e

-- what is in a node, up to its end
inside : (kids : Trees) (depth : ℕ) (rest : List Token)
    → tokens_page false (depth + 1) (trees_tokens kids ++ close_token ∷ rest) ≡ outline (depth + 1) kids ++ tokens_page false (depth + 1) (close_token ∷ rest)
    → tokens_page (is_some (sole kids)) (depth + 1) (trees_tokens kids ++ close_token ∷ rest) ≡ unless_beside (sole kids) (outline (depth + 1) kids) ++ tokens_page false depth rest
inside no_trees depth rest h = h ∙ closed depth rest
inside (tree (node label kids) ts) depth rest h = h ∙ ap (λ l. outline (depth + 1) (tree (node label kids) ts) ++ l) (closed depth rest)
inside (tree (leaf text) (tree t ts)) depth rest h = h ∙ ap (λ l. outline (depth + 1) (tree (leaf text) (tree t ts)) ++ l) (closed depth rest)
inside (tree (leaf text) no_trees) depth rest h = closed depth rest

regrouped : (kids ts more : List Token) → ((kids ++ close_token ∷ []) ++ ts) ++ more ≡ kids ++ close_token ∷ (ts ++ more)
regrouped kids ts more = append_assoc (kids ++ close_token ∷ []) ts more ∙ append_assoc kids (close_token ∷ []) (ts ++ more)

three : (a b c d : List ℕ) → a ++ (b ++ (c ++ d)) ≡ (a ++ (b ++ c)) ++ d
three a b c d = ap (λ l. a ++ l) (sym (append_assoc b c d)) ∙ sym (append_assoc a (b ++ c) d)

page-trees : (ts : Trees) (depth : ℕ) (more : List Token) → tokens_page false depth (trees_tokens ts ++ more) ≡ outline depth ts ++ tokens_page false depth more
page-trees no_trees depth more = refl
page-trees (tree (leaf text) ts) depth more =
    ap (λ l. line depth (quoted text) ++ l) (page-trees ts depth more) ∙ sym (append_assoc (line depth (quoted text)) (outline depth ts) (tokens_page false depth more))
page-trees (tree (node label kids) ts) depth more =
    let after : List Token = trees_tokens ts ++ more in
    let rest : List Token = trees_tokens kids ++ close_token ∷ after in
    let top : Option (List ℕ) → List ℕ = λ o. line depth (name_of label ++ beside o) in
    let within : tokens_page (is_some (sole kids)) (depth + 1) rest ≡ unless_beside (sole kids) (outline (depth + 1) kids) ++ tokens_page false depth after =
    inside kids depth after (page-trees kids (depth + 1) (close_token ∷ after)) in
    ap (λ tokens. tokens_page false depth (open_token label ∷ tokens)) (regrouped (trees_tokens kids) (trees_tokens ts) more)
    ∙ ap (λ o. top o ++ tokens_page (is_some o) (depth + 1) rest) (sole-tokens kids after)
    ∙ ap (λ l. top (sole kids) ++ l) (within ∙ ap (λ l. unless_beside (sole kids) (outline (depth + 1) kids) ++ l) (page-trees ts depth more))
    ∙ three (top (sole kids)) (unless_beside (sole kids) (outline (depth + 1) kids)) (outline depth ts) (tokens_page false depth more)

pub page_is_outline : (pieces : List Piece) (ts : Trees) → tokens_of pieces ≡ trees_tokens ts → tokens_page false 0 (tokens_of pieces) ≡ outline 0 ts
page_is_outline pieces ts e =
    ap (tokens_page false 0) (e ∙ sym (append-nil (trees_tokens ts))) ∙ (page-trees ts 0 [] ∙ append-nil (outline 0 ts))

core : (t : Token) (ts : List Token) (page grown whole : List ℕ) (silent : Bool) (depth : ℕ) → grown ≡ page ++ token_bytes silent depth t (sole_token ts)
    → page ++ tokens_page silent depth (t ∷ ts) ≡ whole → grown ++ tokens_page (silent_after t (sole_token ts)) (depth_after depth t) ts ≡ whole
core t ts page grown whole silent depth grows h =
    let more : List ℕ = tokens_page (silent_after t (sole_token ts)) (depth_after depth t) ts in
    ap (λ l. l ++ more) grows ∙ append_assoc page (token_bytes silent depth t (sole_token ts)) more ∙ h

-- one more piece
pub printed_more : (pieces : List Piece) (at : ℕ) (p : Piece) (page grown whole : List ℕ) (next : Option (List ℕ)) (silent : Bool) (depth : ℕ)
    → at < length pieces → p ≡ get_or pieces at p → next ≡ sole_token (tokens_of (drop (at + 1) pieces)) → grown ≡ page ++ token_bytes silent depth (token_of p) next
    → page ++ tokens_page silent depth (tokens_of (drop at pieces)) ≡ whole
    → grown ++ tokens_page (silent_after (token_of p) next) (depth_after depth (token_of p)) (tokens_of (drop (at + 1) pieces)) ≡ whole
printed_more pieces at p page grown whole next silent depth below is sole grows h =
    let rest : List Piece = drop (at + 1) pieces in
    let e : tokens_of (drop at pieces) ≡ token_of p ∷ tokens_of rest =
    ap tokens_of (drop_more pieces at p below ∙ ap (λ (x : Piece). x ∷ rest) (sym is)) in
    let P : Option (List ℕ) → Type 0 = λ n. grown ≡ page ++ token_bytes silent depth (token_of p) n
    → grown ++ tokens_page (silent_after (token_of p) n) (depth_after depth (token_of p)) (tokens_of rest) ≡ whole in
    subst P (sym sole) (λ g. core (token_of p) (tokens_of rest) page grown whole silent depth g (ap (λ ts. page ++ tokens_page silent depth ts) (sym e) ∙ h)) grows

pub deeper : (depth : ℕ) (t : Token) → depth_after depth t ≤ depth + 1
deeper depth (leaf_token text) = omega arith
deeper depth (open_token label) = omega arith
deeper depth close_token = omega arith

pub no_more : (pieces : List Piece) (at : ℕ) (page whole : List ℕ) (silent : Bool) (depth : ℕ) → length pieces ≤ at
    → page ++ tokens_page silent depth (tokens_of (drop at pieces)) ≡ whole → page ≡ whole
no_more pieces at page whole silent depth past h =
    sym (ap (λ (ps : List Piece). page ++ tokens_page silent depth (tokens_of ps)) (drop_all at pieces past) ∙ append-nil page) ∙ h

-- two more blanks
two_more : (level b : ℕ) → replicate (2 * level) b ++ (b ∷ (b ∷ [])) ≡ replicate (2 * (level + 1)) b
two_more level b =
    let e : 2 * level + 2 ≡ 2 * (level + 1) = omega arith in
    replicate-append-replicate (2 * level) 2 b ∙ ap (λ n. replicate n b) e

pub blanks_more : (start page one two : List ℕ) (level b : ℕ) → page ≡ start ++ replicate (2 * level) b → one ≡ page ++ b ∷ [] → two ≡ one ++ b ∷ []
    → two ≡ start ++ replicate (2 * (level + 1)) b
blanks_more start page one two level b so_far first second =
    second ∙ ap (λ (l : List ℕ). l ++ b ∷ []) (first ∙ ap (λ (l : List ℕ). l ++ b ∷ []) so_far)
    ∙ append_assoc (start ++ replicate (2 * level) b) (b ∷ []) (b ∷ [])
    ∙ append_assoc start (replicate (2 * level) b) (b ∷ (b ∷ []))
    ∙ ap (λ (l : List ℕ). start ++ l) (two_more level b)
