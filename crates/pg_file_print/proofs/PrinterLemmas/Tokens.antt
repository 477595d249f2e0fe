-- Tokens that are printed one after another.
use Rattle.std.proofs.Common.{◌≡◌, ℕ, List, [], ◌∷◌, ◌++◌, Result, Ok, Err, OnOk, refl, sym, ap, ◌∙◌, append_assoc}
use Rattle.std.proofs.lemmas.List.{append-nil}
use Rattle.pg_file_tokens.specs.Tokens.{Token}
use Rattle.pg_file_print.specs.Layout.{Laid, with_token, with_tokens, laid_out, space_before, token_text, edge_after}

-- some tokens, and then others
pub laid_both : (laid : Laid) (xs ys : List Token) → with_tokens (with_tokens laid xs) ys ≡ with_tokens laid (xs ++ ys)
laid_both laid [] ys = refl
laid_both laid (t ∷ xs) ys = laid_both (with_token laid t) xs ys

-- token by token the same characters come as from the left
pub laid_text : (laid : Laid) (ts : List Token) → (with_tokens laid ts).text ≡ laid.text ++ laid_out laid.edge ts
laid_text laid [] = sym (append-nil laid.text)
laid_text laid (t ∷ ts) =
    laid_text (with_token laid t) ts
    ∙ append_assoc laid.text (space_before laid.edge t ++ token_text t) (laid_out (edge_after t) ts)
    ∙ ap (λ (l : List ℕ). laid.text ++ l) (append_assoc (space_before laid.edge t) (token_text t) (laid_out (edge_after t) ts))

-- what follows on success
pub on_ok : {X E : Type 0} {P Q : Type 0} (r : Result X E) → (P → Q) → OnOk r P → OnOk r Q
on_ok (Ok x) f h = f h
on_ok (Err e) f h = tt
