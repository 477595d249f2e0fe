-- Tokens of trees, and of the kept trees that show them.
use Rattle.std.proofs.Common.{◌≡◌, ◌+◌, true, false, List, [], ◌∷◌, ◌++◌, length, refl, ap, ap₂, sym, ◌∙◌, append_assoc}
use Rattle.std.proofs.lemmas.List.{append-nil, length_push, length-append}
use Rattle.pg_tree.specs.Built.{with_kids}
use Rattle.pg_tree.specs.Trees.{Trees, no_trees, tree}
use Rattle.pg_tree.specs.Kept.{Kept, Kepts, kept_leaf, kept_node, no_kepts, kept, kepts_of, trees_of}
use Rattle.pg_tree.specs.Stored.{kept_entries, kepts_entries, entries_of}
use Rattle.pg_tree.specs.Entries.{list_of}
use Rattle.pg_tree.proofs.Stored.{entries_of-append}
use Rattle.pg_tree.proofs.Ends.{top, below_top, kept_entries-top}
use Rattle.pg_corpus_outline.specs.Pieces.{leaf_token, open_token, close_token, tree_tokens, trees_tokens, kept_tokens, kepts_tokens}
use Rattle.pg_corpus_outline.specs.Reading.{list_tokens}

tokens-with_kids : (ts us : Trees) → trees_tokens (with_kids ts us) ≡ trees_tokens ts ++ trees_tokens us
tokens-with_kids no_trees us = refl
tokens-with_kids (tree t ts) us =
    ap (λ xs. tree_tokens t ++ xs) (tokens-with_kids ts us) ∙ sym (append_assoc (tree_tokens t) (trees_tokens ts) (trees_tokens us))

pub shown_tokens : (ts : Kepts) → trees_tokens (trees_of ts) ≡ kepts_tokens ts
shown_tokens no_kepts = refl
shown_tokens (kept (kept_leaf text) ts) = ap (λ us. leaf_token text ∷ us) (shown_tokens ts)
shown_tokens (kept (kept_node true label kids) ts) =
    tokens-with_kids (trees_of kids) (trees_of ts) ∙ ap₂ (λ us vs. us ++ vs) (shown_tokens kids) (shown_tokens ts)
shown_tokens (kept (kept_node false label kids) ts) =
    ap₂ (λ us vs. (open_token label ∷ (us ++ close_token ∷ [])) ++ vs) (shown_tokens kids) (shown_tokens ts)

pub list_tokens-append : (ts us : List Kept) → list_tokens (ts ++ us) ≡ list_tokens ts ++ list_tokens us
list_tokens-append [] us = refl
list_tokens-append (t ∷ ts) us =
    ap (λ xs. kept_tokens t ++ xs) (list_tokens-append ts us) ∙ sym (append_assoc (kept_tokens t) (list_tokens ts) (list_tokens us))

kepts_of-list : (kids : Kepts) → kepts_of (list_of kids) ≡ kids
kepts_of-list no_kepts = refl
kepts_of-list (kept t ts) = ap (λ us. kept t us) (kepts_of-list ts)

pub list_of-tokens : (kids : Kepts) → list_tokens (list_of kids) ≡ kepts_tokens kids
list_of-tokens kids = ap kepts_tokens (kepts_of-list kids)

pub list_of-entries : (kids : Kepts) → entries_of (list_of kids) ≡ kepts_entries kids
list_of-entries kids = ap kepts_entries (kepts_of-list kids)

-- the entries of trees and one more
pub one_more : (ts : List Kept) (t : Kept) → length (entries_of (ts ++ t ∷ [])) ≡ length (entries_of ts) + length (kept_entries t)
one_more ts t =
    ap length (entries_of-append ts (t ∷ []) ∙ ap (λ es. entries_of ts ++ es) (append-nil (kept_entries t))) ∙ length-append (entries_of ts) (kept_entries t)

pub one_at_least : (t : Kept) → length (kept_entries t) ≡ length (below_top t) + 1
one_at_least t = ap length (kept_entries-top t) ∙ length_push (below_top t) (top t)
