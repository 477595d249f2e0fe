-- What begins after a step back: nodes with no kids left, and a joined leaf of which nothing is left.
use Rattle.std.proofs.Common.{◌≡◌, ℕ, zero, suc, Bool, true, false, cond, List, [], ◌∷◌, ◌++◌, codes, refl, ap, sym, ◌∙◌, append_assoc, arith}
use Rattle.std.proofs.lemmas.List.{append-nil}
use Rattle.pg_tree.specs.Trees.{Tree}
use Rattle.pg_tree.specs.Written.{braces}
use Rattle.pg_tree_placed.specs.Written.{Left, nodes_left, joined_left, left_text, HaveKids, outside, finished, unfinished, still_later, Settles}
use Rattle.pg_tree_placed.specs.declared.pending.Around.{Around}
use Rattle.pg_tree_placed.proofs.Back.{around, with_left}

pub still_true : (n : ℕ) → still_later true n ≡ true
still_true zero = refl
still_true (suc n) = refl

finish-cons : (labels : List (List ℕ)) (later : Bool) (p f l : ℕ) (cs : List Around) (ts : List Tree)
    → nodes_left labels true cs ts ≡ nodes_left labels (still_later true (finished cs)) (unfinished cs) ts ++ braces (finished cs)
    → nodes_left labels later (around p f l ∷ cs) ts
    ≡ nodes_left labels (still_later later (finished (around p f l ∷ cs))) (unfinished (around p f l ∷ cs)) ts ++ braces (finished (around p f l ∷ cs))
finish-cons labels later zero zero l cs ts so =
    ap (λ xs. xs ++ codes "{\"kids\":[") (so ∙ ap (λ b. nodes_left labels b (unfinished cs) ts ++ braces (finished cs)) (still_true (finished cs)))
    ∙ append_assoc (nodes_left labels true (unfinished cs) ts) (braces (finished cs)) (codes "{\"kids\":[")
finish-cons labels later zero (suc n) l cs ts so = sym (append-nil (nodes_left labels later (around 0 (suc n) l ∷ cs) ts))
finish-cons labels later (suc n) f l cs ts so = sym (append-nil (nodes_left labels later (around (suc n) f l ∷ cs) ts))

finish : (labels : List (List ℕ)) (later : Bool) (cs : List Around) (ts : List Tree)
    → nodes_left labels later cs ts ≡ nodes_left labels (still_later later (finished cs)) (unfinished cs) ts ++ braces (finished cs)
finish labels later [] ts = sym (append-nil (nodes_left labels later [] ts))
finish labels later (c ∷ cs) ts = finish-cons labels later c.plain c.flat c.label cs ts (finish labels true cs ts)

has-cons : (p f l : ℕ) (cs : List Around) → HaveKids (unfinished cs) → HaveKids (unfinished (around p f l ∷ cs))
has-cons zero zero l cs h = h
has-cons zero (suc n) l cs h = omega arith
has-cons (suc n) f l cs h = omega arith

pub kids_unfinished : (cs : List Around) → HaveKids (unfinished cs)
kids_unfinished [] = tt
kids_unfinished (c ∷ cs) = has-cons c.plain c.flat c.label cs (kids_unfinished cs)

-- nodes with no kids left begin
begun : (labels : List (List ℕ)) (later : Bool) (cs ds : List Around) (z : Left) (old new : List ℕ) (ts : List Tree) → z ≡ outside (still_later later (finished cs))
    → ds ≡ unfinished cs → new ≡ braces (finished cs) ++ old → nodes_left labels later cs ts ++ old ≡ left_text labels z ds ts ++ new
begun labels later cs ds z old new ts is e n =
    with_left labels (nodes_left labels later cs ts ++ old) (outside (still_later later (finished cs))) z ds ts new is
    (ap (λ xs. xs ++ old) (finish labels later cs ts)
    ∙ append_assoc (nodes_left labels (still_later later (finished cs)) (unfinished cs) ts) (braces (finished cs)) old
    ∙ ap (λ ys. nodes_left labels (still_later later (finished cs)) ys ts ++ (braces (finished cs) ++ old)) (sym e)
    ∙ ap (λ xs. nodes_left labels (still_later later (finished cs)) ds ts ++ xs) (sym n))

pub settled_outside : (labels : List (List ℕ)) (s z : Left) (cs ds : List Around) (old new : List ℕ) → s.inside ≡ false
    → z ≡ outside (still_later s.later (finished cs)) → ds ≡ unfinished cs → new ≡ braces (finished cs) ++ old → Settles labels s cs old z ds new
settled_outside labels s z cs ds old new out is e n ts =
    ap (λ b. cond b (joined_left labels s.joined cs ts) (nodes_left labels s.later cs ts) ++ old) out ∙ begun labels s.later cs ds z old new ts is e n

pub settled_joined : (labels : List (List ℕ)) (s z : Left) (cs ds : List Around) (old new : List ℕ) → s.inside ≡ true → s.joined ≡ 0
    → z ≡ outside (still_later true (finished cs)) → ds ≡ unfinished cs → new ≡ braces (finished cs) ++ (codes "\"" ++ old) → Settles labels s cs old z ds new
settled_joined labels s z cs ds old new is none so e n ts =
    ap (λ b. cond b (joined_left labels s.joined cs ts) (nodes_left labels s.later cs ts) ++ old) is ∙ ap (λ m. joined_left labels m cs ts ++ old) none
    ∙ append_assoc (nodes_left labels true cs ts) (codes "\"") old ∙ begun labels true cs ds z (codes "\"" ++ old) new ts so e n
