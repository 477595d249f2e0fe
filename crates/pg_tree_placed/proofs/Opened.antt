-- The nodes around one that has begun.
use Rattle.std.proofs.Common.{◌≡◌, ◌+◌, ◌-◌, ◌<◌, ℕ, zero, suc, true, cond, List, [], ◌∷◌, ◌++◌, length, take, codes, refl, ap, sym, ◌∙◌, append_assoc, arith}
use Rattle.std.specs.Prelude.{Option, Some, None, option_to_list, reverse}
use Rattle.std.proofs.lemmas.List.{append-nil, nil_from_length, length-take, reverse-append}
use Rattle.pg_tree.specs.Written.{braces}
use Rattle.pg_tree_placed.specs.declared.pending.Around.{Around}
use Rattle.pg_tree_placed.specs.declared.pending.Open.{Open}
use Rattle.pg_tree_placed.specs.Written.{innermost_first, opened, with_full, is_full, finished, unfinished}

-- the next one is the last of the others, if there is one
pub popped : (old new : List Open) (n : ℕ) (r : Option Open) → n ≡ length old → old ≡ new ++ option_to_list r → new ≡ take (n - 1) old
    → innermost_first r new ≡ opened (reverse old)
popped old new n None count is rest =
    let same : old ≡ take (n - 1) old = is ∙ append-nil new ∙ rest in
    sym (ap (λ xs. opened (reverse xs)) (nil_from_length old (omega (arith, count, ap length same, length-take (n - 1) old))))
popped old new n (Some top) count is rest = sym (ap (λ xs. opened (reverse xs)) is ∙ ap (λ xs. opened xs) (reverse-append new (top ∷ [])))

-- those that begin with it
finished-full : (n : ℕ) (cs : List Around) → finished (with_full n cs) ≡ n + finished cs
finished-full zero cs = let e : finished cs ≡ 0 + finished cs = omega arith in e
finished-full (suc n) cs = ap suc (finished-full n cs) ∙ (let e : suc (n + finished cs) ≡ suc n + finished cs = omega arith in e)

unfinished-full : (n : ℕ) (cs : List Around) → unfinished (with_full n cs) ≡ unfinished cs
unfinished-full zero cs = refl
unfinished-full (suc n) cs = unfinished-full n cs

pub finished_open : (top : Open) (rest : List Open) → is_full top.node.plain top.node.flat ≡ true
    → finished (opened (top ∷ rest)) ≡ suc (top.also + finished (opened rest))
finished_open top rest full =
    ap (λ b. cond b (suc (finished (with_full top.also (opened rest)))) 0) full ∙ ap suc (finished-full top.also (opened rest))

pub unfinished_open : (top : Open) (rest : List Open) → is_full top.node.plain top.node.flat ≡ true → unfinished (opened (top ∷ rest)) ≡ unfinished (opened rest)
unfinished_open top rest full =
    ap (λ b. cond b (unfinished (with_full top.also (opened rest))) (opened (top ∷ rest))) full ∙ unfinished-full top.also (opened rest)

-- the opening texts of some nodes and others
pub braces_add : (m n : ℕ) → braces n ++ braces m ≡ braces (m + n)
braces_add zero n = append-nil (braces n) ∙ ap (λ k. braces k) (let e : n ≡ 0 + n = omega arith in e)
braces_add (suc m) n =
    sym (append_assoc (braces n) (braces m) (codes "{\"kids\":[")) ∙ ap (λ xs. xs ++ codes "{\"kids\":[") (braces_add m n)
    ∙ ap (λ k. braces k) (let e : suc (m + n) ≡ suc m + n = omega arith in e)

length-full : (n : ℕ) (cs : List Around) → length (with_full n cs) ≡ n + length cs
length-full zero cs = let e : length cs ≡ 0 + length cs = omega arith in e
length-full (suc n) cs = ap suc (length-full n cs) ∙ (let e : suc (n + length cs) ≡ suc n + length cs = omega arith in e)

-- fewer are open without it
pub fewer_open : (top : Open) (rest : List Open) (was now : List Around) → was ≡ opened (top ∷ rest) → now ≡ opened rest → length now < length was
fewer_open top rest was now is so = omega (arith, ap length is, ap length so, ap suc (length-full top.also (opened rest)))
