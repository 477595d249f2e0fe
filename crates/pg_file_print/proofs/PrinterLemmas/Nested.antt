-- Parts that nest, written from left to right with levels, are written as the tree says.
use Rattle.std.proofs.Common.{◌≡◌, ◌≤◌, ◌<◌, ℕ, zero, suc, ◌+◌, List, [], ◌∷◌, ◌++◌, length, take, drop, refl, sym, ap, subst, ◌∙◌, append_assoc, arith}
use Rattle.std.proofs.lemmas.List.{append-nil, length-drop, drop-drop}
use Rattle.pg_grammar_form.specs.Preorder.{SpellForms}
use Rattle.pg_file_tokens.specs.declared.token.Mark.{Mark}
use Rattle.pg_file_print.specs.declared.levels.Ending.{Ending}
use Rattle.pg_file_print.specs.declared.levels.Level.{Level}
use Rattle.pg_file_tokens.specs.Tokens.{Token, mark}
use Rattle.pg_file_print.specs.Levels.{Piece, ending_tokens, ended, left_over, closing, entered, Writer, more, awaited, coming, owed, needed}

-- ---- after a part

end_here : {A : Type 0} (writes : Writer A) (n : ℕ) (separator : Mark) (end : Ending) (levels : List Level) (parts : List A)
    → (owed levels ≤ length parts → ended levels ++ coming writes (left_over levels) parts ≡ awaited writes levels parts)
    → n + owed levels ≤ length parts
    → ended (record { left = n; separator = separator; ending = end } ∷ levels) ++ coming writes (left_over (record { left = n; separator = separator; ending = end } ∷ levels)) parts
    ≡ awaited writes (record { left = n; separator = separator; ending = end } ∷ levels) parts
end_here writes zero separator end levels parts others h =
    append_assoc (ending_tokens end) (ended levels) _ ∙ ap (λ (ts : List Token). ending_tokens end ++ ts) (others (omega (arith, h)))
end_here writes (suc n) separator end levels [] others h = absurd (omega (arith, h))
end_here writes (suc n) separator end levels (p ∷ parts) others h = refl

pub end_is : {A : Type 0} (writes : Writer A) (levels : List Level) (parts : List A) → owed levels ≤ length parts
    → ended levels ++ coming writes (left_over levels) parts ≡ awaited writes levels parts
end_is writes [] parts h = refl
end_is writes (level ∷ levels) parts h = end_here writes level.left level.separator level.ending levels parts (end_is writes levels parts) h

left_needed : (n : ℕ) (separator : Mark) (end : Ending) (levels : List Level) → needed (left_over levels) ≡ owed levels
    → needed (left_over (record { left = n; separator = separator; ending = end } ∷ levels)) ≡ n + owed levels
left_needed zero separator end levels h = omega (arith, h)
left_needed (suc n) separator end levels h = omega arith

pub end_needed : (levels : List Level) → needed (left_over levels) ≡ owed levels
end_needed [] = refl
end_needed (level ∷ levels) = left_needed level.left level.separator level.ending levels (end_needed levels)

-- ---- a form with parts

-- parts after another one
abbrev pub after : {A : Type 0} → Writer A → Mark → List A → List Token → List Token
after writes separator [] rest = rest
after writes separator (p ∷ parts) rest = mark separator ∷ writes p (after writes separator parts rest)

-- parts with a separator between any two
abbrev pub between : {A : Type 0} → Writer A → Mark → List A → List Token → List Token
between writes separator [] rest = rest
between writes separator (p ∷ parts) rest = writes p (after writes separator parts rest)

pub more_is : {A : Type 0} (writes : Writer A) (tail : List A → List Token) (separator : Mark) (n : ℕ) (parts : List A) → n ≤ length parts
    → more writes tail separator n parts ≡ after writes separator (take n parts) (tail (drop n parts))
more_is writes tail separator zero parts h = refl
more_is writes tail separator (suc n) [] h = absurd (omega (arith, h))
more_is writes tail separator (suc n) (p ∷ parts) h =
    let fewer : n ≤ length parts = omega (arith, h) in
    ap (λ (ts : List Token). mark separator ∷ writes p ts) (more_is writes tail separator n parts fewer)

-- a part is written as a form says that has the first of these for its parts
abbrev pub IsWrittenBy : {A : Type 0} → Writer A → Piece → A → List A → Type 0
IsWrittenBy writes piece v parts =
    (rest : List Token) → writes v rest ≡ piece.front ++ between writes piece.separator (take piece.count parts) (ending_tokens piece.ending ++ rest)

step_here : {A : Type 0} (writes : Writer A) (k : ℕ) (front : List Token) (separator : Mark) (end : Ending) (level : Level) (levels : List Level) (v : A) (parts : List A)
    → ((rest : List Token) → writes v rest ≡ front ++ between writes separator (take k parts) (ending_tokens end ++ rest))
    → k + owed (level ∷ levels) ≤ length parts
    → (front ++ closing k end (level ∷ levels)) ++ coming writes (entered k separator end (level ∷ levels)) parts ≡ writes v (awaited writes (level ∷ levels) (drop k parts))
step_here writes zero front separator end level levels v parts is h =
    append_assoc front (ending_tokens end ++ ended (level ∷ levels)) _
    ∙ ap (λ (ts : List Token). front ++ ts) (append_assoc (ending_tokens end) (ended (level ∷ levels)) _
    ∙ ap (λ (ts : List Token). ending_tokens end ++ ts) (end_is writes (level ∷ levels) parts (omega (arith, h))))
    ∙ sym (is (awaited writes (level ∷ levels) parts))
step_here writes (suc n) front separator end level levels v [] is h = absurd (omega (arith, h))
step_here writes (suc n) front separator end level levels v (q ∷ parts) is h =
    let fewer : n ≤ length parts = omega (arith, h) in
    ap (λ (ts : List Token). ts ++ writes q (awaited writes (record { left = n; separator = separator; ending = end } ∷ level ∷ levels) parts)) (append-nil front)
    ∙ ap (λ (ts : List Token). front ++ writes q ts) (more_is writes (λ rest. ending_tokens end ++ awaited writes (level ∷ levels) rest) separator n parts fewer)
    ∙ sym (is (awaited writes (level ∷ levels) (drop n parts)))

-- a form before its parts, and what is still to come
pub step_is : {A : Type 0} (writes : Writer A) (piece : Piece) (levels : List Level) (v : A) (parts : List A) → IsWrittenBy writes piece v parts
    → needed levels ≤ suc (length (drop piece.count parts)) → piece.count ≤ length parts
    → 0 < needed levels
    → (piece.front ++ closing piece.count piece.ending levels) ++ coming writes (entered piece.count piece.separator piece.ending levels) parts
    ≡ coming writes levels (v ∷ drop piece.count parts)
step_is writes piece [] v parts is h e k = absurd (omega (arith, k))
step_is writes piece (level ∷ levels) v parts is h e k =
    let dropped = length-drop piece.count parts in
    step_here writes piece.count piece.front piece.separator piece.ending level levels v parts is (omega (arith, h, e, dropped))

pub step_counted : {A : Type 0} (writes : Writer A) (piece : Piece) (n : ℕ) (levels : List Level) (v : A) (parts : List A) → piece.count ≡ n → IsWrittenBy writes piece v parts
    → needed levels ≤ suc (length (drop n parts)) → n ≤ length parts → 0 < needed levels
    → (piece.front ++ closing piece.count piece.ending levels) ++ coming writes (entered piece.count piece.separator piece.ending levels) parts
    ≡ coming writes levels (v ∷ drop n parts)
step_counted writes piece n levels v parts e is h k some =
    subst (λ (m : ℕ). (piece.front ++ closing piece.count piece.ending levels) ++ coming writes (entered piece.count piece.separator piece.ending levels) parts ≡ coming writes levels (v ∷ drop m parts)) e
    (step_is writes piece levels v parts is (subst (λ (m : ℕ). needed levels ≤ suc (length (drop m parts))) (sym e) h) (subst (λ (m : ℕ). m ≤ length parts) (sym e) k) some)

-- the parts that are still to come are whole forms
pub entered_spelled : (k : ℕ) (separator : Mark) (end : Ending) (levels : List Level) (counts : List ℕ) → SpellForms (needed levels) (k ∷ counts)
    → SpellForms (needed (entered k separator end levels)) counts
entered_spelled k separator end [] counts h = absurd h
entered_spelled zero separator end (level ∷ levels) counts h =
    let same = end_needed (level ∷ levels) in
    let e : 0 + (level.left + owed levels) ≡ needed (left_over (level ∷ levels)) = omega (arith, same) in
    subst (λ (j : ℕ). SpellForms j counts) e h
entered_spelled (suc n) separator end (level ∷ levels) counts h =
    let e : suc n + (level.left + owed levels) ≡ suc (n + (level.left + owed levels)) = omega arith in
    subst (λ (j : ℕ). SpellForms j counts) e h

-- how many parts are still to come
pub entered_needed : (k : ℕ) (separator : Mark) (end : Ending) (levels : List Level) → 0 < needed levels → needed (entered k separator end levels) + 1 ≡ k + needed levels
entered_needed k separator end [] h = absurd (omega (arith, h))
entered_needed zero separator end (level ∷ levels) h = let e = end_needed (level ∷ levels) in omega (arith, e)
entered_needed (suc n) separator end (level ∷ levels) h = omega arith

-- the parts after all of these
pub drop_needed : {A : Type 0} (k : ℕ) (separator : Mark) (end : Ending) (levels : List Level) (v : A) (parts : List A) → 0 < needed levels
    → drop (needed (entered k separator end levels)) parts ≡ drop (needed levels) (v ∷ drop k parts)
drop_needed k separator end [] v parts h = absurd (omega (arith, h))
drop_needed k separator end (level ∷ levels) v parts h =
    let e = entered_needed k separator end (level ∷ levels) h in
    let same : needed (entered k separator end (level ∷ levels)) ≡ k + (level.left + owed levels) = omega (arith, e) in
    ap (λ (n : ℕ). drop n parts) same ∙ sym (drop-drop (level.left + owed levels) k parts)
