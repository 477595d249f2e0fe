-- The text in JSON of characters, one by one.
use Rattle.std.proofs.Common.{◌≡◌, ◌+◌, ◌-◌, ◌<◌, ℕ, List, [], ◌∷◌, ◌++◌, length, take, drop, get_or, refl, ap, sym, ◌∙◌, append_assoc, arith, encode_utf8_all}
use Rattle.std.specs.Prelude.{reverse}
use Rattle.std.specs.Char.{encode_utf8}
use Rattle.std.proofs.lemmas.List.{append-nil, drop_more, take_all, drop_all, take_at, drop_at, length-append, length-reverse, reverse-append, reverse-reverse}
use Rattle.json.specs.Print.{escape, escape_byte}

pub escape-append : (xs ys : List ℕ) → escape (xs ++ ys) ≡ escape xs ++ escape ys
escape-append [] ys = refl
escape-append (x ∷ xs) ys = ap (λ zs. escape_byte x ++ zs) (escape-append xs ys) ∙ sym (append_assoc (escape_byte x) (escape xs) (escape ys))

-- a byte that stays as it is
pub escape_one : (bytes : List ℕ) (byte : ℕ) → bytes ≡ byte ∷ [] → escape_byte byte ≡ byte ∷ [] → escape bytes ≡ byte ∷ []
escape_one bytes byte is own = ap (λ xs. escape xs) is ∙ ap (λ xs. xs ++ []) own

-- the text of one character
pub one_between : (text : List ℕ) (from to : ℕ) → to - from ≡ 1 → from < length text → encode_utf8_all (take (to - from) (drop from text)) ≡ encode_utf8 (get_or text from 0)
one_between text from to one within =
    ap (λ n. encode_utf8_all (take n (drop from text))) one ∙ ap (λ xs. encode_utf8_all (take 1 xs)) (drop_more text from 0 within)
    ∙ append-nil (encode_utf8 (get_or text from 0))

-- what was put at the end is turned round in its place
pub turned : (old own items all part after whole : List ℕ) (n start : ℕ) → all ≡ items → items ≡ old ++ own → start ≡ length old → n ≡ length items
    → part ≡ reverse (take (length all - start) (drop start all)) → after ≡ drop (length all - start) (drop start all) → whole ≡ take start all ++ (part ++ after)
    → reverse (take n (whole ++ drop (length whole) items)) ≡ own ++ reverse old
turned old own items all part after whole n start same is at size turns past so =
    let split : all ≡ old ++ own = same ∙ is in
    let front : take start all ≡ old = ap (λ xs. take start xs) split ∙ take_at old own start (sym at) in
    let back : drop start all ≡ own = ap (λ xs. drop start xs) split ∙ drop_at old own start (sym at) in
    let count : length all ≡ length old + length own = ap length split ∙ length-append old own in
    let long : length all ≡ length items = ap length same in
    let some : length all - start ≡ length own = omega (arith, count, at) in
    let turn : part ≡ reverse own = turns ∙ ap (λ xs. reverse (take (length all - start) xs)) back ∙ ap (λ xs. reverse xs) (take_all (length all - start) own (omega (arith, some))) in
    let none : after ≡ [] = past ∙ ap (λ xs. drop (length all - start) xs) back ∙ drop_all (length all - start) own (omega (arith, some)) in
    let is_all : whole ≡ old ++ reverse own =
    so ∙ ap (λ xs. xs ++ (part ++ after)) front ∙ ap (λ xs. old ++ (xs ++ after)) turn ∙ ap (λ xs. old ++ (reverse own ++ xs)) none ∙ ap (λ xs. old ++ xs) (append-nil (reverse own)) in
    let count_whole : length whole ≡ length old + length (reverse own) = ap length is_all ∙ length-append old (reverse own) in
    let as_long : length whole ≡ length items = omega (arith, count_whole, length-reverse own, count, long) in
    ap (λ xs. reverse (take n (whole ++ xs))) (drop_all (length whole) items (omega (arith, as_long)))
    ∙ ap (λ xs. reverse (take n xs)) (append-nil whole)
    ∙ ap (λ xs. reverse xs) (take_all n whole (omega (arith, as_long, size)) ∙ is_all)
    ∙ reverse-append old (reverse own) ∙ ap (λ xs. xs ++ reverse old) (reverse-reverse own)
