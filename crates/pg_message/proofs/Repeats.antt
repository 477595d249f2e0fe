-- Texts that are said again print as if they were said once.
use Rattle.std.proofs.Common.{◌≡◌, List, [], ◌∷◌, ◌++◌, Bool, true, false, refl, sym, ap, ◌∙◌, length, filter, append-nil}
use Rattle.std.specs.Prelude.{◌&&◌, ◌==◌, if◌then◌else◌, codes}
use Rattle.std.specs.Fmt.{decimal}
use Rattle.std.specs.Str.{bytes_eq}
use Rattle.std.proofs.lemmas.List.Elements.{filter-append}
use Rattle.std.proofs.lemmas.Map.Views.{any-filter_same}
use Rattle.pg_message.specs.Messages.{Text, Messages, has_text, with_text, with_texts, with_messages, with_repeats}
use Rattle.pg_message.specs.Printed.{has_bytes, shown_texts, system_text, system_line, messages_text, printed}
use Rattle.pg_message.specs.declared.error.ParseError.{ParseError}
use Rattle.std.proofs.Math.Dec.{eqb-suc-zero}
use Rattle.pg_message.proofs.TextLists.{equal_texts, with_texts-append, with_texts_assoc, is_empty-with_texts}

-- a text that has bytes is among those that have
has_text-filter : (xs : List Text) (y : Text) → has_bytes y ≡ true → has_text (filter has_bytes xs) y ≡ has_text xs y
has_text-filter xs y h =
    any-filter_same (λ other. bytes_eq other y) has_bytes true (λ x e. ap has_bytes (equal_texts x y e) ∙ h) xs

filter-with_text : (xs : List Text) (y : Text) → filter has_bytes (with_text xs y) ≡ with_texts (filter has_bytes xs) (filter has_bytes (y ∷ []))
filter-with_text xs y = either (has_bytes y) (has_text xs y) refl refl
  where
    either : (p b : Bool) → has_bytes y ≡ p → has_text xs y ≡ b → filter has_bytes (if b then xs else xs ++ y ∷ []) ≡ with_texts (filter has_bytes xs) (if p then y ∷ [] else [])
    either true true h e =
        sym (ap (λ t. if t then filter has_bytes xs else filter has_bytes xs ++ y ∷ []) (has_text-filter xs y h ∙ e))
    either true false h e =
        filter-append has_bytes xs (y ∷ []) ∙ ap (λ t. filter has_bytes xs ++ (if t then y ∷ [] else [])) h ∙ sym (ap (λ t. if t then filter has_bytes xs else filter has_bytes xs ++ y ∷ []) (has_text-filter xs y h ∙ e))
    either false true h e = refl
    either false false h e =
        filter-append has_bytes xs (y ∷ []) ∙ ap (λ t. filter has_bytes xs ++ (if t then y ∷ [] else [])) h ∙ append-nil (filter has_bytes xs)

filter-with_texts : (xs ys : List Text) → filter has_bytes (with_texts xs ys) ≡ with_texts (filter has_bytes xs) (filter has_bytes ys)
filter-with_texts xs [] = refl
filter-with_texts xs (y ∷ ys) =
    filter-with_texts (with_text xs y) ys ∙ ap (λ texts. with_texts texts (filter has_bytes ys)) (filter-with_text xs y) ∙ sym (ap (with_texts (filter has_bytes xs)) (filter-append has_bytes (y ∷ []) ys) ∙ with_texts-append (filter has_bytes xs) (filter has_bytes (y ∷ [])) (filter has_bytes ys))

shown_texts-with_texts : (xs ys : List Text) → shown_texts (with_texts xs ys) ≡ shown_texts (xs ++ ys)
shown_texts-with_texts xs ys =
    ap (with_texts []) (filter-with_texts xs ys) ∙ with_texts_assoc [] (filter has_bytes xs) (filter has_bytes ys) ∙ sym (ap (with_texts []) (filter-append has_bytes xs ys) ∙ with_texts-append [] (filter has_bytes xs) (filter has_bytes ys))

-- the first text stays the first
system_line-first : (x : Text) (xs ys : List Text) → system_line (with_texts (x ∷ xs) ys) ≡ system_text x
system_line-first x xs [] = refl
system_line-first x xs (y ∷ ys) =
    either (has_text (x ∷ xs) y) (system_line-first x xs ys) (system_line-first x (xs ++ y ∷ []) ys)
  where
    either : (b : Bool) → system_line (with_texts (x ∷ xs) ys) ≡ system_text x → system_line (with_texts (x ∷ (xs ++ y ∷ [])) ys) ≡ system_text x → system_line (with_texts (if b then x ∷ xs else (x ∷ xs) ++ y ∷ []) ys) ≡ system_text x
    either true there new = there
    either false there new = new

system_line-with_texts : (xs ys : List Text) → system_line (with_texts xs ys) ≡ system_line (xs ++ ys)
system_line-with_texts [] [] = refl
system_line-with_texts [] (y ∷ ys) = system_line-first y [] ys
system_line-with_texts (x ∷ xs) ys = system_line-first x xs ys

is_empty-append : (xs ys : List Text) → (length (xs ++ ys) == 0) ≡ ((length xs == 0) && (length ys == 0))
is_empty-append [] ys = refl
is_empty-append (x ∷ xs) ys =
    eqb-suc-zero (length (xs ++ ys)) ∙ sym (ap (λ b. b && (length ys == 0)) (eqb-suc-zero (length xs)))

same_test : (xs ys : List Text) → (length (with_texts xs ys) == 0) ≡ (length (xs ++ ys) == 0)
same_test xs ys = is_empty-with_texts xs ys ∙ sym (is_empty-append xs ys)

messages_text-with_messages : (m n : Messages) → messages_text (with_messages m n) ≡ messages_text (with_repeats m n)
messages_text-with_messages m n =
    let no_system = same_test m.system_unexpected n.system_unexpected in
    let no_unexpected = same_test m.unexpected n.unexpected in
    let no_expected = same_test m.expected n.expected in
    let no_plain = same_test m.plain n.plain in
    let system = system_line-with_texts m.system_unexpected n.system_unexpected in
    let unexpected = shown_texts-with_texts m.unexpected n.unexpected in
    let expected = shown_texts-with_texts m.expected n.expected in
    let plain = shown_texts-with_texts m.plain n.plain in
    cc

pub printed-with_messages : (error : ParseError) (more : Messages) (name : Text) → printed (record error { messages = with_messages error.messages more }) name ≡ printed (record error { messages = with_repeats error.messages more }) name
printed-with_messages error more name = ap (λ text. codes "\"" ++ name ++ codes "\" (line " ++ decimal error.position.line ++
    codes ", column " ++ decimal error.position.column ++ codes "):" ++ text) (messages_text-with_messages error.messages more)
