-- Errors on the list of messages are merged, kept and labelled as the relation's are.
use Rattle.std.proofs.Common.{◌≡◌, ℕ, ◌+◌, List, [], ◌∷◌, ◌++◌, Bool, true, false, not, refl, ap, sym, ◌∙◌, subst, append_assoc, append-nil, arith, length, take, drop, length-append}
use Rattle.std.proofs.Math.Dec.{eqb-suc-zero}
use Rattle.std.proofs.lemmas.Bool.Decides.{nat_tests}
use Rattle.std.specs.Prelude.{◌&&◌, ◌==◌, nat_lt, if◌then◌else◌}
use Rattle.pg_message.specs.Messages.{Text, Messages, no_messages, is_empty, with_messages}
use Rattle.pg_message.specs.declared.error.ParseError.{ParseError}
use Rattle.pg_message.specs.declared.kind.MessageKind.{MessageKind}
use Rattle.pg_message.specs.declared.kind.MessageKind.TheVariants.{SystemUnexpected, Unexpected, Expected, Plain}
use Rattle.pg_message.proofs.TextLists.{with_texts-with_text, length-with_text}
use Rattle.pg_text.specs.Position.{start}
use Rattle.pg_language.specs.Errors.{Error, merge, with_position, without_position, no_messages_at}
use Rattle.pg_language.specs.Reactions.{error_after}
use Rattle.pg_message_tape.specs.Messages.{TapeMessage, with_message_once, with_messages_once, error_of}
use Rattle.pg_message_tape.specs.TapeErrors.{tape_error, kept_at, Left, second, first, both, left_of, left_tape_error, left_messages, left_here, merged_tape_error, merged_messages, tape_error_after, messages_after, Says, says, Holds, holds}
use Rattle.pg_message_tape.specs.declared.message_tape.KeptError.{KeptError}
use Rattle.pg_message_tape.specs.declared.message_tape.TapeError.{TapeError}

-- ---- what a list of messages says

pub messages_append : (m : Messages) (xs ys : List TapeMessage) → with_messages_once m (xs ++ ys) ≡ with_messages_once (with_messages_once m xs) ys
messages_append m [] ys = refl
messages_append m (x ∷ xs) ys = messages_append (with_message_once m x.kind x.text) xs ys

after_message : (a b : Messages) (kind : MessageKind) (text : Text) → with_message_once (with_messages a b) kind text ≡ with_messages a (with_message_once b kind text)
after_message a b SystemUnexpected text = let e = with_texts-with_text a.system_unexpected b.system_unexpected text in cc
after_message a b Unexpected text = let e = with_texts-with_text a.unexpected b.unexpected text in cc
after_message a b Expected text = let e = with_texts-with_text a.expected b.expected text in cc
after_message a b Plain text = let e = with_texts-with_text a.plain b.plain text in cc

after_all_messages : (a b : Messages) (xs : List TapeMessage) → with_messages_once (with_messages a b) xs ≡ with_messages a (with_messages_once b xs)
after_all_messages a b [] = refl
after_all_messages a b (x ∷ xs) = ap (λ m. with_messages_once m xs) (after_message a b x.kind x.text) ∙ after_all_messages a (with_message_once b x.kind x.text) xs

-- two lists of messages say what both say
pub both_messages : (xs ys : List TapeMessage) → with_messages_once no_messages (xs ++ ys) ≡ with_messages (with_messages_once no_messages xs) (with_messages_once no_messages ys)
both_messages xs ys = messages_append no_messages xs ys ∙ after_all_messages (with_messages_once no_messages xs) no_messages ys

message_is_there : (m : Messages) (kind : MessageKind) (text : Text) → is_empty (with_message_once m kind text) ≡ false
message_is_there m SystemUnexpected text = ap (λ b. b && (length m.unexpected == 0) && (length m.expected == 0) && (length m.plain == 0)) (length-with_text m.system_unexpected text)
message_is_there m Unexpected text =
    ap (λ b. (length m.system_unexpected == 0) && b && (length m.expected == 0) && (length m.plain == 0)) (length-with_text m.unexpected text) ∙ second_false (length m.system_unexpected == 0) (length m.expected == 0) (length m.plain == 0)
  where
    second_false : (a c d : Bool) → (a && false && c && d) ≡ false
    second_false true c d = refl
    second_false false c d = refl
message_is_there m Expected text =
    ap (λ b. (length m.system_unexpected == 0) && (length m.unexpected == 0) && b && (length m.plain == 0)) (length-with_text m.expected text) ∙ third_false (length m.system_unexpected == 0) (length m.unexpected == 0) (length m.plain == 0)
  where
    third_false : (a b d : Bool) → (a && b && false && d) ≡ false
    third_false true true d = refl
    third_false true false d = refl
    third_false false b d = refl
message_is_there m Plain text =
    ap (λ b. (length m.system_unexpected == 0) && (length m.unexpected == 0) && (length m.expected == 0) && b) (length-with_text m.plain text) ∙ last_false (length m.system_unexpected == 0) (length m.unexpected == 0) (length m.expected == 0)
  where
    last_false : (a b c : Bool) → (a && b && c && false) ≡ false
    last_false true true true = refl
    last_false true true false = refl
    last_false true false c = refl
    last_false false b c = refl

still_messages : (m : Messages) (xs : List TapeMessage) → is_empty m ≡ false → is_empty (with_messages_once m xs) ≡ false
still_messages m [] h = h
still_messages m (x ∷ xs) h = still_messages (with_message_once m x.kind x.text) xs (message_is_there m x.kind x.text)

-- nothing is said where there is no message
pub none_with_messages : (xs : List TapeMessage) → is_empty (with_messages_once no_messages xs) ≡ (length xs == 0)
none_with_messages [] = refl
none_with_messages (x ∷ xs) = still_messages (with_message_once no_messages x.kind x.text) xs (message_is_there no_messages x.kind x.text) ∙ sym (eqb-suc-zero (length xs))

-- ---- lists

pub drop_seam : {A : Type 0} (xs ys : List A) → drop (length xs) (xs ++ ys) ≡ ys
drop_seam [] ys = refl
drop_seam (x ∷ xs) ys = drop_seam xs ys

pub take_seam : {A : Type 0} (xs ys : List A) → take (length xs) (xs ++ ys) ≡ xs
take_seam [] ys = refl
take_seam (x ∷ xs) ys = ap (λ zs. x ∷ zs) (take_seam xs ys)

-- whether a list is empty, by where it begins and ends
same_length : (n m : ℕ) → (n == (n + m)) ≡ (m == 0)
same_length n m = grind (arith, nat_tests)

pub is_none : (xs ys : List TapeMessage) → (length xs == length (xs ++ ys)) ≡ (length ys == 0)
is_none xs ys = ap (λ n. length xs == n) (length-append xs ys) ∙ same_length (length xs) (length ys)

-- ---- errors are kept, and stand

pub hold : {x y : List TapeMessage} {error : TapeError} {e : Error} → Says x error e y → Holds x (kept_at (length y) error) e y
hold (says g m) = holds g m

-- an error without messages
pub nothing_says : (x : List TapeMessage) (i : ℕ) → Says x (tape_error i (length x)) (no_messages_at i) x
nothing_says x i =
    let e : x ++ [] ≡ x = append-nil x in
    let f : (x ++ []) ++ [] ≡ x = append-nil (x ++ []) ∙ e in
    subst (λ (y : List TapeMessage). Says x (tape_error i (length x)) (no_messages_at i) y) f (subst (λ (y : List TapeMessage). Says x (tape_error i (length y)) (no_messages_at i) ((x ++ []) ++ [])) e (says {x = x} {place = i} [] []))

-- an error that was just said
pub just_says : (x m : List TapeMessage) (i : ℕ) → Says x (tape_error i (length x)) (error_of i m) (x ++ m)
just_says x m i =
    let e : x ++ [] ≡ x = append-nil x in
    subst (λ (y : List TapeMessage). Says x (tape_error i (length y)) (error_of i m) (y ++ m)) e (says {x = x} {place = i} [] m)

-- the later error stands alone
pub alone : {x y z : List TapeMessage} {kept : KeptError} {error : TapeError} {e f : Error} → Holds x kept e y → Says y error f z → Says x error f z
alone {x = x} (holds g m) (says {place = q} k n) =
    let e : x ++ ((g ++ m) ++ k) ≡ ((x ++ g) ++ m) ++ k = sym (append_assoc x (g ++ m) k) ∙ ap (λ (w : List TapeMessage). w ++ k) (sym (append_assoc x g m)) in
    subst (λ (y : List TapeMessage). Says x (tape_error q (length y)) (error_of q n) (y ++ n)) e (says {x = x} {place = q} ((g ++ m) ++ k) n)

-- the messages are cut back
pub cut_messages : {x y : List TapeMessage} {error : TapeError} {e : Error} → Says x error e y → take (length x) y ≡ x
cut_messages {x = x} (says g m) = ap (take (length x)) (append_assoc x g m) ∙ take_seam x (g ++ m)

-- ---- merging

left_error : Left → Error → Error → Error
left_error second e f = f
left_error first e f = e
left_error both e f = record { place = e.place; messages = with_messages e.messages f.messages }

merge_left : (e f : Error) → merge e f ≡ left_error (left_of (is_empty e.messages) (is_empty f.messages) e.place f.place) e f
unfolding left_error
merge_left e f = by_tests (is_empty e.messages && not (is_empty f.messages)) (is_empty f.messages && not (is_empty e.messages)) (nat_lt e.place f.place) (nat_lt f.place e.place)
  where
    by_tests : (a b c d : Bool) → (let m : ParseError = if a then with_position start f else if b then with_position start e else
        if c then with_position start f else if d then with_position start e else record (with_position start e) { messages = with_messages e.messages f.messages } in
        without_position m ≡ left_error (if a then second else if b then first else if c then second else if d then first else both) e f)
    by_tests true b c d = refl
    by_tests false true c d = refl
    by_tests false false true d = refl
    by_tests false false false true = refl
    by_tests false false false false = refl

-- which of two errors is left, from where their messages lie
left_so : (x g m k n : List TapeMessage) (p q : ℕ) → left_here (kept_at (length ((x ++ g) ++ m)) (tape_error p (length (x ++ g)))) (tape_error q (length (((x ++ g) ++ m) ++ k))) ((((x ++ g) ++ m) ++ k) ++ n) ≡
    left_of (is_empty (with_messages_once no_messages m)) (is_empty (with_messages_once no_messages n)) p q
left_so x g m k n p q =
    ap (λ b. left_of b (length (((x ++ g) ++ m) ++ k) == length ((((x ++ g) ++ m) ++ k) ++ n)) p q) (is_none (x ++ g) m ∙ sym (none_with_messages m))
    ∙ ap (λ b. left_of (is_empty (with_messages_once no_messages m)) b p q) (is_none (((x ++ g) ++ m) ++ k) n ∙ sym (none_with_messages n))

left_says : (l : Left) (x g m k n : List TapeMessage) (p q : ℕ) → (let y : List TapeMessage = (x ++ g) ++ m in let kept : KeptError = kept_at (length y) (tape_error p (length (x ++ g))) in let error : TapeError = tape_error q (length (y ++ k)) in
    Says x (left_tape_error l kept error) (left_error l (error_of p m) (error_of q n)) (left_messages l kept error ((y ++ k) ++ n)))
unfolding left_error
left_says second x g m k n p q = alone (holds {x = x} {place = p} g m) (says {place = q} k n)
left_says first x g m k n p q =
    let y = (x ++ g) ++ m in
    let e : y ≡ take (length y) ((y ++ k) ++ n) = sym (ap (take (length y)) (append_assoc y k n) ∙ take_seam y (k ++ n)) in
    subst (λ (z : List TapeMessage). Says x (tape_error p (length (x ++ g))) (error_of p m) z) e (says {x = x} {place = p} g m)
left_says both x g m k n p q =
    let y = (x ++ g) ++ m in
    let front : take (length y) (take (length (y ++ k)) ((y ++ k) ++ n)) ≡ y = ap (take (length y)) (take_seam (y ++ k) n) ∙ take_seam y k in
    let after : drop (length (y ++ k)) ((y ++ k) ++ n) ≡ n = drop_seam (y ++ k) n in
    let e : (x ++ g) ++ (m ++ n) ≡ take (length y) (take (length (y ++ k)) ((y ++ k) ++ n)) ++ drop (length (y ++ k)) ((y ++ k) ++ n) =
    sym (append_assoc (x ++ g) m n) ∙ ap (λ (z : List TapeMessage). z ++ n) (sym front) ∙ ap (λ (z : List TapeMessage). take (length y) (take (length (y ++ k)) ((y ++ k) ++ n)) ++ z) (sym after) in
    let f : error_of p (m ++ n) ≡ record { place = p; messages = with_messages (with_messages_once no_messages m) (with_messages_once no_messages n) } =
    ap (λ (z : Messages). let r : Error = record { place = p; messages = z } in r) (both_messages m n) in
    subst (λ (z : List TapeMessage). Says x (tape_error p (length (x ++ g))) (record { place = p; messages = with_messages (with_messages_once no_messages m) (with_messages_once no_messages n) }) z) e
    (subst (λ (w : Error). Says x (tape_error p (length (x ++ g))) w ((x ++ g) ++ (m ++ n))) f (says {x = x} {place = p} g (m ++ n)))

pub merge_says : {x y z : List TapeMessage} {kept : KeptError} {error : TapeError} {e f : Error} → Holds x kept e y → Says y error f z →
    Says x (merged_tape_error kept error z) (merge e f) (merged_messages kept error z)
merge_says {x = x} (holds {place = p} g m) (says {place = q} k n) =
    let y = (x ++ g) ++ m in
    let kept : KeptError = kept_at (length y) (tape_error p (length (x ++ g))) in
    let error : TapeError = tape_error q (length (y ++ k)) in
    let z = (y ++ k) ++ n in
    let so = left_so x g m k n p q in
    let left = left_of (is_empty (with_messages_once no_messages m)) (is_empty (with_messages_once no_messages n)) p q in
    subst (λ (w : Error). Says x (merged_tape_error kept error z) w (merged_messages kept error z)) (sym (merge_left (error_of p m) (error_of q n)))
    (subst (λ (l : Left). Says x (left_tape_error l kept error) (left_error left (error_of p m) (error_of q n)) (left_messages l kept error z)) (sym so) (left_says left x g m k n p q))

-- the error after one that is kept
pub after_says : {x y z : List TapeMessage} {kept : KeptError} {error : TapeError} {e f : Error} (c : Bool) → Holds x kept e y → Says y error f z →
    Says x (tape_error_after c kept error z) (error_after c e f) (messages_after c kept error z)
after_says true h s = alone h s
after_says false h s = merge_says h s
