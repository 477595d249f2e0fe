-- What entries say: taken, dropped and told as the messages that they stand for.
use Rattle.std.proofs.Common.{◌≡◌, ℕ, zero, suc, ◌+◌, ◌-◌, ◌<◌, ◌≤◌, ◌≢◌, Bool, true, false, cond, not, List, [], ◌∷◌, ◌++◌, length, take, drop, set, get_or, refl, ap, sym, ◌∙◌, subst, arith, append_assoc, append-nil, length-append}
use Rattle.std.specs.Str.{bytes_eq}
use Rattle.std.specs.Prelude.{◌||◌, ◌%◌, ◌/◌, if◌then◌else◌}
use Rattle.std.proofs.Math.Seq.{drop-append-add}
use Rattle.std.proofs.lemmas.List.{set_at, take_at, take-append-le, take-append-drop, take_more, drop_more, drop_all}
use Rattle.std.proofs.lemmas.List.Concat.{flat_map-append}
use Rattle.std.proofs.lemmas.List.Elements.{filter-append}
use Rattle.std.proofs.lemmas.List.Sums.{sum_by-cons, sum_by_push, sum_by-append, sum_by-take-drop}
use Rattle.std.proofs.lemmas.Slice.Eq.{bytes_eq-Decides}
use Rattle.pg_message.specs.Messages.{Text, Messages, with_text, with_texts}
use Rattle.pg_message.specs.declared.kind.MessageKind.{MessageKind}
use Rattle.pg_message.specs.declared.kind.MessageKind.TheVariants.{SystemUnexpected, Unexpected, Expected, Plain}
use Rattle.pg_message.proofs.TextLists.{with_texts-with_text}
use Rattle.pg_message_tape.specs.Messages.{TapeMessage, tape_message_of, message_kind, message_text, with_message_once, with_messages_once, is_expected, unexpected}
use Rattle.pg_message_tape.specs.Repeats.{nameless, or_nameless, in_turn, turn_after, first_of, second_of, next_of, repeated, said, times_more, more_said, own_in_turn, own_times, is_nameless}
use Rattle.pg_message_tape.specs.declared.message.Message.{Message}
use Rattle.pg_message_tape.specs.declared.message.Message.TheVariants.{WantedNameless}
use Rattle.pg_message_tape.specs.declared.repeated.Repeated.{Repeated}
use Rattle.pg_message_tape.proofs.Merged.{messages_append}

-- ---- how many

length_in_turn : (n : ℕ) (a b : TapeMessage) → length (in_turn n a b) ≡ n
length_in_turn zero a b = refl
length_in_turn (suc n) a b = ap suc (length_in_turn n b a)

pub length_repeated : (r : Repeated) → length (repeated r) ≡ r.more + 1
length_repeated r = omega (arith, length_in_turn r.more (second_of r) (first_of r))

pub length_said : (rs : List Repeated) → length (said rs) ≡ length rs + more_said rs
length_said [] = omega arith
length_said (r ∷ rs) = omega (arith, length-append (repeated r) (said rs), length_repeated r, length_said rs, sum_by-cons times_more r rs)

pub said_append : (rs ss : List Repeated) → said (rs ++ ss) ≡ said rs ++ said ss
said_append rs ss = flat_map-append repeated rs ss

pub said_push : (rs : List Repeated) (r : Repeated) → said (rs ++ r ∷ []) ≡ said rs ++ repeated r
said_push rs r = said_append rs (r ∷ []) ∙ ap (λ (xs : List TapeMessage). said rs ++ xs) (append-nil (repeated r))

pub more_said_append : (rs ss : List Repeated) → more_said (rs ++ ss) ≡ more_said rs + more_said ss
more_said_append rs ss = sum_by-append times_more rs ss

pub more_said_push : (rs : List Repeated) (r : Repeated) → more_said (rs ++ r ∷ []) ≡ more_said rs + r.more
more_said_push rs r = sum_by_push times_more rs r

length_said_push : (rs : List Repeated) (r : Repeated) → length (said (rs ++ r ∷ [])) ≡ length (said rs) + (r.more + 1)
length_said_push rs r = ap length (said_push rs r) ∙ omega (arith, length-append (said rs) (repeated r), length_repeated r)

-- the messages of one entry more
pub one_more : (rs : List Repeated) (i : ℕ) (d : Repeated) → i < length rs → length (said (take (i + 1) rs)) ≡ length (said (take i rs)) + ((get_or rs i d).more + 1)
one_more rs i d h = ap (λ (xs : List Repeated). length (said xs)) (take_more rs i d h) ∙ length_said_push (take i rs) (get_or rs i d)

-- ---- where nothing is said more than once, entries are messages

none_more : (r : Repeated) (rs : List Repeated) → more_said (r ∷ rs) ≡ 0 → (r.more ≡ 0) × (more_said rs ≡ 0)
none_more r rs h = let e = sum_by-cons times_more r rs in (omega (arith, e, h), omega (arith, e, h))

pub take_said : (n : ℕ) (rs : List Repeated) → more_said rs ≡ 0 → said (take n rs) ≡ take n (said rs)
take_said zero rs h = refl
take_said (suc n) [] h = refl
take_said (suc n) (r ∷ rs) h =
    let none = none_more r rs h in
    subst (λ (k : ℕ). (first_of r ∷ in_turn k (second_of r) (first_of r)) ++ said (take n rs) ≡ take (suc n) ((first_of r ∷ in_turn k (second_of r) (first_of r)) ++ said rs)) (sym none.0)
    (ap (λ (xs : List TapeMessage). first_of r ∷ xs) (take_said n rs none.1))

pub drop_said : (n : ℕ) (rs : List Repeated) → more_said rs ≡ 0 → said (drop n rs) ≡ drop n (said rs)
drop_said zero rs h = refl
drop_said (suc n) [] h = refl
drop_said (suc n) (r ∷ rs) h =
    let none = none_more r rs h in
    subst (λ (k : ℕ). said (drop n rs) ≡ drop (suc n) ((first_of r ∷ in_turn k (second_of r) (first_of r)) ++ said rs)) (sym none.0) (drop_said n rs none.1)

pub drop_more_said : (n : ℕ) (rs : List Repeated) → more_said rs ≡ 0 → more_said (drop n rs) ≡ 0
drop_more_said n rs h = omega (arith, sum_by-take-drop times_more rs n, h)

pub take_more_said : (n : ℕ) (rs : List Repeated) → more_said rs ≡ 0 → more_said (take n rs) ≡ 0
take_more_said n rs h = omega (arith, sum_by-take-drop times_more rs n, h)

-- ---- whose turn it is

even_or_odd : {A : Type 0} (n : ℕ) (a b : A) → (n % 2 ≡ 0 → turn_after n a b ≡ a) × (n % 2 ≢ 0 → turn_after n a b ≡ b)
even_or_odd zero a b = (λ h. refl, λ h. absurd (h refl))
even_or_odd (suc n) a b =
    let before = even_or_odd n b a in
    (λ h. before.1 (omega arith), λ h. before.0 (omega arith))

pub turn_even : {A : Type 0} (n : ℕ) (a b : A) → n % 2 ≡ 0 → turn_after n a b ≡ a
turn_even n a b h = (even_or_odd n a b).0 h

pub turn_odd : {A : Type 0} (n : ℕ) (a b : A) → n % 2 ≢ 0 → turn_after n a b ≡ b
turn_odd n a b h = (even_or_odd n a b).1 h

one_more_turn : (n : ℕ) (a b : TapeMessage) → in_turn (suc n) a b ≡ in_turn n a b ++ turn_after n a b ∷ []
one_more_turn zero a b = refl
one_more_turn (suc n) a b = ap (λ (xs : List TapeMessage). a ∷ xs) (one_more_turn n b a)

first_turns : (k n : ℕ) (a b : TapeMessage) → k ≤ n → take k (in_turn k a b) ≡ take k (in_turn n a b)
first_turns zero n a b h = refl
first_turns (suc k) zero a b h = absurd (omega (arith, h))
first_turns (suc k) (suc n) a b h = let l : k ≤ n = omega (arith, h) in ap (λ (xs : List TapeMessage). a ∷ xs) (first_turns k n b a l)

later_turns : (k n : ℕ) (a b : TapeMessage) → k ≤ n → drop k (in_turn n a b) ≡ in_turn (n - k) (turn_after k a b) (turn_after k b a)
later_turns zero n a b h = let e : n ≡ n - 0 = omega arith in ap (λ (i : ℕ). in_turn i a b) e
later_turns (suc k) zero a b h = absurd (omega (arith, h))
later_turns (suc k) (suc n) a b h =
    let l : k ≤ n = omega (arith, h) in
    let e : n - k ≡ suc n - suc k = omega arith in
    later_turns k n b a l ∙ ap (λ (i : ℕ). in_turn i (turn_after k b a) (turn_after k a b)) e

-- ---- one message more, and fewer

pub nameless_is : (m : Message) → is_nameless m ≡ true → tape_message_of m ≡ nameless
nameless_is WantedNameless h = refl
nameless_is _ h = cc

-- an entry with another count
abbrev recounted : Repeated → ℕ → Repeated
recounted r n = record { message = r.message; more = n; nameless_first = r.nameless_first; nameless_second = r.nameless_second }

-- the same that begins with what came second
abbrev exchanged : Repeated → ℕ → Repeated
exchanged r n = record { message = r.message; more = n; nameless_first = r.nameless_second; nameless_second = r.nameless_first }

pub left_even : (r : Repeated) (k n : ℕ) → k ≤ r.more → k % 2 ≡ 0 → n ≡ r.more - k → repeated (recounted r n) ≡ drop k (repeated r)
left_even r k n h even fewer =
    let e : suc n ≡ suc r.more - k = omega arith in
    let l : k ≤ suc r.more = omega arith in
    sym (later_turns k (suc r.more) (first_of r) (second_of r) l ∙ ap (λ (i : ℕ). in_turn i (turn_after k (first_of r) (second_of r)) (turn_after k (second_of r) (first_of r))) (sym e)
    ∙ ap (λ (a : TapeMessage). in_turn (suc n) a (turn_after k (second_of r) (first_of r))) (turn_even k (first_of r) (second_of r) even)
    ∙ ap (λ (b : TapeMessage). in_turn (suc n) (first_of r) b) (turn_even k (second_of r) (first_of r) even))

pub left_odd : (r : Repeated) (k n : ℕ) → k ≤ r.more → k % 2 ≢ 0 → n ≡ r.more - k → repeated (exchanged r n) ≡ drop k (repeated r)
left_odd r k n h odd fewer =
    let e : suc n ≡ suc r.more - k = omega arith in
    let l : k ≤ suc r.more = omega arith in
    sym (later_turns k (suc r.more) (first_of r) (second_of r) l ∙ ap (λ (i : ℕ). in_turn i (turn_after k (first_of r) (second_of r)) (turn_after k (second_of r) (first_of r))) (sym e)
    ∙ ap (λ (a : TapeMessage). in_turn (suc n) a (turn_after k (second_of r) (first_of r))) (turn_odd k (first_of r) (second_of r) odd)
    ∙ ap (λ (b : TapeMessage). in_turn (suc n) (second_of r) b) (turn_odd k (second_of r) (first_of r) odd))

set_last : (rs rest : List Repeated) (r s : Repeated) → rs ≡ rest ++ r ∷ [] → set rs (length rest) s ≡ rest ++ s ∷ []
set_last rs rest r s e = ap (λ (xs : List Repeated). set xs (length rest) s) e ∙ set_at rest r [] s (length rest) refl

take_last : (rs rest : List Repeated) (r : Repeated) → rs ≡ rest ++ r ∷ [] → take (length rest) rs ≡ rest
take_last rs rest r e = ap (take (length rest)) e ∙ take_at rest (r ∷ []) (length rest) refl

pub said_again : (rs rest : List Repeated) (r : Repeated) (k : ℕ) (m : TapeMessage) → rs ≡ rest ++ r ∷ [] → k ≡ r.more + 1 → m ≡ next_of r →
    said (set rs (length rest) (recounted r k)) ≡ said rs ++ m ∷ []
said_again rs rest r k m e one next =
    let s = recounted r k in
    let counted : k ≡ suc r.more = omega arith in
    let once_more : repeated s ≡ repeated r ++ m ∷ [] =
    ap (λ (i : ℕ). first_of r ∷ in_turn i (second_of r) (first_of r)) counted ∙ ap (λ (xs : List TapeMessage). first_of r ∷ xs) (one_more_turn r.more (second_of r) (first_of r))
    ∙ ap (λ (w : TapeMessage). repeated r ++ w ∷ []) (sym next) in
    ap said (set_last rs rest r s e) ∙ said_push rest s ∙ ap (λ (xs : List TapeMessage). said rest ++ xs) once_more ∙ sym (append_assoc (said rest) (repeated r) (m ∷ []))
    ∙ ap (λ (xs : List TapeMessage). xs ++ m ∷ []) (sym (ap said e ∙ said_push rest r))

pub more_again : (rs rest : List Repeated) (r s : Repeated) → rs ≡ rest ++ r ∷ [] → more_said (set rs (length rest) s) + r.more ≡ more_said rs + s.more
more_again rs rest r s e =
    let a : more_said (set rs (length rest) s) ≡ more_said rest + s.more = ap more_said (set_last rs rest r s e) ∙ more_said_push rest s in
    let b : more_said rs ≡ more_said rest + r.more = ap more_said e ∙ more_said_push rest r in
    omega (arith, a, b)

pub more_without_last : (rs rest : List Repeated) (r : Repeated) → rs ≡ rest ++ r ∷ [] → more_said (take (length rest) rs) + r.more ≡ more_said rs
more_without_last rs rest r e = ap (λ (xs : List Repeated). more_said xs + r.more) (take_last rs rest r e) ∙ sym (ap more_said e ∙ more_said_push rest r)

length_of : (rs rest : List Repeated) (r : Repeated) → rs ≡ rest ++ r ∷ [] → length (said rs) ≡ length (said rest) + (r.more + 1)
length_of rs rest r e = ap (λ (xs : List Repeated). length (said xs)) e ∙ length_said_push rest r

pub shorter_without_last : (rs rest : List Repeated) (r : Repeated) → rs ≡ rest ++ r ∷ [] → length (said (take (length rest) rs)) < length (said rs)
shorter_without_last rs rest r e = omega (arith, ap (λ (xs : List Repeated). length (said xs)) (take_last rs rest r e), length_of rs rest r e)

pub first_without_last : (rs rest : List Repeated) (r : Repeated) → rs ≡ rest ++ r ∷ [] → (n most : ℕ) → r.more < most → n + most ≡ length (said rs) → take n (said (take (length rest) rs)) ≡ take n (said rs)
first_without_last rs rest r e n most h k =
    let l : n ≤ length (said rest) = omega (arith, length_of rs rest r e) in
    ap (λ (xs : List Repeated). take n (said xs)) (take_last rs rest r e) ∙ sym (ap (λ (xs : List Repeated). take n (said xs)) e ∙ ap (take n) (said_push rest r) ∙ take-append-le n (said rest) (repeated r) l)

pub shorter_last : (rs rest : List Repeated) (r s : Repeated) → rs ≡ rest ++ r ∷ [] → s.more < r.more → length (said (set rs (length rest) s)) < length (said rs)
shorter_last rs rest r s e h = omega (arith, ap (λ (xs : List Repeated). length (said xs)) (set_last rs rest r s e), length_said_push rest s, length_of rs rest r e)

take_appended : (xs ys : List TapeMessage) (n k : ℕ) → length xs + k ≡ n → take n (xs ++ ys) ≡ xs ++ take k ys
take_appended [] ys n k h = let e : n ≡ k = omega (arith, h) in ap (λ (i : ℕ). take i ys) e
take_appended (x ∷ xs) ys zero k h = absurd (omega (arith, h))
take_appended (x ∷ xs) ys (suc n) k h = let e : length xs + k ≡ n = omega (arith, h) in ap (λ (zs : List TapeMessage). x ∷ zs) (take_appended xs ys n k e)

pub first_last : (rs rest : List Repeated) (r : Repeated) (i n most : ℕ) → rs ≡ rest ++ r ∷ [] → most ≤ r.more → i ≡ r.more - most → n + most ≡ length (said rs) →
    take n (said (set rs (length rest) (recounted r i))) ≡ take n (said rs)
first_last rs rest r i n most e h fewer k =
    let s = recounted r i in
    let l : length (said rest) + suc i ≡ n = omega (arith, length_of rs rest r e) in
    let less : i ≤ r.more = omega arith in
    let front : take (suc i) (repeated s) ≡ take (suc i) (repeated r) = ap (λ (xs : List TapeMessage). first_of r ∷ xs) (first_turns i r.more (second_of r) (first_of r) less) in
    ap (λ (xs : List Repeated). take n (said xs)) (set_last rs rest r s e) ∙ ap (take n) (said_push rest s) ∙ take_appended (said rest) (repeated s) n (suc i) l
    ∙ ap (λ (xs : List TapeMessage). said rest ++ xs) front
    ∙ sym (ap (λ (xs : List Repeated). take n (said xs)) e ∙ ap (take n) (said_push rest r) ∙ take_appended (said rest) (repeated r) n (suc i) l)

-- ---- what comes after some messages

-- the entries from one on say all but what those before it say
pub said_after : (rs : List Repeated) (i from : ℕ) → length (said (take i rs)) ≤ from → drop (from - length (said (take i rs))) (said (drop i rs)) ≡ drop from (said rs)
said_after rs i from h =
    let before = length (said (take i rs)) in
    let e : said rs ≡ said (take i rs) ++ said (drop i rs) = ap said (sym (take-append-drop i rs)) ∙ said_append (take i rs) (drop i rs) in
    let f : from ≡ before + (from - before) = omega arith in
    sym (ap (drop from) e ∙ ap (λ (n : ℕ). drop n (said (take i rs) ++ said (drop i rs))) f ∙ drop-append-add (said (take i rs)) (said (drop i rs)) (from - before))

drop_both : (k : ℕ) (xs ys : List TapeMessage) → drop k (xs ++ ys) ≡ drop k xs ++ drop (k - length xs) ys
drop_both k [] ys = let e : k ≡ k - 0 = omega arith in ap (λ (n : ℕ). drop n ys) e ∙ nothing k (drop (k - 0) ys)
  where
    nothing : (k : ℕ) (zs : List TapeMessage) → zs ≡ drop k [] ++ zs
    nothing zero zs = refl
    nothing (suc k) zs = refl
drop_both zero (x ∷ xs) ys = let e : 0 ≡ 0 - suc (length xs) = omega arith in ap (λ (n : ℕ). x ∷ (xs ++ drop n ys)) e
drop_both (suc k) (x ∷ xs) ys = let e : k - length xs ≡ suc k - suc (length xs) = omega arith in drop_both k xs ys ∙ ap (λ (n : ℕ). drop k xs ++ drop n ys) e

-- so much is left out of the first entry, and the rest of those after it
pub drop_entry : (k : ℕ) (rs : List Repeated) (i : ℕ) (d : Repeated) → i < length rs →
    drop k (said (drop i rs)) ≡ drop k (repeated (get_or rs i d)) ++ drop (k - length (repeated (get_or rs i d))) (said (drop (i + 1) rs))
drop_entry k rs i d h = ap (λ (xs : List Repeated). drop k (said xs)) (drop_more rs i d h) ∙ drop_both k (repeated (get_or rs i d)) (said (drop (i + 1) rs))

-- one entry more has come to the end of a list
pub push_step : (self new end : List TapeMessage) (k j : ℕ) (rs : List Repeated) (i : ℕ) (d : Repeated) → i < length rs → new ≡ self ++ drop k (repeated (get_or rs i d)) → j ≡ k - length (repeated (get_or rs i d)) →
    self ++ drop k (said (drop i rs)) ≡ end → new ++ drop j (said (drop (i + 1) rs)) ≡ end
push_step self new end k j rs i d h p l e =
    let r = get_or rs i d in
    ap (λ (xs : List TapeMessage). xs ++ drop j (said (drop (i + 1) rs))) p ∙ ap (λ (n : ℕ). (self ++ drop k (repeated r)) ++ drop n (said (drop (i + 1) rs))) l
    ∙ append_assoc self (drop k (repeated r)) (drop (k - length (repeated r)) (said (drop (i + 1) rs))) ∙ ap (λ (xs : List TapeMessage). self ++ xs) (sym (drop_entry k rs i d h)) ∙ e

pub none_left : (r : Repeated) (k : ℕ) → r.more < k → drop k (repeated r) ≡ []
none_left r k h = drop_all k (repeated r) (omega (arith, length_repeated r))

-- ---- those that aren't about what would have been taken

-- how many of so many in turn are the message's own
pub own_each : (n : ℕ) → own_in_turn n false false ≡ n
own_each zero = refl
own_each (suc n) = ap suc (own_each n)

pub own_none : (n : ℕ) → own_in_turn n true true ≡ 0
own_none zero = refl
own_none (suc n) = own_none n

own_halves : (n : ℕ) → (own_in_turn n false true ≡ (n + 1) / 2) × (own_in_turn n true false ≡ n / 2)
own_halves zero = (refl, refl)
own_halves (suc n) =
    let before = own_halves n in (
      let e : suc (n / 2) ≡ (suc n + 1) / 2 = omega arith in ap suc before.1 ∙ e,
      let e : (n + 1) / 2 ≡ suc n / 2 = omega arith in before.0 ∙ e,
    )

pub own_first : (n : ℕ) → own_in_turn n false true ≡ (n + 1) / 2
own_first n = (own_halves n).0

pub own_second : (n : ℕ) → own_in_turn n true false ≡ n / 2
own_second n = (own_halves n).1

own_in_turn_le : (n : ℕ) (first second : Bool) → own_in_turn n first second ≤ n
own_in_turn_le zero first second = omega arith
own_in_turn_le (suc n) true second = omega (arith, own_in_turn_le n second true)
own_in_turn_le (suc n) false second = omega (arith, own_in_turn_le n second false)

pub own_times_le : (r : Repeated) → own_times r ≤ r.more + 1
own_times_le r = omega (arith, own_in_turn_le (suc r.more) r.nameless_first r.nameless_second)

unexpected_in_turn : (n : ℕ) (first second : Bool) (m : Message) →
    unexpected (in_turn n (or_nameless first m) (or_nameless second m)) ≡ cond (is_expected (message_kind m)) [] (in_turn (own_in_turn n first second) (tape_message_of m) (tape_message_of m))
unexpected_in_turn zero first second m = either (is_expected (message_kind m))
  where
    either : (b : Bool) → let none : List TapeMessage = [] in none ≡ cond b none none
    either true = refl
    either false = refl
unexpected_in_turn (suc n) true second m = unexpected_in_turn n second true m
unexpected_in_turn (suc n) false second m =
    let s = tape_message_of m in
    let later = in_turn (own_in_turn n second false) s s in
    ap (λ (xs : List TapeMessage). cond (not (is_expected (message_kind m))) (s ∷ xs) xs) (unexpected_in_turn n second false m) ∙ either s later (is_expected (message_kind m))
  where
    either : (s : TapeMessage) (later : List TapeMessage) (b : Bool) → cond (not b) (s ∷ cond b [] later) (cond b [] later) ≡ cond b [] (s ∷ later)
    either s later true = refl
    either s later false = refl

unexpected_repeated : (r : Repeated) → unexpected (repeated r) ≡ cond (is_expected (message_kind r.message)) [] (in_turn (own_times r) (tape_message_of r.message) (tape_message_of r.message))
unexpected_repeated r = unexpected_in_turn (suc r.more) r.nameless_first r.nameless_second r.message

pub all_expected : (r : Repeated) → is_expected (message_kind r.message) ≡ true → unexpected (repeated r) ≡ []
all_expected r h = unexpected_repeated r ∙ ap (λ b. let own : List TapeMessage = in_turn (own_times r) (tape_message_of r.message) (tape_message_of r.message) in cond b [] own) h

pub none_own : (r : Repeated) → own_times r ≡ 0 → unexpected (repeated r) ≡ []
none_own r h = unexpected_repeated r ∙ ap (λ (n : ℕ). cond (is_expected (message_kind r.message)) [] (in_turn n (tape_message_of r.message) (tape_message_of r.message))) h ∙ either (is_expected (message_kind r.message))
  where
    either : (b : Bool) → let none : List TapeMessage = [] in cond b none none ≡ none
    either true = refl
    either false = refl

-- a message again and again
abbrev pub own_alone : Message → ℕ → Repeated
own_alone m n = record { message = m; more = n; nameless_first = false; nameless_second = false }

pub some_own : (r : Repeated) (n : ℕ) → is_expected (message_kind r.message) ≡ false → n ≡ own_times r - 1 → own_times r ≢ 0 → unexpected (repeated r) ≡ repeated (own_alone r.message n)
some_own r n h fewer some =
    let m = tape_message_of r.message in
    let e : own_times r ≡ suc n = omega arith in
    unexpected_repeated r ∙ ap (λ b. let own : List TapeMessage = in_turn (own_times r) m m in cond b [] own) h ∙ ap (λ (i : ℕ). in_turn i m m) e

-- of the next entry its own are kept
pub kept_step : (self new end : List TapeMessage) (rs : List Repeated) (i : ℕ) (d : Repeated) → i < length rs → new ≡ self ++ unexpected (repeated (get_or rs i d)) →
    self ++ unexpected (said (drop i rs)) ≡ end → new ++ unexpected (said (drop (i + 1) rs)) ≡ end
kept_step self new end rs i d h p e =
    let r = get_or rs i d in
    let rest = unexpected (said (drop (i + 1) rs)) in
    let all : unexpected (said (drop i rs)) ≡ unexpected (repeated r) ++ rest =
    ap (λ (xs : List Repeated). unexpected (said xs)) (drop_more rs i d h) ∙ filter-append (λ s. not (is_expected s.kind)) (repeated r) (said (drop (i + 1) rs)) in
    ap (λ (xs : List TapeMessage). xs ++ rest) p ∙ append_assoc self (unexpected (repeated r)) rest ∙ ap (λ (xs : List TapeMessage). self ++ xs) (sym all) ∙ e

-- ---- what is said again changes nothing

same_text_again : (xs : List Text) (text : Text) → with_text (with_text xs text) text ≡ with_text xs text
same_text_again xs text =
    let e : with_text (text ∷ []) text ≡ text ∷ [] = ap (λ b. if (b || false) then text ∷ [] else (text ∷ []) ++ text ∷ []) ((bytes_eq-Decides text text).1 refl) in
    sym (with_texts-with_text xs (text ∷ []) text) ∙ ap (with_texts xs) e

earlier_text_again : (xs : List Text) (text other : Text) → with_text (with_text (with_text xs text) other) text ≡ with_text (with_text xs text) other
earlier_text_again xs text other =
    let both = text ∷ other ∷ [] in
    let e : with_text both text ≡ both = ap (λ b. if (b || (bytes_eq other text || false)) then both else both ++ text ∷ []) ((bytes_eq-Decides text text).1 refl) in
    sym (with_texts-with_text xs both text) ∙ ap (with_texts xs) e

-- a message more
abbrev once : Messages → TapeMessage → Messages
once m s = with_message_once m s.kind s.text

same_message_again : (m : Messages) (kind : MessageKind) (text : Text) → with_message_once (with_message_once m kind text) kind text ≡ with_message_once m kind text
same_message_again m SystemUnexpected text = ap (λ (x : List Text). let r : Messages = record m { system_unexpected = x } in r) (same_text_again m.system_unexpected text)
same_message_again m Unexpected text = ap (λ (x : List Text). let r : Messages = record m { unexpected = x } in r) (same_text_again m.unexpected text)
same_message_again m Expected text = ap (λ (x : List Text). let r : Messages = record m { expected = x } in r) (same_text_again m.expected text)
same_message_again m Plain text = ap (λ (x : List Text). let r : Messages = record m { plain = x } in r) (same_text_again m.plain text)

earlier_message_again : (m : Messages) (kind other : MessageKind) (text words : Text) →
    with_message_once (with_message_once (with_message_once m kind text) other words) kind text ≡ with_message_once (with_message_once m kind text) other words
earlier_message_again m SystemUnexpected SystemUnexpected text words = let e = earlier_text_again m.system_unexpected text words in cc
earlier_message_again m SystemUnexpected _ text words = let e = same_text_again m.system_unexpected text in cc
earlier_message_again m Unexpected Unexpected text words = let e = earlier_text_again m.unexpected text words in cc
earlier_message_again m Unexpected _ text words = let e = same_text_again m.unexpected text in cc
earlier_message_again m Expected Expected text words = let e = earlier_text_again m.expected text words in cc
earlier_message_again m Expected _ text words = let e = same_text_again m.expected text in cc
earlier_message_again m Plain Plain text words = let e = earlier_text_again m.plain text words in cc
earlier_message_again m Plain _ text words = let e = same_text_again m.plain text in cc

again_in_turn : (n : ℕ) (m : Messages) (a b : TapeMessage) → once m a ≡ m → once m b ≡ m → with_messages_once m (in_turn n a b) ≡ m
again_in_turn zero m a b first second = refl
again_in_turn (suc n) m a b first second = ap (λ (x : Messages). with_messages_once x (in_turn n b a)) first ∙ again_in_turn n m b a second first

-- an entry of one message
pub first_once : (m : Messages) (r : Repeated) (a : Message) → tape_message_of a ≡ first_of r → r.more ≡ 0 →
    with_message_once m (message_kind a) (message_text a) ≡ with_messages_once m (repeated r)
first_once m r a first alone =
    ap (once m) first ∙ ap (λ (n : ℕ). with_messages_once m (first_of r ∷ in_turn n (second_of r) (first_of r))) (sym alone)

-- of an entry of more its first and its second are said
pub both_once : (m : Messages) (r : Repeated) (a b : Message) → tape_message_of a ≡ first_of r → tape_message_of b ≡ second_of r → r.more ≢ 0 →
    with_message_once (with_message_once m (message_kind a) (message_text a)) (message_kind b) (message_text b) ≡ with_messages_once m (repeated r)
both_once m r a b first second more =
    let said_both = once (once m (first_of r)) (second_of r) in
    let counted : r.more ≡ suc (r.more - 1) = omega arith in
    let x = first_of r in
    let y = second_of r in
    ap (λ (s : TapeMessage). once (once m s) (tape_message_of b)) first ∙ ap (once (once m x)) second
    ∙ sym (again_in_turn (r.more - 1) said_both x y (earlier_message_again m x.kind y.kind x.text y.text) (same_message_again (once m x) y.kind y.text))
    ∙ ap (λ (n : ℕ). with_messages_once m (x ∷ in_turn n y x)) (sym counted)

-- the next entry is said, and then those after it
pub entries_once : (m : Messages) (rs : List Repeated) (i : ℕ) (d : Repeated) → i < length rs →
    with_messages_once m (said (drop i rs)) ≡ with_messages_once (with_messages_once m (repeated (get_or rs i d))) (said (drop (i + 1) rs))
entries_once m rs i d h =
    let r = get_or rs i d in
    ap (λ (xs : List Repeated). with_messages_once m (said xs)) (drop_more rs i d h) ∙ messages_append m (repeated r) (said (drop (i + 1) rs))
