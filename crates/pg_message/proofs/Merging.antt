-- Merging of errors is associative.
use Rattle.std.proofs.Common.{◌≡◌, Bool, true, false, refl, sym, ap, ◌∙◌, arith}
use Rattle.std.proofs.lemmas.Bool.Decides.{nat_tests}
use Rattle.std.specs.Prelude.{◌&&◌, ◌==◌, not, nat_lt, length, if◌then◌else◌}
use Rattle.pg_message.specs.Messages.{Messages, is_empty, with_messages}
use Rattle.pg_message.specs.Errors.{later, merged}
use Rattle.pg_message.specs.declared.error.ParseError.{ParseError}
use Rattle.pg_message.proofs.TextLists.{with_texts_assoc, is_empty-with_texts}

pub with_messages_assoc : (l m n : Messages) → with_messages l (with_messages m n) ≡ with_messages (with_messages l m) n
with_messages_assoc l m n =
    let system_unexpected = with_texts_assoc l.system_unexpected m.system_unexpected n.system_unexpected in
    let unexpected = with_texts_assoc l.unexpected m.unexpected n.unexpected in
    let expected = with_texts_assoc l.expected m.expected n.expected in
    let plain = with_texts_assoc l.plain m.plain n.plain in
    cc

later_assoc : (e f g : ParseError) → later e (later f g) ≡ later (later e f) g
later_assoc e f g = grind (arith, nat_tests, with_messages_assoc)

-- tests of the first and of the second messages, kind by kind or one after the other
pairs : (a b c d a' b' c' d' : Bool) → ((a && a') && (b && b') && (c && c') && (d && d')) ≡ ((a && b && c && d) && (a' && b' && c' && d'))
pairs true true true true a' b' c' d' = refl
pairs true true true false true true true d' = refl
pairs true true true false true true false d' = refl
pairs true true true false true false c' d' = refl
pairs true true true false false b' c' d' = refl
pairs true true false d true true c' d' = refl
pairs true true false d true false c' d' = refl
pairs true true false d false b' c' d' = refl
pairs true false c d true b' c' d' = refl
pairs true false c d false b' c' d' = refl
pairs false b c d a' b' c' d' = refl

is_empty-with_messages : (m n : Messages) → is_empty (with_messages m n) ≡ (is_empty m && is_empty n)
is_empty-with_messages m n =
    let system_unexpected = is_empty-with_texts m.system_unexpected n.system_unexpected in
    let unexpected = is_empty-with_texts m.unexpected n.unexpected in
    let expected = is_empty-with_texts m.expected n.expected in
    let plain = is_empty-with_texts m.plain n.plain in
    let kinds = pairs (length m.system_unexpected == 0) (length m.unexpected == 0) (length m.expected == 0) (length m.plain == 0) (length n.system_unexpected == 0) (length n.unexpected == 0) (length n.expected == 0) (length n.plain == 0) in
    cc

-- the merged error, from whether there are no messages in the first and in the second
abbrev pub merged_by : Bool → Bool → ParseError → ParseError → ParseError
merged_by b c e f = if b && not c then f else if c && not b then e else later e f

pub by_tests : (b c : Bool) (e f : ParseError) → is_empty e.messages ≡ b → is_empty f.messages ≡ c → merged e f ≡ merged_by b c e f
by_tests b c e f h k = ap (λ x. merged_by x (is_empty f.messages) e f) h ∙ ap (λ x. merged_by b x e f) k

-- where both have messages, or none has, the later one has as they
is_empty-later : (b : Bool) (e f : ParseError) → is_empty e.messages ≡ b → is_empty f.messages ≡ b → is_empty ((later e f).messages) ≡ b
is_empty-later b e f h k = either (nat_lt e.place f.place) (nat_lt f.place e.place)
  where
    both : (b : Bool) → (b && b) ≡ b
    both true = refl
    both false = refl

    either : (x y : Bool) → is_empty ((if x then f else if y then e else record e { messages = with_messages e.messages f.messages }).messages) ≡ b
    either true y = k
    either false true = h
    either false false = is_empty-with_messages e.messages f.messages ∙ ap (λ x. x && is_empty f.messages) h ∙ ap (λ x. b && x) k ∙ both b

pub merged_assoc : (e f g : ParseError) → merged e (merged f g) ≡ merged (merged e f) g
merged_assoc e f g = either (is_empty e.messages) (is_empty f.messages) (is_empty g.messages) refl refl refl
  where
    -- all with messages, or none: the later of them
    all : (b : Bool) → is_empty e.messages ≡ b → is_empty f.messages ≡ b → is_empty g.messages ≡ b → merged_by b b f g ≡ later f g → merged_by b b e (later f g) ≡ later e (later f g) → merged_by b b e f ≡ later e f → merged_by b b (later e f) g ≡ later (later e f) g → merged e (merged f g) ≡ merged (merged e f) g
    all b h k l fg e_fg ef ef_g =
        let after = ap (merged e) (by_tests b b f g k l ∙ fg) ∙ by_tests b b e (later f g) h (is_empty-later b f g k l) ∙ e_fg in
        let before = ap (λ x. merged x g) (by_tests b b e f h k ∙ ef) ∙ by_tests b b (later e f) g (is_empty-later b e f h k) l ∙ ef_g in
        after ∙ later_assoc e f g ∙ sym before

    either : (a b c : Bool) → is_empty e.messages ≡ a → is_empty f.messages ≡ b → is_empty g.messages ≡ c → merged e (merged f g) ≡ merged (merged e f) g
    either true true true h k l = all true h k l refl refl refl refl
    either false false false h k l = all false h k l refl refl refl refl
    either true true false h k l =
        ap (merged e) (by_tests true false f g k l) ∙ by_tests true false e g h l ∙ sym (ap (λ x. merged x g) (by_tests true true e f h k) ∙ by_tests true false (later e f) g (is_empty-later true e f h k) l)
    either true false true h k l =
        ap (merged e) (by_tests false true f g k l) ∙ by_tests true false e f h k ∙ sym (ap (λ x. merged x g) (by_tests true false e f h k) ∙ by_tests false true f g k l)
    either true false false h k l =
        ap (merged e) (by_tests false false f g k l) ∙ by_tests true false e (later f g) h (is_empty-later false f g k l) ∙ sym (ap (λ x. merged x g) (by_tests true false e f h k) ∙ by_tests false false f g k l)
    either false true true h k l =
        ap (merged e) (by_tests true true f g k l) ∙ by_tests false true e (later f g) h (is_empty-later true f g k l) ∙ sym (ap (λ x. merged x g) (by_tests false true e f h k) ∙ by_tests false true e g h l)
    either false true false h k l =
        ap (merged e) (by_tests true false f g k l) ∙ sym (ap (λ x. merged x g) (by_tests false true e f h k))
    either false false true h k l =
        ap (merged e) (by_tests false true f g k l) ∙ by_tests false false e f h k ∙ sym (ap (λ x. merged x g) (by_tests false false e f h k) ∙ by_tests false true (later e f) g (is_empty-later false e f h k) l)
