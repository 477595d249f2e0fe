-- Names in place of what was expected, on the list of messages.
use Rattle.std.proofs.Common.{◌≡◌, List, [], ◌∷◌, ◌++◌, refl, ap, sym, ◌∙◌, subst, append_assoc, length, take, drop, ℕ}
use Rattle.std.specs.Str.{encode_utf8_all}
use Rattle.pg_message.specs.Messages.{Text, Messages, no_messages}
use Rattle.pg_message.specs.declared.answer.AnswerKind.TheVariants.{EmptyError}
use Rattle.pg_message.specs.declared.kind.MessageKind.{MessageKind}
use Rattle.pg_message.specs.declared.kind.MessageKind.TheVariants.{SystemUnexpected, Unexpected, Expected, Plain}
use Rattle.pg_language.specs.Errors.{Error, relabel}
use Rattle.pg_message_tape.specs.Messages.{TapeMessage, with_message_once, with_messages_once, error_of, unexpected, named, relabelled}
use Rattle.pg_message_tape.specs.TapeErrors.{tape_error, Says, says}
use Rattle.pg_message_tape.specs.declared.message_tape.TapeError.{TapeError}
use Rattle.pg_message_tape.proofs.Merged.{messages_append, take_seam, drop_seam}

-- nothing is expected
without_expected : Messages → Messages
without_expected m = record m { expected = [] }

unexpected_messages : (a : Messages) (m : List TapeMessage) → with_messages_once (without_expected a) (unexpected m) ≡ without_expected (with_messages_once a m)
unfolding without_expected
unexpected_messages a [] = refl
unexpected_messages a (x ∷ m) = by_kind x.kind x.text (λ b. unexpected_messages b m)
  where
    by_kind : (kind : MessageKind) (text : Text) → ((b : Messages) → with_messages_once (record b { expected = [] }) (unexpected m) ≡ record (with_messages_once b m) { expected = [] }) → (let s : TapeMessage = record { kind = kind; text = text } in with_messages_once (record a { expected = [] }) (unexpected (s ∷ m)) ≡ record (with_messages_once a (s ∷ m)) { expected = [] })
    by_kind SystemUnexpected text ih = ih (with_message_once a SystemUnexpected text)
    by_kind Unexpected text ih = ih (with_message_once a Unexpected text)
    by_kind Expected text ih = ih (with_message_once a Expected text)
    by_kind Plain text ih = ih (with_message_once a Plain text)

renamed_messages : (m : List TapeMessage) (name : List ℕ) → with_messages_once no_messages (unexpected m ++ named name ∷ []) ≡ record (with_messages_once no_messages m) { expected = encode_utf8_all name ∷ [] }
unfolding without_expected
renamed_messages m name =
    messages_append no_messages (unexpected m) (named name ∷ []) ∙ ap (λ (a : Messages). with_message_once a Expected (encode_utf8_all name)) (unexpected_messages no_messages m)

-- the error of which this is said
pub renamed_says : {x y : List TapeMessage} {error : TapeError} {e : Error} (name : List ℕ) → Says x error e y → Says x error (relabel EmptyError (encode_utf8_all name) e) (relabelled name error.from y)
renamed_says {x = x} name (says {place = p} g m) =
    let from = length (x ++ g) in
    let front : take from ((x ++ g) ++ m) ≡ x ++ g = take_seam (x ++ g) m in
    let own : drop from ((x ++ g) ++ m) ≡ m = drop_seam (x ++ g) m in
    let lists : (x ++ g) ++ (unexpected m ++ named name ∷ []) ≡ relabelled name from ((x ++ g) ++ m) =
    sym (append_assoc (x ++ g) (unexpected m) (named name ∷ [])) ∙ ap (λ (z : List TapeMessage). z ++ unexpected m ++ named name ∷ []) (sym front)
    ∙ ap (λ (z : List TapeMessage). take from ((x ++ g) ++ m) ++ unexpected z ++ named name ∷ []) (sym own) in
    let said : error_of p (unexpected m ++ named name ∷ []) ≡ relabel EmptyError (encode_utf8_all name) (error_of p m) = ap (λ (z : Messages). let r : Error = record { place = p; messages = z } in r) (renamed_messages m name) in
    subst (λ (z : List TapeMessage). Says x (tape_error p from) (relabel EmptyError (encode_utf8_all name) (error_of p m)) z) lists
    (subst (λ (w : Error). Says x (tape_error p from) w ((x ++ g) ++ (unexpected m ++ named name ∷ []))) said (says {x = x} {place = p} g (unexpected m ++ named name ∷ [])))
