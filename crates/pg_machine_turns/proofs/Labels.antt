-- What forms around a part say on the list of messages: a label puts its name in place of what was expected.
use Rattle.std.proofs.Common.{◌≡◌, Bool, true, false, refl, sym, ◌∙◌, subst, length, List, ℕ, ◌++◌}
use Rattle.std.specs.Prelude.{◌==◌}
use Rattle.std.specs.Str.{encode_utf8_all}
use Rattle.pg_message.specs.Messages.{is_empty}
use Rattle.pg_message.specs.declared.answer.AnswerKind.TheVariants.{EmptyOk, EmptyError}
use Rattle.pg_language.specs.Errors.{Error, relabel}
use Rattle.pg_grammar_form.specs.declared.form.Around.{Around}
use Rattle.pg_grammar_form.specs.declared.form.Around.TheVariants as kind
use Rattle.pg_language.specs.Reactions.{ok_kind, error_kind, labelled_by}
use Rattle.pg_message_tape.specs.Messages.{TapeMessage, relabelled}
use Rattle.pg_message_tape.specs.TapeErrors.{Says, says}
use Rattle.pg_message_tape.specs.declared.message_tape.TapeError.{TapeError}
use Rattle.pg_message_tape.proofs.Merged.{none_with_messages, is_none}
use Rattle.pg_message_tape.proofs.Renamed.{renamed_says}
use Rattle.pg_machine_turns.specs.Tape.{label_succeeded, label_failed, messages_around}
use Rattle.pg_machine_turns.specs.declared.frame.Reply.TheVariants.{Succeeded, Failed}

label_failed_says : {x y : List TapeMessage} {error : TapeError} {e : Error} (c : Bool) (name : List ℕ) → Says x error e y → Says x error (relabel (error_kind c) (encode_utf8_all name) e) (label_failed c name error y)
label_failed_says true name s = s
label_failed_says false name s = renamed_says name s

-- an empty ok answer: whether something is said, on both sides
ok_says : {x y : List TapeMessage} {error : TapeError} {e : Error} (name : List ℕ) (b : Bool) → Says x error e y → is_empty e.messages ≡ b → (error.from == length y) ≡ b →
    Says x error (relabel EmptyOk (encode_utf8_all name) e) (label_succeeded false name error y)
ok_says {x = x} {y = y} {error = error} {e = e} name true s h k =
    let said : e ≡ relabel EmptyOk (encode_utf8_all name) e = rw h refl in
    let list : y ≡ label_succeeded false name error y = rw k refl in
    subst (λ (z : List TapeMessage). Says x error (relabel EmptyOk (encode_utf8_all name) e) z) list (subst (λ (w : Error). Says x error w y) said s)
ok_says {x = x} {y = y} {error = error} {e = e} name false s h k =
    let said : relabel EmptyError (encode_utf8_all name) e ≡ relabel EmptyOk (encode_utf8_all name) e = rw h refl in
    let list : relabelled name error.from y ≡ label_succeeded false name error y = rw k refl in
    subst (λ (z : List TapeMessage). Says x error (relabel EmptyOk (encode_utf8_all name) e) z) list (subst (λ (w : Error). Says x error w (relabelled name error.from y)) said (renamed_says name s))

whether : {x y : List TapeMessage} {error : TapeError} {e : Error} → Says x error e y → (error.from == length y) ≡ is_empty e.messages
whether {x = x} (says g m) = is_none (x ++ g) m ∙ sym (none_with_messages m)

label_succeeded_says : {x y : List TapeMessage} {error : TapeError} {e : Error} (c : Bool) (name : List ℕ) → Says x error e y → Says x error (relabel (ok_kind c) (encode_utf8_all name) e) (label_succeeded c name error y)
label_succeeded_says true name s = s
label_succeeded_says {e = e} false name s = ok_says name (is_empty e.messages) s refl (whether s)

-- ---- what forms around a part say

pub around_succeeded_says : {x y : List TapeMessage} {error : TapeError} {e : Error} (around : Around) (c : Bool) (j : ℕ) → Says x error e y → Says x error (labelled_by around (ok_kind c) e) (messages_around around (Succeeded c j error) y)
around_succeeded_says (kind.Label name) c j s = label_succeeded_says c name s
around_succeeded_says _ c j s = s

pub around_failed_says : {x y : List TapeMessage} {error : TapeError} {e : Error} (around : Around) (c : Bool) → Says x error e y → Says x error (labelled_by around (error_kind c) e) (messages_around around (Failed c error) y)
around_failed_says (kind.Label name) c s = label_failed_says c name s
around_failed_says _ c s = s
