-- The error of an answer that consumed stands alone, and what was said before it may be dropped.
use Rattle.std.proofs.Common.{◌≡◌, ℕ, List, [], ◌∷◌, ◌++◌, Bool, true, false, sym, ap, ◌∙◌, subst, append_assoc, append-nil, length, take}
use Rattle.std.proofs.Math.Dec.{eqb-suc-zero}
use Rattle.std.specs.Prelude.{◌==◌, if◌then◌else◌}
use Rattle.pg_language.specs.Errors.{Error}
use Rattle.pg_language.specs.Reactions.{error_after}
use Rattle.pg_message_tape.specs.Messages.{TapeMessage, error_of}
use Rattle.pg_message_tape.specs.TapeErrors.{tape_error, kept_at, Says, says, Holds, holds}
use Rattle.pg_message_tape.specs.declared.message_tape.KeptError.{KeptError}
use Rattle.pg_message_tape.specs.declared.message_tape.TapeError.{TapeError}
use Rattle.pg_message_tape.proofs.Merged.{take_seam, is_none, alone, merge_says}
use Rattle.pg_machine_turns.specs.Tape.{tape_error_past, messages_past}

-- by whether anything is said of the answer
stands_past : (x g m k n : List TapeMessage) (p q : ℕ) → (let y : List TapeMessage = (x ++ g) ++ m in let kept : KeptError = kept_at (length y) (tape_error p (length (x ++ g))) in
    let error : TapeError = tape_error q (length (y ++ k)) in let z : List TapeMessage = (y ++ k) ++ n in
    Says x (tape_error_past true kept error z) (error_of q n) (messages_past true kept error z))
stands_past x g m k [] p q =
    let y = (x ++ g) ++ m in
    let z = (y ++ k) ++ [] in
    let none : (length (y ++ k) == length z) ≡ true = is_none (y ++ k) [] in
    let front : take (length (x ++ g)) z ≡ x ++ g =
    ap (take (length (x ++ g))) (append_assoc y k [] ∙ append_assoc (x ++ g) m (k ++ [])) ∙ take_seam (x ++ g) (m ++ (k ++ [])) in
    subst (λ (b : Bool). Says x (if b then tape_error q (length (x ++ g)) else tape_error q (length (y ++ k))) (error_of q []) (if b then take (length (x ++ g)) z else z)) (sym none)
    (subst (λ (w : List TapeMessage). Says x (tape_error q (length (x ++ g))) (error_of q []) w) (append-nil (x ++ g) ∙ sym front) (says {x = x} {place = q} g []))
stands_past x g m k (s ∷ n) p q =
    let y = (x ++ g) ++ m in
    let z = (y ++ k) ++ (s ∷ n) in
    let some : (length (y ++ k) == length z) ≡ false = is_none (y ++ k) (s ∷ n) ∙ eqb-suc-zero (length n) in
    subst (λ (b : Bool). Says x (if b then tape_error q (length (x ++ g)) else tape_error q (length (y ++ k))) (error_of q (s ∷ n)) (if b then take (length (x ++ g)) z else z)) (sym some)
    (alone (holds {x = x} {place = p} g m) (says {place = q} k (s ∷ n)))

-- the error after one that is kept
pub past_says : {x y z : List TapeMessage} {kept : KeptError} {error : TapeError} {e f : Error} (c : Bool) → Holds x kept e y → Says y error f z →
    Says x (tape_error_past c kept error z) (error_after c e f) (messages_past c kept error z)
past_says {x = x} true (holds {place = p} g m) (says {place = q} k n) = stands_past x g m k n p q
past_says false h s = merge_says h s
