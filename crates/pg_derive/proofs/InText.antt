-- Errors are merged and labelled alike with their positions and without.
use Rattle.std.proofs.Common.{◌≡◌, ℕ, List, Bool, true, false, refl, nat_lt}
use Rattle.std.specs.Prelude.{◌&&◌, not, if◌then◌else◌}
use Rattle.pg_text.specs.Position.{start}
use Rattle.pg_message.specs.Errors.{merged, labelled, renamed}
use Rattle.pg_message.specs.Messages.{Text, is_empty, with_messages}
use Rattle.pg_message.specs.declared.answer.AnswerKind.{AnswerKind}
use Rattle.pg_message.specs.declared.answer.AnswerKind.TheVariants.{ConsumedOk, ConsumedError, EmptyOk, EmptyError}
use Rattle.pg_language.specs.Errors.{Error, with_position, without_position, in_text, merge, relabel}

pub merged_in_text : (text : List ℕ) (one other : Error) → in_text text (merge one other) ≡ merged (in_text text one) (in_text text other)
merged_in_text text one other =
    go (is_empty one.messages && not (is_empty other.messages)) (is_empty other.messages && not (is_empty one.messages)) (nat_lt one.place other.place) (nat_lt other.place one.place)
  where
    go : (a b c d : Bool) →
        in_text text (without_position (if a then with_position start other else if b then with_position start one else
        if c then with_position start other else if d then with_position start one else
        record (with_position start one) { messages = with_messages one.messages other.messages })) ≡
        (if a then in_text text other else if b then in_text text one else if c then in_text text other else if d then in_text text one else
        record (in_text text one) { messages = with_messages one.messages other.messages })
    go true b c d = refl
    go false true c d = refl
    go false false true d = refl
    go false false false true = refl
    go false false false false = refl

pub relabelled_in_text : (text : List ℕ) (kind : AnswerKind) (name : Text) (e : Error) → in_text text (relabel kind name e) ≡ labelled (in_text text e) kind name
relabelled_in_text text ConsumedOk name e = refl
relabelled_in_text text ConsumedError name e = refl
relabelled_in_text text EmptyOk name e = go (is_empty e.messages)
  where
    go : (b : Bool) → in_text text (without_position (if b then with_position start e else renamed (with_position start e) name)) ≡ (if b then in_text text e else renamed (in_text text e) name)
    go true = refl
    go false = refl
relabelled_in_text text EmptyError name e = refl
