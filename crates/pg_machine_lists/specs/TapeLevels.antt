-- The levels of an expression over the lists of a run: levels keep only how long the lists were.
use Rattle.std.specs.Prelude.{ℕ, zero, suc, Bool, true, false, ◌||◌, List, [], ◌∷◌, ◌++◌, length, take, Option, Some, None, codes, slice_get, slice_set}
use Rattle.std.specs.Str.{encode_utf8_all}
use Rattle.pg_grammar_form.specs.Operators.{Operator}
use Rattle.pg_grammar_form.specs.declared.used.BuilderUse.{BuilderUse}
use Rattle.pg_grammar_value.specs.declared.trail.AppliedOperator.{AppliedOperator}
use Rattle.pg_grammar_value.specs.declared.trail.Fixity.TheVariants as fixity
use Rattle.pg_grammar_value.specs.declared.trail.TrailItem.{TrailItem}
use Rattle.pg_grammar_value.specs.declared.trail.TrailItem.TheVariants.{Alt, Rounds, Ops}
use Rattle.pg_table.specs.Trails.{applied}
use Rattle.pg_expand.specs.Rows.{row_numbered}
use Rattle.pg_expand.specs.declared.rows.Row.{Row}
use Rattle.pg_language.specs.Answers.{Given}
use Rattle.pg_language.specs.Errors.{seen_at}
use Rattle.pg_language.specs.OperatorReads.{Read, read_at, ambiguous_words}
use Rattle.pg_language.specs.RowReactions.{Setting}
use Rattle.pg_message.specs.Messages.{Text}
use Rattle.pg_message.specs.declared.kind.MessageKind.TheVariants.{SystemUnexpected, Expected, Plain}
use Rattle.pg_message_tape.specs.Messages.{TapeMessage}
use Rattle.pg_message_tape.specs.TapeErrors.{tape_error, kept_at, merged_tape_error, merged_messages, tape_error_after, messages_after}
use Rattle.pg_message_tape.specs.declared.message_tape.KeptError.{KeptError}
use Rattle.pg_message_tape.specs.declared.message_tape.TapeError.{TapeError}
use Rattle.pg_machine_lists.specs.RunTrees.{RunTrees, tree_count, built_after}

-- ---- levels, as the code has them

-- an infix operator that was read: its symbol, where the trees on its left begin, and the error without messages after it
pub record OnOperator : Type 0 where
  pub symbol : List ℕ
  pub forest : ℕ
  pub after : KeptError

pub data OnPreceding : Type 0 where
  on_nothing : OnPreceding
  on_right : OnOperator → OnPreceding
  on_left : OnOperator → OnPreceding
  on_non : OnOperator → OnPreceding

pub data OnLevel : Type 0 where
  -- the level of the row with this number: the prefix before the operand, if one was read, the error from the operand's start, where its
  -- trees begin, and how many messages came before
  on_row : (row : ℕ) (prefix : Option (List ℕ)) (entry : KeptError) (forest messages : ℕ) (before : OnPreceding) → OnLevel
  on_right_side : OnOperator → OnLevel

-- the parts of an expression that don't change: its form, the operators of the table at its start, and the index of its item in the trail
pub record OnSetting : Type 0 where
  pub parts : Setting
  pub operators : List Operator
  pub slot : ℕ

-- the lists of a run: everything but the table
pub record Lists : Type 0 where
  pub v : RunTrees
  pub t : List TrailItem
  pub x : List TapeMessage

-- a successful stretch of the expression
pub record OnStretch : Type 0 where
  pub consumed : Bool
  pub place : ℕ
  pub error : TapeError
  pub lists : Lists

-- ---- trails

-- the item with the operator added
abbrev pub with_read : Option TrailItem → AppliedOperator → TrailItem
with_read None o = Ops (o ∷ [])
with_read (Some (Alt k)) o = Ops (o ∷ [])
with_read (Some (Rounds k)) o = Ops (o ∷ [])
with_read (Some (Ops os)) o = Ops (os ++ o ∷ [])

abbrev pub noted_read : ℕ → AppliedOperator → List TrailItem → List TrailItem
noted_read slot o t = slice_set t slot (with_read (slice_get t slot) o)

abbrev pub with_trail : Lists → List TrailItem → Lists
with_trail l t = record { v = l.v; t = t; x = l.x }

abbrev pub with_forest : Lists → RunTrees → Lists
with_forest l v = record { v = v; t = l.t; x = l.x }

abbrev pub with_said : Lists → List TapeMessage → Lists
with_said l x = record { v = l.v; t = l.t; x = x }

-- ---- a row begins

-- the result of reading a prefix: the place after it, the level, and the lists
pub record Begun : Type 0 where
  pub place : ℕ
  pub level : OnLevel
  pub lists : Lists

-- where the term runs, and over which levels
pub record Down : Type 0 where
  pub place : ℕ
  pub levels : List OnLevel
  pub lists : Lists

-- what a level turns a stretch into
pub data OnFollowed : Type 0 where
  on_hands : OnStretch → OnFollowed
  -- an operand of the row with the number after this one runs from a place, over these additional levels
  on_runs : (row place : ℕ) (before : OnPreceding) (between : List OnLevel) (lists : Lists) → OnFollowed

-- the whole expression succeeded, or its term runs again
pub data OnClimbed : Type 0 where
  on_ended : OnStretch → OnClimbed
  on_again : Down → OnClimbed

-- an infix operator that was read, whose operands are the trees from an index on; `messages` messages are kept
abbrev pub operator_read : Read → (forest messages : ℕ) → OnOperator
operator_read q n m = record { symbol = q.operator.symbol; forest = n; after = kept_at m (tape_error q.end m) }

-- ---- messages

-- messages at a place
pub record Said : Type 0 where
  pub place : ℕ
  pub messages : List TapeMessage

abbrev pub saw : Text → TapeMessage
saw seen = record { kind = SystemUnexpected; text = seen }

abbrev pub wanted : Text → TapeMessage
wanted name = record { kind = Expected; text = name }

-- where none of these prefixes or postfixes is read: something without a name was expected
abbrev pub no_affix_said : List ℕ → List Operator → ℕ → Said
no_affix_said text [] i = record { place = i; messages = wanted [] ∷ [] }
no_affix_said text (o ∷ os) i = record { place = i; messages = saw (seen_at text i) ∷ wanted [] ∷ [] }

-- where none of these operators is read
abbrev pub unread_said : List ℕ → List Operator → ℕ → Said
unread_said text [] i = record { place = i; messages = [] }
unread_said text (o ∷ os) i = record { place = i; messages = saw (seen_at text i) ∷ [] }

-- where one of these operators is read: its use would be ambiguous
abbrev pub ambiguous_said : List ℕ → List ℕ → List Operator → ℕ → Option Read → Said
ambiguous_said side text operators i None = unread_said text operators i
ambiguous_said side text operators i (Some q) = record { place = q.end; messages = record { kind = Plain; text = ambiguous_words side } ∷ [] }

-- where none of these infix operators of a row follows its first operand
abbrev pub no_infix_said : List ℕ → List Operator → ℕ → Said
no_infix_said text [] i = record { place = i; messages = [] }
no_infix_said text (o ∷ os) i = record { place = i; messages = saw (seen_at text i) ∷ wanted (codes "operator") ∷ [] }

-- ---- stretches

-- further messages merged with the error of a stretch
abbrev pub said_after : Said → OnStretch → OnStretch
said_after f z = let x : List TapeMessage = z.lists.x ++ f.messages in
    let kept : KeptError = kept_at (length z.lists.x) z.error in
    let error : TapeError = tape_error f.place (length z.lists.x) in
    record { consumed = z.consumed; place = z.place; error = merged_tape_error kept error x; lists = with_said z.lists (merged_messages kept error x) }

-- the error of a stretch put after a kept one, unless the stretch consumed; the flag says whether what precedes the stretch consumed
abbrev pub after_kept : Bool → KeptError → OnStretch → OnStretch
after_kept c kept z = record {
  consumed = c || z.consumed;
  place = z.place;
  error = tape_error_after z.consumed kept z.error z.lists.x;
  lists = with_said z.lists (messages_after z.consumed kept z.error z.lists.x);
}

-- an operator applied to the trees from an index on
abbrev pub applied_from : BuilderUse → List ℕ → ℕ → OnStretch → OnStretch
applied_from used symbol n z = record {
  consumed = z.consumed;
  place = z.place;
  error = z.error;
  lists = with_forest z.lists (built_after used.shape (encode_utf8_all symbol) n z.lists.v);
}

module _ (G : Given) (e : OnSetting) where
  abbrev pub begun : ℕ → ℕ → OnPreceding → Lists → Row → Option Read → Begun
  begun k i before l row None = let x : List TapeMessage = l.x ++ (no_affix_said G.text row.prefix i).messages in record {
    place = i;
    level = on_row k None (kept_at (length x) (tape_error i (length l.x))) (tree_count l.v) (length l.x) before;
    lists = with_said l x;
  }
  begun k i before l row (Some q) = record {
    place = q.end;
    level = on_row k (Some q.operator.symbol) (kept_at (length l.x) (tape_error q.end (length l.x))) (tree_count l.v) (length l.x) before;
    lists = with_trail l (noted_read e.slot (applied fixity.Prefix q.operator) l.t);
  }

  abbrev pub row_begun : ℕ → ℕ → OnPreceding → Lists → Begun
  row_begun k i before l = begun k i before l (row_numbered e.operators k) (read_at G.grammar G.text e.parts.item (row_numbered e.operators k).prefix i)

  -- the rows with numbers from the given one down begin, over these levels
  abbrev pub down : ℕ → ℕ → List OnLevel → Lists → Down
  down zero i levels l = record { place = i; levels = levels; lists = l }
  down (suc k) i levels l = let b : Begun = row_begun (suc k) i on_nothing l in down k b.place (b.level ∷ levels) b.lists

  -- an operand of the row with the number after this one runs, after what precedes it
  abbrev pub operand_down : ℕ → ℕ → OnPreceding → List OnLevel → Lists → Down
  operand_down k i before levels l = let b : Begun = row_begun (suc k) i before l in down k b.place (b.level ∷ levels) b.lists

  -- ---- stretches

  -- at the end of a stretch: no operator of one associativity of the row is read, or the one that is would be an ambiguous use
  abbrev pub says_right : Row → OnStretch → OnStretch
  says_right r z = said_after (ambiguous_said (codes "right") G.text r.right z.place (read_at G.grammar G.text e.parts.item r.right z.place)) z

  abbrev pub says_left : Row → OnStretch → OnStretch
  says_left r z = said_after (ambiguous_said (codes "left") G.text r.left z.place (read_at G.grammar G.text e.parts.item r.left z.place)) z

  abbrev pub says_non : Row → OnStretch → OnStretch
  says_non r z = said_after (ambiguous_said (codes "non") G.text r.non z.place (read_at G.grammar G.text e.parts.item r.non z.place)) z

  abbrev pub joined_from : OnOperator → OnStretch → OnStretch
  joined_from q = applied_from e.parts.builders.infix q.symbol q.forest

  -- the stretch after an infix operator becomes one that begins with it
  abbrev pub after_read : OnOperator → OnStretch → OnStretch
  after_read q = after_kept true q.after

  -- ---- an operand of a row: its prefix and its postfix

  abbrev pub from_entry : Option (List ℕ) → KeptError → ℕ → OnStretch → OnStretch
  from_entry None entry n z = after_kept false entry z
  from_entry (Some symbol) entry n z = after_kept true entry (applied_from e.parts.builders.prefix symbol n z)

  abbrev pub to_postfix : Row → ℕ → OnStretch → Option Read → OnStretch
  to_postfix r n z None = said_after (no_affix_said G.text r.postfix z.place) z
  to_postfix r n z (Some q) = record {
    consumed = true;
    place = q.end;
    error = tape_error q.end (length z.lists.x);
    lists = with_trail (with_forest z.lists (built_after e.parts.builders.postfix.shape (encode_utf8_all q.operator.symbol) n z.lists.v))
        (noted_read e.slot (applied fixity.Postfix q.operator) z.lists.t);
  }

  abbrev pub operand_of : Row → Option (List ℕ) → KeptError → ℕ → OnStretch → OnStretch
  operand_of r prefix entry n z = let y : OnStretch = from_entry prefix entry n z in
      to_postfix r n y (read_at G.grammar G.text e.parts.item r.postfix y.place)

  -- ---- levels

  -- the lists after an infix operator was read after a stretch, with the first messages kept
  abbrev pub lists_after : Read → ℕ → OnStretch → Lists
  lists_after q m z = with_said (with_trail z.lists (noted_read e.slot (applied fixity.Infix q.operator) z.lists.t)) (take m z.lists.x)

  abbrev pub first_on : ℕ → Row → (forest messages : ℕ) → OnStretch → Option Read → Option Read → Option Read → OnFollowed
  first_on k r n m z (Some q) left non = on_runs k q.end (on_right (operator_read q n m)) [] (lists_after q m z)
  first_on k r n m z None (Some q) non = on_runs k q.end (on_left (operator_read q n m)) [] (lists_after q m z)
  first_on k r n m z None None (Some q) = on_runs k q.end (on_non (operator_read q n m)) [] (lists_after q m z)
  first_on k r n m z None None None = on_hands (said_after (no_infix_said G.text (r.right ++ (r.left ++ r.non)) z.place) z)

  abbrev pub right_on : ℕ → Row → (forest messages : ℕ) → OnOperator → OnStretch → Option Read → OnFollowed
  right_on k r n m q z (Some p) = on_runs k p.end (on_right (operator_read p n m)) (on_right_side q ∷ []) (lists_after p m z)
  right_on k r n m q z None = on_hands (after_read q (joined_from q (says_non r (says_left r (said_after (unread_said G.text r.right z.place) z)))))

  abbrev pub left_on : ℕ → Row → ℕ → OnOperator → OnStretch → Option Read → OnFollowed
  left_on k r m q z (Some p) = on_runs k p.end (on_left (operator_read p q.forest m)) [] (lists_after p m (joined_from q z))
  left_on k r m q z None = on_hands (after_read q (joined_from q (says_non r (says_right r (said_after (unread_said G.text r.left z.place) z)))))

  abbrev pub row_on : ℕ → Row → (forest messages : ℕ) → OnPreceding → OnStretch → OnFollowed
  row_on k r n m on_nothing z = first_on k r n m z (read_at G.grammar G.text e.parts.item r.right z.place)
      (read_at G.grammar G.text e.parts.item r.left z.place) (read_at G.grammar G.text e.parts.item r.non z.place)
  row_on k r n m (on_right q) z = right_on k r n m q z (read_at G.grammar G.text e.parts.item r.right z.place)
  row_on k r n m (on_left q) z = left_on k r m q z (read_at G.grammar G.text e.parts.item r.left z.place)
  row_on k r n m (on_non q) z = on_hands (after_read q (joined_from q (says_non r (says_left r (says_right r z)))))

  abbrev pub level_on : OnLevel → OnStretch → OnFollowed
  level_on (on_row zero prefix entry n m before) z = on_hands z
  level_on (on_row (suc k) prefix entry n m before) z =
      row_on k (row_numbered e.operators (suc k)) n m before (operand_of (row_numbered e.operators (suc k)) prefix entry n z)
  level_on (on_right_side q) z = on_hands (after_read q (joined_from q z))

  -- ---- all levels

  abbrev pub on_followed : (OnStretch → OnClimbed) → List OnLevel → OnFollowed → OnClimbed
  on_followed next levels (on_hands z) = next z
  on_followed next levels (on_runs k i before between l) = on_again (operand_down k i before (between ++ levels) l)

  abbrev pub on_climb : List OnLevel → OnStretch → OnClimbed
  on_climb [] z = on_ended z
  on_climb (l ∷ levels) z = on_followed (λ y. on_climb levels y) levels (level_on l z)

-- ---- the term failed

-- the failure so far
pub record OnFailure : Type 0 where
  pub consumed : Bool
  pub error : TapeError
  pub messages : List TapeMessage

abbrev pub failed_after : Bool → KeptError → OnFailure → OnFailure
failed_after c kept f = record {
  consumed = c || f.consumed;
  error = tape_error_after f.consumed kept f.error f.messages;
  messages = messages_after f.consumed kept f.error f.messages;
}

abbrev pub was_read : Option (List ℕ) → Bool
was_read None = false
was_read (Some symbol) = true

abbrev pub failed_before : OnPreceding → OnFailure → OnFailure
failed_before on_nothing f = f
failed_before (on_right q) f = failed_after true q.after f
failed_before (on_left q) f = failed_after true q.after f
failed_before (on_non q) f = failed_after true q.after f

abbrev pub level_failed : OnLevel → OnFailure → OnFailure
level_failed (on_row k prefix entry n m before) f = failed_before before (failed_after (was_read prefix) entry f)
level_failed (on_right_side q) f = failed_after true q.after f

abbrev pub on_failed : List OnLevel → OnFailure → OnFailure
on_failed [] f = f
on_failed (l ∷ levels) f = on_failed levels (level_failed l f)
