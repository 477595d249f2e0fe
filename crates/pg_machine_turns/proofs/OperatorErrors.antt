-- What is said where operators are not read: short forms of the errors that Text.Parsec.Expr's parsers come to.
use Rattle.std.proofs.Common.{◌≡◌, ℕ, List, [], ◌∷◌, ◌++◌, length, Bool, true, false, not, refl, sym, ap, ◌∙◌, arith}
use Rattle.std.proofs.lemmas.Bool.Decides.{nat_tests}
use Rattle.std.specs.Prelude.{Option, Some, None, codes, ◌==◌, ◌&&◌, nat_lt, if◌then◌else◌}
use Rattle.pg_grammar_form.specs.Operators.{Operator}
use Rattle.pg_tree.specs.Trees.{Tree}
use Rattle.pg_expand.specs.declared.rows.Row.{Row}
use Rattle.pg_language.specs.Answers.{Given}
use Rattle.pg_language.specs.Derives.{Spot}
use Rattle.pg_language.specs.Errors.{Error, merge, relabel, with_position, without_position, no_messages_at, seen_at}
use Rattle.pg_language.specs.OperatorReads.{Read, read_at, unread, told_ambiguous}
use Rattle.pg_language.specs.Outcomes.{ok}
use Rattle.pg_language.specs.RowReactions.{Setting, no_affix, ambiguous_right, ambiguous_left, ambiguous_non}
use Rattle.std.proofs.lemmas.Slice.Eq.{bytes_eq-Decides}
use Rattle.std.specs.Cmp.{first_so}
use Rattle.pg_message.specs.Messages.{Text, Messages, is_empty, with_texts, with_messages}
use Rattle.pg_message.specs.declared.error.ParseError.{ParseError}
use Rattle.pg_message.specs.declared.answer.AnswerKind.TheVariants.{EmptyOk}
use Rattle.pg_message.specs.Errors.{later, merged}
use Rattle.pg_message.proofs.Merging.{merged_assoc}
use Rattle.pg_message.proofs.Nothing.{merged-nothing}
use Rattle.pg_message.proofs.TextLists.{is_empty-with_texts}
use Rattle.pg_text.specs.Position.{start}
use Rattle.pg_message_tape.specs.Messages.{error_of}
use Rattle.pg_machine_turns.specs.Levels.{no_right, no_left, no_infix}
use Rattle.pg_machine_lists.specs.TapeLevels.{Said, no_affix_said, unread_said, ambiguous_said, no_infix_said}

-- the error that was said
abbrev pub error_said : Said → Error
error_said f = error_of f.place f.messages

-- ---- one list of operators

pub no_affix_is : (text : List ℕ) (operators : List Operator) (i : ℕ) → error_said (no_affix_said text operators i) ≡ no_affix text operators i
no_affix_is text [] i = refl
no_affix_is text (o ∷ os) i = refl

pub unread_is : (text : List ℕ) (operators : List Operator) (i : ℕ) → error_said (unread_said text operators i) ≡ unread text operators i
unread_is text [] i = refl
unread_is text (o ∷ os) i = refl

pub ambiguous_is : (side text : List ℕ) (operators : List Operator) (i : ℕ) (q : Option Read) →
    error_said (ambiguous_said side text operators i q) ≡ told_ambiguous text operators side i q
ambiguous_is side text operators i None = unread_is text operators i
ambiguous_is side text operators i (Some q) = refl

-- ---- several at one place

unread_twice : (text : List ℕ) (a b : List Operator) (i : ℕ) → merge (unread text a i) (unread text b i) ≡ unread text (a ++ b) i
unread_twice text [] [] i = grind (arith, nat_tests)
unread_twice text [] (p ∷ more) i = refl
unread_twice text (o ∷ rest) [] i = grind (arith, nat_tests)
unread_twice text (o ∷ rest) (p ∷ more) i = let same = (bytes_eq-Decides (seen_at text i) (seen_at text i)).1 refl in grind (arith, nat_tests, same)

-- an error merged with another one stands as it is merged under positions
resumed : (e f : Error) → with_position start (merge e f) ≡ merged (with_position start e) (with_position start f)
resumed e f = by_tests (is_empty e.messages && not (is_empty f.messages)) (is_empty f.messages && not (is_empty e.messages)) (nat_lt e.place f.place) (nat_lt f.place e.place)
  where
    by_tests : (a b c d : Bool) → (let m : ParseError = if a then with_position start f else if b then with_position start e else
        if c then with_position start f else if d then with_position start e else record (with_position start e) { messages = with_messages e.messages f.messages } in
        with_position start (without_position m) ≡ m)
    by_tests true b c d = refl
    by_tests false true c d = refl
    by_tests false false true d = refl
    by_tests false false false true = refl
    by_tests false false false false = refl

-- merging is associative
merge_assoc : (e f g : Error) → merge e (merge f g) ≡ merge (merge e f) g
merge_assoc e f g =
    ap (λ (m : ParseError). without_position (merged (with_position start e) m)) (resumed f g)
    ∙ ap without_position (merged_assoc (with_position start e) (with_position start f) (with_position start g))
    ∙ ap (λ (m : ParseError). without_position (merged m (with_position start g))) (sym (resumed e f))

-- an error says something, or it stands at the place
abbrev Talks : ℕ → Error → Type 0
Talks i e = is_empty e.messages ≡ true → e.place ≡ i

talks_unread : (text : List ℕ) (operators : List Operator) (i : ℕ) → Talks i (unread text operators i)
talks_unread text [] i = λ h. refl
talks_unread text (o ∷ os) i = λ h. refl

talks_told : (side text : List ℕ) (operators : List Operator) (i : ℕ) (q : Option Read) → Talks i (told_ambiguous text operators side i q)
talks_told side text operators i None = talks_unread text operators i
talks_told side text operators i (Some q) = λ h. cc

both_true : (a b c d : Bool) → (a ≡ true → c ≡ true) → (b ≡ true → d ≡ true) → (a && b) ≡ true → (c && d) ≡ true
both_true true true c d f g h = ap (λ (k : Bool). k && d) (f refl) ∙ g refl
both_true true false c d f g h = absurd cc
both_true false b c d f g h = absurd cc

-- where nothing is left of two lists of messages, the first had none
empty_first : (m n : Messages) → is_empty (with_messages m n) ≡ true → is_empty m ≡ true
empty_first m n is =
    let none : (xs ys : List Text) → (length (with_texts xs ys) == 0) ≡ true → (length xs == 0) ≡ true =
    λ xs ys h. first_so (length xs == 0) (length ys == 0) (sym (is_empty-with_texts xs ys) ∙ h) in
    both_true _ _ _ _ (both_true _ _ _ _ (both_true _ _ _ _ (none m.system_unexpected n.system_unexpected) (none m.unexpected n.unexpected)) (none m.expected n.expected)) (none m.plain n.plain) is

talks_merge : (i : ℕ) (e f : Error) → Talks i e → Talks i f → Talks i (merge e f)
talks_merge i e f k l =
    by_tests (is_empty e.messages && not (is_empty f.messages)) (is_empty f.messages && not (is_empty e.messages)) (nat_lt e.place f.place) (nat_lt f.place e.place)
  where
    by_tests : (a b c d : Bool) → (let m : ParseError = if a then with_position start f else if b then with_position start e else
        if c then with_position start f else if d then with_position start e else record (with_position start e) { messages = with_messages e.messages f.messages } in
        is_empty m.messages ≡ true → m.place ≡ i)
    by_tests true b c d = l
    by_tests false true c d = k
    by_tests false false true d = l
    by_tests false false false true = k
    by_tests false false false false = λ h. k (empty_first e.messages f.messages h)

-- then one without messages there changes nothing
merge_nothing : (i : ℕ) (e : Error) → Talks i e → merge e (no_messages_at i) ≡ e
merge_nothing i e a = either (is_empty e.messages) refl
  where
    either : (b : Bool) → is_empty e.messages ≡ b → merge e (no_messages_at i) ≡ e
    either true is = let l : e.place ≡ i = a is in ap without_position (merged-nothing (with_position start e) (with_position start (no_messages_at i)) refl (omega (arith, l)))
    either false is =
        ap (λ (b : Bool). without_position (if b && false then with_position start (no_messages_at i) else if not b then with_position start e else
        later (with_position start e) (with_position start (no_messages_at i)))) is

-- three that are said one after the other
said_in_turn : (i : ℕ) (e f g h : Error) → Talks i f → Talks i g → Talks i h → merge e (merge (merge f (merge g h)) (no_messages_at i)) ≡ merge (merge (merge e f) g) h
said_in_turn i e f g h k l m =
    ap (merge e) (merge_nothing i (merge f (merge g h)) (talks_merge i f (merge g h) k (talks_merge i g h l m)))
    ∙ merge_assoc e f (merge g h) ∙ merge_assoc (merge e f) g h

-- ---- where no infix operator of a row follows its first operand

-- what is said of all of them goes by one name
named_operator : (text : List ℕ) (right left non : List Operator) (i : ℕ) →
    relabel EmptyOk (codes "operator") (unread text ((right ++ (left ++ non)) ++ ((left ++ (right ++ non)) ++ non)) i) ≡ error_said (no_infix_said text (right ++ (left ++ non)) i)
named_operator text [] [] [] i = refl
named_operator text (o ∷ right) left non i = refl
named_operator text [] (o ∷ left) non i = refl
named_operator text [] [] (o ∷ non) i = refl

all_unread : (text : List ℕ) (right left non : List Operator) (i : ℕ) →
    merge (merge (unread text right i) (merge (unread text left i) (unread text non i)))
    (merge (merge (unread text left i) (merge (unread text right i) (unread text non i))) (merge (unread text non i) (no_messages_at i)))
    ≡ unread text ((right ++ (left ++ non)) ++ ((left ++ (right ++ non)) ++ non)) i
all_unread text right left non i =
    let three : (a b c : List Operator) → merge (unread text a i) (merge (unread text b i) (unread text c i)) ≡ unread text (a ++ (b ++ c)) i =
    λ a b c. ap (merge (unread text a i)) (unread_twice text b c i) ∙ unread_twice text a (b ++ c) i in
    ap (λ (e : Error). merge (merge (unread text right i) (merge (unread text left i) (unread text non i))) (merge (merge (unread text left i) (merge (unread text right i) (unread text non i))) e))
    (merge_nothing i (unread text non i) (talks_unread text non i))
    ∙ ap (λ (e : Error). merge e (merge (merge (unread text left i) (merge (unread text right i) (unread text non i))) (unread text non i))) (three right left non)
    ∙ ap (λ (e : Error). merge (unread text (right ++ (left ++ non)) i) (merge e (unread text non i))) (three left right non)
    ∙ ap (merge (unread text (right ++ (left ++ non)) i)) (unread_twice text (left ++ (right ++ non)) non i)
    ∙ unread_twice text (right ++ (left ++ non)) ((left ++ (right ++ non)) ++ non) i

module _ (G : Given) (s : Setting) (r : Row) where
  pub no_infix_is : (v : List Tree) (b : Spot) → read_at G.grammar G.text s.item r.right b.place ≡ None → read_at G.grammar G.text s.item r.left b.place ≡ None →
      read_at G.grammar G.text s.item r.non b.place ≡ None → no_infix G s r v b ≡ ok false b v [] (error_said (no_infix_said G.text (r.right ++ (r.left ++ r.non)) b.place))
  no_infix_is v b right left non =
      let i = b.place in
      let said_left : ambiguous_left G.grammar G.text s.item r i ≡ unread G.text r.left i = ap (told_ambiguous G.text r.left (codes "left") i) left in
      let said_right : ambiguous_right G.grammar G.text s.item r i ≡ unread G.text r.right i = ap (told_ambiguous G.text r.right (codes "right") i) right in
      let said_non : ambiguous_non G.grammar G.text s.item r i ≡ unread G.text r.non i = ap (told_ambiguous G.text r.non (codes "non") i) non in
      let last = merge (unread G.text r.non i) (no_messages_at i) in
      ap (λ (e : Error). ok false b v [] (relabel EmptyOk (codes "operator") (merge (merge (unread G.text r.right i) (merge e (ambiguous_non G.grammar G.text s.item r i))) (merge (no_left G s r i) last)))) said_left
      ∙ ap (λ (e : Error). ok false b v [] (relabel EmptyOk (codes "operator") (merge (merge (unread G.text r.right i) (merge (unread G.text r.left i) (ambiguous_non G.grammar G.text s.item r i)))
      (merge (merge (unread G.text r.left i) (merge e (ambiguous_non G.grammar G.text s.item r i))) last)))) said_right
      ∙ ap (λ (e : Error). ok false b v [] (relabel EmptyOk (codes "operator") (merge (merge (unread G.text r.right i) (merge (unread G.text r.left i) e))
      (merge (merge (unread G.text r.left i) (merge (unread G.text r.right i) e)) last)))) said_non
      ∙ ap (λ (e : Error). ok false b v [] (relabel EmptyOk (codes "operator") e)) (all_unread G.text r.right r.left r.non i)
      ∙ ap (ok false b v []) (named_operator G.text r.right r.left r.non i)

  -- ---- where no operator of the row of one side follows an operand after such an operator

  pub no_right_said : (e : Error) (i : ℕ) → merge e (merge (no_right G s r i) (no_messages_at i)) ≡
      merge (merge (merge e (unread G.text r.right i)) (ambiguous_left G.grammar G.text s.item r i)) (ambiguous_non G.grammar G.text s.item r i)
  no_right_said e i =
      said_in_turn i e (unread G.text r.right i) (ambiguous_left G.grammar G.text s.item r i) (ambiguous_non G.grammar G.text s.item r i)
      (talks_unread G.text r.right i) (talks_told (codes "left") G.text r.left i (read_at G.grammar G.text s.item r.left i))
      (talks_told (codes "non") G.text r.non i (read_at G.grammar G.text s.item r.non i))

  pub no_left_said : (e : Error) (i : ℕ) → merge e (merge (no_left G s r i) (no_messages_at i)) ≡
      merge (merge (merge e (unread G.text r.left i)) (ambiguous_right G.grammar G.text s.item r i)) (ambiguous_non G.grammar G.text s.item r i)
  no_left_said e i =
      said_in_turn i e (unread G.text r.left i) (ambiguous_right G.grammar G.text s.item r i) (ambiguous_non G.grammar G.text s.item r i)
      (talks_unread G.text r.left i) (talks_told (codes "right") G.text r.right i (read_at G.grammar G.text s.item r.right i))
      (talks_told (codes "non") G.text r.non i (read_at G.grammar G.text s.item r.non i))

  -- the same after one that is not associative
  pub last_said : (e : Error) (i : ℕ) →
      merge e (merge (merge (ambiguous_right G.grammar G.text s.item r i) (merge (ambiguous_left G.grammar G.text s.item r i) (ambiguous_non G.grammar G.text s.item r i))) (no_messages_at i)) ≡
      merge (merge (merge e (ambiguous_right G.grammar G.text s.item r i)) (ambiguous_left G.grammar G.text s.item r i)) (ambiguous_non G.grammar G.text s.item r i)
  last_said e i =
      said_in_turn i e (ambiguous_right G.grammar G.text s.item r i) (ambiguous_left G.grammar G.text s.item r i) (ambiguous_non G.grammar G.text s.item r i)
      (talks_told (codes "right") G.text r.right i (read_at G.grammar G.text s.item r.right i)) (talks_told (codes "left") G.text r.left i (read_at G.grammar G.text s.item r.left i))
      (talks_told (codes "non") G.text r.non i (read_at G.grammar G.text s.item r.non i))
