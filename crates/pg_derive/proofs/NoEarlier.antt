-- What leaves and reactions answer stands no earlier than a place: their ends and their errors.
use Rattle.std.proofs.Common.{◌≡◌, ◌==◌, ◌≤◌, ◌+◌, ◌++◌, ℕ, suc, refl, subst, List, [], ◌∷◌, Bool, true, false, if◌then◌else◌, length, Option, Some, None, slice_get, arith, le_refl, le_trans}
use Rattle.std.specs.Prelude.{nat_lt, ◌&&◌, not, codes}
use Rattle.std.specs.List.{list_any}
use Rattle.std.specs.Str.{bytes_eq}
use Rattle.pg_tree.specs.Trees.{Tree}
use Rattle.pg_tree.specs.declared.shape.Shape.{Shape}
use Rattle.pg_grammar_form.specs.ClassItems.{has_character}
use Rattle.pg_grammar_value.specs.Grammar.{Grammar}
use Rattle.pg_grammar_form.specs.declared.class.ClassPart.{ClassPart}
use Rattle.pg_grammar_form.specs.declared.form.Leaf.{Leaf}
use Rattle.pg_grammar_form.specs.declared.form.Leaf.TheVariants as leaf
use Rattle.pg_grammar_form.specs.declared.form.Around.{Around}
use Rattle.pg_grammar_form.specs.declared.form.Around.TheVariants as kind
use Rattle.pg_grammar_value.specs.declared.trail.TrailItem.{TrailItem}
use Rattle.pg_grammar_form.specs.declared.word_item.WordItem.{WordItem}
use Rattle.pg_grammar_form.specs.Operators.{Operator}
use Rattle.pg_grammar_form.specs.declared.decl.Role.{Role}
use Rattle.pg_grammar_form.specs.declared.operators_item.OperatorsItem.{OperatorsItem}
use Rattle.pg_table.specs.Tables.{admit_fault}
use Rattle.pg_table.specs.declared.admit_fault.AdmitFault.{AdmitFault}
use Rattle.pg_language.specs.Declarations.{no_symbol, declared, role_at, symbol_read, digit_read, keyword_read, unless_refused, declaration_outcome, declare_outcome}
use Rattle.pg_language.specs.Derives.{Spot, applied}
use Rattle.pg_language.specs.Runs.{run_at, past_run, keyword}
use Rattle.pg_language.specs.Errors.{Error, with_position, without_position, merge, relabel, no_messages_at}
use Rattle.pg_language.specs.Leaves.{taken, satisfy_next, word_read, word_next, not_followed_next, string_outcome, matched, end_outcome, word_outcome, some_word_outcome, some_declare_outcome, leaf_outcome}
use Rattle.pg_language.specs.Outcomes.{Outcome, ok, failed, empty_round}
use Rattle.pg_language.specs.Reactions.{error_after, ok_kind, error_kind, then_rest, then_round, noted, after_failure, unless_consumed, labelled_by, surrounded, as_finished, unless_begun}
use Rattle.pg_grammar_form.specs.declared.side.Side.{Side}
use Rattle.pg_text.specs.Position.{start}
use Rattle.pg_message.specs.Errors.{renamed}
use Rattle.pg_message.specs.Messages.{Text, is_empty, with_messages}
use Rattle.pg_message.specs.declared.answer.AnswerKind.{AnswerKind}
use Rattle.pg_message.specs.declared.answer.AnswerKind.TheVariants.{ConsumedOk, ConsumedError, EmptyOk, EmptyError}
use Rattle.pg_grammar_value.specs.declared.trail.Fixity.{Fixity}
use Rattle.pg_grammar_value.specs.declared.trail.Fixity.TheVariants as fixity
use Rattle.pg_grammar_form.specs.declared.used.BuilderUse.{BuilderUse}
use Rattle.pg_expand.specs.declared.rows.Row.{Row}
use Rattle.pg_language.specs.OperatorReads.{Read, read_at, unread, told_ambiguous, ambiguous}
use Rattle.pg_language.specs.RowReactions.{Setting, then_stretch, then_operand, as_applied, or_return, no_affix, past_prefix, with_prefix, postfix_outcome, with_postfix, labelled_operator, ambiguous_right, ambiguous_left, ambiguous_non, or_ambiguous, with_last}
use Rattle.pg_language.proofs.ReadOn.{read_on}

-- the end and the error of the outcome stand at the place or after it
abbrev pub NoEarlier : ℕ → Outcome → Type 0
NoEarlier i (ok c b v t e) = (i ≤ b.place) × (i ≤ e.place)
NoEarlier i (failed c e) = i ≤ e.place
NoEarlier i empty_round = Unit {0}

-- of an outcome from a place further on
pub no_earlier_from : (i j : ℕ) (o : Outcome) → i ≤ j → NoEarlier j o → NoEarlier i o
no_earlier_from i j (ok c b v t e) l h = (le_trans l h.0, le_trans l h.1)
no_earlier_from i j (failed c e) l h = le_trans l h
no_earlier_from i j empty_round l h = tt

no_earlier_if : (i : ℕ) (b : Bool) (o q : Outcome) → NoEarlier i o → NoEarlier i q → NoEarlier i (if b then o else q)
no_earlier_if i true o q f g = f
no_earlier_if i false o q f g = g

-- ---- errors

pub no_earlier_merged : (i : ℕ) (e f : Error) → i ≤ e.place → i ≤ f.place → i ≤ (merge e f).place
no_earlier_merged i e f l k =
    go (is_empty e.messages && not (is_empty f.messages)) (is_empty f.messages && not (is_empty e.messages)) (nat_lt e.place f.place) (nat_lt f.place e.place)
  where
    go : (a b c d : Bool) → i ≤ (without_position (if a then with_position start f else if b then with_position start e else
        if c then with_position start f else if d then with_position start e else
        record (with_position start e) { messages = with_messages e.messages f.messages })).place
    go true b c d = k
    go false true c d = l
    go false false true d = k
    go false false false true = l
    go false false false false = l

pub no_earlier_after : (i : ℕ) (c : Bool) (e f : Error) → i ≤ e.place → i ≤ f.place → i ≤ (error_after c e f).place
no_earlier_after i true e f l k = k
no_earlier_after i false e f l k = no_earlier_merged i e f l k

no_earlier_relabelled : (i : ℕ) (kind : AnswerKind) (name : Text) (e : Error) → i ≤ e.place → i ≤ (relabel kind name e).place
no_earlier_relabelled i ConsumedOk name e l = l
no_earlier_relabelled i ConsumedError name e l = l
no_earlier_relabelled i EmptyOk name e l = go (is_empty e.messages)
  where
    go : (b : Bool) → i ≤ (without_position (if b then with_position start e else renamed (with_position start e) name)).place
    go true = l
    go false = l
no_earlier_relabelled i EmptyError name e l = l

-- ---- reactions

pub no_earlier_rest : (i : ℕ) (c : Bool) (v : List Tree) (t : List TrailItem) (e : Error) (o : Outcome) → i ≤ e.place → NoEarlier i o → NoEarlier i (then_rest c v t e o)
no_earlier_rest i c v t e (ok d z w u f) l h = (h.0, no_earlier_after i d e f l h.1)
no_earlier_rest i c v t e (failed d f) l h = no_earlier_after i d e f l h
no_earlier_rest i c v t e empty_round l h = tt

pub no_earlier_round : (i : ℕ) (v : List Tree) (t : List TrailItem) (o : Outcome) → NoEarlier i o → NoEarlier i (then_round v t o)
no_earlier_round i v t (ok d z w u f) h = h
no_earlier_round i v t (failed d f) h = h
no_earlier_round i v t empty_round h = tt

pub no_earlier_noted : (i : ℕ) (x : TrailItem) (o : Outcome) → NoEarlier i o → NoEarlier i (noted x o)
no_earlier_noted i x (ok c b v t e) h = h
no_earlier_noted i x (failed c e) h = h
no_earlier_noted i x empty_round h = tt

pub no_earlier_failure : (i : ℕ) (e : Error) (o : Outcome) → i ≤ e.place → NoEarlier i o → NoEarlier i (after_failure e o)
no_earlier_failure i e (ok c b v t f) l h = (h.0, no_earlier_after i c e f l h.1)
no_earlier_failure i e (failed c f) l h = no_earlier_after i c e f l h
no_earlier_failure i e empty_round l h = tt

pub no_earlier_unless : (i : ℕ) (b : Spot) (v : List Tree) (t : List TrailItem) (e : Error) (o : Outcome) → i ≤ b.place → i ≤ e.place → NoEarlier i o → NoEarlier i (unless_consumed b v t e o)
no_earlier_unless i b v t e (ok true d w u f) k l h = h
no_earlier_unless i b v t e (ok false d w u f) k l h = (k, no_earlier_merged i e f l h.1)
no_earlier_unless i b v t e (failed true f) k l h = h
no_earlier_unless i b v t e (failed false f) k l h = (k, no_earlier_merged i e f l h)
no_earlier_unless i b v t e empty_round k l h = tt

no_earlier_said : (i : ℕ) (k : Around) (answer : AnswerKind) (e : Error) → i ≤ e.place → i ≤ (labelled_by k answer e).place
no_earlier_said i (kind.Label message) answer e l = no_earlier_relabelled i answer _ e l
no_earlier_said i _ answer e l = l

pub no_earlier_surrounded : (i : ℕ) (k : Around) (text : List ℕ) (a : Spot) (o : Outcome) → NoEarlier i o → NoEarlier i (surrounded k text a o)
no_earlier_surrounded i k text a (ok c b v t e) h = (h.0, no_earlier_said i k (ok_kind c) e h.1)
no_earlier_surrounded i k text a (failed c e) h = no_earlier_said i k (error_kind c) e h
no_earlier_surrounded i k text a empty_round h = tt

pub no_earlier_finished : (i : ℕ) (side : Side) (shape : Shape) (x s : List Tree) (o : Outcome) → NoEarlier i o → NoEarlier i (as_finished side shape x s o)
no_earlier_finished i side shape x s (ok c b v t e) h = h
no_earlier_finished i side shape x s (failed c e) h = h
no_earlier_finished i side shape x s empty_round h = tt

pub no_earlier_begun : (c : Bool) (a : Spot) (x : List Tree) (e : Error) → a.place ≤ e.place → NoEarlier a.place (unless_begun c a x e)
no_earlier_begun true a x e l = l
no_earlier_begun false a x e l = (le_refl _, no_earlier_merged a.place e (no_messages_at a.place) l (le_refl _))

-- ---- leaves

no_earlier_taken : (a : Spot) (s : List ℕ) → NoEarlier a.place (taken a s)
no_earlier_taken a s = (omega arith, omega arith)

no_earlier_satisfy : (g : Grammar) (class : List ClassPart) (a : Spot) (next : Option ℕ) → NoEarlier a.place (satisfy_next g class a next)
no_earlier_satisfy g class a None = le_refl _
no_earlier_satisfy g class a (Some c) = no_earlier_if a.place (has_character g.classes class c) _ _ (no_earlier_taken a (c ∷ [])) (le_refl _)

no_earlier_word : (g : Grammar) (s : List ℕ) (item : WordItem) (a : Spot) (next : Option ℕ) → NoEarlier a.place (word_next g s item a next)
no_earlier_word g s item a None = le_refl _
no_earlier_word g s item a (Some c) = no_earlier_if a.place (has_character g.classes item.head c) _ _ (read (c ∷ run_at g s item.rest (suc a.place))) (le_refl _)
  where
    read : (w : List ℕ) → NoEarlier a.place (word_read item a w)
    read w = no_earlier_if a.place (list_any (λ reserved. bytes_eq reserved w) item.reserved) _ _ (le_refl _) (no_earlier_taken a w)

no_earlier_not_followed : (g : Grammar) (class : List ClassPart) (a : Spot) (next : Option ℕ) → NoEarlier a.place (not_followed_next g class a next)
no_earlier_not_followed g class a None = (le_refl _, le_refl _)
no_earlier_not_followed g class a (Some c) = no_earlier_if a.place (has_character g.classes class c) _ _ (le_refl _) (le_refl _, le_refl _)

no_earlier_string : (text s : List ℕ) (a : Spot) → NoEarlier a.place (string_outcome text s a)
no_earlier_string text s a = no_earlier_if a.place (matched text s a.place == length s) _ _ (no_earlier_taken a s) (le_refl _)

no_earlier_end : (text : List ℕ) (a : Spot) → NoEarlier a.place (end_outcome text a)
no_earlier_end text a = no_earlier_if a.place (a.place == length text) _ _ (le_refl _, le_refl _) (le_refl _)

no_earlier_this : (i : ℕ) (x o : Outcome) → Some x ≡ Some o → NoEarlier i x → NoEarlier i o
no_earlier_this i x o e h = let same : x ≡ o = cc in subst (NoEarlier i) same h

no_earlier_some_word : (g : Grammar) (text : List ℕ) (a : Spot) (item : Option WordItem) (o : Outcome) → some_word_outcome g text a item ≡ Some o → NoEarlier a.place o
no_earlier_some_word g text a None o e = absurd cc
no_earlier_some_word g text a (Some item) o e = no_earlier_this a.place (word_outcome g text item a) o e (no_earlier_word g text item a (slice_get text a.place))

no_earlier_refused : (d : Operator) (a : Spot) (i j : ℕ) (fault : Option AdmitFault) → a.place ≤ i → a.place ≤ j → NoEarlier a.place (unless_refused d a.table i j fault)
no_earlier_refused d a i j (Some fault) l k = l
no_earlier_refused d a i j None l k = (k, k)

-- what is read of a declaration stands no earlier than it
no_earlier_read : (g : Grammar) (text : List ℕ) (item : OperatorsItem) (a : Spot) (role : Option Role) → NoEarlier a.place (declaration_outcome text a (keyword_read g text item a.place role))
no_earlier_read g text item a None = le_refl _
no_earlier_read g text item a (Some role) = digit (past_run g text item.gap (a.place + length (keyword role))) _ (omega arith)
  where
    symbol : (precedence i : ℕ) → a.place ≤ i → NoEarlier a.place (declaration_outcome text a (symbol_read g text item role precedence i))
    symbol precedence i l = either (length (run_at g text item.class i) == 0)
      where
        d : Operator
        d = record { role = role; precedence = precedence; symbol = run_at g text item.class i }

        either : (b : Bool) → NoEarlier a.place (declaration_outcome text a (if b then no_symbol i else declared d i (past_run g text item.gap (i + length (run_at g text item.class i)))))
        either true = l
        either false = no_earlier_refused d a i _ (admit_fault a.table d) l (omega arith)

    digit : (i : ℕ) (said : Option ℕ) → a.place ≤ i → NoEarlier a.place (declaration_outcome text a (digit_read g text item role i said))
    digit i None l = l
    digit i (Some precedence) l = symbol precedence (past_run g text item.gap (i + 1)) (omega arith)

no_earlier_some_declare : (g : Grammar) (text : List ℕ) (class : List ClassPart) (a : Spot) (item : Option OperatorsItem) (o : Outcome) → some_declare_outcome g text class a item ≡ Some o → NoEarlier a.place o
no_earlier_some_declare g text class a None o e = absurd cc
no_earlier_some_declare g text class a (Some item) o e = no_earlier_this a.place (declare_outcome g text item class a) o e (no_earlier_read g text item a (role_at g text class a.place))

pub no_earlier_leaf : (g : Grammar) (text : List ℕ) (l : Leaf ℕ) (a : Spot) (o : Outcome) → leaf_outcome g text l a ≡ Some o → NoEarlier a.place o
no_earlier_leaf g text (leaf.Satisfy class) a o e = no_earlier_this a.place _ o e (no_earlier_satisfy g class a (slice_get text a.place))
no_earlier_leaf g text (leaf.String s) a o e = no_earlier_this a.place _ o e (no_earlier_string text s a)
no_earlier_leaf g text (leaf.Word w) a o e = no_earlier_some_word g text a (slice_get g.words w) o e
no_earlier_leaf g text (leaf.NotFollowedBy class) a o e = no_earlier_this a.place _ o e (no_earlier_not_followed g class a (slice_get text a.place))
no_earlier_leaf g text leaf.EndOfText a o e = no_earlier_this a.place _ o e (no_earlier_end text a)
no_earlier_leaf g text (leaf.Declare class) a o e = no_earlier_some_declare g text class a g.operators o e

-- ---- expressions

pub no_earlier_unread : (text : List ℕ) (os : List Operator) (i : ℕ) → i ≤ (unread text os i).place
no_earlier_unread text [] i = le_refl _
no_earlier_unread text (o ∷ os) i = le_refl _

no_earlier_told : (g : Grammar) (text : List ℕ) (item : OperatorsItem) (os : List Operator) (side : List ℕ) (i : ℕ) (w : Option Read) → read_at g text item os i ≡ w →
    i ≤ (told_ambiguous text os side i w).place
no_earlier_told g text item os side i None e = no_earlier_unread text os i
no_earlier_told g text item os side i (Some q) e = read_on g text item os i q e

no_earlier_use : (g : Grammar) (text : List ℕ) (item : OperatorsItem) (os : List Operator) (side : List ℕ) (i : ℕ) → i ≤ (ambiguous g text item os side i).place
no_earlier_use g text item os side i = no_earlier_told g text item os side i (read_at g text item os i) refl

-- two ambiguous uses
pub no_earlier_uses : (g : Grammar) (text : List ℕ) (item : OperatorsItem) (os others : List Operator) (side other : List ℕ) (i : ℕ) →
    i ≤ (merge (ambiguous g text item os side i) (ambiguous g text item others other i)).place
no_earlier_uses g text item os others side other i =
    no_earlier_merged i (ambiguous g text item os side i) (ambiguous g text item others other i) (no_earlier_use g text item os side i) (no_earlier_use g text item others other i)

pub no_earlier_stretch : (i : ℕ) (c : Bool) (t : List TrailItem) (e : Error) (o : Outcome) → i ≤ e.place → NoEarlier i o → NoEarlier i (then_stretch c t e o)
no_earlier_stretch i c t e (ok d z w u f) l h = (h.0, no_earlier_after i d e f l h.1)
no_earlier_stretch i c t e (failed d f) l h = no_earlier_after i d e f l h
no_earlier_stretch i c t e empty_round l h = tt

pub no_earlier_then_operand : (i : ℕ) (side : Fixity) (q : Read) (o : Outcome) → i ≤ q.end → NoEarlier i o → NoEarlier i (then_operand side q o)
no_earlier_then_operand i side q (ok d z w u f) l h = (h.0, no_earlier_after i d (no_messages_at q.end) f l h.1)
no_earlier_then_operand i side q (failed d f) l h = no_earlier_after i d (no_messages_at q.end) f l h
no_earlier_then_operand i side q empty_round l h = tt

pub no_earlier_applied : (i : ℕ) (used : BuilderUse) (o : Operator) (v : List Tree) (x : Outcome) → NoEarlier i x → NoEarlier i (as_applied used o v x)
no_earlier_applied i used o v (ok c b w t e) h = h
no_earlier_applied i used o v (failed c e) h = h
no_earlier_applied i used o v empty_round h = tt

pub no_earlier_labelled : (i : ℕ) (o : Outcome) → NoEarlier i o → NoEarlier i (labelled_operator o)
no_earlier_labelled i (ok c b v t e) h = (h.0, no_earlier_relabelled i (ok_kind c) (codes "operator") e h.1)
no_earlier_labelled i (failed c e) h = no_earlier_relabelled i (error_kind c) (codes "operator") e h
no_earlier_labelled i empty_round h = tt

pub no_earlier_return : (i : ℕ) (a : Spot) (v : List Tree) (o : Outcome) → i ≤ a.place → NoEarlier i o → NoEarlier i (or_return a v o)
no_earlier_return i a v (ok c b w t e) l h = h
no_earlier_return i a v (failed true e) l h = h
no_earlier_return i a v (failed false e) l h = (l, no_earlier_merged i e (no_messages_at a.place) h l)
no_earlier_return i a v empty_round l h = tt

pub no_earlier_ambiguous : (i : ℕ) (e : Error) (o : Outcome) → i ≤ e.place → NoEarlier i o → NoEarlier i (or_ambiguous e o)
no_earlier_ambiguous i e (ok c b v t f) l h = h
no_earlier_ambiguous i e (failed true f) l h = h
no_earlier_ambiguous i e (failed false f) l h = no_earlier_merged i f e h l
no_earlier_ambiguous i e empty_round l h = tt

pub no_earlier_prefix : (g : Grammar) (text : List ℕ) (s : Setting) (os : List Operator) (a : Spot) (w : Option Read) (o : Outcome) → read_at g text s.item os a.place ≡ w →
    NoEarlier (past_prefix a w).place o → NoEarlier a.place (with_prefix text s.builders os a w o)
no_earlier_prefix g text s os a None o e h = no_earlier_stretch a.place false [] (no_affix text os a.place) o (no_earlier_relabelled a.place EmptyError [] (unread text os a.place) (no_earlier_unread text os a.place)) h
no_earlier_prefix g text s os a (Some q) o e h =
    let l = read_on g text s.item os a.place q e in
    no_earlier_then_operand a.place fixity.Prefix q _ l (no_earlier_applied a.place s.builders.prefix q.operator [] o (no_earlier_from a.place q.end o l h))

no_earlier_affix : (g : Grammar) (text : List ℕ) (s : Setting) (os : List Operator) (v : List Tree) (a : Spot) (w : Option Read) → read_at g text s.item os a.place ≡ w →
    NoEarlier a.place (postfix_outcome text s.builders os v a w)
no_earlier_affix g text s os v a None e = (le_refl _, no_earlier_relabelled a.place EmptyError [] (unread text os a.place) (no_earlier_unread text os a.place))
no_earlier_affix g text s os v a (Some q) e = let l = read_on g text s.item os a.place q e in (l, l)

pub no_earlier_postfix : (g : Grammar) (text : List ℕ) (s : Setting) (os : List Operator) (i : ℕ) (o : Outcome) → NoEarlier i o → NoEarlier i (with_postfix g text s os o)
no_earlier_postfix g text s os i (ok c b v t e) h =
    no_earlier_stretch i c t e (postfix_outcome text s.builders os v b (read_at g text s.item os b.place)) h.1
    (no_earlier_from i b.place (postfix_outcome text s.builders os v b (read_at g text s.item os b.place)) h.0 (no_earlier_affix g text s os v b (read_at g text s.item os b.place) refl))
no_earlier_postfix g text s os i (failed c e) h = h
no_earlier_postfix g text s os i empty_round h = tt

pub no_earlier_last : (g : Grammar) (text : List ℕ) (s : Setting) (r : Row) (q : Read) (v : List Tree) (i : ℕ) (o : Outcome) → NoEarlier i o → NoEarlier i (with_last g text s r q v o)
no_earlier_last g text s r q v i (ok c b w t e) h =
    let f : Error = merge (ambiguous_right g text s.item r b.place) (merge (ambiguous_left g text s.item r b.place) (ambiguous_non g text s.item r b.place)) in
    let x : List Tree = applied s.builders.infix q.operator (v ++ w) in
    let l : b.place ≤ f.place = no_earlier_merged b.place (ambiguous_right g text s.item r b.place) (merge (ambiguous_left g text s.item r b.place) (ambiguous_non g text s.item r b.place))
    (no_earlier_use g text s.item r.right (codes "right") b.place) (no_earlier_uses g text s.item r.left r.non (codes "left") (codes "non") b.place) in
    no_earlier_stretch i c t e (unless_begun false b x f) h.1 (no_earlier_from i b.place (unless_begun false b x f) h.0 (no_earlier_begun false b x f l))
no_earlier_last g text s r q v i (failed c e) h = h
no_earlier_last g text s r q v i empty_round h = tt
