-- An ok answer tells whether it consumed.
use Rattle.std.proofs.Common.{◌≡◌, ◌==◌, ◌+◌, ◌<◌, ◌≤◌, ℕ, suc, List, [], ◌∷◌, ◌++◌, Bool, true, false, ◌||◌, if◌then◌else◌, refl, sym, ◌∙◌, ap, subst, length, Option, Some, None, slice_get, arith, le_refl, le_trans}
use Rattle.std.specs.Prelude.{nat_lt}
use Rattle.std.specs.List.{list_any}
use Rattle.std.specs.Str.{bytes_eq}
use Rattle.pg_tree.specs.Trees.{Tree}
use Rattle.pg_tree.specs.declared.shape.Shape.{Shape}
use Rattle.pg_grammar_form.specs.ClassItems.{has_character}
use Rattle.pg_grammar_value.specs.Grammar.{Grammar}
use Rattle.pg_grammar_form.specs.declared.class.ClassPart.{ClassPart}
use Rattle.pg_grammar_form.specs.Forms.{Node}
use Rattle.pg_grammar_form.specs.declared.form.Form.TheVariants as form
use Rattle.pg_grammar_form.specs.declared.form.Leaf.TheVariants as leaf
use Rattle.pg_grammar_value.specs.declared.trail.TrailItem.{TrailItem}
use Rattle.pg_grammar_value.specs.declared.trail.Fixity.{Fixity}
use Rattle.pg_grammar_value.specs.declared.trail.Fixity.TheVariants as fixity
use Rattle.pg_grammar_form.specs.declared.used.BuilderUse.{BuilderUse}
use Rattle.pg_expand.specs.declared.rows.Row.{Row}
use Rattle.pg_grammar_form.specs.declared.word_item.WordItem.{WordItem}
use Rattle.pg_language.specs.Derives.{Spot, at, applied}
use Rattle.pg_language.specs.Runs.{run_at}
use Rattle.pg_language.specs.Answers as answers
use Rattle.pg_language.specs.Answers.{Given, Answers, entered, AnswersForm, nothing, seq, choice, many, rule, AnswersParts, part, AfterPart, part_last, part_failed, part_stuck, part_ok, AnswersAlternatives, no_alternative, alternative, AfterAlternative, alternative_consumed, alternative_stands, alternative_waits, alternative_commits, alternative_failed, alternative_stuck, AnswersRounds, round, AfterRound, round_ended, round_failed, round_empty, round_stuck, round_ok, AnswersChain, first_operand, AfterFirst, first_failed, first_stuck, first_ok, AnswersLinks, link, AfterSeparator, separator_failed, separator_stuck, separator_ok, AfterOperand, operand_failed, operand_stuck, operand_ok, AnswersRows, only_term, loosest_row, AnswersRowOperand, row_operand, AfterRowOperand, row_failed, row_stuck, row_ok, AnswersTail, row_tail, AfterRight, right_stands, right_commits, right_stuck, right_failed, AfterLeft, left_stands, left_commits, left_stuck, left_failed, AnswersRight, right_side, AfterRightOperator, right_unread, right_read, AfterRightOperand, right_operand_failed, right_operand_stuck, right_operand_ok, AnswersLeft, left_side, AfterLeftOperator, left_unread, left_read, AfterLeftOperand, left_operand_failed, left_operand_stuck, left_operand_ok, AnswersNon, neither_side, AfterNonOperator, non_unread, non_read}
use Rattle.pg_grammar_form.specs.Operators.{Operator}
use Rattle.pg_grammar_form.specs.declared.operators_item.OperatorsItem.{OperatorsItem}
use Rattle.pg_table.specs.Tables.{admit_fault}
use Rattle.pg_table.specs.declared.admit_fault.AdmitFault.{AdmitFault}
use Rattle.pg_language.specs.Declarations.{Declaration, no_keyword, no_digit, no_symbol, declared, declaration_at, unless_refused, declaration_outcome, declare_outcome}
use Rattle.pg_language.specs.Errors.{Error, merge}
use Rattle.pg_language.specs.OperatorReads.{Read, read_at}
use Rattle.pg_language.specs.Leaves.{taken, satisfy_next, word_read, word_next, not_followed_next, string_outcome, matched, end_outcome, word_outcome, some_word_outcome, some_declare_outcome, leaf_outcome}
use Rattle.pg_language.specs.Outcomes.{Outcome, ok, failed, empty_round}
use Rattle.pg_language.specs.Reactions.{then_rest, then_round, noted, after_failure, unless_consumed, surrounded, as_finished, unless_begun}
use Rattle.pg_language.specs.RowReactions.{Setting, then_stretch, then_operand, as_applied, or_return, past_prefix, with_prefix, postfix_outcome, with_postfix, labelled_operator, ambiguous_right, ambiguous_left, ambiguous_non, or_ambiguous, with_last}
use Rattle.pg_grammar_form.specs.declared.side.Side.{Side}
use Rattle.pg_grammar_form.specs.declared.form.Around.{Around}
use Rattle.pg_grammar_form.specs.declared.form.Leaf.{Leaf}
use Rattle.pg_language.proofs.DeclarationsDerived.{Stands, declaration_stands, declaration_moves}
use Rattle.pg_language.proofs.Flags.{moved, stayed, both_moved}
use Rattle.pg_language.proofs.ReadOn.{is_read, read_on}

-- where the outcome is ok, its end isn't before its first place, and it says whether it lies after it
abbrev pub Tells : Spot → Outcome → Type 0
Tells a (ok c b v t e) = (c ≡ nat_lt a.place b.place) × (a.place ≤ b.place)
Tells a (failed c e) = Unit {0}
Tells a empty_round = Unit {0}

tells_if : (a : Spot) (b : Bool) (o q : Outcome) → Tells a o → Tells a q → Tells a (if b then o else q)
tells_if a true o q f g = f
tells_if a false o q f g = g

tells_taken : (a : Spot) (s : List ℕ) → 0 < length s → Tells a (taken a s)
tells_taken a s l = let far : a.place < a.place + length s = omega arith in (sym (moved far), omega arith)

tells_stayed : (a : Spot) → (false ≡ nat_lt a.place a.place) × (a.place ≤ a.place)
tells_stayed a = (sym (stayed a.place), le_refl a.place)

tells_rest : (a b : Spot) (c : Bool) (v : List Tree) (t : List TrailItem) (e : Error) (o : Outcome) → c ≡ nat_lt a.place b.place → a.place ≤ b.place → Tells b o → Tells a (then_rest c v t e o)
tells_rest a b c v t e (ok d z w u f) h l g =
    let both = both_moved l g.1 in (ap (λ x. x || d) h ∙ ap (λ x. nat_lt a.place b.place || x) g.0 ∙ both, le_trans l g.1)
tells_rest a b c v t e (failed d f) h l g = tt
tells_rest a b c v t e empty_round h l g = tt

tells_round : (a b : Spot) (v : List Tree) (t : List TrailItem) (o : Outcome) → true ≡ nat_lt a.place b.place → a.place ≤ b.place → Tells b o → Tells a (then_round v t o)
tells_round a b v t (ok d z w u f) h l g =
    let both = both_moved l g.1 in (ap (λ x. x || nat_lt b.place z.place) h ∙ both, le_trans l g.1)
tells_round a b v t (failed d f) h l g = tt
tells_round a b v t empty_round h l g = tt

tells_noted : (a : Spot) (x : TrailItem) (o : Outcome) → Tells a o → Tells a (noted x o)
tells_noted a x (ok c b v t e) h = h
tells_noted a x (failed c e) h = tt
tells_noted a x empty_round h = tt

tells_failure : (a : Spot) (e : Error) (o : Outcome) → Tells a o → Tells a (after_failure e o)
tells_failure a e (ok c b v t f) h = h
tells_failure a e (failed c f) h = tt
tells_failure a e empty_round h = tt

tells_unless : (a b : Spot) (v : List Tree) (t : List TrailItem) (e : Error) (o : Outcome) → Tells a (ok false b v t e) → Tells a o → Tells a (unless_consumed b v t e o)
tells_unless a b v t e (ok true d w u f) g h = h
tells_unless a b v t e (ok false d w u f) g h = g
tells_unless a b v t e (failed true f) g h = tt
tells_unless a b v t e (failed false f) g h = g
tells_unless a b v t e empty_round g h = tt

tells_surrounded : (a : Spot) (k : Around) (text : List ℕ) (o : Outcome) → Tells a o → Tells a (surrounded k text a o)
tells_surrounded a k text (ok c b v t e) h = h
tells_surrounded a k text (failed c e) h = tt
tells_surrounded a k text empty_round h = tt

tells_finished : (a : Spot) (side : Side) (shape : Shape) (x s : List Tree) (o : Outcome) → Tells a o → Tells a (as_finished side shape x s o)
tells_finished a side shape x s (ok c b v t e) h = h
tells_finished a side shape x s (failed c e) h = tt
tells_finished a side shape x s empty_round h = tt

tells_begun : (c : Bool) (a : Spot) (x : List Tree) (e : Error) → Tells a (unless_begun c a x e)
tells_begun true a x e = tt
tells_begun false a x e = tells_stayed a

-- ---- leaves

tells_satisfy : (g : Grammar) (class : List ClassPart) (a : Spot) (next : Option ℕ) → Tells a (satisfy_next g class a next)
tells_satisfy g class a None = tt
tells_satisfy g class a (Some c) = tells_if a (has_character g.classes class c) _ _ (tells_taken a (c ∷ []) (omega arith)) tt

tells_word_read : (item : WordItem) (a : Spot) (s : List ℕ) → 0 < length s → Tells a (word_read item a s)
tells_word_read item a s l = tells_if a (list_any (λ reserved. bytes_eq reserved s) item.reserved) _ _ tt (tells_taken a s l)

tells_word : (g : Grammar) (s : List ℕ) (item : WordItem) (a : Spot) (next : Option ℕ) → Tells a (word_next g s item a next)
tells_word g s item a None = tt
tells_word g s item a (Some c) = tells_if a (has_character g.classes item.head c) _ _ (tells_word_read item a (c ∷ run_at g s item.rest (suc a.place)) (omega arith)) tt

tells_not_followed : (g : Grammar) (class : List ClassPart) (a : Spot) (next : Option ℕ) → Tells a (not_followed_next g class a next)
tells_not_followed g class a None = tells_stayed a
tells_not_followed g class a (Some c) = tells_if a (has_character g.classes class c) _ _ tt (tells_stayed a)

tells_string : (text s : List ℕ) (a : Spot) → 0 < length s → Tells a (string_outcome text s a)
tells_string text s a l = tells_if a (matched text s a.place == length s) _ _ (tells_taken a s l) tt

tells_end : (text : List ℕ) (a : Spot) → Tells a (end_outcome text a)
tells_end text a = tells_if a (a.place == length text) _ _ (tells_stayed a) tt

tells_this : (a : Spot) (x o : Outcome) → Some x ≡ Some o → Tells a x → Tells a o
tells_this a x o e h = let same : x ≡ o = cc in subst (Tells a) same h

tells_some_word : (g : Grammar) (text : List ℕ) (a : Spot) (item : Option WordItem) (o : Outcome) → some_word_outcome g text a item ≡ Some o → Tells a o
tells_some_word g text a None o e = absurd (cc)
tells_some_word g text a (Some item) o e = tells_this a (word_outcome g text item a) o e (tells_word g text item a (slice_get text a.place))

tells_refused : (d : Operator) (a : Spot) (i j : ℕ) (fault : Option AdmitFault) → a.place < j → Tells a (unless_refused d a.table i j fault)
tells_refused d a i j (Some fault) l = tt
tells_refused d a i j None l = (sym (moved l), omega arith)

tells_declaration : (g : Grammar) (text : List ℕ) (item : OperatorsItem) (class : List ClassPart) (a : Spot) (x : Declaration) → Stands g text item class a.place x → Tells a (declaration_outcome text a x)
tells_declaration g text item class a no_keyword h = tt
tells_declaration g text item class a (no_digit i) h = tt
tells_declaration g text item class a (no_symbol i) h = tt
tells_declaration g text item class a (declared d i j) h =
    tells_refused d a i j (admit_fault a.table d) (declaration_moves g text item class d a.place j h)

tells_some_declare : (g : Grammar) (text : List ℕ) (class : List ClassPart) (a : Spot) (item : Option OperatorsItem) (o : Outcome) → some_declare_outcome g text class a item ≡ Some o → Tells a o
tells_some_declare g text class a None o e = absurd (cc)
tells_some_declare g text class a (Some item) o e = tells_this a (declare_outcome g text item class a) o e (tells_declaration g text item class a (declaration_at g text item class a.place) (declaration_stands g text item class a.place))

-- any leaf, whose string has a character
tells_leaf : (g : Grammar) (text : List ℕ) (l : Leaf ℕ) (a : Spot) (o : Outcome) → ((s : List ℕ) → l ≡ leaf.String s → 0 < length s) → leaf_outcome g text l a ≡ Some o → Tells a o
tells_leaf g text (leaf.Satisfy class) a o spelled e = tells_this a _ o e (tells_satisfy g class a (slice_get text a.place))
tells_leaf g text (leaf.String s) a o spelled e = tells_this a _ o e (tells_string text s a (spelled s refl))
tells_leaf g text (leaf.Word w) a o spelled e = tells_some_word g text a (slice_get g.words w) o e
tells_leaf g text (leaf.NotFollowedBy class) a o spelled e = tells_this a _ o e (tells_not_followed g class a (slice_get text a.place))
tells_leaf g text leaf.EndOfText a o spelled e = tells_this a _ o e (tells_end text a)
tells_leaf g text (leaf.Declare class) a o spelled e = tells_some_declare g text class a g.operators o e

-- ---- expressions

tells_stretch : (a b : Spot) (c : Bool) (t : List TrailItem) (e : Error) (o : Outcome) → c ≡ nat_lt a.place b.place → a.place ≤ b.place → Tells b o → Tells a (then_stretch c t e o)
tells_stretch a b c t e (ok d z w u f) h l g =
    let both = both_moved l g.1 in (ap (λ x. x || d) h ∙ ap (λ x. nat_lt a.place b.place || x) g.0 ∙ both, le_trans l g.1)
tells_stretch a b c t e (failed d f) h l g = tt
tells_stretch a b c t e empty_round h l g = tt

tells_then_operand : (a : Spot) (side : Fixity) (q : Read) (o : Outcome) → a.place < q.end → Tells (at a q.end) o → Tells a (then_operand side q o)
tells_then_operand a side q (ok d z w u f) l g =
    let on = g.1 in
    let far : a.place < z.place = omega arith in
    (sym (moved far), omega arith)
tells_then_operand a side q (failed d f) l g = tt
tells_then_operand a side q empty_round l g = tt

tells_applied : (a : Spot) (used : BuilderUse) (o : Operator) (v : List Tree) (x : Outcome) → Tells a x → Tells a (as_applied used o v x)
tells_applied a used o v (ok c b w t e) h = h
tells_applied a used o v (failed c e) h = tt
tells_applied a used o v empty_round h = tt

tells_labelled : (a : Spot) (o : Outcome) → Tells a o → Tells a (labelled_operator o)
tells_labelled a (ok c b v t e) h = h
tells_labelled a (failed c e) h = tt
tells_labelled a empty_round h = tt

tells_return : (a : Spot) (v : List Tree) (o : Outcome) → Tells a o → Tells a (or_return a v o)
tells_return a v (ok c b w t e) h = h
tells_return a v (failed c e) h = tells_begun c a v e
tells_return a v empty_round h = tt

tells_ambiguous : (a : Spot) (e : Error) (o : Outcome) → Tells a o → Tells a (or_ambiguous e o)
tells_ambiguous a e (ok c b v t f) h = h
tells_ambiguous a e (failed true f) h = tt
tells_ambiguous a e (failed false f) h = tt
tells_ambiguous a e empty_round h = tt

tells_prefix : (g : Grammar) (text : List ℕ) (s : Setting) (os : List Operator) (a : Spot) (w : Option Read) (o : Outcome) → read_at g text s.item os a.place ≡ w → Tells (past_prefix a w) o →
    Tells a (with_prefix text s.builders os a w o)
tells_prefix g text s os a None o e h = tells_stretch a a false [] _ o (sym (stayed a.place)) (le_refl a.place) h
tells_prefix g text s os a (Some q) o e h = tells_then_operand a fixity.Prefix q _ (is_read g text s.item os a.place q e).ahead (tells_applied (at a q.end) s.builders.prefix q.operator [] o h)

tells_affix : (g : Grammar) (text : List ℕ) (s : Setting) (os : List Operator) (v : List Tree) (a : Spot) (w : Option Read) → read_at g text s.item os a.place ≡ w →
    Tells a (postfix_outcome text s.builders os v a w)
tells_affix g text s os v a None e = tells_stayed a
tells_affix g text s os v a (Some q) e = (sym (moved (is_read g text s.item os a.place q e).ahead), read_on g text s.item os a.place q e)

tells_postfix : (g : Grammar) (text : List ℕ) (s : Setting) (os : List Operator) (a : Spot) (o : Outcome) → Tells a o → Tells a (with_postfix g text s os o)
tells_postfix g text s os a (ok c b v t e) h = tells_stretch a b c t e _ h.0 h.1 (tells_affix g text s os v b (read_at g text s.item os b.place) refl)
tells_postfix g text s os a (failed c e) h = tt
tells_postfix g text s os a empty_round h = tt

tells_last : (g : Grammar) (text : List ℕ) (s : Setting) (r : Row) (q : Read) (v : List Tree) (a : Spot) (o : Outcome) → Tells a o → Tells a (with_last g text s r q v o)
tells_last g text s r q v a (ok c b w t e) h =
    let f : Error = merge (ambiguous_right g text s.item r b.place) (merge (ambiguous_left g text s.item r b.place) (ambiguous_non g text s.item r b.place)) in
    let x : List Tree = applied s.builders.infix q.operator (v ++ w) in
    tells_stretch a b c t e (unless_begun false b x f) h.0 h.1 (tells_begun false b x f)
tells_last g text s r q v a (failed c e) h = tt
tells_last g text s r q v a empty_round h = tt

-- ---- the relation

module _ (G : Given) (spelled : (p : ℕ) (s : List ℕ) → slice_get G.grammar.nodes p ≡ Some (form.Leaf (leaf.String s)) → 0 < length s) where
  mutual
    pub tells : {p : ℕ} {a : Spot} {o : Outcome} {m : ℕ} → Answers G p a o m → Tells a o
    tells (entered {p = p} e d) = tells_form d p e

    tells_form : {f : Node} {a : Spot} {o : Outcome} {m : ℕ} → AnswersForm G f a o m → (p : ℕ) → slice_get G.grammar.nodes p ≡ Some f → Tells a o
    tells_form (answers.leaf {l = l} {a = a} {o = o} x) p e = tells_leaf G.grammar G.text l a o (λ s h. spelled p s (e ∙ ap (λ l. Some (form.Leaf l)) h)) x
    tells_form (nothing {a = a}) p e = tells_stayed a
    tells_form (seq d) p e = tells_parts d
    tells_form (choice d) p e = tells_alternatives d
    tells_form (many {a = a} {o = o} d) p e = tells_noted a _ o (tells_rounds d)
    tells_form (answers.chain {a = a} {o = o} d) p e = tells_noted a _ o (tells_chain d)
    tells_form (rule x d) p e = tells d
    tells_form (answers.expression x d) p e = tells_rows d
    tells_form (answers.around {k = k} {a = a} {o = o} d) p e = tells_surrounded a k G.text o (tells d)

    tells_parts : {p : ℕ} {ps : List ℕ} {a : Spot} {o : Outcome} {m : ℕ} → AnswersParts G p ps a o m → Tells a o
    tells_parts (part {a = a} d r) = tells_after_part r a (tells d)

    tells_after_part : {ps : List ℕ} {x o : Outcome} {m : ℕ} → AfterPart G ps x o m → (a : Spot) → Tells a x → Tells a o
    tells_after_part part_last a h = h
    tells_after_part part_failed a h = tt
    tells_after_part part_stuck a h = tt
    tells_after_part (part_ok {c = c} {b = b} {v = v} {t = t} {e = e} {o = o} d) a h = tells_rest a b c v t e o h.0 h.1 (tells_parts d)

    tells_alternatives : {k : ℕ} {ps : List ℕ} {a : Spot} {o : Outcome} {m : ℕ} → AnswersAlternatives G k ps a o m → Tells a o
    tells_alternatives no_alternative = tt
    tells_alternatives (alternative d r) = tells_after_alternative r (tells d)

    tells_after_alternative : {k : ℕ} {ps : List ℕ} {a : Spot} {x o : Outcome} {m : ℕ} → AfterAlternative G k ps a x o m → Tells a x → Tells a o
    tells_after_alternative alternative_consumed h = h
    tells_after_alternative (alternative_stands e) h = h
    tells_after_alternative (alternative_waits {a = a} {b = b} {v = v} {t = t} {e = x} {o = o} e d) h = tells_unless a b v _ x o h (tells_alternatives d)
    tells_after_alternative alternative_commits h = tt
    tells_after_alternative (alternative_failed {a = a} {e = e} {o = o} d) h = tells_failure a e o (tells_alternatives d)
    tells_after_alternative alternative_stuck h = tt

    tells_rounds : {p k : ℕ} {a : Spot} {o : Outcome} {m : ℕ} → AnswersRounds G p k a o m → Tells a o
    tells_rounds (round d r) = tells_after_round r (tells d)

    tells_after_round : {p k : ℕ} {a : Spot} {x o : Outcome} {m : ℕ} → AfterRound G p k a x o m → Tells a x → Tells a o
    tells_after_round (round_ended {a = a} {e = e}) h = tells_stayed a
    tells_after_round round_failed h = tt
    tells_after_round round_empty h = tt
    tells_after_round round_stuck h = tt
    tells_after_round (round_ok {a = a} {b = b} {v = v} {t = t} {o = o} d) h = tells_round a b v t o h.0 h.1 (tells_rounds d)

    tells_chain : {side : Side} {shape : Shape} {p s k : ℕ} {a : Spot} {o : Outcome} {m : ℕ} → AnswersChain G side shape p s k a o m → Tells a o
    tells_chain (first_operand {a = a} d r) = tells_after_first r a (tells d)

    tells_after_first : {side : Side} {shape : Shape} {p s k : ℕ} {x o : Outcome} {m : ℕ} → AfterFirst G side shape p s k x o m → (a : Spot) → Tells a x → Tells a o
    tells_after_first first_failed a h = tt
    tells_after_first first_stuck a h = tt
    tells_after_first (first_ok {c = c} {b = b} {t = t} {e = e} {o = o} d) a h = tells_rest a b c [] t e o h.0 h.1 (tells_links d)

    tells_links : {side : Side} {shape : Shape} {p s : ℕ} {left : List Tree} {k : ℕ} {a : Spot} {o : Outcome} {m : ℕ} → AnswersLinks G side shape p s left k a o m → Tells a o
    tells_links (link d r) = tells_after_separator r (tells d)

    tells_after_separator : {side : Side} {shape : Shape} {p s : ℕ} {left : List Tree} {k : ℕ} {a : Spot} {x o : Outcome} {m : ℕ} →
        AfterSeparator G side shape p s left k a x o m → Tells a x → Tells a o
    tells_after_separator (separator_failed {left = left} {a = a} {c = c} {e = e}) h = tells_begun c a left e
    tells_after_separator separator_stuck h = tt
    tells_after_separator (separator_ok {b = b} d r) h = tells_after_operand r b h.0 h.1 (tells d)

    tells_after_operand : {side : Side} {shape : Shape} {p s : ℕ} {left : List Tree} {k : ℕ} {a : Spot} {c : Bool} {v : List Tree} {t : List TrailItem} {e : Error} {x o : Outcome} {m : ℕ} →
        AfterOperand G side shape p s left k a c v t e x o m → (b : Spot) → c ≡ nat_lt a.place b.place → a.place ≤ b.place → Tells b x → Tells a o
    tells_after_operand (operand_failed {left = left} {a = a}) b h l g = tells_begun _ a left _
    tells_after_operand operand_stuck b h l g = tt
    tells_after_operand (operand_ok {side = side} {shape = shape} {left = left} {v = v} {a = a} {b = z} {c = c} {d = d} {t = t} {u = u} {e = e} {f = f} {o = o} x y) b h l g =
        tells_rest a b c [] t e _ h l (tells_rest b z d [] u f _ g.0 g.1 (tells_finished z side shape left v o (tells_links y)))

    tells_rows : {s : Setting} {rows : List Row} {a : Spot} {o : Outcome} {m : ℕ} → AnswersRows G s rows a o m → Tells a o
    tells_rows (only_term {a = a} {o = o} d) = tells_noted a _ o (tells d)
    tells_rows (loosest_row {a = a} d r) = tells_after_row r a (tells_row_operand d)

    tells_row_operand : {s : Setting} {r : Row} {tighter : List Row} {a : Spot} {o : Outcome} {m : ℕ} → AnswersRowOperand G s r tighter a o m → Tells a o
    tells_row_operand (row_operand {s = s} {r = r} {a = a} {x = x} d) =
        tells_postfix G.grammar G.text s r.postfix a _ (tells_prefix G.grammar G.text s r.prefix a (read_at G.grammar G.text s.item r.prefix a.place) x refl (tells_rows d))

    tells_after_row : {s : Setting} {r : Row} {tighter : List Row} {x o : Outcome} {m : ℕ} → AfterRowOperand G s r tighter x o m → (a : Spot) → Tells a x → Tells a o
    tells_after_row row_failed a h = tt
    tells_after_row row_stuck a h = tt
    tells_after_row (row_ok {c = c} {b = b} {t = t} {e = e} {o = o} d) a h = tells_stretch a b c t e (labelled_operator o) h.0 h.1 (tells_labelled b o (tells_tail d))

    tells_tail : {s : Setting} {r : Row} {tighter : List Row} {v : List Tree} {a : Spot} {o : Outcome} {m : ℕ} → AnswersTail G s r tighter v a o m → Tells a o
    tells_tail (row_tail d r) = tells_after_right r (tells_right d)

    tells_after_right : {s : Setting} {r : Row} {tighter : List Row} {v : List Tree} {a : Spot} {x o : Outcome} {m : ℕ} → AfterRight G s r tighter v a x o m → Tells a x → Tells a o
    tells_after_right right_stands h = h
    tells_after_right right_commits h = tt
    tells_after_right right_stuck h = tt
    tells_after_right (right_failed {a = a} {e = e} {o = o} d r) h = tells_failure a e o (tells_after_left r (tells_left d))

    tells_after_left : {s : Setting} {r : Row} {tighter : List Row} {v : List Tree} {a : Spot} {x o : Outcome} {m : ℕ} → AfterLeft G s r tighter v a x o m → Tells a x → Tells a o
    tells_after_left left_stands h = h
    tells_after_left left_commits h = tt
    tells_after_left left_stuck h = tt
    tells_after_left (left_failed {v = v} {a = a} {e = e} {o = o} d) h = tells_failure a e (or_return a v o) (tells_return a v o (tells_non d))

    tells_right : {s : Setting} {r : Row} {tighter : List Row} {v : List Tree} {a : Spot} {o : Outcome} {m : ℕ} → AnswersRight G s r tighter v a o m → Tells a o
    tells_right (right_side {s = s} {r = r} {a = a} {o = o} d) =
        tells_ambiguous a (merge (ambiguous_left G.grammar G.text s.item r a.place) (ambiguous_non G.grammar G.text s.item r a.place)) o (tells_after_right_operator d refl)

    tells_after_right_operator : {s : Setting} {r : Row} {tighter : List Row} {v : List Tree} {a : Spot} {w : Option Read} {o : Outcome} {m : ℕ} → AfterRightOperator G s r tighter v a w o m →
        read_at G.grammar G.text s.item r.right a.place ≡ w → Tells a o
    tells_after_right_operator right_unread e = tt
    tells_after_right_operator (right_read {s = s} {r = r} {v = v} {a = a} {q = q} {o = o} d x) e =
        tells_then_operand a fixity.Infix q (as_applied s.builders.infix q.operator v o) (is_read G.grammar G.text s.item r.right a.place q e).ahead
        (tells_applied (at a q.end) s.builders.infix q.operator v o (tells_after_right_operand x (at a q.end) (tells_row_operand d)))

    tells_after_right_operand : {s : Setting} {r : Row} {tighter : List Row} {x o : Outcome} {m : ℕ} → AfterRightOperand G s r tighter x o m → (a : Spot) → Tells a x → Tells a o
    tells_after_right_operand right_operand_failed a h = tt
    tells_after_right_operand right_operand_stuck a h = tt
    tells_after_right_operand (right_operand_ok {c = c} {b = b} {w = w} {t = t} {e = e} {o = o} d) a h = tells_stretch a b c t e (or_return b w o) h.0 h.1 (tells_return b w o (tells_right d))

    tells_left : {s : Setting} {r : Row} {tighter : List Row} {v : List Tree} {a : Spot} {o : Outcome} {m : ℕ} → AnswersLeft G s r tighter v a o m → Tells a o
    tells_left (left_side {s = s} {r = r} {a = a} {o = o} d) =
        tells_ambiguous a (merge (ambiguous_right G.grammar G.text s.item r a.place) (ambiguous_non G.grammar G.text s.item r a.place)) o (tells_after_left_operator d refl)

    tells_after_left_operator : {s : Setting} {r : Row} {tighter : List Row} {v : List Tree} {a : Spot} {w : Option Read} {o : Outcome} {m : ℕ} → AfterLeftOperator G s r tighter v a w o m →
        read_at G.grammar G.text s.item r.left a.place ≡ w → Tells a o
    tells_after_left_operator left_unread e = tt
    tells_after_left_operator (left_read {s = s} {r = r} {a = a} {q = q} {o = o} d x) e =
        tells_then_operand a fixity.Infix q o (is_read G.grammar G.text s.item r.left a.place q e).ahead (tells_after_left_operand x (at a q.end) (tells_row_operand d))

    tells_after_left_operand : {s : Setting} {r : Row} {tighter : List Row} {v : List Tree} {q : Read} {x o : Outcome} {m : ℕ} → AfterLeftOperand G s r tighter v q x o m → (a : Spot) → Tells a x → Tells a o
    tells_after_left_operand left_operand_failed a h = tt
    tells_after_left_operand left_operand_stuck a h = tt
    tells_after_left_operand (left_operand_ok {s = s} {v = v} {w = w} {q = q} {c = c} {b = b} {t = t} {e = e} {o = o} d) a h =
        let x : List Tree = applied s.builders.infix q.operator (v ++ w) in
        tells_stretch a b c t e (or_return b x o) h.0 h.1 (tells_return b x o (tells_left d))

    tells_non : {s : Setting} {r : Row} {tighter : List Row} {v : List Tree} {a : Spot} {o : Outcome} {m : ℕ} → AnswersNon G s r tighter v a o m → Tells a o
    tells_non (neither_side d) = tells_after_non_operator d refl

    tells_after_non_operator : {s : Setting} {r : Row} {tighter : List Row} {v : List Tree} {a : Spot} {w : Option Read} {o : Outcome} {m : ℕ} → AfterNonOperator G s r tighter v a w o m →
        read_at G.grammar G.text s.item r.non a.place ≡ w → Tells a o
    tells_after_non_operator non_unread e = tt
    tells_after_non_operator (non_read {s = s} {r = r} {v = v} {a = a} {q = q} {x = x} d) e =
        tells_then_operand a fixity.Infix q (with_last G.grammar G.text s r q v x) (is_read G.grammar G.text s.item r.non a.place q e).ahead (tells_last G.grammar G.text s r q v (at a q.end) x (tells_row_operand d))
