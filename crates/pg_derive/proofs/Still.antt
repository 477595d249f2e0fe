-- An ok answer that consumed nothing ends at the spot where it began.
use Rattle.std.proofs.Common.{◌≡◌, ◌==◌, ℕ, suc, List, [], ◌∷◌, ◌++◌, Bool, true, false, if◌then◌else◌, refl, ◌∙◌, subst, length, Option, Some, None, slice_get}
use Rattle.std.specs.List.{list_any}
use Rattle.std.specs.Str.{bytes_eq}
use Rattle.pg_tree.specs.Trees.{Tree}
use Rattle.pg_tree.specs.declared.shape.Shape.{Shape}
use Rattle.pg_grammar_form.specs.ClassItems.{has_character}
use Rattle.pg_grammar_value.specs.Grammar.{Grammar}
use Rattle.pg_grammar_form.specs.declared.class.ClassPart.{ClassPart}
use Rattle.pg_grammar_form.specs.Forms.{Node}
use Rattle.pg_grammar_form.specs.declared.form.Around.{Around}
use Rattle.pg_grammar_form.specs.declared.form.Leaf.{Leaf}
use Rattle.pg_grammar_form.specs.declared.form.Leaf.TheVariants as leaf
use Rattle.pg_grammar_form.specs.declared.side.Side.{Side}
use Rattle.pg_grammar_value.specs.declared.trail.TrailItem.{TrailItem}
use Rattle.pg_grammar_value.specs.declared.trail.TrailItem.TheVariants.{Alt}
use Rattle.pg_grammar_form.specs.declared.word_item.WordItem.{WordItem}
use Rattle.pg_grammar_form.specs.Operators.{Operator}
use Rattle.pg_grammar_form.specs.declared.operators_item.OperatorsItem.{OperatorsItem}
use Rattle.pg_table.specs.Tables.{admit_fault}
use Rattle.pg_table.specs.declared.admit_fault.AdmitFault.{AdmitFault}
use Rattle.pg_language.specs.Declarations.{Declaration, no_keyword, no_digit, no_symbol, declared, declaration_at, unless_refused, declaration_outcome, declare_outcome}
use Rattle.pg_language.specs.Derives.{Spot}
use Rattle.pg_language.specs.Runs.{run_at}
use Rattle.pg_language.specs.Answers as answers
use Rattle.pg_language.specs.Answers.{Given, Answers, entered, AnswersForm, nothing, seq, choice, many, rule, AnswersParts, part, AfterPart, part_last, part_failed, part_stuck, part_ok, AnswersAlternatives, no_alternative, alternative, AfterAlternative, alternative_consumed, alternative_stands, alternative_waits, alternative_commits, alternative_failed, alternative_stuck, AnswersRounds, round, AfterRound, round_ended, round_failed, round_empty, round_stuck, round_ok, AnswersChain, first_operand, AfterFirst, first_failed, first_stuck, first_ok, AnswersLinks, link, AfterSeparator, separator_failed, separator_stuck, separator_ok, AfterOperand, operand_failed, operand_stuck, operand_ok, AnswersRows, only_term, loosest_row, AnswersRowOperand, row_operand, AfterRowOperand, row_failed, row_stuck, row_ok, AnswersTail, row_tail, AfterRight, right_stands, right_commits, right_stuck, right_failed, AfterLeft, left_stands, left_commits, left_stuck, left_failed, AnswersRight, right_side, AfterRightOperator, right_unread, right_read, AnswersLeft, left_side, AfterLeftOperator, left_unread, left_read, AnswersNon, neither_side, AfterNonOperator, non_unread, non_read}
use Rattle.pg_language.specs.Errors.{Error, merge}
use Rattle.pg_language.specs.Leaves.{satisfy_next, word_read, word_next, not_followed_next, string_outcome, matched, end_outcome, word_outcome, some_word_outcome, some_declare_outcome, leaf_outcome}
use Rattle.pg_language.specs.Outcomes.{Outcome, ok, failed, empty_round}
use Rattle.pg_language.specs.Reactions.{then_rest, then_round, noted, after_failure, unless_consumed, surrounded, as_finished, unless_begun}
use Rattle.pg_language.proofs.Onward.{left_still}
use Rattle.pg_grammar_value.specs.declared.trail.Fixity.{Fixity}
use Rattle.pg_grammar_value.specs.declared.trail.Fixity.TheVariants as fixity
use Rattle.pg_grammar_form.specs.declared.used.OperatorBuilders.{OperatorBuilders}
use Rattle.pg_expand.specs.declared.rows.Row.{Row}
use Rattle.pg_language.specs.OperatorReads.{Read, read_at}
use Rattle.pg_language.specs.RowReactions.{Setting, then_stretch, then_operand, as_applied, or_return, past_prefix, with_prefix, postfix_outcome, with_postfix, labelled_operator, ambiguous_right, ambiguous_left, ambiguous_non, or_ambiguous, with_last}

-- where the outcome is ok and consumed nothing, its end is this spot
abbrev pub Stays : Spot → Outcome → Type 0
Stays a (ok true b v t e) = Unit {0}
Stays a (ok false b v t e) = b ≡ a
Stays a (failed c e) = Unit {0}
Stays a empty_round = Unit {0}

stays_if : (a : Spot) (b : Bool) (o q : Outcome) → Stays a o → Stays a q → Stays a (if b then o else q)
stays_if a true o q f g = f
stays_if a false o q f g = g

stays_rest : (a b : Spot) (c : Bool) (v : List Tree) (t : List TrailItem) (e : Error) (o : Outcome) → (c ≡ false → b ≡ a) → Stays b o → Stays a (then_rest c v t e o)
stays_rest a b true v t e (ok d z w u f) h g = tt
stays_rest a b false v t e (ok true z w u f) h g = tt
stays_rest a b false v t e (ok false z w u f) h g = g ∙ h refl
stays_rest a b c v t e (failed d f) h g = tt
stays_rest a b c v t e empty_round h g = tt

stays_round : (a : Spot) (v : List Tree) (t : List TrailItem) (o : Outcome) → Stays a (then_round v t o)
stays_round a v t (ok d z w u f) = tt
stays_round a v t (failed d f) = tt
stays_round a v t empty_round = tt

stays_noted : (a : Spot) (x : TrailItem) (o : Outcome) → Stays a o → Stays a (noted x o)
stays_noted a x (ok true b v t e) h = tt
stays_noted a x (ok false b v t e) h = h
stays_noted a x (failed c e) h = tt
stays_noted a x empty_round h = tt

stays_failure : (a : Spot) (e : Error) (o : Outcome) → Stays a o → Stays a (after_failure e o)
stays_failure a e (ok true b v t f) h = tt
stays_failure a e (ok false b v t f) h = h
stays_failure a e (failed c f) h = tt
stays_failure a e empty_round h = tt

stays_unless : (a b : Spot) (v : List Tree) (t : List TrailItem) (e : Error) (o : Outcome) → b ≡ a → Stays a (unless_consumed b v t e o)
stays_unless a b v t e (ok true d w u f) g = tt
stays_unless a b v t e (ok false d w u f) g = g
stays_unless a b v t e (failed true f) g = tt
stays_unless a b v t e (failed false f) g = g
stays_unless a b v t e empty_round g = tt

stays_surrounded : (a : Spot) (k : Around) (text : List ℕ) (o : Outcome) → Stays a o → Stays a (surrounded k text a o)
stays_surrounded a k text (ok true b v t e) h = tt
stays_surrounded a k text (ok false b v t e) h = left_still k a b h
stays_surrounded a k text (failed c e) h = tt
stays_surrounded a k text empty_round h = tt

stays_finished : (a : Spot) (side : Side) (shape : Shape) (x s : List Tree) (o : Outcome) → Stays a o → Stays a (as_finished side shape x s o)
stays_finished a side shape x s (ok true b v t e) h = tt
stays_finished a side shape x s (ok false b v t e) h = h
stays_finished a side shape x s (failed c e) h = tt
stays_finished a side shape x s empty_round h = tt

stays_begun : (c : Bool) (a : Spot) (x : List Tree) (e : Error) → Stays a (unless_begun c a x e)
stays_begun true a x e = tt
stays_begun false a x e = refl

-- what is so of an ok outcome says it of the flag
by_flag : (a b : Spot) (c : Bool) (v : List Tree) (t : List TrailItem) (e : Error) → Stays a (ok c b v t e) → c ≡ false → b ≡ a
by_flag a b true v t e h x = absurd cc
by_flag a b false v t e h x = h

-- ---- leaves

stays_satisfy : (g : Grammar) (class : List ClassPart) (a : Spot) (next : Option ℕ) → Stays a (satisfy_next g class a next)
stays_satisfy g class a None = tt
stays_satisfy g class a (Some c) = stays_if a (has_character g.classes class c) _ _ tt tt

stays_word_read : (item : WordItem) (a : Spot) (s : List ℕ) → Stays a (word_read item a s)
stays_word_read item a s = stays_if a (list_any (λ reserved. bytes_eq reserved s) item.reserved) _ _ tt tt

stays_word : (g : Grammar) (s : List ℕ) (item : WordItem) (a : Spot) (next : Option ℕ) → Stays a (word_next g s item a next)
stays_word g s item a None = tt
stays_word g s item a (Some c) = stays_if a (has_character g.classes item.head c) _ _ (stays_word_read item a (c ∷ run_at g s item.rest (suc a.place))) tt

stays_not_followed : (g : Grammar) (class : List ClassPart) (a : Spot) (next : Option ℕ) → Stays a (not_followed_next g class a next)
stays_not_followed g class a None = refl
stays_not_followed g class a (Some c) = stays_if a (has_character g.classes class c) _ _ tt refl

stays_string : (text s : List ℕ) (a : Spot) → Stays a (string_outcome text s a)
stays_string text s a = stays_if a (matched text s a.place == length s) _ _ tt tt

stays_end : (text : List ℕ) (a : Spot) → Stays a (end_outcome text a)
stays_end text a = stays_if a (a.place == length text) _ _ refl tt

stays_this : (a : Spot) (x o : Outcome) → Some x ≡ Some o → Stays a x → Stays a o
stays_this a x o e h = let same : x ≡ o = cc in subst (Stays a) same h

stays_some_word : (g : Grammar) (text : List ℕ) (a : Spot) (item : Option WordItem) (o : Outcome) → some_word_outcome g text a item ≡ Some o → Stays a o
stays_some_word g text a None o e = absurd (cc)
stays_some_word g text a (Some item) o e = stays_this a (word_outcome g text item a) o e (stays_word g text item a (slice_get text a.place))

stays_refused : (d : Operator) (a : Spot) (i j : ℕ) (fault : Option AdmitFault) → Stays a (unless_refused d a.table i j fault)
stays_refused d a i j (Some fault) = tt
stays_refused d a i j None = tt

stays_declaration : (text : List ℕ) (a : Spot) (x : Declaration) → Stays a (declaration_outcome text a x)
stays_declaration text a no_keyword = tt
stays_declaration text a (no_digit i) = tt
stays_declaration text a (no_symbol i) = tt
stays_declaration text a (declared d i j) = stays_refused d a i j (admit_fault a.table d)

stays_some_declare : (g : Grammar) (text : List ℕ) (class : List ClassPart) (a : Spot) (item : Option OperatorsItem) (o : Outcome) → some_declare_outcome g text class a item ≡ Some o → Stays a o
stays_some_declare g text class a None o e = absurd (cc)
stays_some_declare g text class a (Some item) o e = stays_this a (declare_outcome g text item class a) o e (stays_declaration text a (declaration_at g text item class a.place))

stays_leaf : (g : Grammar) (text : List ℕ) (l : Leaf ℕ) (a : Spot) (o : Outcome) → leaf_outcome g text l a ≡ Some o → Stays a o
stays_leaf g text (leaf.Satisfy class) a o e = stays_this a _ o e (stays_satisfy g class a (slice_get text a.place))
stays_leaf g text (leaf.String s) a o e = stays_this a _ o e (stays_string text s a)
stays_leaf g text (leaf.Word w) a o e = stays_some_word g text a (slice_get g.words w) o e
stays_leaf g text (leaf.NotFollowedBy class) a o e = stays_this a _ o e (stays_not_followed g class a (slice_get text a.place))
stays_leaf g text leaf.EndOfText a o e = stays_this a _ o e (stays_end text a)
stays_leaf g text (leaf.Declare class) a o e = stays_some_declare g text class a g.operators o e

-- ---- expressions

stays_stretch : (a b : Spot) (c : Bool) (t : List TrailItem) (e : Error) (o : Outcome) → (c ≡ false → b ≡ a) → Stays b o → Stays a (then_stretch c t e o)
stays_stretch a b true t e (ok d z w u f) h g = tt
stays_stretch a b false t e (ok true z w u f) h g = tt
stays_stretch a b false t e (ok false z w u f) h g = g ∙ h refl
stays_stretch a b c t e (failed d f) h g = tt
stays_stretch a b c t e empty_round h g = tt

stays_then_operand : (a : Spot) (side : Fixity) (q : Read) (o : Outcome) → Stays a (then_operand side q o)
stays_then_operand a side q (ok d z w u f) = tt
stays_then_operand a side q (failed d f) = tt
stays_then_operand a side q empty_round = tt

stays_labelled : (a : Spot) (o : Outcome) → Stays a o → Stays a (labelled_operator o)
stays_labelled a (ok true b v t e) h = tt
stays_labelled a (ok false b v t e) h = h
stays_labelled a (failed c e) h = tt
stays_labelled a empty_round h = tt

stays_return : (a : Spot) (v : List Tree) (o : Outcome) → Stays a o → Stays a (or_return a v o)
stays_return a v (ok true b w t e) h = tt
stays_return a v (ok false b w t e) h = h
stays_return a v (failed c e) h = stays_begun c a v e
stays_return a v empty_round h = tt

stays_ambiguous : (a : Spot) (e : Error) (o : Outcome) → Stays a o → Stays a (or_ambiguous e o)
stays_ambiguous a e (ok true b v t f) h = tt
stays_ambiguous a e (ok false b v t f) h = h
stays_ambiguous a e (failed true f) h = tt
stays_ambiguous a e (failed false f) h = tt
stays_ambiguous a e empty_round h = tt

stays_prefix : (text : List ℕ) (builders : OperatorBuilders) (os : List Operator) (a : Spot) (w : Option Read) (o : Outcome) → Stays (past_prefix a w) o →
    Stays a (with_prefix text builders os a w o)
stays_prefix text builders os a None o h = stays_stretch a a false [] _ o (λ x. refl) h
stays_prefix text builders os a (Some q) o h = stays_then_operand a fixity.Prefix q _

stays_affix : (text : List ℕ) (builders : OperatorBuilders) (os : List Operator) (v : List Tree) (a : Spot) (w : Option Read) → Stays a (postfix_outcome text builders os v a w)
stays_affix text builders os v a None = refl
stays_affix text builders os v a (Some q) = tt

stays_postfix : (g : Grammar) (text : List ℕ) (s : Setting) (os : List Operator) (a : Spot) (o : Outcome) → Stays a o → Stays a (with_postfix g text s os o)
stays_postfix g text s os a (ok c b v t e) h = stays_stretch a b c t e _ (by_flag a b c v t e h) (stays_affix text s.builders os v b (read_at g text s.item os b.place))
stays_postfix g text s os a (failed c e) h = tt
stays_postfix g text s os a empty_round h = tt

-- ---- the relation

module _ (G : Given) where
  mutual
    pub stays : {p : ℕ} {a : Spot} {o : Outcome} {m : ℕ} → Answers G p a o m → Stays a o
    stays (entered e d) = stays_form d

    stays_form : {f : Node} {a : Spot} {o : Outcome} {m : ℕ} → AnswersForm G f a o m → Stays a o
    stays_form (answers.leaf {l = l} {a = a} {o = o} x) = stays_leaf G.grammar G.text l a o x
    stays_form nothing = refl
    stays_form (seq d) = stays_parts d
    stays_form (choice d) = stays_alternatives d
    stays_form (many {a = a} {o = o} d) = stays_noted a _ o (stays_rounds d)
    stays_form (answers.chain {a = a} {o = o} d) = stays_noted a _ o (stays_chain d)
    stays_form (rule x d) = stays d
    stays_form (answers.expression x d) = stays_rows d
    stays_form (answers.around {k = k} {a = a} {o = o} d) = stays_surrounded a k G.text o (stays d)

    stays_parts : {p : ℕ} {ps : List ℕ} {a : Spot} {o : Outcome} {m : ℕ} → AnswersParts G p ps a o m → Stays a o
    stays_parts (part {a = a} d r) = stays_after_part r a (stays d)

    stays_after_part : {ps : List ℕ} {x o : Outcome} {m : ℕ} → AfterPart G ps x o m → (a : Spot) → Stays a x → Stays a o
    stays_after_part part_last a h = h
    stays_after_part part_failed a h = tt
    stays_after_part part_stuck a h = tt
    stays_after_part (part_ok {c = c} {b = b} {v = v} {t = t} {e = e} {o = o} d) a h = stays_rest a b c v t e o (by_flag a b c v t e h) (stays_parts d)

    stays_alternatives : {k : ℕ} {ps : List ℕ} {a : Spot} {o : Outcome} {m : ℕ} → AnswersAlternatives G k ps a o m → Stays a o
    stays_alternatives no_alternative = tt
    stays_alternatives (alternative d r) = stays_after_alternative r (stays d)

    stays_after_alternative : {k : ℕ} {ps : List ℕ} {a : Spot} {x o : Outcome} {m : ℕ} → AfterAlternative G k ps a x o m → Stays a x → Stays a o
    stays_after_alternative alternative_consumed h = tt
    stays_after_alternative (alternative_stands e) h = h
    stays_after_alternative (alternative_waits {k = k} {a = a} {b = b} {v = v} {t = t} {e = x} {o = o} e d) h = stays_unless a b v (Alt k ∷ t) x o h
    stays_after_alternative alternative_commits h = tt
    stays_after_alternative (alternative_failed {a = a} {e = e} {o = o} d) h = stays_failure a e o (stays_alternatives d)
    stays_after_alternative alternative_stuck h = tt

    stays_rounds : {p k : ℕ} {a : Spot} {o : Outcome} {m : ℕ} → AnswersRounds G p k a o m → Stays a o
    stays_rounds (round d r) = stays_after_round r

    stays_after_round : {p k : ℕ} {a : Spot} {x o : Outcome} {m : ℕ} → AfterRound G p k a x o m → Stays a o
    stays_after_round round_ended = refl
    stays_after_round round_failed = tt
    stays_after_round round_empty = tt
    stays_after_round round_stuck = tt
    stays_after_round (round_ok {a = a} {v = v} {t = t} {o = o} d) = stays_round a v t o

    stays_chain : {side : Side} {shape : Shape} {p s k : ℕ} {a : Spot} {o : Outcome} {m : ℕ} → AnswersChain G side shape p s k a o m → Stays a o
    stays_chain (first_operand {a = a} d r) = stays_after_first r a (stays d)

    stays_after_first : {side : Side} {shape : Shape} {p s k : ℕ} {x o : Outcome} {m : ℕ} → AfterFirst G side shape p s k x o m → (a : Spot) → Stays a x → Stays a o
    stays_after_first first_failed a h = tt
    stays_after_first first_stuck a h = tt
    stays_after_first (first_ok {c = c} {b = b} {v = v} {t = t} {e = e} {o = o} d) a h = stays_rest a b c [] t e o (by_flag a b c v t e h) (stays_links d)

    stays_links : {side : Side} {shape : Shape} {p s : ℕ} {left : List Tree} {k : ℕ} {a : Spot} {o : Outcome} {m : ℕ} → AnswersLinks G side shape p s left k a o m → Stays a o
    stays_links (link d r) = stays_after_separator r (stays d)

    stays_after_separator : {side : Side} {shape : Shape} {p s : ℕ} {left : List Tree} {k : ℕ} {a : Spot} {x o : Outcome} {m : ℕ} →
        AfterSeparator G side shape p s left k a x o m → Stays a x → Stays a o
    stays_after_separator (separator_failed {left = left} {a = a} {c = c} {e = e}) h = stays_begun c a left e
    stays_after_separator separator_stuck h = tt
    stays_after_separator (separator_ok {v = v} {a = a} {b = b} {c = c} {t = t} {e = e} d r) h = stays_after_operand r b (by_flag a b c v t e h) (stays d)

    stays_after_operand : {side : Side} {shape : Shape} {p s : ℕ} {left : List Tree} {k : ℕ} {a : Spot} {c : Bool} {v : List Tree} {t : List TrailItem} {e : Error} {x o : Outcome} {m : ℕ} →
        AfterOperand G side shape p s left k a c v t e x o m → (b : Spot) → (c ≡ false → b ≡ a) → Stays b x → Stays a o
    stays_after_operand (operand_failed {left = left} {a = a}) b h g = stays_begun _ a left _
    stays_after_operand operand_stuck b h g = tt
    stays_after_operand (operand_ok {side = side} {shape = shape} {left = left} {v = v} {w = w} {a = a} {b = z} {c = c} {d = d} {t = t} {u = u} {e = e} {f = f} {o = o} x y) b h g =
        stays_rest a b c [] t e _ h (stays_rest b z d [] u f _ (by_flag b z d w u f g) (stays_finished z side shape left v o (stays_links y)))

    stays_rows : {s : Setting} {rows : List Row} {a : Spot} {o : Outcome} {m : ℕ} → AnswersRows G s rows a o m → Stays a o
    stays_rows (only_term {a = a} {o = o} d) = stays_noted a _ o (stays d)
    stays_rows (loosest_row {a = a} d r) = stays_after_row r a (stays_row_operand d)

    stays_row_operand : {s : Setting} {r : Row} {tighter : List Row} {a : Spot} {o : Outcome} {m : ℕ} → AnswersRowOperand G s r tighter a o m → Stays a o
    stays_row_operand (row_operand {s = s} {r = r} {a = a} {x = x} d) =
        stays_postfix G.grammar G.text s r.postfix a _ (stays_prefix G.text s.builders r.prefix a (read_at G.grammar G.text s.item r.prefix a.place) x (stays_rows d))

    stays_after_row : {s : Setting} {r : Row} {tighter : List Row} {x o : Outcome} {m : ℕ} → AfterRowOperand G s r tighter x o m → (a : Spot) → Stays a x → Stays a o
    stays_after_row row_failed a h = tt
    stays_after_row row_stuck a h = tt
    stays_after_row (row_ok {c = c} {b = b} {v = v} {t = t} {e = e} {o = o} d) a h = stays_stretch a b c t e (labelled_operator o) (by_flag a b c v t e h) (stays_labelled b o (stays_tail d))

    stays_tail : {s : Setting} {r : Row} {tighter : List Row} {v : List Tree} {a : Spot} {o : Outcome} {m : ℕ} → AnswersTail G s r tighter v a o m → Stays a o
    stays_tail (row_tail d r) = stays_after_right r (stays_right d)

    stays_after_right : {s : Setting} {r : Row} {tighter : List Row} {v : List Tree} {a : Spot} {x o : Outcome} {m : ℕ} → AfterRight G s r tighter v a x o m → Stays a x → Stays a o
    stays_after_right right_stands h = h
    stays_after_right right_commits h = tt
    stays_after_right right_stuck h = tt
    stays_after_right (right_failed {a = a} {e = e} {o = o} d r) h = stays_failure a e o (stays_after_left r (stays_left d))

    stays_after_left : {s : Setting} {r : Row} {tighter : List Row} {v : List Tree} {a : Spot} {x o : Outcome} {m : ℕ} → AfterLeft G s r tighter v a x o m → Stays a x → Stays a o
    stays_after_left left_stands h = h
    stays_after_left left_commits h = tt
    stays_after_left left_stuck h = tt
    stays_after_left (left_failed {v = v} {a = a} {e = e} {o = o} d) h = stays_failure a e (or_return a v o) (stays_return a v o (stays_non d))

    stays_right : {s : Setting} {r : Row} {tighter : List Row} {v : List Tree} {a : Spot} {o : Outcome} {m : ℕ} → AnswersRight G s r tighter v a o m → Stays a o
    stays_right (right_side {s = s} {r = r} {a = a} {o = o} d) =
        stays_ambiguous a (merge (ambiguous_left G.grammar G.text s.item r a.place) (ambiguous_non G.grammar G.text s.item r a.place)) o (stays_after_right_operator d)

    stays_after_right_operator : {s : Setting} {r : Row} {tighter : List Row} {v : List Tree} {a : Spot} {w : Option Read} {o : Outcome} {m : ℕ} → AfterRightOperator G s r tighter v a w o m → Stays a o
    stays_after_right_operator right_unread = tt
    stays_after_right_operator (right_read {s = s} {v = v} {a = a} {q = q} {o = o} d x) = stays_then_operand a fixity.Infix q (as_applied s.builders.infix q.operator v o)

    stays_left : {s : Setting} {r : Row} {tighter : List Row} {v : List Tree} {a : Spot} {o : Outcome} {m : ℕ} → AnswersLeft G s r tighter v a o m → Stays a o
    stays_left (left_side {s = s} {r = r} {a = a} {o = o} d) =
        stays_ambiguous a (merge (ambiguous_right G.grammar G.text s.item r a.place) (ambiguous_non G.grammar G.text s.item r a.place)) o (stays_after_left_operator d)

    stays_after_left_operator : {s : Setting} {r : Row} {tighter : List Row} {v : List Tree} {a : Spot} {w : Option Read} {o : Outcome} {m : ℕ} → AfterLeftOperator G s r tighter v a w o m → Stays a o
    stays_after_left_operator left_unread = tt
    stays_after_left_operator (left_read {a = a} {q = q} {o = o} d x) = stays_then_operand a fixity.Infix q o

    stays_non : {s : Setting} {r : Row} {tighter : List Row} {v : List Tree} {a : Spot} {o : Outcome} {m : ℕ} → AnswersNon G s r tighter v a o m → Stays a o
    stays_non (neither_side d) = stays_after_non_operator d

    stays_after_non_operator : {s : Setting} {r : Row} {tighter : List Row} {v : List Tree} {a : Spot} {w : Option Read} {o : Outcome} {m : ℕ} → AfterNonOperator G s r tighter v a w o m → Stays a o
    stays_after_non_operator non_unread = tt
    stays_after_non_operator (non_read {s = s} {r = r} {v = v} {a = a} {q = q} {x = x} d) = stays_then_operand a fixity.Infix q (with_last G.grammar G.text s r q v x)
