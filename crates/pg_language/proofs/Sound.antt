-- An ok answer is a derivation.
use Rattle.std.proofs.Common.{◌≡◌, ◌+◌, ℕ, zero, suc, List, [], ◌∷◌, ◌++◌, Bool, refl, sym, ap, subst, ◌∙◌, inl, inr, append-nil, append_assoc, arith}
use Rattle.std.specs.Prelude.{Option, Some, slice_get}
use Rattle.pg_tree.specs.Trees.{Tree}
use Rattle.pg_tree.specs.declared.shape.Shape.{Shape}
use Rattle.pg_grammar_form.specs.Forms.{Node}
use Rattle.pg_grammar_form.specs.declared.form.Form.TheVariants as form
use Rattle.pg_grammar_form.specs.declared.operators_item.OperatorsItem.{OperatorsItem}
use Rattle.pg_grammar_form.specs.declared.used.ChainBuilder.{ChainBuilder}
use Rattle.pg_grammar_form.specs.declared.used.OperatorBuilders.{OperatorBuilders}
use Rattle.pg_language.specs.Derives as derives
use Rattle.pg_language.specs.Derives.{Spot, at, applied, carried, finished, Derives, DerivesForm, DerivesParts, DerivesRounds, DerivesLinks}
use Rattle.pg_grammar_value.specs.declared.trail.TrailItem.{TrailItem}
use Rattle.pg_grammar_value.specs.declared.trail.TrailItem.TheVariants.{Alt, Rounds, Ops}
use Rattle.pg_grammar_value.specs.declared.trail.Fixity.TheVariants as fixity
use Rattle.pg_grammar_form.specs.Operators.{Operator}
use Rattle.pg_grammar_form.specs.declared.decl.Role.TheVariants.{InfixLeft, InfixRight, InfixNone}
use Rattle.pg_table.specs.Fitting.{IsJoined}
use Rattle.pg_expand.specs.declared.rows.Row.{Row}
use Rattle.pg_language.specs.Answers as answers
use Rattle.pg_language.specs.Answers.{Given, Answers, entered, AnswersForm, nothing, seq, choice, many, rule, AnswersParts, part, AfterPart, part_last, part_failed, part_stuck, part_ok, AnswersAlternatives, no_alternative, alternative, AfterAlternative, alternative_consumed, alternative_stands, alternative_waits, alternative_commits, alternative_failed, alternative_stuck, AnswersRounds, round, AfterRound, round_ended, round_failed, round_empty, round_stuck, round_ok, AnswersChain, first_operand, AfterFirst, first_failed, first_stuck, first_ok, AnswersLinks, link, AfterSeparator, separator_failed, separator_stuck, separator_ok, AfterOperand, operand_failed, operand_stuck, operand_ok, AnswersRows, only_term, loosest_row, AnswersRowOperand, row_operand, AfterRowOperand, row_failed, row_stuck, row_ok, AnswersTail, row_tail, AfterRight, right_stands, right_commits, right_stuck, right_failed, AfterLeft, left_stands, left_commits, left_stuck, left_failed, AnswersRight, right_side, AfterRightOperator, right_unread, right_read, AfterRightOperand, right_operand_failed, right_operand_stuck, right_operand_ok, AnswersLeft, left_side, AfterLeftOperator, left_unread, left_read, AfterLeftOperand, left_operand_failed, left_operand_stuck, left_operand_ok, AnswersNon, neither_side, AfterNonOperator, non_unread, non_read}
use Rattle.pg_language.specs.Errors.{Error, merge}
use Rattle.pg_language.specs.OperatorReads.{Read, read_at}
use Rattle.pg_grammar_form.specs.declared.side.Side.{Side}
use Rattle.pg_language.specs.Outcomes.{Outcome}
use Rattle.pg_language.specs.Reactions.{then_rest, as_finished}
use Rattle.pg_language.specs.RowReactions.{Setting, items_of, joined_trail, noted_operator, as_applied, or_return, labelled_operator, ambiguous_right, ambiguous_left, ambiguous_non}
use Rattle.pg_language.proofs.Derived.{WhereOk, ok_map, ok_rest, ok_round, ok_noted, ok_failure, ok_unless, ok_surrounded, ok_finished}
use Rattle.pg_language.proofs.LeavesDerived.{leaf_derived}
use Rattle.pg_language.proofs.ChainsDerived.{DerivesAfter, DerivesChain, none_after}
use Rattle.pg_language.proofs.RowLevels.{IsRowOf, AreLevels, no_level, level, levels}
use Rattle.pg_language.proofs.RowsDerived.{StandsInRow, stands_in_row, IsUpTo, IsOperandOf, IsSideOf, Spread, ok_stretch, ok_operand, ok_return, ok_applied, ok_ambiguous, ok_labelled, of_kind, with_nothing, regrouped, of_term, right_spread, left_spread, operand_ok_spread, last_ok, operand_up_to, joined_up_to}

-- one of these alternatives, the first of which has this number
record DerivesOne (G : Given) (k : ℕ) (ps : List ℕ) (a b : Spot) (v : List Tree) (t : List TrailItem) : Type 0 where
  which : ℕ
  node : ℕ
  items : List TrailItem
  there : slice_get ps which ≡ Some node
  trail : t ≡ Alt (k + which) ∷ items
  derived : Derives G.grammar G.text node a b v items

first_one : (G : Given) (k p : ℕ) (ps : List ℕ) (a b : Spot) (v : List Tree) (t : List TrailItem) → Derives G.grammar G.text p a b v t → DerivesOne G k (p ∷ ps) a b v (Alt k ∷ t)
first_one G k p ps a b v t d =
    let e : k ≡ k + 0 = omega arith in record { which = 0; node = p; items = t; there = refl; trail = ap (λ n. Alt n ∷ t) e; derived = d }

later_one : (G : Given) (k p : ℕ) (ps : List ℕ) (a b : Spot) (v : List Tree) (t : List TrailItem) → DerivesOne G (suc k) ps a b v t → DerivesOne G k (p ∷ ps) a b v t
later_one G k p ps a b v t h = let e : suc k + h.which ≡ k + suc h.which = omega arith in
    record { which = suc h.which; node = h.node; items = h.items; there = h.there; trail = h.trail ∙ ap (λ n. Alt n ∷ h.items) e; derived = h.derived }

one_derived : (G : Given) (ps : List ℕ) (a b : Spot) (v : List Tree) (t : List TrailItem) → DerivesOne G (suc zero) ps a b v t → DerivesForm G.grammar G.text (form.Choice ps) a b v t
one_derived G ps a b v t h = let e : suc zero + h.which ≡ suc h.which = omega arith in
    subst (λ t. DerivesForm G.grammar G.text (form.Choice ps) a b v t) (sym (h.trail ∙ ap (λ n. Alt n ∷ h.items) e)) (derives.choice h.there h.derived)

-- a last part
last_part : (G : Given) (p : ℕ) (a b : Spot) (v : List Tree) (t : List TrailItem) → Derives G.grammar G.text p a b v t → DerivesParts G.grammar G.text (p ∷ []) a b v t
last_part G p a b v t d =
    subst (λ v. DerivesParts G.grammar G.text (p ∷ []) a b v t) (append-nil v)
    (subst (λ t. DerivesParts G.grammar G.text (p ∷ []) a b (v ++ []) t) (append-nil t) (derives.first_part d derives.no_part))

-- a link more
more_after : (G : Given) (side : Side) (shape : Shape) (p s k : ℕ) (left v w : List Tree) (t u : List TrailItem) (a b c d : Spot) (z : List Tree) (items : List TrailItem) →
    Derives G.grammar G.text s a b v t → Derives G.grammar G.text p b c w u → DerivesAfter G side shape p s (carried side shape left v w) k c d z items →
    DerivesAfter G side shape p s left (suc k) a d (finished side shape left v z) (t ++ (u ++ items))
more_after G side shape p s k left v w t u a b c d z items separator operand h = record {
  links = (v, w) ∷ h.links;
  derived = subst (λ n. DerivesLinks G.grammar G.text p s (suc k) a d ((v, w) ∷ h.links) n) (append_assoc t u items) (derives.first_link separator operand h.derived);
  forest = ap (finished side shape left v) h.forest;
}

-- a chain
whole_chain : (G : Given) (side : Side) (used : ChainBuilder) (p s k : ℕ) (a b : Spot) (v : List Tree) (t : List TrailItem) → DerivesChain G side used.shape p s k a b v t →
    DerivesForm G.grammar G.text (form.Chain side used p s) a b v (Rounds k ∷ t)
whole_chain G side used p s k a b v t h =
    subst (λ v. DerivesForm G.grammar G.text (form.Chain side used p s) a b v (Rounds k ∷ t)) (sym h.after.forest)
    (subst (λ t. DerivesForm G.grammar G.text (form.Chain side used p s) a b (derives.folded side used.shape h.first h.after.links) (Rounds k ∷ t)) (sym h.noted)
    (derives.chain h.operand h.after.derived))

-- the tree of a whole expression
spread_derived : (G : Given) (item : OperatorsItem) (builders : OperatorBuilders) (p k : ℕ) (a b : Spot) (v : List Tree) (t : List TrailItem) → G.grammar.operators ≡ Some item →
    Spread G (record { item = item; builders = builders; term = p }) a.table.operators (IsUpTo a.table.operators k) a b v t → DerivesForm G.grammar G.text (form.Expression builders p) a b v t
spread_derived G item builders p k a b v t there h =
    subst (λ t. DerivesForm G.grammar G.text (form.Expression builders p) a b v t) h.whole
    (subst (λ os. DerivesForm G.grammar G.text (form.Expression builders p) a b v (Ops os ∷ items_of t)) (sym h.read) (derives.expression there h.fits h.derived))

mutual
  pub sound : {G : Given} {p : ℕ} {a : Spot} {o : Outcome} {m : ℕ} → Answers G p a o m → WhereOk (Derives G.grammar G.text p a) o
  sound (entered {o = o} e d) = ok_map _ _ o (λ b v t h. derives.at_node e h) (sound_form d)

  sound_form : {G : Given} {f : Node} {a : Spot} {o : Outcome} {m : ℕ} → AnswersForm G f a o m → WhereOk (DerivesForm G.grammar G.text f a) o
  sound_form {G = G} (answers.leaf {l = l} {a = a} {o = o} e) = leaf_derived G.grammar G.text l a o e
  sound_form nothing = derives.seq derives.no_part
  sound_form (seq {o = o} d) = ok_map _ _ o (λ b v t h. derives.seq h) (sound_parts d)
  sound_form {G = G} (choice {ps = ps} {a = a} {o = o} d) = ok_map _ _ o (one_derived G ps a) (sound_alternatives d)
  sound_form (many {k = k} {o = o} d) = ok_noted _ _ (Rounds k) o (λ b v t h. derives.many h) (sound_rounds d)
  sound_form {G = G} (answers.chain {side = side} {used = used} {p = p} {s = s} {k = k} {a = a} {o = o} d) =
      ok_noted _ _ (Rounds k) o (whole_chain G side used p s k a) (sound_chain d)
  sound_form (rule {o = o} e d) = ok_map _ _ o (λ b v t h. derives.rule e h) (sound d)
  sound_form {G = G} (answers.expression {item = item} {builders = builders} {p = p} {a = a} {o = o} e d) =
      ok_map _ _ o (λ b v t h. spread_derived G item builders p _ a b v t e h) (sound_rows d (levels a.table.operators))
  sound_form {G = G} (answers.around {k = k} {a = a} {o = o} d) = ok_surrounded _ _ k G.text a o (λ b v t h. derives.around h) (sound d)

  sound_parts : {G : Given} {p : ℕ} {ps : List ℕ} {a : Spot} {o : Outcome} {m : ℕ} → AnswersParts G p ps a o m → WhereOk (DerivesParts G.grammar G.text (p ∷ ps) a) o
  sound_parts (part {p = p} {a = a} d r) = sound_after_part r p a (sound d)

  sound_after_part : {G : Given} {ps : List ℕ} {x o : Outcome} {m : ℕ} → AfterPart G ps x o m → (p : ℕ) (a : Spot) →
      WhereOk (Derives G.grammar G.text p a) x → WhereOk (DerivesParts G.grammar G.text (p ∷ ps) a) o
  sound_after_part {G = G} (part_last {x = x}) p a h = ok_map _ _ x (last_part G p a) h
  sound_after_part part_failed p a h = tt
  sound_after_part part_stuck p a h = tt
  sound_after_part (part_ok {c = c} {v = v} {t = t} {e = e} {o = o} d) p a h = ok_rest _ _ c v t e o (λ b w u g. derives.first_part h g) (sound_parts d)

  sound_alternatives : {G : Given} {k : ℕ} {ps : List ℕ} {a : Spot} {o : Outcome} {m : ℕ} → AnswersAlternatives G k ps a o m → WhereOk (DerivesOne G k ps a) o
  sound_alternatives no_alternative = tt
  sound_alternatives (alternative {p = p} d r) = sound_after_alternative r p (sound d)

  sound_after_alternative : {G : Given} {k : ℕ} {ps : List ℕ} {a : Spot} {x o : Outcome} {m : ℕ} → AfterAlternative G k ps a x o m → (p : ℕ) →
      WhereOk (Derives G.grammar G.text p a) x → WhereOk (DerivesOne G k (p ∷ ps) a) o
  sound_after_alternative {G = G} (alternative_consumed {k = k} {ps = ps} {a = a} {b = b} {v = v} {t = t}) p h = first_one G k p ps a b v t h
  sound_after_alternative {G = G} (alternative_stands {k = k} {ps = ps} {a = a} {b = b} {v = v} {t = t} e) p h = first_one G k p ps a b v t h
  sound_after_alternative {G = G} (alternative_waits {k = k} {ps = ps} {a = a} {b = b} {v = v} {t = t} {e = x} {o = o} e d) p h =
      ok_unless _ b v (Alt k ∷ t) x o (first_one G k p ps a b v t h) (ok_map _ _ o (later_one G k p ps a) (sound_alternatives d))
  sound_after_alternative alternative_commits p h = tt
  sound_after_alternative {G = G} (alternative_failed {k = k} {ps = ps} {a = a} {e = e} {o = o} d) p h =
      ok_failure _ e o (ok_map _ _ o (later_one G k p ps a) (sound_alternatives d))
  sound_after_alternative alternative_stuck p h = tt

  sound_rounds : {G : Given} {p k : ℕ} {a : Spot} {o : Outcome} {m : ℕ} → AnswersRounds G p k a o m → WhereOk (DerivesRounds G.grammar G.text p k a) o
  sound_rounds (round d r) = sound_after_round r (sound d)

  sound_after_round : {G : Given} {p k : ℕ} {a : Spot} {x o : Outcome} {m : ℕ} → AfterRound G p k a x o m →
      WhereOk (Derives G.grammar G.text p a) x → WhereOk (DerivesRounds G.grammar G.text p k a) o
  sound_after_round round_ended h = derives.no_round
  sound_after_round round_failed h = tt
  sound_after_round round_empty h = tt
  sound_after_round round_stuck h = tt
  sound_after_round (round_ok {v = v} {t = t} {o = o} d) h = ok_round _ _ v t o (λ b w u g. derives.first_round h g) (sound_rounds d)

  sound_chain : {G : Given} {side : Side} {shape : Shape} {p s k : ℕ} {a : Spot} {o : Outcome} {m : ℕ} → AnswersChain G side shape p s k a o m →
      WhereOk (DerivesChain G side shape p s k a) o
  sound_chain (first_operand {a = a} d r) = sound_after_first r a (sound d)

  sound_after_first : {G : Given} {side : Side} {shape : Shape} {p s k : ℕ} {x o : Outcome} {m : ℕ} → AfterFirst G side shape p s k x o m → (a : Spot) →
      WhereOk (Derives G.grammar G.text p a) x → WhereOk (DerivesChain G side shape p s k a) o
  sound_after_first first_failed a h = tt
  sound_after_first first_stuck a h = tt
  sound_after_first {G = G} {side = side} {shape = shape} (first_ok {p = p} {s = s} {k = k} {c = c} {b = b} {v = v} {t = t} {e = e} {o = o} d) a h =
      ok_rest _ _ c [] t e o (λ b w u g. record { middle = _; first = v; trail = t; items = u; operand = h; after = g; noted = refl }) (sound_links d)

  sound_links : {G : Given} {side : Side} {shape : Shape} {p s : ℕ} {left : List Tree} {k : ℕ} {a : Spot} {o : Outcome} {m : ℕ} →
      AnswersLinks G side shape p s left k a o m → WhereOk (DerivesAfter G side shape p s left k a) o
  sound_links (link d r) = sound_after_separator r (sound d)

  sound_after_separator : {G : Given} {side : Side} {shape : Shape} {p s : ℕ} {left : List Tree} {k : ℕ} {a : Spot} {x o : Outcome} {m : ℕ} →
      AfterSeparator G side shape p s left k a x o m → WhereOk (Derives G.grammar G.text s a) x → WhereOk (DerivesAfter G side shape p s left k a) o
  sound_after_separator {G = G} (separator_failed {side = side} {shape = shape} {p = p} {s = s} {left = left} {a = a} {c = c} {e = e}) h =
      none_after G side shape p s left a c e
  sound_after_separator separator_stuck h = tt
  sound_after_separator (separator_ok {b = b} d r) h = sound_after_operand r b h (sound d)

  sound_after_operand : {G : Given} {side : Side} {shape : Shape} {p s : ℕ} {left : List Tree} {k : ℕ} {a : Spot} {c : Bool} {v : List Tree} {t : List TrailItem} {e : Error} {x o : Outcome} {m : ℕ} →
      AfterOperand G side shape p s left k a c v t e x o m → (b : Spot) → Derives G.grammar G.text s a b v t →
      WhereOk (Derives G.grammar G.text p b) x → WhereOk (DerivesAfter G side shape p s left k a) o
  sound_after_operand {G = G} {side = side} {shape = shape} (operand_failed {p = p} {s = s} {left = left} {a = a}) b g h = none_after G side shape p s left a _ _
  sound_after_operand operand_stuck b g h = tt
  sound_after_operand {G = G} {side = side} {shape = shape} (operand_ok {p = p} {s = s} {k = k} {left = left} {v = v} {w = w} {a = a} {b = b} {c = c} {d = d} {t = t} {u = u} {e = e} {f = f} {o = o} x y) middle g h =
      ok_rest _ _ c [] t e (then_rest d [] u f (as_finished side shape left v o)) (λ end z items n. n)
      (ok_rest _ _ d [] u f (as_finished side shape left v o) (λ end z items n. n)
      (ok_finished _ _ side shape left v o (λ end z items n. more_after G side shape p s k left v w t u a middle b end z items g h n) (sound_links y)))

  -- ---- expressions: each parser of a row answers trees that fit the row, after the tree that is there

  sound_rows : {G : Given} {s : Setting} {rows : List Row} {a : Spot} {o : Outcome} {m : ℕ} {operators : List Operator} {k : ℕ} → AnswersRows G s rows a o m →
      AreLevels operators k rows → WhereOk (Spread G s operators (IsUpTo operators k) a) o
  sound_rows {G = G} {operators = operators} (only_term {s = s} {a = a} {o = o} d) no_level = ok_noted _ _ (Ops []) o (λ b v t h. of_term G s operators a b v t h) (sound d)
  sound_rows (loosest_row {a = a} d r) (level is are) = sound_after_row r a is are (sound_row_operand d is are)

  sound_row_operand : {G : Given} {s : Setting} {r : Row} {tighter : List Row} {a : Spot} {o : Outcome} {m : ℕ} {operators : List Operator} {k : ℕ} → AnswersRowOperand G s r tighter a o m →
      IsRowOf operators (suc k) r → AreLevels operators k tighter → WhereOk (Spread G s operators (IsOperandOf operators (suc k)) a) o
  sound_row_operand {G = G} {operators = operators} {k = k} (row_operand {s = s} {r = r} {a = a} {x = x} d) is are = operand_ok_spread G s operators k r a x is (sound_rows d are)

  sound_after_row : {G : Given} {s : Setting} {r : Row} {tighter : List Row} {x o : Outcome} {m : ℕ} {operators : List Operator} {k : ℕ} → AfterRowOperand G s r tighter x o m → (a : Spot) →
      IsRowOf operators (suc k) r → AreLevels operators k tighter → WhereOk (Spread G s operators (IsOperandOf operators (suc k)) a) x → WhereOk (Spread G s operators (IsUpTo operators (suc k)) a) o
  sound_after_row row_failed a is are h = tt
  sound_after_row row_stuck a is are h = tt
  sound_after_row (row_ok {c = c} {t = t} {e = e} {o = o} d) a is are h = ok_stretch _ c t e (labelled_operator o) (ok_labelled _ o (sound_tail d a t is are h))

  sound_tail : {G : Given} {s : Setting} {r : Row} {tighter : List Row} {v : List Tree} {b : Spot} {o : Outcome} {m : ℕ} {operators : List Operator} {k : ℕ} → AnswersTail G s r tighter v b o m →
      (a : Spot) (t : List TrailItem) → IsRowOf operators (suc k) r → AreLevels operators k tighter → Spread G s operators (IsOperandOf operators (suc k)) a b v t →
      WhereOk (λ z w u. Spread G s operators (IsUpTo operators (suc k)) a z w (joined_trail t u)) o
  sound_tail (row_tail d r) a t is are h = sound_after_right r a t is are h (sound_right d a t is are h)

  sound_after_right : {G : Given} {s : Setting} {r : Row} {tighter : List Row} {v : List Tree} {b : Spot} {x o : Outcome} {m : ℕ} {operators : List Operator} {k : ℕ} →
      AfterRight G s r tighter v b x o m → (a : Spot) (t : List TrailItem) → IsRowOf operators (suc k) r → AreLevels operators k tighter →
      Spread G s operators (IsOperandOf operators (suc k)) a b v t → WhereOk (λ z w u. Spread G s operators (IsJoined operators InfixRight (suc k)) a z w (joined_trail t u)) x →
      WhereOk (λ z w u. Spread G s operators (IsUpTo operators (suc k)) a z w (joined_trail t u)) o
  sound_after_right {G = G} {operators = operators} {k = k} (right_stands {s = s} {w = w} {b = z} {t = u}) a t is are h g =
      of_kind G s operators _ _ a z w (joined_trail t u) (joined_up_to operators InfixRight (suc k)) g
  sound_after_right right_commits a t is are h g = tt
  sound_after_right right_stuck a t is are h g = tt
  sound_after_right {G = G} {operators = operators} {k = k} (right_failed {s = s} {v = v} {a = b} {e = e} {o = o} d r) a t is are h g =
      ok_failure _ e o (sound_after_left r a t is are h (sound_left d a t is are (of_kind G s operators _ _ a b v t (λ x f. inl f) h)))

  sound_after_left : {G : Given} {s : Setting} {r : Row} {tighter : List Row} {v : List Tree} {b : Spot} {x o : Outcome} {m : ℕ} {operators : List Operator} {k : ℕ} →
      AfterLeft G s r tighter v b x o m → (a : Spot) (t : List TrailItem) → IsRowOf operators (suc k) r → AreLevels operators k tighter →
      Spread G s operators (IsOperandOf operators (suc k)) a b v t → WhereOk (λ z w u. Spread G s operators (IsJoined operators InfixLeft (suc k)) a z w (joined_trail t u)) x →
      WhereOk (λ z w u. Spread G s operators (IsUpTo operators (suc k)) a z w (joined_trail t u)) o
  sound_after_left {G = G} {operators = operators} {k = k} (left_stands {s = s} {w = w} {b = z} {t = u}) a t is are h g =
      of_kind G s operators _ _ a z w (joined_trail t u) (joined_up_to operators InfixLeft (suc k)) g
  sound_after_left left_commits a t is are h g = tt
  sound_after_left left_stuck a t is are h g = tt
  sound_after_left {G = G} {operators = operators} {k = k} (left_failed {s = s} {v = v} {a = b} {e = e} {o = o} d) a t is are h g =
      ok_failure _ e (or_return b v o)
      (ok_return _ b v o (of_kind G s operators _ _ a b v (joined_trail t []) (operand_up_to operators (suc k)) (with_nothing G s operators _ a b v t h)) (sound_non d a t is are h))

  sound_right : {G : Given} {s : Setting} {r : Row} {tighter : List Row} {v : List Tree} {b : Spot} {o : Outcome} {m : ℕ} {operators : List Operator} {k : ℕ} →
      AnswersRight G s r tighter v b o m → (a : Spot) (t : List TrailItem) → IsRowOf operators (suc k) r → AreLevels operators k tighter →
      Spread G s operators (IsOperandOf operators (suc k)) a b v t → WhereOk (λ z w u. Spread G s operators (IsJoined operators InfixRight (suc k)) a z w (joined_trail t u)) o
  sound_right {G = G} (right_side {s = s} {r = r} {a = b} {o = o} d) a t is are h =
      ok_ambiguous _ (merge (ambiguous_left G.grammar G.text s.item r b.place) (ambiguous_non G.grammar G.text s.item r b.place)) o (sound_after_right_operator d a t is are h refl)

  sound_after_right_operator : {G : Given} {s : Setting} {r : Row} {tighter : List Row} {v : List Tree} {b : Spot} {w : Option Read} {o : Outcome} {m : ℕ} {operators : List Operator} {k : ℕ} →
      AfterRightOperator G s r tighter v b w o m → (a : Spot) (t : List TrailItem) → IsRowOf operators (suc k) r → AreLevels operators k tighter →
      Spread G s operators (IsOperandOf operators (suc k)) a b v t → read_at G.grammar G.text s.item r.right b.place ≡ w →
      WhereOk (λ z w u. Spread G s operators (IsJoined operators InfixRight (suc k)) a z w (joined_trail t u)) o
  sound_after_right_operator right_unread a t is are h e = tt
  sound_after_right_operator {G = G} {operators = operators} {k = k} (right_read {s = s} {r = r} {v = v} {a = b} {q = q} {o = o} d x) a t is are h e =
      ok_operand (λ z w u. Spread G s operators (IsJoined operators InfixRight (suc k)) a z w (joined_trail t u)) fixity.Infix q (as_applied s.builders.infix q.operator v o)
      (ok_applied _ _ s.builders.infix q.operator v o (λ z w u g. right_spread G s operators k a b z v w t u q (stands_in_row G s operators InfixRight (suc k) b.place r.right q is.right e) h g)
      (sound_after_right_operand x (at b q.end) is are (sound_row_operand d is are)))

  sound_after_right_operand : {G : Given} {s : Setting} {r : Row} {tighter : List Row} {x o : Outcome} {m : ℕ} {operators : List Operator} {k : ℕ} → AfterRightOperand G s r tighter x o m → (a : Spot) →
      IsRowOf operators (suc k) r → AreLevels operators k tighter → WhereOk (Spread G s operators (IsOperandOf operators (suc k)) a) x →
      WhereOk (Spread G s operators (IsSideOf operators InfixRight (suc k)) a) o
  sound_after_right_operand right_operand_failed a is are h = tt
  sound_after_right_operand right_operand_stuck a is are h = tt
  sound_after_right_operand {G = G} {operators = operators} {k = k} (right_operand_ok {s = s} {c = c} {b = b} {w = w} {t = t} {e = e} {o = o} d) a is are h =
      ok_stretch _ c t e (or_return b w o)
      (ok_return _ b w o (of_kind G s operators _ _ a b w (joined_trail t []) (λ x f. inl f) (with_nothing G s operators _ a b w t h))
      (ok_map _ _ o (λ z v u g. of_kind G s operators _ _ a z v (joined_trail t u) (λ x f. inr f) g) (sound_right d a t is are h)))

  sound_left : {G : Given} {s : Setting} {r : Row} {tighter : List Row} {v : List Tree} {b : Spot} {o : Outcome} {m : ℕ} {operators : List Operator} {k : ℕ} →
      AnswersLeft G s r tighter v b o m → (a : Spot) (t : List TrailItem) → IsRowOf operators (suc k) r → AreLevels operators k tighter →
      Spread G s operators (IsSideOf operators InfixLeft (suc k)) a b v t → WhereOk (λ z w u. Spread G s operators (IsJoined operators InfixLeft (suc k)) a z w (joined_trail t u)) o
  sound_left {G = G} (left_side {s = s} {r = r} {a = b} {o = o} d) a t is are h =
      ok_ambiguous _ (merge (ambiguous_right G.grammar G.text s.item r b.place) (ambiguous_non G.grammar G.text s.item r b.place)) o (sound_after_left_operator d a t is are h refl)

  sound_after_left_operator : {G : Given} {s : Setting} {r : Row} {tighter : List Row} {v : List Tree} {b : Spot} {w : Option Read} {o : Outcome} {m : ℕ} {operators : List Operator} {k : ℕ} →
      AfterLeftOperator G s r tighter v b w o m → (a : Spot) (t : List TrailItem) → IsRowOf operators (suc k) r → AreLevels operators k tighter →
      Spread G s operators (IsSideOf operators InfixLeft (suc k)) a b v t → read_at G.grammar G.text s.item r.left b.place ≡ w →
      WhereOk (λ z w u. Spread G s operators (IsJoined operators InfixLeft (suc k)) a z w (joined_trail t u)) o
  sound_after_left_operator left_unread a t is are h e = tt
  sound_after_left_operator {G = G} {operators = operators} {k = k} (left_read {s = s} {r = r} {a = b} {q = q} {o = o} d x) a t is are h e =
      ok_operand (λ z w u. Spread G s operators (IsJoined operators InfixLeft (suc k)) a z w (joined_trail t u)) fixity.Infix q o
      (sound_after_left_operand x a b t is are (stands_in_row G s operators InfixLeft (suc k) b.place r.left q is.left e) h (sound_row_operand d is are))

  sound_after_left_operand : {G : Given} {s : Setting} {r : Row} {tighter : List Row} {v : List Tree} {q : Read} {x o : Outcome} {m : ℕ} {operators : List Operator} {k : ℕ} →
      AfterLeftOperand G s r tighter v q x o m → (a b : Spot) (t : List TrailItem) → IsRowOf operators (suc k) r → AreLevels operators k tighter → StandsInRow G s operators InfixLeft (suc k) b.place q →
      Spread G s operators (IsSideOf operators InfixLeft (suc k)) a b v t → WhereOk (Spread G s operators (IsOperandOf operators (suc k)) (at b q.end)) x →
      WhereOk (λ z w u. Spread G s operators (IsJoined operators InfixLeft (suc k)) a z w (joined_trail t (joined_trail (noted_operator fixity.Infix q.operator) u))) o
  sound_after_left_operand left_operand_failed a b t is are st h g = tt
  sound_after_left_operand left_operand_stuck a b t is are st h g = tt
  sound_after_left_operand {G = G} {operators = operators} {k = k} (left_operand_ok {s = s} {v = v} {w = w} {q = q} {c = c} {b = z} {t = u} {e = e} {o = o} d) a b t is are st h g =
      let f : List Tree = applied s.builders.infix q.operator (v ++ w) in
      let n : List TrailItem = joined_trail (noted_operator fixity.Infix q.operator) u in
      let one = left_spread G s operators k a b z v w t u q st h g in
      ok_stretch _ c u e (or_return z f o)
      (ok_return _ z f o (regrouped G s operators _ a z f t n [] (with_nothing G s operators _ a z f (joined_trail t n) one))
      (ok_map _ _ o (λ y x i g. regrouped G s operators _ a y x t n i g) (sound_left d a (joined_trail t n) is are (of_kind G s operators _ _ a z f (joined_trail t n) (λ x i. inr i) one))))

  sound_non : {G : Given} {s : Setting} {r : Row} {tighter : List Row} {v : List Tree} {b : Spot} {o : Outcome} {m : ℕ} {operators : List Operator} {k : ℕ} →
      AnswersNon G s r tighter v b o m → (a : Spot) (t : List TrailItem) → IsRowOf operators (suc k) r → AreLevels operators k tighter →
      Spread G s operators (IsOperandOf operators (suc k)) a b v t → WhereOk (λ z w u. Spread G s operators (IsUpTo operators (suc k)) a z w (joined_trail t u)) o
  sound_non (neither_side d) a t is are h = sound_after_non_operator d a t is are h refl

  sound_after_non_operator : {G : Given} {s : Setting} {r : Row} {tighter : List Row} {v : List Tree} {b : Spot} {w : Option Read} {o : Outcome} {m : ℕ} {operators : List Operator} {k : ℕ} →
      AfterNonOperator G s r tighter v b w o m → (a : Spot) (t : List TrailItem) → IsRowOf operators (suc k) r → AreLevels operators k tighter →
      Spread G s operators (IsOperandOf operators (suc k)) a b v t → read_at G.grammar G.text s.item r.non b.place ≡ w →
      WhereOk (λ z w u. Spread G s operators (IsUpTo operators (suc k)) a z w (joined_trail t u)) o
  sound_after_non_operator non_unread a t is are h e = tt
  sound_after_non_operator {G = G} {operators = operators} {k = k} (non_read {s = s} {r = r} {v = v} {a = b} {q = q} {x = x} d) a t is are h e =
      last_ok G s operators k r a b v t q x (stands_in_row G s operators InfixNone (suc k) b.place r.non q is.non e) h (sound_row_operand d is are)
