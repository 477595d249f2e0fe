-- A derivation from a table of the grammar that ends where a start of the node's follow set matches is what the node answers.
use Rattle.std.proofs.Common.{◌≡◌, ◌+◌, ◌<◌, ◌≤◌, ◌⊎◌, inl, inr, ℕ, zero, suc, List, [], ◌∷◌, ◌++◌, Bool, true, false, ◌||◌, refl, sym, ◌∙◌, ap, subst, length, Some, slice_get, arith, le_trans, append_assoc, append-nil, add-zero}
use Rattle.std.specs.Prelude.{nat_lt}
use Rattle.std.specs.List.{Contains, AllByRecursion}
use Rattle.std.specs.Str.{all_scalars}
use Rattle.std.proofs.lemmas.Option.{slice_get_within, get_or_from_slice_get}
use Rattle.pg_tree.specs.Trees.{Tree}
use Rattle.pg_tree.specs.declared.shape.Shape.{Shape}
use Rattle.pg_grammar_form.specs.Forms.{Node}
use Rattle.pg_grammar_form.specs.declared.form.Form.TheVariants as form
use Rattle.pg_grammar_form.specs.declared.form.Leaf.{Leaf}
use Rattle.pg_grammar_form.specs.declared.form.Leaf.TheVariants as leaf
use Rattle.pg_grammar_form.specs.declared.form.Around.{Around}
use Rattle.pg_grammar_form.specs.declared.form.Around.TheVariants as kind
use Rattle.pg_grammar_value.specs.declared.trail.TrailItem.{TrailItem}
use Rattle.pg_grammar_value.specs.declared.trail.TrailItem.TheVariants.{Alt, Ops}
use Rattle.pg_start.specs.declared.kind.StartKind.{StartKind}
use Rattle.pg_start.proofs.Meeting.{never_meet}
use Rattle.pg_language.specs.Derives.{Spot, after, leaf_of, Link, carried, finished, folded, made_by, left_by, Reads, Derives, DerivesForm, DerivesParts, DerivesRounds, DerivesLinks}
use Rattle.pg_language.specs.Derives as derives
use Rattle.pg_table.specs.Tables.{Table, ComesFrom}
use Rattle.pg_language.specs.Runs.{HasAt, StandsAt, IsOperatorAt}
use Rattle.pg_grammar_form.specs.declared.class.ClassPart.{ClassPart}
use Rattle.pg_language.specs.Answers as answers
use Rattle.pg_language.specs.Answers.{Given, Answers, entered, AnswersForm, nothing, seq, choice, many, rule, AnswersParts, part, part_last, part_ok, AnswersAlternatives, no_alternative, alternative, alternative_consumed, alternative_stands, alternative_waits, alternative_failed, AnswersRounds, round, round_ended, round_ok, AnswersChain, first_operand, first_ok, AnswersLinks, link, separator_failed, separator_ok, operand_failed, operand_ok}
use Rattle.pg_language.specs.Errors.{Error}
use Rattle.pg_language.specs.Outcomes.{Outcome, ok, failed}
use Rattle.pg_language.specs.Leaves.{some_word_outcome, some_declare_outcome}
use Rattle.pg_grammar_form.specs.declared.side.Side.{Side}
use Rattle.pg_language.specs.declared.reading.Reading.{Reading}
use Rattle.pg_language.specs.declared.reading.Reading.TheVariants.{Library, Report}
use Rattle.pg_derive.specs.ClosedSets.{NodeSets, SomeMatches, Within, AllApart, PartsFollowed}
use Rattle.std.specs.Prelude.{reverse}
use Rattle.pg_grammar_form.specs.Operators.{Operator}
use Rattle.pg_grammar_form.specs.declared.operators_item.OperatorsItem.{OperatorsItem}
use Rattle.pg_grammar_form.specs.declared.used.OperatorBuilders.{OperatorBuilders}
use Rattle.pg_grammar_value.specs.declared.trail.AppliedOperator.{AppliedOperator}
use Rattle.pg_table.specs.Fitting.{Expression, IsAmong, IsFitting}
use Rattle.pg_table.specs.Trails.{operators_read}
use Rattle.pg_expand.specs.Rows.{rows_of}
use Rattle.pg_language.specs.RowReactions.{Setting, items_of}
use Rattle.pg_language.specs.Answers.{AnswersRows}
use Rattle.pg_language.specs.Derives.{DerivesExpression}
use Rattle.pg_language.proofs.Moves.{tells}
use Rattle.pg_language.proofs.Sound.{sound}
use Rattle.pg_derive.proofs.ExpressionsOn.{expression_comes, whole_trail}
use Rattle.pg_derive.proofs.OperatorsOfTables.{proper_table, clear_table}
use Rattle.pg_derive.proofs.WholeRows.{all_levels, rank_low}
use Rattle.pg_derive.proofs.OperandsFound.{IsClear, Gives, Spans, of_term, of_prefix, of_postfix, of_infix}
use Rattle.pg_derive.proofs.RowsFound.{finds}
use Rattle.pg_derive.specs.Predictive.{ExpressionIsPredictive, IsSomeOperatorAt, StringIsPredictive, PartIsPredictive, LeafIsPredictive, AroundIsPredictive, TryIsPredictive, of_part, of_string, of_key, ComesBefore, AlternativesArePredictive, ManyIsPredictive, ChainIsPredictive, IsPredictiveAt}
use Rattle.pg_derive.proofs.Begins.{Begun, still, moves, BeginsNode, BeginsList, alternative_fits, consumes, begins, begins_parts, begins_links}
use Rattle.pg_language.proofs.DeclarationsDerived.{declaration_moves}
use Rattle.pg_language.proofs.Flags.{moved, stayed, both_moved}
use Rattle.pg_language.proofs.Onward.{rounds_onward, links_onward}
use Rattle.pg_derive.proofs.Inverted.{form_at, spans_string, spans_key, forward, comes_on, forward_parts}
use Rattle.pg_derive.proofs.LeavesAnswered.{StaysOk, satisfy_ok, word_ok, string_ok, not_followed_ok, end_ok, declare_ok}
use Rattle.pg_derive.proofs.Quiet.{IsWhole, refuses, skips, NoStart, QuietNode, quiet}

-- the run is ok from one spot to the other, with this forest and this trail, for some error and some number of nodes
pub record IsOk (Run : Outcome → ℕ → Type 0) (a b : Spot) (v : List Tree) (t : List TrailItem) : Type 0 where
  pub error : Error
  pub count : ℕ
  pub run : Run (ok (nat_lt a.place b.place) b v t error) count

ok_moved : (Run : Outcome → ℕ → Type 0) (a b : Spot) (v : List Tree) (t : List TrailItem) (e : Error) (m : ℕ) → a.place < b.place → Run (ok true b v t e) m → IsOk Run a b v t
ok_moved Run a b v t e m l run = record { error = e; count = m; run = subst (λ c. Run (ok c b v t e) m) (sym (moved l)) run }

ok_stayed : (Run : Outcome → ℕ → Type 0) (a : Spot) (v : List Tree) (t : List TrailItem) (e : Error) (m : ℕ) → Run (ok false a v t e) m → IsOk Run a a v t
ok_stayed Run a v t e m run = record { error = e; count = m; run = subst (λ c. Run (ok c a v t e) m) (sym (stayed a.place)) run }

stays : (Run : Outcome → ℕ → Type 0) (a : Spot) (o : Outcome) (m : ℕ) → Run o m → StaysOk a o → IsOk Run a a [] []
stays Run a o m run s = ok_stayed Run a [] [] s.error m (subst (λ x. Run x m) s.is run)

ok_flag : (Run : Outcome → ℕ → Type 0) (a b : Spot) (c : Bool) (v : List Tree) (t : List TrailItem) (e : Error) (m : ℕ) → c ≡ nat_lt a.place b.place → Run (ok c b v t e) m → IsOk Run a b v t
ok_flag Run a b c v t e m flag run = record { error = e; count = m; run = subst (λ c. Run (ok c b v t e) m) flag run }

-- the same, of what is equal
renamed : (Run : Outcome → ℕ → Type 0) (a : Spot) {b c : Spot} {v w : List Tree} {t u : List TrailItem} → b ≡ c → v ≡ w → t ≡ u → IsOk Run a c w u → IsOk Run a b v t
renamed Run a {b = b} {c = c} {v = v} {w = w} {t = t} {u = u} p q r h =
    subst (λ x. IsOk Run a x v t) (sym p) (subst (λ x. IsOk Run a c x t) (sym q) (subst (λ x. IsOk Run a c w x) (sym r) h))

widen : {text : List ℕ} {xs ys : List StartKind} {i : ℕ} → all_scalars text ≡ true → Within xs ys → SomeMatches text xs i → SomeMatches text ys i
widen {text} {i = i} scalars w m = w m.start m.among text scalars i m.there

elsewhere : (text : List ℕ) (xs : List StartKind) {a b : Spot} → a ≡ b → SomeMatches text xs b.place → SomeMatches text xs a.place
elsewhere text xs e m = subst (λ (x : Spot). SomeMatches text xs x.place) (sym e) m

matching : {text : List ℕ} {xs : List StartKind} {i : ℕ} → Begun text (Contains xs) i → SomeMatches text xs i
matching h = record { start = h.start; among = h.among; there = h.there }

pub contains_got : (ps : List ℕ) (k q : ℕ) → slice_get ps k ≡ Some q → Contains ps q
contains_got ps k q e = (k, slice_get_within ps k q e, get_or_from_slice_get ps k q q e)

pub all_got : (P : ℕ → Type 0) (ps : List ℕ) → AllByRecursion P ps → (k q : ℕ) → slice_get ps k ≡ Some q → P q
all_got P [] h k q e = absurd (cc)
all_got P (r ∷ ps) h zero q e = let same : r ≡ q = cc in subst P same h.0
all_got P (r ∷ ps) h (suc k) q e = all_got P ps h.1 k q e

module _ (G : Given) (scalars : all_scalars G.text ≡ true) (whole : IsWhole G.grammar) (sets : NodeSets)
    (good : (p : ℕ) (n : Node) → slice_get G.grammar.nodes p ≡ Some n → IsPredictiveAt G.grammar sets p n) where
  abbrev IsNode : ℕ → Type 0
  IsNode q = q < length G.grammar.nodes

  abbrev Comes : Spot → Type 0
  Comes a = ComesFrom G.grammar a.table

  kept_out : (i : ℕ) (xs ys : List StartKind) → AllApart xs ys → SomeMatches G.text ys i → NoStart G.text (Contains xs) i
  kept_out i xs ys h m s b x = never_meet s m.start (h s m.start b m.among) G.text scalars i x m.there

  pub begun : {p : ℕ} {a b : Spot} {v : List Tree} {t : List TrailItem} → Derives G.grammar G.text p a b v t → BeginsNode G.grammar sets G.text p a b
  begun d = begins G.grammar G.text scalars sets good d

  pub passes : (q : ℕ) (a : Spot) → Comes a → IsNode q → sets.nullable q ≡ false → NoStart G.text (Contains (sets.first q)) a.place → (e : Error) × (m : ℕ) × Answers G q a (failed false e) m
  passes q a from there full bare = go (quiet G scalars whole sets good q a from there bare)
    where
      go : QuietNode G scalars whole sets q a → (e : Error) × (m : ℕ) × Answers G q a (failed false e) m
      go (refuses e m run) = (e, m, run)
      go (skips x v t e m run) = absurd (cc)

  -- ---- sequences

  part_after : (q : ℕ) (b c : Spot) → Comes b → (qs : List ℕ) (follow : List StartKind) → PartsFollowed sets follow (q ∷ qs) → BeginsList G.grammar sets G.text qs b c →
      SomeMatches G.text follow c.place → SomeMatches G.text (sets.follow q) b.place
  part_after q b c from qs follow f (still e ns) m = elsewhere G.text (sets.follow q) e (widen scalars (f.1 ns) m)
  part_after q b c from qs follow f (moves l h) m = let s = h from in f.0 s.start s.among G.text scalars b.place s.there

  -- ---- choices

  pub alternative_refused : (p q r : ℕ) (a b : Spot) → Comes a → ComesBefore sets p q r → BeginsNode G.grammar sets G.text r a b → SomeMatches G.text (sets.follow p) b.place →
      NoStart G.text (Contains (sets.first q)) a.place
  alternative_refused p q r a b from f (still e n) m = kept_out a.place (sets.first q) (sets.follow p) (f.follow n) (elsewhere G.text (sets.follow p) e m)
  alternative_refused p q r a b from f (moves l h) m = kept_out a.place (sets.first q) (sets.first r) f.first (matching (h from))

  -- the alternative that is taken
  taken_here : (p q n : ℕ) (a b : Spot) (v : List Tree) (t : List TrailItem) (qs : List ℕ) → AlternativesArePredictive sets p (q ∷ qs) → BeginsNode G.grammar sets G.text q a b → IsOk (Answers G q a) a b v t →
      IsOk (AnswersAlternatives G n (q ∷ qs) a) a b v (Alt n ∷ t)
  taken_here p q n a b v t qs f (moves l h) r =
      ok_moved _ a b v (Alt n ∷ t) r.error _ l (alternative (subst (λ c. Answers G q a (ok c b v t r.error) r.count) (moved l) r.run) alternative_consumed)
  taken_here p q n a b v t [] f (still e x) r = go G.reading refl
    where
      empty : Answers G q a (ok false b v t r.error) r.count
      empty = subst (λ c. Answers G q a (ok c b v t r.error) r.count) (subst (λ (z : Spot). nat_lt a.place z.place ≡ false) e (stayed a.place)) r.run

      flag : false ≡ nat_lt a.place b.place
      flag = sym (subst (λ (z : Spot). nat_lt a.place z.place ≡ false) e (stayed a.place))

      go : (reading : Reading) → G.reading ≡ reading → IsOk (AnswersAlternatives G n (q ∷ []) a) a b v (Alt n ∷ t)
      go Library is = ok_flag _ a b false v (Alt n ∷ t) r.error _ flag (alternative empty (alternative_stands is))
      go Report is = ok_flag _ a b false v (Alt n ∷ t) _ _ flag (alternative empty (alternative_waits is no_alternative))
  taken_here p q n a b v t (other ∷ qs) f (still e x) r =
      let full = (f.1 other (zero, omega arith, refl)).full in absurd (cc)

  reached : (p q : ℕ) (a b : Spot) (v : List Tree) (t : List TrailItem) → Comes a → BeginsNode G.grammar sets G.text q a b → SomeMatches G.text (sets.follow p) b.place → IsOk (Answers G q a) a b v t →
      (ps : List ℕ) (n k : ℕ) → AlternativesArePredictive sets p ps → AllByRecursion IsNode ps → slice_get ps k ≡ Some q → IsOk (AnswersAlternatives G n ps a) a b v (Alt (n + k) ∷ t)
  reached p q a b v t from h m r [] n k f there e = absurd (cc)
  reached p q a b v t from h m r (x ∷ ps) n zero f there e =
      let same : x ≡ q = cc in
      let here = taken_here p x n a b v t ps f (subst (λ y. BeginsNode G.grammar sets G.text y a b) (sym same) h) (subst (λ y. IsOk (Answers G y a) a b v t) (sym same) r) in
      subst (λ i. IsOk (AnswersAlternatives G n (x ∷ ps) a) a b v (Alt i ∷ t)) (sym (add-zero n)) here
  reached p q a b v t from h m r (x ∷ ps) n (suc k) f there e =
      let before = f.1 q (contains_got ps k q e) in
      let rest = reached p q a b v t from h m r ps (suc n) k f.2 there.1 e in
      let fails = passes x a from there.0 before.full (alternative_refused p x q a b from before h m) in
      let number : suc n + k ≡ n + suc k = omega arith in
      subst (λ i. IsOk (AnswersAlternatives G n (x ∷ ps) a) a b v (Alt i ∷ t)) number
      (record { error = _; count = _; run = alternative fails.2 (alternative_failed rest.run) })

  -- ---- repetitions

  round_after : (p : ℕ) {q n : ℕ} {b c : Spot} {v : List Tree} {t : List TrailItem} → DerivesRounds G.grammar G.text q n b c v t → Comes b → ManyIsPredictive sets p q →
      SomeMatches G.text (sets.follow p) c.place → SomeMatches G.text (sets.follow q) b.place
  round_after p derives.no_round from f m = widen scalars f.follow m
  round_after p (derives.first_round {p = q} {a = b} {b = c} d ds) from f m = go (begun d)
    where
      go : BeginsNode G.grammar sets G.text q b c → SomeMatches G.text (sets.follow q) b.place
      go (still e n) = let full = f.full in absurd (cc)
      go (moves l h) = let s = h from in f.again s.start s.among G.text scalars b.place s.there

  -- ---- chains

  -- after an operand
  link_after : (p q r : ℕ) (b c : Spot) → Comes b → ChainIsPredictive sets p q r → (b ≡ c) ⊎ BeginsList G.grammar sets G.text (r ∷ q ∷ []) b c → SomeMatches G.text (sets.follow p) c.place →
      SomeMatches G.text (sets.follow q) b.place
  link_after p q r b c from f (inl e) m = elsewhere G.text (sets.follow q) e (widen scalars f.follow m)
  link_after p q r b c from f (inr (still e n)) m = absurd (f.full n)
  link_after p q r b c from f (inr (moves l h)) m = let s = h from in f.again s.start s.among G.text scalars b.place s.there

  -- after a separator
  operand_after : (p q r : ℕ) (b c z : Spot) → Comes b → ChainIsPredictive sets p q r → BeginsNode G.grammar sets G.text q b c → (c ≡ z) ⊎ BeginsList G.grammar sets G.text (r ∷ q ∷ []) c z →
      SomeMatches G.text (sets.follow p) z.place → SomeMatches G.text (sets.follow r) b.place
  operand_after p q r b c z from f (moves l h) rest m = let s = h from in f.between s.start s.among G.text scalars b.place s.there
  operand_after p q r b c z from f (still e n) (inl d) m = elsewhere G.text (sets.follow r) (e ∙ d) (widen scalars (f.over_last n) m)
  operand_after p q r b c z from f (still e n) (inr (still d o)) m = absurd (f.full o)
  operand_after p q r b c z from f (still e n) (inr (moves l h)) m =
      let s = h (subst (λ (x : Spot). Comes x) e from) in
      elsewhere G.text (sets.follow r) e (f.over_next n s.start s.among G.text scalars c.place s.there)

  -- a link consumes
  pub link_moves : (p q r : ℕ) (a b c : Spot) → ChainIsPredictive sets p q r → b.place ≤ c.place → BeginsNode G.grammar sets G.text r a b → BeginsNode G.grammar sets G.text q b c → a.place < c.place
  link_moves p q r a b c f l (moves m h) second = omega arith
  link_moves p q r a b c f l (still e n) (moves m h) = let same = ap (λ (z : Spot). z.place) e in omega arith
  link_moves p q r a b c f l (still e n) (still d o) = absurd (f.full (n, (o, tt)))

  -- no link comes any more
  no_more : (side : Side) (shape : Shape) (p q r : ℕ) (left : List Tree) (a : Spot) → Comes a → IsNode q → IsNode r → ChainIsPredictive sets p q r → SomeMatches G.text (sets.follow p) a.place →
      IsOk (AnswersLinks G side shape q r left zero a) a a left []
  no_more side shape p q r left a from is_q is_r f m =
      go (quiet G scalars whole sets good r a from is_r (λ s b x. never_meet s m.start (f.apart s m.start (inl b) m.among) G.text scalars a.place x m.there))
    where
      Result : Type 0
      Result = IsOk (AnswersLinks G side shape q r left zero a) a a left []

      past_separator : sets.nullable r ≡ true → (w : List Tree) (u : List TrailItem) (e : Error) (i : ℕ) → Answers G r a (ok false a w u e) i →
          QuietNode G scalars whole sets q a → Result
      past_separator er w u e i separator (refuses g j operand) = ok_stayed _ a left [] _ _ (link separator (separator_ok operand operand_failed))
      past_separator er w u e i separator (skips en y z g j operand) = absurd (f.full (er, (en, tt)))

      go : QuietNode G scalars whole sets r a → Result
      go (refuses e i separator) = ok_stayed _ a left [] _ _ (link separator separator_failed)
      go (skips er w u e i separator) =
          past_separator er w u e i separator
          (quiet G scalars whole sets good q a from is_q (λ s b x. never_meet s m.start (f.apart s m.start (inr (er, inl b)) m.among) G.text scalars a.place x m.there))

  -- a link more, between an operand and the links after it
  one_more : (side : Side) (shape : Shape) (q r n : ℕ) (left v w : List Tree) (links : List Link) (a b c d : Spot) (t u items : List TrailItem) →
      a.place ≤ b.place → b.place ≤ c.place → c.place ≤ d.place → a.place < c.place →
      IsOk (Answers G r a) a b v t → IsOk (Answers G q b) b c w u → IsOk (AnswersLinks G side shape q r (carried side shape left v w) n c) c d (folded side shape (carried side shape left v w) links) items →
      IsOk (AnswersLinks G side shape q r left (suc n) a) a d (folded side shape left ((v, w) ∷ links)) (t ++ u ++ items)
  one_more side shape q r n left v w links a b c d t u items l k j beyond separator operand rest =
      let first = both_moved l k in
      let second = both_moved k j in
      let all = both_moved l (le_trans k j) in
      let consumed : (nat_lt a.place b.place || nat_lt b.place c.place) ≡ true = first ∙ moved beyond in
      let flag : (nat_lt a.place b.place || (nat_lt b.place c.place || nat_lt c.place d.place)) ≡ nat_lt a.place d.place = ap (λ x. nat_lt a.place b.place || x) second ∙ all in
      let run = link separator.run (separator_ok operand.run (operand_ok consumed rest.run)) in
      let made = ok_flag _ a d _ (finished side shape left v (folded side shape (carried side shape left v w) links)) (t ++ (u ++ items)) _ _ flag run in
      subst (λ x. IsOk (AnswersLinks G side shape q r left (suc n) a) a d (folded side shape left ((v, w) ∷ links)) x) (sym (append_assoc t u items)) made

  -- an operand, and the links after it
  chained : (side : Side) (shape : Shape) (q r n : ℕ) (v w : List Tree) (a b c : Spot) (t u : List TrailItem) → a.place ≤ b.place → b.place ≤ c.place →
      IsOk (Answers G q a) a b v t → IsOk (AnswersLinks G side shape q r v n b) b c w u → IsOk (AnswersChain G side shape q r n a) a c w (t ++ u)
  chained side shape q r n v w a b c t u l k operand links =
      ok_flag _ a c _ w (t ++ u) _ _ (both_moved l k) (first_operand operand.run (first_ok links.run))

  -- ---- `try`

  string_tried : (q : ℕ) (s : List ℕ) (a : Spot) → slice_get G.grammar.nodes q ≡ Some (form.Leaf (leaf.String s)) → 0 < length s → StandsAt G.text a.place s →
      IsOk (AnswersForm G (form.Around kind.Try q) a) a (after a (length s)) (leaf_of s ∷ []) []
  string_tried q s a e spelled h =
      ok_moved _ a (after a (length s)) (leaf_of s ∷ []) [] _ _ (omega arith)
      (answers.around (entered e (answers.leaf (ap Some (string_ok G.text s a h)))))

  key_tried : (q x y : ℕ) (s : List ℕ) (class : List ClassPart) (a : Spot) → slice_get G.grammar.nodes q ≡ Some (form.Seq (x ∷ y ∷ [])) →
      slice_get G.grammar.nodes x ≡ Some (form.Leaf (leaf.String s)) → slice_get G.grammar.nodes y ≡ Some (form.Leaf (leaf.NotFollowedBy class)) → 0 < length s →
      StandsAt G.text a.place s → (HasAt G.grammar G.text class (a.place + length s) → ⊥) →
      IsOk (AnswersForm G (form.Around kind.Try q) a) a (after a (length s)) (leaf_of s ∷ []) []
  key_tried q x y s class a e first second spelled h bare =
      let b : Spot = after a (length s) in
      let ends = not_followed_ok G.grammar G.text class b bare in
      let read = entered first (answers.leaf (ap Some (string_ok G.text s a h))) in
      let seen = entered second (answers.leaf (ap Some ends.is)) in
      ok_moved _ a b (leaf_of s ∷ []) [] _ _ (omega arith) (answers.around (entered e (seq (part read (part_ok (part seen part_last))))))

  -- a form that makes something of a part that fits
  around_part : (k : Around) (p q : ℕ) {a b : Spot} {v : List Tree} {t : List TrailItem} → PartIsPredictive sets p q → Derives G.grammar G.text q a b v t → (SomeMatches G.text (sets.follow q) b.place → IsOk (Answers G q a) a b v t) →
      SomeMatches G.text (sets.follow p) b.place → IsOk (AnswersForm G (form.Around k q) a) a (left_by k a b) (made_by k G.text a.place b.place v) t
  around_part k p q f d answered m = let r = answered (widen scalars f.follow m) in record { error = _; count = r.count; run = answers.around r.run }

  complete_try : {q : ℕ} {a b : Spot} {v : List Tree} {t : List TrailItem} → Derives G.grammar G.text q a b v t → (SomeMatches G.text (sets.follow q) b.place → IsOk (Answers G q a) a b v t) → (p : ℕ) → TryIsPredictive G.grammar sets p q →
      SomeMatches G.text (sets.follow p) b.place → IsOk (AnswersForm G (form.Around kind.Try q) a) a b v t
  complete_try {q = q} d answered p (of_part f) m = around_part kind.Try p q f d answered m
  complete_try {q = q} {a = a} d answered p (of_string {s = s} e spelled falls f) m =
      let h = spans_string (form_at d e) in renamed _ a h.end h.forest h.trail (string_tried q s a e spelled h.stands)
  complete_try {q = q} {a = a} d answered p (of_key {x = x} {y = y} {s = s} {class = class} e first second spelled falls f) m =
      let h = spans_key (form_at d e) first second in renamed _ a h.end h.forest h.trail (key_tried q x y s class a e first second spelled h.stands h.bare)

  complete_around : (k : Around) (p q : ℕ) {a b : Spot} {v : List Tree} {t : List TrailItem} → AroundIsPredictive G.grammar sets p k q → Derives G.grammar G.text q a b v t →
      (SomeMatches G.text (sets.follow q) b.place → IsOk (Answers G q a) a b v t) → SomeMatches G.text (sets.follow p) b.place → IsOk (AnswersForm G (form.Around k q) a) a (left_by k a b) (made_by k G.text a.place b.place v) t
  complete_around kind.Try p q f d answered m = complete_try d answered p f m
  complete_around k p q f d answered m = around_part k p q f d answered m

  complete_leaf : {l : Leaf ℕ} {a b : Spot} {v : List Tree} → Reads G.grammar G.text l a b v → (p : ℕ) → LeafIsPredictive G.grammar sets p l → IsOk (AnswersForm G (form.Leaf l) a) a b v []
  complete_leaf (derives.satisfy {class = class} {a = a} has) p f = ok_moved _ a _ _ [] _ _ (omega arith) (answers.leaf (ap Some (satisfy_ok G.grammar G.text class a has)))
  complete_leaf (derives.string {characters = s} {a = a} h) p f =
      let spelled = f.spelled in ok_moved _ a _ _ [] _ _ (omega arith) (answers.leaf (ap Some (string_ok G.text s a h)))
  complete_leaf (derives.word {w = w} {item = item} {s = s} {a = a} there is) p f =
      let counted = ap length is.whole in
      ok_moved _ a _ _ [] _ _ (omega arith) (answers.leaf (ap (some_word_outcome G.grammar G.text a) there ∙ ap Some (word_ok G.grammar G.text item a s is)))
  complete_leaf (derives.not_followed_by {class = class} {a = a} h) p f = stays _ a _ _ (answers.leaf refl) (not_followed_ok G.grammar G.text class a h)
  complete_leaf (derives.end_of_text {a = a} h) p f = stays _ a _ _ (answers.leaf refl) (end_ok G.text a h)
  complete_leaf (derives.declare {class = class} {item = item} {d = d} {j = j} {a = a} there is admits) p f =
      let far = declaration_moves G.grammar G.text item class d a.place j is in
      ok_moved _ a _ _ [] _ _ far
      (answers.leaf (ap (some_declare_outcome G.grammar G.text class a) there ∙ ap Some (declare_ok G.grammar G.text item class d a j is admits)))

  -- ---- expressions

  abbrev setting_of : {p q : ℕ} → ExpressionIsPredictive G.grammar sets p q → OperatorBuilders → Setting
  setting_of {q = q} f builders = record { item = f.item; builders = builders; term = q }

  same_item : {item other : OperatorsItem} → G.grammar.operators ≡ Some item → G.grammar.operators ≡ Some other → item ≡ other
  same_item e f = cc

  renamed_item : {item other : OperatorsItem} {symbol : List ℕ} {i j : ℕ} → item ≡ other → IsOperatorAt G.grammar G.text item symbol i j → IsOperatorAt G.grammar G.text other symbol i j
  renamed_item {symbol = symbol} {i = i} {j = j} e h = subst (λ item. IsOperatorAt G.grammar G.text item symbol i j) e h

  -- what stands after a term: what follows the expression, or an operator
  data GoesOn (p : ℕ) (item : OperatorsItem) (i : ℕ) : Type 0 where
    at_end : SomeMatches G.text (sets.follow p) i → GoesOn p item i
    at_operator : IsSomeOperatorAt G.grammar item G.text i → GoesOn p item i

  after_term : (p : ℕ) {q : ℕ} (f : ExpressionIsPredictive G.grammar sets p q) {i : ℕ} → GoesOn p f.item i → SomeMatches G.text (sets.follow q) i
  after_term p f (at_end m) = widen scalars f.follow m
  after_term p f {i = i} (at_operator h) = f.again G.text scalars i h

  stands_of : {p q : ℕ} (f : ExpressionIsPredictive G.grammar sets p q) (table : Table) → ComesFrom G.grammar table → (o : Operator) (j : ℕ) {i : ℕ} → IsAmong table.operators o →
      IsOperatorAt G.grammar G.text f.item o.symbol i j → IsSomeOperatorAt G.grammar f.item G.text i
  stands_of f table comes o j among there = record { table = table; comes = comes; operator = o; among = among; end = j; there = there }

  -- no operator stands where a term begins
  term_begins_bare : (p : ℕ) {q : ℕ} (f : ExpressionIsPredictive G.grammar sets p q) (table : Table) → ComesFrom G.grammar table → {a b : Spot} → BeginsNode G.grammar sets G.text q a b → Comes a → (o : Operator) → IsAmong table.operators o →
      (j : ℕ) → IsOperatorAt G.grammar G.text f.item o.symbol a.place j → ⊥
  term_begins_bare p f table comes (still e n) from o among j there = let full = f.full in absurd (cc)
  term_begins_bare p f table comes {a = a} (moves l h) from o among j there = f.bare G.text scalars a.place (matching (h from)) (stands_of f table comes o j among there)

  -- strings have characters
  spelled : (p : ℕ) (s : List ℕ) → slice_get G.grammar.nodes p ≡ Some (form.Leaf (leaf.String s)) → 0 < length s
  spelled p s e = let f : StringIsPredictive sets p s = good p (form.Leaf (leaf.String s)) e in f.spelled

  -- an expression whose rows answer so
  of_rows : (p : ℕ) (builders : OperatorBuilders) (q : ℕ) (f : ExpressionIsPredictive G.grammar sets p q) (os : List AppliedOperator) (a b : Spot) (v : List Tree) (t : List TrailItem) →
      slice_get G.grammar.nodes p ≡ Some (form.Expression builders q) → Gives (AnswersRows G (setting_of f builders) (reverse (rows_of a.table.operators)) a) b v os t →
      IsOk (AnswersForm G (form.Expression builders q) a) a b v (Ops os ∷ t)
  of_rows p builders q f os a b v t e h =
      let run = answers.expression f.named h.run in
      let node = entered e run in
      let whole_is = whole_trail (sound_form_of e node) in
      let named : h.trail ≡ Ops os ∷ t = sym whole_is ∙ ap (λ l. Ops l ∷ items_of h.trail) h.operators ∙ ap (λ l. Ops os ∷ l) h.items in
      subst (λ u. IsOk (AnswersForm G (form.Expression builders q) a) a b v u) named (ok_flag _ a b h.consumed v h.trail h.error h.count (tells G spelled node).0 run)
    where
      sound_form_of : {b : Spot} {c : Bool} {v : List Tree} {t : List TrailItem} {g : Error} {m : ℕ} → slice_get G.grammar.nodes p ≡ Some (form.Expression builders q) → Answers G p a (ok c b v t g) m →
          DerivesForm G.grammar G.text (form.Expression builders q) a b v t
      sound_form_of e d = form_at (sound d) e

  expression_found : (p : ℕ) (builders : OperatorBuilders) (q : ℕ) (f : ExpressionIsPredictive G.grammar sets p q) (x : Expression) {a b : Spot} {v : List Tree} {t : List TrailItem} →
      slice_get G.grammar.nodes p ≡ Some (form.Expression builders q) → IsFitting a.table.operators x → Comes a → (clear : IsClear a.table.operators) → Spans G (setting_of f builders) a.table.operators clear x a b v t →
      SomeMatches G.text (sets.follow p) b.place → IsOk (AnswersForm G (form.Expression builders q) a) a b v (Ops (operators_read x) ∷ t)
  expression_found p builders q f x {a = a} {b = b} {v = v} {t = t} e fits from clear spans m =
      let operators = a.table.operators in
      let proper = proper_table G.grammar a.table whole.initials from in
      of_rows p builders q f (operators_read x) a b v t e
      (finds G (setting_of f builders) operators clear (all_levels operators proper) x fits (rank_low operators proper x fits) spans
      (λ o j among side low there. f.ends G.text scalars b.place m (stands_of f a.table from o j among there)))

  mutual
    pub complete : {p : ℕ} {a b : Spot} {v : List Tree} {t : List TrailItem} → Derives G.grammar G.text p a b v t → Comes a → SomeMatches G.text (sets.follow p) b.place → IsOk (Answers G p a) a b v t
    complete (derives.at_node {p = p} {n = n} e d) from m =
        let r = complete_form d from p e (good p n e) m in record { error = r.error; count = _; run = entered e r.run }

    complete_form : {n : Node} {a b : Spot} {v : List Tree} {t : List TrailItem} → DerivesForm G.grammar G.text n a b v t → Comes a → (p : ℕ) → slice_get G.grammar.nodes p ≡ Some n →
        IsPredictiveAt G.grammar sets p n → SomeMatches G.text (sets.follow p) b.place → IsOk (AnswersForm G n a) a b v t
    complete_form (derives.leaf h) from p e f m = complete_leaf h p f
    complete_form (derives.seq {parts = []} derives.no_part) from p e f m = ok_stayed _ _ [] [] _ _ nothing
    complete_form (derives.seq {parts = q ∷ qs} d) from p e f m =
        let r = complete_parts d from (sets.follow p) f.follow m in record { error = r.error; count = r.count; run = seq r.run }
    complete_form (derives.choice {parts = ps} {k = k} {p = q} {a = a} {b = b} {forest = v} {trail = t} x d) from p e f m =
        let part_fits = alternative_fits sets p ps f k q x in
        let r = reached p q a b v t from (begun d) m (complete d from (widen scalars part_fits.follow m)) ps (suc zero) k f (whole.parts p _ e) x in
        let number : suc zero + k ≡ suc k = omega arith in
        subst (λ i. IsOk (AnswersForm G (form.Choice ps) a) a b v (Alt i ∷ t)) number (record { error = r.error; count = r.count; run = choice r.run })
    complete_form (derives.many {p = q} d) from p e f m =
        let r = complete_rounds d from p (whole.parts p _ e).0 f m in record { error = r.error; count = r.count; run = many r.run }
    complete_form (derives.chain {side = side} {used = used} {p = q} {s = r} {a = a} {b = b} {c = c} {trail = t} {items = u} d ds) from p e f m =
        let there = whole.parts p _ e in
        let operand = complete d from (link_after p q r b c (comes_on d from) f (begins_links G.grammar G.text scalars sets good ds p f) m) in
        let links = complete_links side used.shape ds (comes_on d from) p there.0 there.1.0 f _ m in
        let r = chained side used.shape q r _ _ _ a b c t u (forward d) (links_onward ds) operand links in
        record { error = r.error; count = r.count; run = answers.chain r.run }
    complete_form (derives.rule {named = named} x d) from p e f m = let r = complete d from (widen scalars (f.body named x).follow m) in record { error = r.error; count = r.count; run = rule x r.run }
    complete_form (derives.expression {builders = builders} {item = item} {p = q} {x = x} there fits d) from p e f m =
        let named : item ≡ f.item = same_item there f.named in
        let clear = clear_table G.grammar _ whole.initials from in
        expression_found p builders q f x e fits from clear (complete_terms d from p f (same_item there f.named) _ from fits (at_end m) clear) m
    complete_form (derives.around {k = k} {p = q} d) from p e f m = complete_around k p q f d (λ x. complete d from x) m

    -- each term of an expression is answered
    complete_terms : {item : OperatorsItem} {builders : OperatorBuilders} {q : ℕ} {x : Expression} {a b : Spot} {v : List Tree} {t : List TrailItem} → DerivesExpression G.grammar G.text item builders q x a b v t → Comes a →
        (p : ℕ) → (f : ExpressionIsPredictive G.grammar sets p q) → item ≡ f.item → (table : Table) → ComesFrom G.grammar table → IsFitting table.operators x → GoesOn p f.item b.place →
        (clear : IsClear table.operators) → Spans G (setting_of f builders) table.operators clear x a b v t
    complete_terms (derives.a_term d) from p f named table comes fits after clear =
        let r = complete d from (after_term p f after) in
        of_term r.run (λ o among j there. term_begins_bare p f table comes (begun d) from o among j there)
    complete_terms (derives.a_prefix is d) from p f named table comes fits after clear =
        of_prefix (renamed_item named is) (complete_terms d from p f named table comes fits.2 after clear)
    complete_terms (derives.a_postfix {o = o} {j = j} d is) from p f named table comes fits after clear =
        of_postfix (complete_terms d from p f named table comes fits.2 (at_operator (stands_of f table comes o j fits.0 (renamed_item named is))) clear) (renamed_item named is)
    complete_terms (derives.an_infix {o = o} {j = j} d is g) from p f named table comes fits after clear =
        of_infix (complete_terms d from p f named table comes fits.2 (at_operator (stands_of f table comes o j fits.0 (renamed_item named is))) clear) (renamed_item named is)
        (complete_terms g (expression_comes d from) p f named table comes fits.3 after clear)

    complete_parts : {q : ℕ} {qs : List ℕ} {a b : Spot} {v : List Tree} {t : List TrailItem} → DerivesParts G.grammar G.text (q ∷ qs) a b v t → Comes a → (follow : List StartKind) →
        PartsFollowed sets follow (q ∷ qs) → SomeMatches G.text follow b.place → IsOk (AnswersParts G q qs a) a b v t
    complete_parts (derives.first_part {p = q} {parts = []} {a = a} {b = b} {forest = v} {trail = t} d derives.no_part) from follow f m =
        let r = complete d from (part_after q b b (comes_on d from) [] follow f (still refl tt) m) in
        renamed _ a refl (append-nil v) (append-nil t) (record { error = r.error; count = _; run = part r.run part_last })
    complete_parts (derives.first_part {p = q} {parts = x ∷ xs} {a = a} {b = b} {c = c} {forest = v} {others = w} {trail = t} {items = u} d ds) from follow f m =
        let first = complete d from (part_after q b c (comes_on d from) (x ∷ xs) follow f (begins_parts G.grammar G.text scalars sets good ds) m) in
        let rest = complete_parts ds (comes_on d from) follow f.2 m in
        ok_flag _ a c _ (v ++ w) (t ++ u) _ _ (both_moved (forward d) (forward_parts ds)) (part first.run (part_ok rest.run))

    complete_rounds : {q n : ℕ} {a b : Spot} {v : List Tree} {t : List TrailItem} → DerivesRounds G.grammar G.text q n a b v t → Comes a → (p : ℕ) → IsNode q → ManyIsPredictive sets p q →
        SomeMatches G.text (sets.follow p) b.place → IsOk (AnswersRounds G q n a) a b v t
    complete_rounds (derives.no_round {p = q} {a = a}) from p there f m =
        let fails = passes q a from there f.full (kept_out a.place (sets.first q) (sets.follow p) f.apart m) in
        ok_stayed _ a [] [] _ _ (round fails.2 round_ended)
    complete_rounds (derives.first_round {p = q} {a = a} {b = b} {c = c} {forest = v} {others = w} {trail = t} {items = u} d ds) from p there f m =
        let first = complete d from (round_after p ds (comes_on d from) f m) in
        let rest = complete_rounds ds (comes_on d from) p there f m in
        let l : a.place < b.place = consumes G.grammar sets G.text q f.full (begun d) in
        let onward = rounds_onward ds in
        let consumed = subst (λ x. Answers G q a (ok x b v t first.error) first.count) (moved l) first.run in
        ok_moved _ a c (v ++ w) (t ++ u) _ _ (omega arith) (round consumed (round_ok rest.run))

    complete_links : (side : Side) (shape : Shape) {q r n : ℕ} {a b : Spot} {links : List Link} {t : List TrailItem} → DerivesLinks G.grammar G.text q r n a b links t → Comes a → (p : ℕ) → IsNode q → IsNode r →
        ChainIsPredictive sets p q r → (left : List Tree) → SomeMatches G.text (sets.follow p) b.place → IsOk (AnswersLinks G side shape q r left n a) a b (folded side shape left links) t
    complete_links side shape (derives.no_link {p = q} {s = r} {a = a}) from p is_q is_r f left m =
        no_more side shape p q r left a from is_q is_r f m
    complete_links side shape (derives.first_link {p = q} {s = r} {n = n} {a = a} {b = b} {c = c} {d = z} {separator = v} {operand = w} {links = links} {trail = t} {items = u} {others = o} d e ds) from p is_q is_r f left m =
        let middle = comes_on d from in
        let last = comes_on e middle in
        let onward = begins_links G.grammar G.text scalars sets good ds p f in
        let separator = complete d from (operand_after p q r b c z middle f (begun e) onward m) in
        let operand = complete e middle (link_after p q r c z last f onward m) in
        let rest = complete_links side shape ds last p is_q is_r f (carried side shape left v w) m in
        one_more side shape q r n left v w links a b c z t u o (forward d) (forward e) (links_onward ds) (link_moves p q r a b c f (forward e) (begun d) (begun e)) separator operand rest
