-- Where no first start of a node matches, the node consumes nothing under a table of the grammar: it fails, or it is nullable
-- and stays where it is.
use Rattle.std.proofs.Common.{◌≡◌, ◌<◌, ◌≤◌, ◌⊎◌, inl, inr, ℕ, zero, suc, List, [], ◌∷◌, true, false, refl, ap, subst, length, Some, slice_get, arith, le_refl}
use Rattle.std.specs.List.{Contains, AllByRecursion}
use Rattle.std.specs.Str.{all_scalars}
use Rattle.pg_tree.specs.Trees.{Tree}
use Rattle.pg_grammar_form.specs.Forms.{Node, parts_of}
use Rattle.pg_grammar_value.specs.Grammar.{Grammar}
use Rattle.pg_grammar_form.specs.declared.form.Form.TheVariants as form
use Rattle.pg_grammar_form.specs.declared.form.Leaf.{Leaf}
use Rattle.pg_grammar_form.specs.declared.form.Leaf.TheVariants as leaf
use Rattle.pg_grammar_form.specs.declared.form.Around.{Around}
use Rattle.pg_grammar_form.specs.declared.form.Around.TheVariants as kind
use Rattle.pg_grammar_value.specs.declared.grammar.Rule as declared
use Rattle.pg_grammar_value.specs.declared.trail.TrailItem.{TrailItem}
use Rattle.pg_grammar_value.specs.declared.trail.TrailItem.TheVariants.{Alt, Rounds}
use Rattle.pg_grammar_form.specs.declared.word_item.WordItem.{WordItem}
use Rattle.pg_start.specs.Starts.{MatchesAt}
use Rattle.pg_start.specs.declared.kind.StartKind.{StartKind}
use Rattle.pg_language.specs.Derives.{Spot, made_by}
use Rattle.pg_table.specs.Tables.{ComesFrom}
use Rattle.pg_language.specs.Answers as answers
use Rattle.pg_language.specs.Answers.{Given, Answers, entered, AnswersForm, nothing, seq, choice, many, rule, AnswersParts, part, part_last, part_failed, part_ok, AnswersAlternatives, no_alternative, alternative, alternative_stands, alternative_waits, alternative_failed, round, round_ended, AnswersChain, first_operand, first_failed, first_ok, link, separator_failed, separator_ok, operand_failed}
use Rattle.pg_language.specs.Errors.{Error}
use Rattle.pg_language.specs.Leaves.{some_word_outcome, some_declare_outcome}
use Rattle.pg_language.specs.Reactions.{ok_kind, error_kind, counted_by, labelled_by}
use Rattle.pg_language.specs.Outcomes.{Outcome, ok, failed}
use Rattle.pg_grammar_form.specs.declared.side.Side.{Side}
use Rattle.pg_grammar_form.specs.declared.used.ChainBuilder.{ChainBuilder}
use Rattle.pg_language.specs.declared.reading.Reading.{Reading}
use Rattle.pg_language.specs.declared.reading.Reading.TheVariants.{Library, Report}
use Rattle.pg_tree.specs.declared.shape.Shape.{Shape}
use Rattle.pg_derive.specs.ClosedSets.{NodeSets, SomeMatches, Covers, AllNullable, BeginsParts, PartsFall}
use Rattle.pg_grammar_form.specs.Operators.{IsOperator}
use Rattle.pg_grammar_form.specs.declared.used.OperatorBuilders.{OperatorBuilders}
use Rattle.pg_language.specs.RowReactions.{Setting}
use Rattle.pg_derive.proofs.OperatorsOfTables.{proper_table, clear_table}
use Rattle.pg_derive.proofs.WholeRows.{all_levels}
use Rattle.pg_derive.proofs.RowsFound.{refuse}
use Rattle.pg_derive.specs.Predictive.{ExpressionIsPredictive, PartIsPredictive, TryIsPredictive, of_part, of_string, of_key, AlternativesArePredictive, ChainIsPredictive, LeafIsPredictive, AroundIsPredictive, IsPredictiveAt}
use Rattle.pg_derive.proofs.LeavesAnswered.{FailsEmpty, StaysOk, satisfy_fails, string_fails, word_fails, not_followed_decided, end_decided, declare_fails}
use Rattle.pg_language.proofs.Onward.{left_still}
use Rattle.pg_derive.proofs.Lexemes.{NodeFails, string_node_fails, key_node_fails}

-- every number at a node names something
pub record IsWhole (g : Grammar) : Type 0 where
  pub parts : (p : ℕ) (n : Node) → slice_get g.nodes p ≡ Some n → AllByRecursion (λ q. q < length g.nodes) (parts_of n)
  pub rules : (p r : ℕ) → slice_get g.nodes p ≡ Some (form.Rule r) → (named : declared.Rule) × (slice_get g.rules r ≡ Some named) × (named.body < length g.nodes)
  pub words : (p w : ℕ) → slice_get g.nodes p ≡ Some (form.Leaf (leaf.Word w)) → (item : WordItem) × (slice_get g.words w ≡ Some item)
  -- and the initial operators can be declared
  pub initials : AllByRecursion IsOperator g.initials

pub data Quietly (Run : Outcome → ℕ → Type 0) (Empty : Type 0) (a : Spot) : Type 0 where
  refuses : (e : Error) (m : ℕ) → Run (failed false e) m → Quietly Run Empty a
  skips : Empty → (v : List Tree) (t : List TrailItem) (e : Error) (m : ℕ) → Run (ok false a v t e) m → Quietly Run Empty a

-- no start of these matches there
abbrev pub NoStart : List ℕ → (StartKind → Type 0) → ℕ → Type 0
NoStart text IsStart i = (s : StartKind) → IsStart s → MatchesAt s text i → ⊥

unmatched : (text : List ℕ) (starts : List StartKind) (i : ℕ) → NoStart text (Contains starts) i → SomeMatches text starts i → ⊥
unmatched text starts i bare m = bare m.start m.among m.there

-- where none of a list matches, none matches that the list covers
bare_within : (text : List ℕ) (IsStart : StartKind → Type 0) (starts : List StartKind) (i : ℕ) → all_scalars text ≡ true → ((s : StartKind) → IsStart s → Covers starts s) →
    NoStart text (Contains starts) i → NoStart text IsStart i
bare_within text IsStart starts i scalars f bare s b there = unmatched text starts i bare (f s b text scalars i there)

pub found : {X : Type 0} (xs : List X) (i : ℕ) → i < length xs → (x : X) × (slice_get xs i ≡ Some x)
found [] i l = absurd (omega arith)
found (x ∷ xs) zero l = (x, refl)
found (x ∷ xs) (suc i) l = found xs i (omega arith)

refused : (Run : Outcome → ℕ → Type 0) (E : Type 0) (a : Spot) (o : Outcome) (m : ℕ) → Run o m → FailsEmpty o → Quietly Run E a
refused Run E a o m run f = refuses f.error m (subst (λ x. Run x m) f.is run)

stayed : (Run : Outcome → ℕ → Type 0) (E : Type 0) (a : Spot) (o : Outcome) (m : ℕ) → Run o m → E → StaysOk a o → Quietly Run E a
stayed Run E a o m run x f = skips x [] [] f.error m (subst (λ z. Run z m) f.is run)

decided : (Run : Outcome → ℕ → Type 0) (E : Type 0) (a : Spot) (o : Outcome) (m : ℕ) → Run o m → E → FailsEmpty o ⊎ StaysOk a o → Quietly Run E a
decided Run E a o m run x (inl f) = refused Run E a o m run f
decided Run E a o m run x (inr f) = stayed Run E a o m run x f

falls_further : (sets : NodeSets) (m n : ℕ) (ps : List ℕ) → m ≤ n → PartsFall sets m ps → PartsFall sets n ps
falls_further sets m n [] l f = tt
falls_further sets m n (q ∷ qs) l f = let first = f.0 in (omega arith, λ x. falls_further sets m n qs l (f.1 x))

-- where a part consumed nothing, no form around it counts as if it had
pub not_counted : (k : Around) → counted_by k false ≡ false
not_counted kind.Try = refl
not_counted _ = refl

module _ (G : Given) (scalars : all_scalars G.text ≡ true) (whole : IsWhole G.grammar) (sets : NodeSets) where
  abbrev pub QuietNode : ℕ → Spot → Type 0
  QuietNode p a = Quietly (Answers G p a) (sets.nullable p ≡ true) a

  abbrev pub QuietParts : ℕ → List ℕ → Spot → Type 0
  QuietParts p ps a = Quietly (AnswersParts G p ps a) (AllNullable sets (p ∷ ps)) a

  abbrev QuietForm : Node → ℕ → Spot → Type 0
  QuietForm n p a = Quietly (AnswersForm G n a) (sets.nullable p ≡ true) a

  abbrev Lower : ℕ → Spot → Type 0
  Lower n a = (q : ℕ) → sets.level q < n → q < length G.grammar.nodes → NoStart G.text (Contains (sets.first q)) a.place → QuietNode q a

  quiet_parts : (n : ℕ) (a : Spot) → Lower n a → (q : ℕ) (qs : List ℕ) → PartsFall sets n (q ∷ qs) → AllByRecursion (λ r. r < length G.grammar.nodes) (q ∷ qs) →
      NoStart G.text (BeginsParts sets (q ∷ qs)) a.place → QuietParts q qs a
  quiet_parts n a lower q [] l there bare = go (lower q l.0 there.0 (λ s b. bare s (inl b)))
    where
      go : QuietNode q a → QuietParts q [] a
      go (refuses e m run) = refuses e _ (part run part_last)
      go (skips x v t e m run) = skips (x, tt) v t e _ (part run part_last)
  quiet_parts n a lower q (r ∷ rs) l there bare =
      go (lower q l.0 there.0 (λ s b. bare s (inl b))) (λ x. quiet_parts n a lower r rs (l.1 x) there.1 (λ s b. bare s (inr (x, b))))
    where
      more : sets.nullable q ≡ true → (v : List Tree) (t : List TrailItem) (e : Error) (m : ℕ) → Answers G q a (ok false a v t e) m → QuietParts r rs a → QuietParts q (r ∷ rs) a
      more x v t e m run (refuses f k rest) = refuses _ _ (part run (part_ok rest))
      more x v t e m run (skips xs w u f k rest) = skips (x, xs) _ _ _ _ (part run (part_ok rest))

      go : QuietNode q a → (sets.nullable q ≡ true → QuietParts r rs a) → QuietParts q (r ∷ rs) a
      go (refuses e m run) rest = refuses e _ (part run part_failed)
      go (skips x v t e m run) rest = more x v t e m run (rest x)

  quiet_alternatives : (n : ℕ) (a : Spot) → Lower n a → (p k : ℕ) (qs : List ℕ) → AlternativesArePredictive sets p qs → sets.level p < suc n → AllByRecursion (λ r. r < length G.grammar.nodes) qs →
      NoStart G.text (Contains (sets.first p)) a.place → Quietly (AnswersAlternatives G k qs a) (sets.nullable p ≡ true) a
  quiet_alternatives n a lower p k [] f l there bare = refuses _ _ no_alternative
  quiet_alternatives n a lower p k (q ∷ qs) f l there bare =
      go (lower q (let falls = f.0.falls in omega arith) there.0 (bare_within G.text (Contains (sets.first q)) (sets.first p) a.place scalars f.0.first bare)) (quiet_alternatives n a lower p (suc k) qs f.2 l there.1 bare) G.reading refl
    where
      Result : Type 0
      Result = Quietly (AnswersAlternatives G k (q ∷ qs) a) (sets.nullable p ≡ true) a

      Rest : Type 0
      Rest = Quietly (AnswersAlternatives G (suc k) qs a) (sets.nullable p ≡ true) a

      after_refusal : (e : Error) (m : ℕ) → Answers G q a (failed false e) m → Rest → Result
      after_refusal e m run (refuses f i rest) = refuses _ _ (alternative run (alternative_failed rest))
      after_refusal e m run (skips x v t f i rest) = skips x v t _ _ (alternative run (alternative_failed rest))

      waiting : sets.nullable p ≡ true → (v : List Tree) (t : List TrailItem) (e : Error) (m : ℕ) → Answers G q a (ok false a v t e) m → G.reading ≡ Report → Rest → Result
      waiting x v t e m run r (refuses f i rest) = skips x v (Alt k ∷ t) _ _ (alternative run (alternative_waits r rest))
      waiting x v t e m run r (skips y w u f i rest) = skips x v (Alt k ∷ t) _ _ (alternative run (alternative_waits r rest))

      go : QuietNode q a → Rest → (reading : Reading) → G.reading ≡ reading → Result
      go (refuses e m run) rest reading r = after_refusal e m run rest
      go (skips x v t e m run) rest Library r = skips (f.0.empty x) v (Alt k ∷ t) e _ (alternative run (alternative_stands r))
      go (skips x v t e m run) rest Report r = waiting (f.0.empty x) v t e m run r rest

  -- a chain, by what its first operand does, and then its separator, and then its operand again
  quiet_chain : (n : ℕ) (a : Spot) → Lower n a → (side : Side) (shape : Shape) (p q r : ℕ) → ChainIsPredictive sets p q r → sets.level p < suc n → q < length G.grammar.nodes → r < length G.grammar.nodes →
      NoStart G.text (Contains (sets.first p)) a.place → Quietly (AnswersChain G side shape q r zero a) (sets.nullable p ≡ true) a
  quiet_chain n a lower side shape p q r f l is_q is_r bare = go (quiet_operand (let falls = f.falls.0 in omega arith))
    where
      Result : Type 0
      Result = Quietly (AnswersChain G side shape q r zero a) (sets.nullable p ≡ true) a

      quiet_operand : sets.level q < n → QuietNode q a
      quiet_operand below = lower q below is_q (bare_within G.text (Contains (sets.first q)) (sets.first p) a.place scalars f.first bare)

      again : (en : sets.nullable q ≡ true) (er : sets.nullable r ≡ true) (v w : List Tree) (t u : List TrailItem) (e g : Error) (m i : ℕ) →
          Answers G q a (ok false a v t e) m → Answers G r a (ok false a w u g) i → QuietNode q a → Result
      again en er v w t u e g m i run separator (refuses h j operand) =
          skips (f.empty en) _ _ _ _ (first_operand run (first_ok (link separator (separator_ok operand operand_failed))))
      again en er v w t u e g m i run separator (skips x y z h j operand) = absurd (f.full (er, (en, tt)))

      linked : sets.nullable q ≡ true → (v : List Tree) (t : List TrailItem) (e : Error) (m : ℕ) → Answers G q a (ok false a v t e) m → QuietNode r a → Result
      linked en v t e m run (refuses g i separator) = skips (f.empty en) _ _ _ _ (first_operand run (first_ok (link separator separator_failed)))
      linked en v t e m run (skips er w u g i separator) =
          again en er v w t u e g m i run separator (quiet_operand (let falls = f.falls.0 in omega arith))

      go : QuietNode q a → Result
      go (refuses e m run) = refuses e _ (first_operand run first_failed)
      go (skips en v t e m run) =
          let round = bare_within G.text (BeginsParts sets (r ∷ q ∷ [])) (sets.first p) a.place scalars (f.next en) bare in
          linked en v t e m run (lower r (let falls = (f.falls.1 en).0 in omega arith) is_r (λ s b. round s (inl b)))

  quiet_links : (a : Spot) (p q r : ℕ) (side : Side) (used : ChainBuilder) → Quietly (AnswersChain G side used.shape q r zero a) (sets.nullable p ≡ true) a → QuietForm (form.Chain side used q r) p a
  quiet_links a p q r side used (refuses e m run) = refuses e _ (answers.chain run)
  quiet_links a p q r side used (skips x v t e m run) = skips x v (Rounds zero ∷ t) e _ (answers.chain run)

  by_failing : (a : Spot) (p q : ℕ) → NodeFails G q a → QuietForm (form.Around kind.Try q) p a
  by_failing a p q h = refuses h.error _ (answers.around h.answers)

  module _ (n : ℕ) (a : Spot) (from : ComesFrom G.grammar a.table) (lower : Lower n a) (p : ℕ) (l : sets.level p < suc n) (bare : NoStart G.text (Contains (sets.first p)) a.place) where
    quiet_part : (q : ℕ) → PartIsPredictive sets p q → q < length G.grammar.nodes → QuietNode q a
    quiet_part q f there = lower q (let falls = f.falls in omega arith) there (bare_within G.text (Contains (sets.first q)) (sets.first p) a.place scalars f.first bare)

    -- a form that makes something of a part that fits
    of_quiet : (k : Around) (q : ℕ) → PartIsPredictive sets p q → QuietNode q a → QuietForm (form.Around k q) p a
    of_quiet k q f (refuses e m run) =
        let said : Error = labelled_by k (error_kind false) e in refuses said m (subst (λ c. AnswersForm G (form.Around k q) a (failed c said) m) (not_counted k) (answers.around run))
    of_quiet k q f (skips x v t e m run) =
        let made : List Tree = made_by k G.text a.place a.place v in
        let said : Error = labelled_by k (ok_kind false) e in
        skips (f.empty x) made t said m (subst (λ (b : Spot). AnswersForm G (form.Around k q) a (ok false b made t said) m) (left_still k a a refl) (answers.around run))

    quiet_try : (q : ℕ) → TryIsPredictive G.grammar sets p q → q < length G.grammar.nodes → QuietForm (form.Around kind.Try q) p a
    quiet_try q (of_part f) there = of_quiet kind.Try q f (quiet_part q f there)
    quiet_try q (of_string {s = s} e spelled falls f) there =
        by_failing a p q (string_node_fails G q s a e (λ h. unmatched G.text (sets.first p) a.place bare (f G.text scalars a.place h)))
    quiet_try q (of_key {x = x} {y = y} {s = s} {class = class} e first second spelled falls f) there =
        by_failing a p q (key_node_fails G q x y s class a e first second (λ h. unmatched G.text (sets.first p) a.place bare (f G.text scalars a.place h)))

    quiet_around : (k : Around) (q : ℕ) → AroundIsPredictive G.grammar sets p k q → q < length G.grammar.nodes → QuietForm (form.Around k q) p a
    quiet_around kind.Try q f there = quiet_try q f there
    quiet_around k q f there = of_quiet k q f (quiet_part q f there)

    quiet_leaf : (l : Leaf ℕ) → slice_get G.grammar.nodes p ≡ Some (form.Leaf l) → LeafIsPredictive G.grammar sets p l → QuietForm (form.Leaf l) p a
    quiet_leaf (leaf.Satisfy class) e f =
        refused (AnswersForm G (form.Leaf (leaf.Satisfy class)) a) _ a _ _ (answers.leaf refl)
        (satisfy_fails G.grammar G.text class a (λ h. unmatched G.text (sets.first p) a.place bare (f G.text scalars a.place h)))
    quiet_leaf (leaf.String s) e f =
        refused (AnswersForm G (form.Leaf (leaf.String s)) a) _ a _ _ (answers.leaf refl)
        (string_fails G.text s a f.spelled (λ h. unmatched G.text (sets.first p) a.place bare (f.first G.text scalars a.place h)))
    quiet_leaf (leaf.Word w) e f =
        let item = whole.words p w e in
        refused (AnswersForm G (form.Leaf (leaf.Word w)) a) _ a _ _ (answers.leaf (ap (some_word_outcome G.grammar G.text a) item.1))
        (word_fails G.grammar G.text item.0 a (λ s h. unmatched G.text (sets.first p) a.place bare (f G.text scalars a.place (record { item = item.0; named = item.1; word = s; there = h }))))
    quiet_leaf (leaf.NotFollowedBy class) e f =
        decided (AnswersForm G (form.Leaf (leaf.NotFollowedBy class)) a) _ a _ _ (answers.leaf refl) f (not_followed_decided G.grammar G.text class a)
    quiet_leaf leaf.EndOfText e f = decided (AnswersForm G (form.Leaf leaf.EndOfText) a) _ a _ _ (answers.leaf refl) f (end_decided G.text a)
    quiet_leaf (leaf.Declare class) e f =
        refused (AnswersForm G (form.Leaf (leaf.Declare class)) a) _ a _ _ (answers.leaf (ap (some_declare_outcome G.grammar G.text class a) f.named))
        (declare_fails G.grammar G.text f.item class a (λ role h. unmatched G.text (sets.first p) a.place bare (f.first G.text scalars a.place (record { role = role; there = h }))))

    -- no prefix stands there
    quiet_expression : (builders : OperatorBuilders) (q : ℕ) → ExpressionIsPredictive G.grammar sets p q → QuietNode q a → QuietForm (form.Expression builders q) p a
    quiet_expression builders q f (refuses e m run) =
        let operators = a.table.operators in
        let proper = proper_table G.grammar a.table whole.initials from in
        let s : Setting = record { item = f.item; builders = builders; term = q } in
        let rows = refuse G s operators (clear_table G.grammar a.table whole.initials from) (all_levels operators proper) a
        (λ o j among role_is there. unmatched G.text (sets.first p) a.place bare
        (f.begins G.text scalars a.place (record { table = a.table; comes = from; operator = o; among = among; end = j; there = there })))
        (record { error = e; count = m; run = run }) in
        refuses rows.error rows.count (answers.expression f.named rows.run)
    quiet_expression builders q f (skips x v t e m run) = let full = f.full in absurd (cc)

    quiet_form : (f : Node) → slice_get G.grammar.nodes p ≡ Some f → IsPredictiveAt G.grammar sets p f → QuietForm f p a
    quiet_form (form.Leaf l) e f = quiet_leaf l e f
    quiet_form (form.Seq []) e f = skips (f.empty tt) [] [] _ _ nothing
    quiet_form (form.Seq (q ∷ qs)) e f = go (quiet_parts n a lower q qs (falls_further sets (sets.level p) n (q ∷ qs) (omega arith) f.falls) (whole.parts p _ e)
        (bare_within G.text (BeginsParts sets (q ∷ qs)) (sets.first p) a.place scalars f.first bare))
      where
        go : QuietParts q qs a → QuietForm (form.Seq (q ∷ qs)) p a
        go (refuses e m run) = refuses e _ (seq run)
        go (skips x v t e m run) = skips (f.empty x) v t e _ (seq run)
    quiet_form (form.Choice qs) e f = go (quiet_alternatives n a lower p (suc zero) qs f l (whole.parts p _ e) bare)
      where
        go : Quietly (AnswersAlternatives G (suc zero) qs a) (sets.nullable p ≡ true) a → QuietForm (form.Choice qs) p a
        go (refuses e m run) = refuses e _ (choice run)
        go (skips x v t e m run) = skips x v t e _ (choice run)
    quiet_form (form.Many q) e f = go (lower q (let falls = f.falls in omega arith) (whole.parts p _ e).0 (bare_within G.text (Contains (sets.first q)) (sets.first p) a.place scalars f.first bare))
      where
        go : QuietNode q a → QuietForm (form.Many q) p a
        go (refuses e m run) = skips f.empty [] (Rounds zero ∷ []) e _ (many (round run round_ended))
        go (skips x v t e m run) = let full = f.full in absurd (cc)
    quiet_form (form.Chain side used q r) e f =
        let there = whole.parts p _ e in quiet_links a p q r side used (quiet_chain n a lower side used.shape p q r f l there.0 there.1.0 bare)
    quiet_form (form.Rule r) e f =
        let named = whole.rules p r e in
        go named.0 named.1 (quiet_part named.0.body (f.body named.0 named.1) named.2)
      where
        go : (named : declared.Rule) → slice_get G.grammar.rules r ≡ Some named → QuietNode named.body a → QuietForm (form.Rule r) p a
        go named e (refuses x m run) = refuses x _ (rule e run)
        go named e (skips y v t x m run) = skips ((f.body named e).empty y) v t x _ (rule e run)
    quiet_form (form.Expression builders q) e f = quiet_expression builders q f (lower q (let falls = f.falls in omega arith) (whole.parts p _ e).0
        (bare_within G.text (Contains (sets.first q)) (sets.first p) a.place scalars f.first bare))
    quiet_form (form.Around k q) e f = quiet_around k q f (whole.parts p _ e).0

  module _ (good : (p : ℕ) (n : Node) → slice_get G.grammar.nodes p ≡ Some n → IsPredictiveAt G.grammar sets p n) where
    quiet_at : (n : ℕ) (a : Spot) → ComesFrom G.grammar a.table → Lower n a → (p : ℕ) → sets.level p < suc n → NoStart G.text (Contains (sets.first p)) a.place →
        (f : Node) → slice_get G.grammar.nodes p ≡ Some f → QuietNode p a
    quiet_at n a from lower p l bare f e = go (quiet_form n a from lower p l bare f e (good p f e))
      where
        go : QuietForm f p a → QuietNode p a
        go (refuses x m run) = refuses x _ (entered e run)
        go (skips y v t x m run) = skips y v t x _ (entered e run)

    pub quiet_below : (n : ℕ) (a : Spot) → ComesFrom G.grammar a.table → Lower n a
    quiet_below zero a from p l there bare = absurd (omega arith)
    quiet_below (suc n) a from p l there bare = let f = found G.grammar.nodes p there in quiet_at n a from (quiet_below n a from) p l bare f.0 f.1

    pub quiet : (p : ℕ) (a : Spot) → ComesFrom G.grammar a.table → p < length G.grammar.nodes → NoStart G.text (Contains (sets.first p)) a.place → QuietNode p a
    quiet p a from there bare = quiet_below (suc (sets.level p)) a from p (le_refl _) there bare
