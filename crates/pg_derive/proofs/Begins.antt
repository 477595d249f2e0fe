-- A derivation that consumes nothing shows that the node is nullable; one that consumes begins, under a table of the grammar,
-- where one of the node's first starts matches.
use Rattle.std.proofs.Common.{◌≡◌, ◌<◌, ◌≤◌, ◌⊎◌, inl, inr, ℕ, zero, suc, List, [], ◌∷◌, true, false, refl, sym, ◌∙◌, ap, subst, length, Some, slice_get, arith, le_refl}
use Rattle.std.specs.List.{Contains}
use Rattle.std.specs.Str.{all_scalars}
use Rattle.pg_tree.specs.Trees.{Tree}
use Rattle.pg_grammar_value.specs.Grammar.{Grammar}
use Rattle.pg_grammar_form.specs.Forms.{Node}
use Rattle.pg_grammar_form.specs.declared.form.Leaf.{Leaf}
use Rattle.pg_grammar_form.specs.declared.form.Around.{Around}
use Rattle.pg_grammar_form.specs.declared.form.Around.TheVariants as kind
use Rattle.pg_grammar_value.specs.declared.trail.TrailItem.{TrailItem}
use Rattle.pg_start.specs.Starts.{MatchesAt}
use Rattle.pg_start.specs.declared.kind.StartKind.{StartKind}
use Rattle.pg_grammar_form.specs.Operators.{Operator}
use Rattle.pg_grammar_form.specs.declared.operators_item.OperatorsItem.{OperatorsItem}
use Rattle.pg_grammar_form.specs.declared.used.OperatorBuilders.{OperatorBuilders}
use Rattle.pg_table.specs.Fitting.{Expression, term, IsAmong, IsFitting}
use Rattle.pg_table.specs.Tables.{ComesFrom}
use Rattle.pg_language.specs.Runs.{IsOperatorAt}
use Rattle.pg_derive.proofs.ExpressionsOn.{expression_forward}
use Rattle.pg_language.specs.Derives as derives
use Rattle.pg_language.specs.Derives.{Spot, left_by, Link, Derives, at_node, DerivesForm, Reads, satisfy, string, word, not_followed_by, end_of_text, declare, seq, choice, many, rule, expression, DerivesParts, no_part, first_part, DerivesRounds, no_round, first_round, DerivesLinks, no_link, first_link, DerivesExpression, a_term, a_prefix, a_postfix, an_infix}
use Rattle.pg_derive.specs.ClosedSets.{NodeSets, SomeMatches, Covers, AllNullable, BeginsParts}
use Rattle.pg_derive.specs.Predictive.{ExpressionIsPredictive, IsSomeOperatorAt, PartIsPredictive, TryIsPredictive, of_part, of_string, of_key, AlternativesArePredictive, ManyIsPredictive, ChainIsPredictive, LeafIsPredictive, AroundIsPredictive, IsPredictiveAt}
use Rattle.pg_language.proofs.DeclarationsDerived.{declaration_moves}
use Rattle.pg_language.proofs.Onward.{left_still, operator_on, rounds_onward, links_onward}
use Rattle.pg_derive.proofs.Inverted.{form_at, spans_string, spans_key, first_stands, forward, forward_parts}

-- a list covers what is in it
pub contained_covers : (starts : List StartKind) (s : StartKind) → Contains starts s → Covers starts s
contained_covers starts s h text scalars place there = record { start = s; among = h; there = there }

-- one of these starts matches at the place
pub record Begun (text : List ℕ) (IsStart : StartKind → Type 0) (place : ℕ) : Type 0 where
  pub start : StartKind
  pub among : IsStart start
  pub there : MatchesAt start text place

-- the same at a spot under a table of the grammar
abbrev pub BegunUnder : Grammar → List ℕ → (StartKind → Type 0) → Spot → Type 0
BegunUnder g text IsStart a = ComesFrom g a.table → Begun text IsStart a.place

pub data Beginning (g : Grammar) (text : List ℕ) (Empty : Type 0) (IsStart : StartKind → Type 0) (a b : Spot) : Type 0 where
  still : a ≡ b → Empty → Beginning g text Empty IsStart a b
  moves : a.place < b.place → BegunUnder g text IsStart a → Beginning g text Empty IsStart a b

-- whatever table a form around a part leaves
left_begun : {g : Grammar} {text : List ℕ} {Empty : Type 0} {IsStart : StartKind → Type 0} (k : Around) {a b : Spot} → Beginning g text Empty IsStart a b → Beginning g text Empty IsStart a (left_by k a b)
left_begun k {a = a} {b = b} (still e n) = still (sym (left_still k a b (sym e))) n
left_begun k (moves l m) = moves l m

-- of more starts
more_begun : (g : Grammar) (text : List ℕ) (S T : StartKind → Type 0) (a : Spot) → ((s : StartKind) → S s → T s) → BegunUnder g text S a → BegunUnder g text T a
more_begun g text S T a f h from = let m = h from in record { start = m.start; among = f m.start m.among; there = m.there }

-- wherever a start of the one kind matches in the text, so does one of the other kind
abbrev pub AreCovered : List ℕ → (StartKind → Type 0) → (StartKind → Type 0) → Type 0
AreCovered text S T = (s : StartKind) → S s → (place : ℕ) → MatchesAt s text place → Begun text T place

pub covered : (text : List ℕ) (S : StartKind → Type 0) (starts : List StartKind) → all_scalars text ≡ true → ((s : StartKind) → S s → Covers starts s) → AreCovered text S (Contains starts)
covered text S starts scalars f s b place there = let m = f s b text scalars place there in record { start = m.start; among = m.among; there = m.there }

covered_begun : (g : Grammar) (text : List ℕ) (S T : StartKind → Type 0) (a : Spot) → AreCovered text S T → BegunUnder g text S a → BegunUnder g text T a
covered_begun g text S T a f h from = let m = h from in f m.start m.among a.place m.there

-- at a spot that is the same
elsewhere : (g : Grammar) (text : List ℕ) (S : StartKind → Type 0) {a b : Spot} → a ≡ b → BegunUnder g text S b → BegunUnder g text S a
elsewhere g text S e h = subst (λ (x : Spot). BegunUnder g text S x) (sym e) h

pub widened : {g : Grammar} {text : List ℕ} {E F : Type 0} {S T : StartKind → Type 0} {a b : Spot} → (E → F) → AreCovered text S T →
    Beginning g text E S a b → Beginning g text F T a b
widened f c (still e x) = still e (f x)
widened f c (moves l h) = moves l (covered_begun _ _ _ _ _ c h)

abbrev pub BeginsNode : Grammar → NodeSets → List ℕ → ℕ → Spot → Spot → Type 0
BeginsNode g sets text p a b = Beginning g text (sets.nullable p ≡ true) (Contains (sets.first p)) a b

abbrev pub BeginsList : Grammar → NodeSets → List ℕ → List ℕ → Spot → Spot → Type 0
BeginsList g sets text ps a b = Beginning g text (AllNullable sets ps) (BeginsParts sets ps) a b

by_matching : (g : Grammar) (sets : NodeSets) (text : List ℕ) (p : ℕ) {a b : Spot} → a.place < b.place → SomeMatches text (sets.first p) a.place → BeginsNode g sets text p a b
by_matching g sets text p l m = moves l (λ from. record { start = m.start; among = m.among; there = m.there })

pub joined : (g : Grammar) (sets : NodeSets) (text : List ℕ) (p : ℕ) (ps : List ℕ) {a b c : Spot} → b.place ≤ c.place → BeginsNode g sets text p a b → BeginsList g sets text ps b c →
    BeginsList g sets text (p ∷ ps) a c
joined g sets text p ps l (still e n) (still f ns) = still (e ∙ f) (n, ns)
joined g sets text p ps l (still e n) (moves m h) =
    let same = ap (λ (x : Spot). x.place) e in moves (omega arith) (more_begun _ _ (BeginsParts sets ps) _ _ (λ s b. inr (n, b)) (elsewhere _ _ _ e h))
joined g sets text p ps l (moves m h) rest = moves (omega arith) (more_begun _ _ (Contains (sets.first p)) _ _ (λ s b. inl b) h)

pub consumes : (g : Grammar) (sets : NodeSets) (text : List ℕ) (p : ℕ) {a b : Spot} → sets.nullable p ≡ false → BeginsNode g sets text p a b → a.place < b.place
consumes g sets text p full (still e n) = absurd (cc)
consumes g sets text p full (moves l h) = l

a_round : {g : Grammar} {sets : NodeSets} {text : List ℕ} {p q : ℕ} {a b c : Spot} → all_scalars text ≡ true → ManyIsPredictive sets p q → b.place ≤ c.place → BeginsNode g sets text q a b → BeginsNode g sets text p a c
a_round scalars f l (still e n) = let full = f.full in absurd (cc)
a_round {g} {sets} {text} {p} {q} scalars f l (moves m h) =
    moves (omega arith) (covered_begun _ _ _ (Contains (sets.first p)) _ (covered text (Contains (sets.first q)) (sets.first p) scalars f.first) h)

-- an operand, and then nothing or a round
a_chain : {g : Grammar} {sets : NodeSets} {text : List ℕ} {p q r : ℕ} {a b c : Spot} → all_scalars text ≡ true → ChainIsPredictive sets p q r → b.place ≤ c.place → BeginsNode g sets text q a b →
    (b ≡ c) ⊎ BeginsList g sets text (r ∷ q ∷ []) b c → BeginsNode g sets text p a c
a_chain {g} {sets} {text} {p} {q} {r} scalars f l (moves m h) rest =
    moves (omega arith) (covered_begun _ _ _ (Contains (sets.first p)) _ (covered text (Contains (sets.first q)) (sets.first p) scalars f.first) h)
a_chain scalars f l (still e n) (inl x) = still (e ∙ x) (f.empty n)
a_chain scalars f l (still e n) (inr (still x y)) = absurd (f.full y)
a_chain {g} {sets} {text} {p} {q} {r} scalars f l (still e n) (inr (moves m h)) =
    let same = ap (λ (x : Spot). x.place) e in
    moves (omega arith) (covered_begun _ _ _ (Contains (sets.first p)) _ (covered text (BeginsParts sets (r ∷ q ∷ [])) (sets.first p) scalars (f.next n)) (elsewhere _ _ _ e h))

longer : (g : Grammar) (sets : NodeSets) (text : List ℕ) (ps : List ℕ) {a b c : Spot} → b.place ≤ c.place → (AllNullable sets ps → ⊥) → BeginsList g sets text ps a b → BeginsList g sets text ps a c
longer g sets text ps l full (still e n) = absurd (full n)
longer g sets text ps l full (moves m h) = moves (omega arith) h

pub alternative_fits : (sets : NodeSets) (p : ℕ) (ps : List ℕ) → AlternativesArePredictive sets p ps → (k q : ℕ) → slice_get ps k ≡ Some q → PartIsPredictive sets p q
alternative_fits sets p [] f k q e = absurd (cc)
alternative_fits sets p (r ∷ ps) f zero q e = let same : r ≡ q = cc in subst (PartIsPredictive sets p) same f.0
alternative_fits sets p (r ∷ ps) f (suc k) q e = alternative_fits sets p ps f.2 k q e

module _ (g : Grammar) (s : List ℕ) (scalars : all_scalars s ≡ true) (sets : NodeSets) (good : (p : ℕ) (n : Node) → slice_get g.nodes p ≡ Some n → IsPredictiveAt g sets p n) where
  in_part : {p q : ℕ} {a b : Spot} → PartIsPredictive sets p q → BeginsNode g sets s q a b → BeginsNode g sets s p a b
  in_part {p} {q} f d = widened f.empty (covered s (Contains (sets.first q)) (sets.first p) scalars f.first) d

  in_try : {p q : ℕ} {a b : Spot} {v : List Tree} {t : List TrailItem} → Derives g s q a b v t → BeginsNode g sets s q a b → TryIsPredictive g sets p q → BeginsNode g sets s p a b
  in_try d h (of_part f) = in_part f h
  in_try {p = p} {a = a} {b = b} d h (of_string {s = cs} e l falls m) =
      let spans = spans_string (form_at d e) in
      let ends = ap (λ (x : Spot). x.place) spans.end in
      by_matching g sets s p (omega arith) (m s scalars a.place spans.stands)
  in_try {p = p} {a = a} {b = b} d h (of_key {s = cs} e first second l falls m) =
      let spans = spans_key (form_at d e) first second in
      let ends = ap (λ (x : Spot). x.place) spans.end in
      by_matching g sets s p (omega arith) (m s scalars a.place (spans.stands, spans.bare))

  begins_leaf : {l : Leaf ℕ} {a b : Spot} {v : List Tree} → Reads g s l a b v → (p : ℕ) → LeafIsPredictive g sets p l → BeginsNode g sets s p a b
  begins_leaf (satisfy {a = a} has) p f = by_matching g sets s p (omega arith) (f s scalars a.place has)
  begins_leaf (string {characters = cs} {a = a} h) p f =
      let l = f.spelled in by_matching g sets s p (omega arith) (f.first s scalars a.place (first_stands s cs a.place f.spelled h))
  begins_leaf (word {w = w} {item = item} {s = cs} {a = a} e is) p f =
      let counted = ap length is.whole in
      by_matching g sets s p (omega arith) (f s scalars a.place (record { item = item; named = e; word = cs; there = is }))
  begins_leaf (not_followed_by h) p f = still refl f
  begins_leaf (end_of_text h) p f = still refl f
  begins_leaf (declare {class = class} {item = item} {d = d} {j = j} {a = a} there is admits) p f =
      by_matching g sets s p (declaration_moves g s item class d a.place j is) (f.first s scalars a.place (record { role = d.role; there = record { begins = is.begins; ends = is.ends } }))

  begins_around : (k : Around) {p q : ℕ} {a b : Spot} {v : List Tree} {t : List TrailItem} → Derives g s q a b v t → BeginsNode g sets s q a b → AroundIsPredictive g sets p k q → BeginsNode g sets s p a (left_by k a b)
  begins_around kind.Try d h f = in_try d h f
  begins_around k d h f = left_begun k (in_part f h)

  matched : {starts : List StartKind} {i : ℕ} → SomeMatches s starts i → Begun s (Contains starts) i
  matched m = record { start = m.start; among = m.among; there = m.there }

  term_begins : (p q : ℕ) (x : Expression) → ExpressionIsPredictive g sets p q → {a b : Spot} → BeginsNode g sets s q a b → (a.place < b.place) × (ComesFrom g a.table → IsFitting a.table.operators x → SomeMatches s (sets.first p) a.place)
  term_begins p q x f (still e n) = let full = f.full in absurd (cc)
  term_begins p q x f {a = a} (moves l h) = (l, λ from fits. (let m = h from in f.first m.start m.among s scalars a.place m.there))

  -- an operator that is read stands there
  operator_stands : {p q : ℕ} {item : OperatorsItem} (f : ExpressionIsPredictive g sets p q) (a : Spot) → ComesFrom g a.table → (o : Operator) (j : ℕ) → IsAmong a.table.operators o → g.operators ≡ Some item →
      IsOperatorAt g s item o.symbol a.place j → IsSomeOperatorAt g f.item s a.place
  operator_stands {item = item} f a from o j among e is =
      let named = f.named in
      let same : item ≡ f.item = cc in
      record { table = a.table; comes = from; operator = o; among = among; end = j; there = subst (λ item. IsOperatorAt g s item o.symbol a.place j) same is }

  mutual
    pub begins : {p : ℕ} {a b : Spot} {v : List Tree} {t : List TrailItem} → Derives g s p a b v t → BeginsNode g sets s p a b
    begins (at_node {p = p} {n = n} e d) = begins_form d p (good p n e)

    begins_form : {n : Node} {a b : Spot} {v : List Tree} {t : List TrailItem} → DerivesForm g s n a b v t → (p : ℕ) → IsPredictiveAt g sets p n → BeginsNode g sets s p a b
    begins_form (derives.leaf h) p f = begins_leaf h p f
    begins_form (seq {parts = ps} d) p f = widened f.empty (covered s (BeginsParts sets ps) (sets.first p) scalars f.first) (begins_parts d)
    begins_form (choice {parts = ps} {k = k} {p = q} e d) p f = in_part (alternative_fits sets p ps f k q e) (begins d)
    begins_form (many {p = q} d) p f = begins_rounds d p f
    begins_form (derives.chain {p = q} {s = r} d ds) p f = a_chain scalars f (links_onward ds) (begins d) (begins_links ds p f)
    begins_form (rule {named = named} e d) p f = in_part (f.body named e) (begins d)
    begins_form (expression {p = q} {x = x} e fits d) p f = let h = begins_expression d p f e in moves h.0 (λ from. matched (h.1 from fits))
    begins_form (derives.around {k = k} d) p f = begins_around k d (begins d) f

    -- a term or an operator begins an expression
    begins_expression : {item : OperatorsItem} {builders : OperatorBuilders} {q : ℕ} {x : Expression} {a b : Spot} {v : List Tree} {t : List TrailItem} → DerivesExpression g s item builders q x a b v t → (p : ℕ) →
        ExpressionIsPredictive g sets p q → g.operators ≡ Some item → (a.place < b.place) × (ComesFrom g a.table → IsFitting a.table.operators x → SomeMatches s (sets.first p) a.place)
    begins_expression (a_term {p = q} d) p f e = term_begins p q term f (begins d)
    begins_expression (a_prefix {o = o} {x = x} {j = j} {a = a} is d) p f e =
        let rest = begins_expression d p f e in
        let far = (operator_on g s _ o.symbol a j is).onward in
        let beyond = rest.0 in
        (omega arith, λ from fits. f.begins s scalars a.place (operator_stands f a from o j fits.0 e is))
    begins_expression (a_postfix {o = o} {j = j} {b = b} d is) p f e =
        let first = begins_expression d p f e in
        let far = (operator_on g s _ o.symbol b j is).onward in
        let beyond = first.0 in
        (omega arith, λ from fits. first.1 from fits.2)
    begins_expression (an_infix {o = o} {j = j} {b = b} d is rest) p f e =
        let first = begins_expression d p f e in
        let far = (operator_on g s _ o.symbol b j is).onward in
        let beyond = first.0 in
        let after = expression_forward rest in
        (omega arith, λ from fits. first.1 from fits.2)

    pub begins_parts : {ps : List ℕ} {a b : Spot} {v : List Tree} {t : List TrailItem} → DerivesParts g s ps a b v t → BeginsList g sets s ps a b
    begins_parts no_part = still refl tt
    begins_parts (first_part {p = p} {parts = ps} d ds) = joined g sets s p ps (forward_parts ds) (begins d) (begins_parts ds)

    pub begins_rounds : {q n : ℕ} {a b : Spot} {v : List Tree} {t : List TrailItem} → DerivesRounds g s q n a b v t → (p : ℕ) → ManyIsPredictive sets p q → BeginsNode g sets s p a b
    begins_rounds no_round p f = still refl f.empty
    begins_rounds (first_round d ds) p f = a_round scalars f (rounds_onward ds) (begins d)

    pub begins_links : {q r n : ℕ} {a b : Spot} {links : List Link} {t : List TrailItem} → DerivesLinks g s q r n a b links t → (p : ℕ) → ChainIsPredictive sets p q r →
        (a ≡ b) ⊎ BeginsList g sets s (r ∷ q ∷ []) a b
    begins_links no_link p f = inl refl
    begins_links (first_link {p = q} {s = r} d e ds) p f =
        inr (longer g sets s (r ∷ q ∷ []) (links_onward ds) f.full (joined g sets s r (q ∷ []) (forward e) (begins d) (joined g sets s q [] (le_refl _) (begins e) (still refl tt))))
