-- Forms around a part pay, where the part does; and so does a `try` that goes back from a string.
use Rattle.std.proofs.Common.{◌≡◌, ◌≤◌, ◌+◌, ℕ, suc, List, [], ◌∷◌, Bool, true, false, refl, sym, subst, Some, slice_get, arith}
use Rattle.std.specs.List.{Contains}
use Rattle.pg_grammar_form.specs.Forms.{Node}
use Rattle.pg_grammar_form.specs.declared.class.ClassPart.{ClassPart}
use Rattle.pg_grammar_form.specs.declared.form.Form.TheVariants as form
use Rattle.pg_grammar_form.specs.declared.form.Leaf.{Leaf}
use Rattle.pg_grammar_form.specs.declared.form.Leaf.TheVariants as leaf
use Rattle.pg_grammar_form.specs.declared.form.Around.{Around}
use Rattle.pg_grammar_form.specs.declared.form.Around.TheVariants as kind
use Rattle.pg_language.specs.Answers as answers
use Rattle.pg_language.specs.Answers.{Given, Answers, entered, AnswersForm, seq, AnswersParts, part, AfterPart, part_last, part_failed, part_stuck, part_ok}
use Rattle.pg_language.specs.Derives.{Spot}
use Rattle.pg_language.specs.Errors.{Error}
use Rattle.pg_language.specs.Outcomes.{Outcome, ok, failed, empty_round}
use Rattle.pg_language.specs.Reactions.{counted_by, surrounded}
use Rattle.pg_derive.specs.ClosedSets.{NodeSets}
use Rattle.pg_derive.specs.Predictive.{PartIsPredictive, TryIsPredictive, of_part, of_string, of_key, AroundIsPredictive}
use Rattle.pg_derive.specs.PredictiveLaws.{Predicts}
use Rattle.pg_derive.proofs.Quiet.{not_counted}
use Rattle.pg_derive_bound.proofs.Charges.{Charges}
use Rattle.pg_derive_bound.proofs.Ended.{ended_tried, tried_cost, around_least}
use Rattle.pg_derive_bound.proofs.Paid as paid
use Rattle.pg_derive_bound.proofs.Paid.{End, end_of, Fare, Paid, raised}
use Rattle.pg_derive_bound.proofs.Nodes as nodes
use Rattle.pg_derive_bound.proofs.Nodes.{bare_of, by_few, IsSpot}

surround : {f : Fare} {E B : Type 0} {A : ℕ → Type 0} {cost toll i m : ℕ} (k : Around) (text : List ℕ) (a : Spot) (o : Outcome) → Paid f E B A cost toll i (end_of o) m →
    Paid f E B A cost toll i (end_of (surrounded k text a o)) m
surround k text a (ok d b v t e) x = x
surround {f} {E} {B} {A} {cost} {toll} {i} {m} k text a (failed d e) x = recounted d x
  where
    recounted : (d : Bool) → Paid f E B A cost toll i (paid.stops d) m → Paid f E B A cost toll i (paid.stops (counted_by k d)) m
    recounted false (paid.refuses l) = subst (λ d. Paid f E B A cost toll i (paid.stops d) m) (sym (not_counted k)) (paid.refuses l)
    recounted d (paid.breaks b l) = paid.breaks b l
surround k text a empty_round x = x

-- ---- nodes entered by a lexeme

one_leaf : {G : Given} {l : Leaf ℕ} {a : Spot} {o : Outcome} {m : ℕ} → AnswersForm G (form.Leaf l) a o m → m ≡ 0
one_leaf (answers.leaf e) = refl

form_there : {G : Given} {q : ℕ} {n : Node} {a : Spot} {o : Outcome} {m : ℕ} → Answers G q a o m → slice_get G.grammar.nodes q ≡ Some n → (k : ℕ) × AnswersForm G n a o k × (m ≡ suc k)
form_there {G} {n = n} {a = a} {o = o} (entered {m = k} {n = other} e d) h = let same : other ≡ n = cc in (k, subst (λ n. AnswersForm G n a o k) same d, refl)

pub leaf_enters : {G : Given} {q : ℕ} {l : Leaf ℕ} {a : Spot} {o : Outcome} {m : ℕ} → Answers G q a o m → slice_get G.grammar.nodes q ≡ Some (form.Leaf l) → m ≡ 1
leaf_enters d h = let form = form_there d h in let none = one_leaf form.1 in let counted = form.2 in omega arith

last_enters : {G : Given} {y : ℕ} {k : Leaf ℕ} {a : Spot} {o : Outcome} {m : ℕ} → AnswersParts G y [] a o m → slice_get G.grammar.nodes y ≡ Some (form.Leaf k) → m ≡ 1
last_enters (part d part_last) h = let one = leaf_enters d h in omega arith

two_enter : {G : Given} {x y : ℕ} {l k : Leaf ℕ} {a : Spot} {o : Outcome} {m : ℕ} → AnswersForm G (form.Seq (x ∷ y ∷ [])) a o m → slice_get G.grammar.nodes x ≡ Some (form.Leaf l) →
    slice_get G.grammar.nodes y ≡ Some (form.Leaf k) → m ≤ 2
two_enter {k = k} (seq (part d r)) h j = let one = leaf_enters d h in let rest = after r j in omega arith
  where
    after : {G : Given} {y : ℕ} {x o : Outcome} {n : ℕ} → AfterPart G (y ∷ []) x o n → slice_get G.grammar.nodes y ≡ Some (form.Leaf k) → n ≤ 1
    after part_failed j = omega arith
    after part_stuck j = omega arith
    after (part_ok rest) j = let one = last_enters rest j in omega arith

pub string_enters : {G : Given} {q x y : ℕ} {l k : Leaf ℕ} {a : Spot} {o : Outcome} {m : ℕ} → Answers G q a o m → slice_get G.grammar.nodes q ≡ Some (form.Seq (x ∷ y ∷ [])) →
    slice_get G.grammar.nodes x ≡ Some (form.Leaf l) → slice_get G.grammar.nodes y ≡ Some (form.Leaf k) → m ≤ 3
string_enters d e h j = let form = form_there d e in let two = two_enter form.1 h j in let counted = form.2 in omega arith

-- a `try` doesn't fail after consumed input
try_goes_back : (text : List ℕ) (a : Spot) (o : Outcome) (e : Error) → surrounded kind.Try text a o ≡ failed true e → ⊥
try_goes_back text a (ok d b v t x) e h = absurd cc
try_goes_back text a (failed d x) e h = absurd cc
try_goes_back text a empty_round e h = absurd cc

module _ (G : Given) (sets : NodeSets) (h : Predicts G sets) (c : Charges G.grammar sets) where
  abbrev PaidNode : ℕ → ℕ → End → ℕ → Type 0
  PaidNode p i z m = nodes.PaidNode G sets h c p i z m

  -- a form around a part
  pub paid_around : (p q : ℕ) (k : Around) (a : Spot) (o : Outcome) (m : ℕ) → slice_get G.grammar.nodes p ≡ Some (form.Around k q) → PartIsPredictive sets p q → PaidNode q a.place (end_of o) m →
      PaidNode p a.place (end_of (surrounded k G.text a o)) (suc m)
  paid_around p q k a o m e f x =
      let least = around_least G.grammar c.nullable c.cost c.size c.costs c.sizes p q k e in
      let size : c.size p ≡ 2 + (c.size q + 0) = c.sizes p _ e in
      let climb = c.falls p q _ e f.falls in
      surround k G.text a o
      (raised (nodes.fare G sets h c) 2 (omega arith) (omega arith) (omega arith) f.empty (bare_of G sets h (sets.first p) (Contains (sets.first q)) a.place f.first)
      (λ j. bare_of G sets h (sets.follow q) (Contains (sets.follow p)) j f.follow) x)

  -- a `try` of a string
  pub paid_string_try : (p q : ℕ) (s : List ℕ) (a : Spot) (o : Outcome) (m : ℕ) → slice_get G.grammar.nodes p ≡ Some (form.Around kind.Try q) → slice_get G.grammar.nodes q ≡ Some (form.Leaf (leaf.String s)) →
      IsSpot G sets h a → Answers G q a o m → PaidNode p a.place (end_of (surrounded kind.Try G.text a o)) (suc m)
  paid_string_try p q s a o m e string is d =
      let least = around_least G.grammar c.nullable c.cost c.size c.costs c.sizes p q kind.Try e in
      let cost : c.cost q ≡ 2 = c.costs q _ string in
      let one = leaf_enters d string in
      by_few G sets h c (entered e (answers.around d)) is (omega arith) (λ x same. absurd (try_goes_back G.text a o x same))

  -- and of one that a class doesn't follow
  pub paid_key_try : (p q x y : ℕ) (s : List ℕ) (class : List ClassPart) (a : Spot) (o : Outcome) (m : ℕ) → slice_get G.grammar.nodes p ≡ Some (form.Around kind.Try q) →
      slice_get G.grammar.nodes q ≡ Some (form.Seq (x ∷ y ∷ [])) → slice_get G.grammar.nodes x ≡ Some (form.Leaf (leaf.String s)) → slice_get G.grammar.nodes y ≡ Some (form.Leaf (leaf.NotFollowedBy class)) →
      IsSpot G sets h a → Answers G q a o m → PaidNode p a.place (end_of (surrounded kind.Try G.text a o)) (suc m)
  paid_key_try p q x y s class a o m e two first second is d =
      let cost = tried_cost G.grammar c.nullable c.cost c.size c.costs c.sizes p q e (ended_tried G.grammar.nodes x y q s class two first second) in
      let three = string_enters d two first second in
      by_few G sets h c (entered e (answers.around d)) is (omega arith) (λ x same. absurd (try_goes_back G.text a o x same))

  try_around : (p q : ℕ) (a : Spot) (o : Outcome) (m : ℕ) → slice_get G.grammar.nodes p ≡ Some (form.Around kind.Try q) → TryIsPredictive G.grammar sets p q → IsSpot G sets h a → Answers G q a o m →
      PaidNode q a.place (end_of o) m → PaidNode p a.place (end_of (surrounded kind.Try G.text a o)) (suc m)
  try_around p q a o m e (of_part f) is d x = paid_around p q kind.Try a o m e f x
  try_around p q a o m e (of_string {s = s} string spelled falls f) is d x = paid_string_try p q s a o m e string is d
  try_around p q a o m e (of_key {x = x} {y = y} {s = s} {class = class} two first second spelled falls f) is d z = paid_key_try p q x y s class a o m e two first second is d

  -- whatever stands around the part
  pub any_around : (p q : ℕ) (k : Around) (a : Spot) (o : Outcome) (m : ℕ) → slice_get G.grammar.nodes p ≡ Some (form.Around k q) → AroundIsPredictive G.grammar sets p k q → IsSpot G sets h a →
      Answers G q a o m → PaidNode q a.place (end_of o) m → PaidNode p a.place (end_of (surrounded k G.text a o)) (suc m)
  any_around p q kind.Try a o m e f is d x = try_around p q a o m e f is d x
  any_around p q k a o m e f is d x = paid_around p q k a o m e f x
