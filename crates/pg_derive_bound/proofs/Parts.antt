-- Sequences and choices pay, where their parts do.
use Rattle.std.proofs.Common.{◌≡◌, ◌<◌, ◌≤◌, ◌+◌, ◌-◌, inl, inr, ℕ, zero, List, [], ◌∷◌, Bool, true, false, refl, ◌∙◌, arith}
use Rattle.std.specs.Prelude.{if◌then◌else◌}
use Rattle.std.specs.List.{Contains, AllByRecursion}
use Rattle.pg_tree.specs.Trees.{Tree}
use Rattle.pg_grammar_value.specs.declared.trail.TrailItem.{TrailItem}
use Rattle.pg_sets_nullable.specs.Parts.{up_to_unmarked}
use Rattle.pg_graph.specs.Marks.{is_marked}
use Rattle.pg_start.specs.declared.kind.StartKind.{StartKind}
use Rattle.pg_start.proofs.Meeting.{never_meet}
use Rattle.pg_predict_costs.specs.Steps.{steps_of_all}
use Rattle.pg_language.specs.Answers.{Given}
use Rattle.pg_language.specs.Errors.{Error}
use Rattle.pg_language.specs.Outcomes.{Outcome, ok, failed, empty_round}
use Rattle.pg_language.specs.Reactions.{then_rest, after_failure}
use Rattle.pg_derive.specs.ClosedSets.{NodeSets, AllApart, AllNullable, BeginsParts, PartsFollowed, PartsFall}
use Rattle.pg_derive.specs.Predictive.{PartIsPredictive, ComesBefore}
use Rattle.pg_derive.specs.PredictiveLaws.{Predicts}
use Rattle.pg_derive.proofs.Quiet.{NoStart}
use Rattle.pg_derive.proofs.StartLists.{contains_first, contains_after}
use Rattle.pg_derive_bound.proofs.Charges.{Charges}
use Rattle.pg_derive_bound.proofs.Paid as paid
use Rattle.pg_derive_bound.proofs.Paid.{End, end_of, joined, Paid, raised, and_rest, or_else}
use Rattle.pg_derive_bound.proofs.Nodes as nodes
use Rattle.pg_derive_bound.proofs.Nodes.{bare_of}

-- ---- how reactions end

pub rest_ends : (c : Bool) (v : List Tree) (t : List TrailItem) (e : Error) (o : Outcome) → joined c (end_of o) ≡ end_of (then_rest c v t e o)
rest_ends c v t e (ok d b w u f) = refl
rest_ends c v t e (failed d f) = refl
rest_ends c v t e empty_round = refl

pub failure_ends : (e : Error) (o : Outcome) → end_of o ≡ end_of (after_failure e o)
failure_ends e (ok d b w u f) = refl
failure_ends e (failed d f) = refl
failure_ends e empty_round = refl

-- ---- sums over parts

module _ (marks : List Bool) (cost : ℕ → ℕ) where
  -- what these parts cost, up to the first that can't be empty
  abbrev pub reached_cost : List ℕ → ℕ
  reached_cost qs = steps_of_all cost (up_to_unmarked marks qs)

  pub over_nullable : (q : ℕ) (qs : List ℕ) → is_marked marks q ≡ true → cost q + reached_cost qs ≤ reached_cost (q ∷ qs)
  over_nullable q qs e = go (is_marked marks q) e
    where
      go : (b : Bool) → b ≡ true → cost q + reached_cost qs ≤ cost q + steps_of_all cost (if b then up_to_unmarked marks qs else [])
      go true e = omega arith
      go false e = absurd cc

  pub first_reached : (q : ℕ) (qs : List ℕ) → cost q ≤ reached_cost (q ∷ qs)
  first_reached q qs = omega arith

  pub reached_low : (size : ℕ → ℕ) (qs : List ℕ) → AllByRecursion (λ q. cost q ≤ size q) qs → reached_cost qs ≤ steps_of_all size qs
  reached_low size [] low = omega arith
  reached_low size (q ∷ qs) low = go (is_marked marks q) (reached_low size qs low.1)
    where
      go : (b : Bool) → reached_cost qs ≤ steps_of_all size qs → cost q + steps_of_all cost (if b then up_to_unmarked marks qs else []) ≤ size q + steps_of_all size qs
      go true l = let first = low.0 in omega arith
      go false l = let first = low.0 in omega arith

pub all_low : (cost size : ℕ → ℕ) (qs : List ℕ) → AllByRecursion (λ q. cost q ≤ size q) qs → steps_of_all cost qs ≤ steps_of_all size qs
all_low cost size [] low = omega arith
all_low cost size (q ∷ qs) low = let first = low.0 in let rest = all_low cost size qs low.1 in omega arith

-- the parts that are reached have no more than this climb
abbrev pub Climbs : NodeSets → (ℕ → ℕ) → ℕ → List ℕ → Type 0
Climbs sets climb w [] = Unit {0}
Climbs sets climb w (q ∷ qs) = (climb q ≤ w) × ((sets.nullable q ≡ true) → Climbs sets climb w qs)

pub climbs_anywhere : (sets : NodeSets) (climb : ℕ → ℕ) (w : ℕ) (qs : List ℕ) → ((q : ℕ) → climb q ≤ w) → Climbs sets climb w qs
climbs_anywhere sets climb w [] f = tt
climbs_anywhere sets climb w (q ∷ qs) f = (f q, λ e. climbs_anywhere sets climb w qs f)

pub climbs_fall : (sets : NodeSets) (climb : ℕ → ℕ) (n w : ℕ) (qs : List ℕ) → ((q : ℕ) → sets.level q < n → climb q ≤ w) → PartsFall sets n qs → Climbs sets climb w qs
climbs_fall sets climb n w [] f falls = tt
climbs_fall sets climb n w (q ∷ qs) f falls = (f q falls.0, λ e. climbs_fall sets climb n w qs f (falls.1 e))

module _ (G : Given) (sets : NodeSets) (h : Predicts G sets) (c : Charges G.grammar sets) where
  abbrev PaidNode : ℕ → ℕ → End → ℕ → Type 0
  PaidNode p i z m = nodes.PaidNode G sets h c p i z m

  abbrev Bare : ℕ → ℕ → Type 0
  Bare p i = nodes.Bare G sets h p i

  abbrev Beyond : ℕ → ℕ → Type 0
  Beyond p i = nodes.Beyond G sets h p i

  abbrev pub AreLow : List ℕ → Type 0
  AreLow qs = AllByRecursion (λ q. c.cost q ≤ c.size q) qs

  -- how far any node climbs at most
  abbrev pub spare : ℕ
  spare = c.rate - c.share

  pub spare_most : (p : ℕ) → c.climb p ≤ spare
  spare_most p = let room = c.room p in omega arith

  pub spare_room : (p : ℕ) → spare + c.share ≤ c.rate
  spare_room p = let room = c.room p in omega arith

  -- ---- sequences

  -- the last parts of the sequence at p, where those that are reached climb no further than w
  abbrev pub PaidParts : ℕ → ℕ → List ℕ → ℕ → End → ℕ → Type 0
  PaidParts p w qs i z m =
      Paid (nodes.fare G sets h c) (AllNullable sets qs) (NoStart G.text (BeginsParts sets qs) i) (Beyond p) (reached_cost c.nullable c.cost qs) (steps_of_all c.size qs + w) i z m

  pub paid_last : (p w q i : ℕ) (z : End) (m : ℕ) → Climbs sets c.climb w (q ∷ []) → PartsFollowed sets (sets.follow p) (q ∷ []) → PaidNode q i z m → PaidParts p w (q ∷ []) i z (m + zero)
  paid_last p w q i z m climbs followed x =
      let first = first_reached c.nullable c.cost q [] in
      let up = climbs.0 in
      raised (nodes.fare G sets h c) 0 (omega arith) (omega arith) (omega arith) (λ n. (n, tt)) (λ none s b. none s (inl b))
      (λ j. bare_of G sets h (sets.follow q) (Contains (sets.follow p)) j (followed.1 tt)) x

  pub paid_failed : (p w q : ℕ) (qs : List ℕ) (i : ℕ) (d : Bool) (m : ℕ) → Climbs sets c.climb w (q ∷ qs) → PaidNode q i (paid.stops d) m → PaidParts p w (q ∷ qs) i (paid.stops d) (m + zero)
  paid_failed p w q qs i d m climbs (paid.refuses l) = let first = first_reached c.nullable c.cost q qs in paid.refuses (omega arith)
  paid_failed p w q qs i d m climbs (paid.breaks b l) = let up = climbs.0 in paid.breaks (λ none. b (λ s x. none s (inl x))) (omega arith)

  pub paid_rest : (p w q r : ℕ) (rs : List ℕ) (i k m : ℕ) (d : Bool) (z : End) (n : ℕ) → Climbs sets c.climb w (q ∷ r ∷ rs) → PartsFollowed sets (sets.follow p) (q ∷ r ∷ rs) → AreLow (q ∷ r ∷ rs) →
      steps_of_all c.size (q ∷ r ∷ rs) ≤ c.share → PaidNode q i (paid.ends d k) m → (sets.nullable q ≡ true → PaidParts p w (r ∷ rs) k z n) → PaidParts p spare (r ∷ rs) k z n →
      PaidParts p w (q ∷ r ∷ rs) i (joined d z) (m + n)
  paid_rest p w q r rs i k m d z n climbs followed low small x near far =
      let up = climbs.0 in
      let first = low.0 in
      let rest = reached_low c.nullable c.cost c.size (r ∷ rs) low.1 in
      let room = spare_room p in
      and_rest (nodes.fare G sets h c) (sets.nullable q ≡ true) (AllNullable sets (r ∷ rs)) (AllNullable sets (q ∷ r ∷ rs)) (Bare q i) (NoStart G.text (BeginsParts sets (q ∷ r ∷ rs)) i)
      (λ k. NoStart G.text (BeginsParts sets (r ∷ rs)) k) (Beyond q) (Beyond p) (c.cost q) (c.size q + c.climb q) (reached_cost c.nullable c.cost (r ∷ rs)) (steps_of_all c.size (r ∷ rs) + w)
      (steps_of_all c.size (r ∷ rs) + spare) (reached_cost c.nullable c.cost (q ∷ r ∷ rs)) (steps_of_all c.size (q ∷ r ∷ rs) + w) i
      (λ none s b. none s (inl b)) (λ e none s b. none s (inr (e, b))) (λ k. bare_of G sets h (sets.follow q) (BeginsParts sets (r ∷ rs)) k followed.0)
      (λ k none all. bare_of G sets h (sets.follow q) (Contains (sets.follow p)) k (followed.1 all) none) (λ e all. (e, all))
      (λ e. over_nullable c.nullable c.cost q (r ∷ rs) (c.marks q ∙ e)) (λ e. omega arith) (omega arith) (omega arith) x (λ e same. near e) far

  -- ---- choices

  abbrev pub AllBare : List ℕ → ℕ → Type 0
  AllBare qs i = AllByRecursion (λ q. Bare q i) qs

  abbrev pub SomeNullable : List ℕ → Type 0
  SomeNullable qs = (q : ℕ) × Contains qs q × (sets.nullable q ≡ true)

  -- these alternatives of the choice at p
  abbrev pub PaidAlternatives : ℕ → List ℕ → ℕ → End → ℕ → Type 0
  PaidAlternatives p qs i z m = Paid (nodes.fare G sets h c) (SomeNullable qs) (AllBare qs i) (Beyond p) (steps_of_all c.cost qs) (steps_of_all c.size qs + c.climb p) i z m

  pub apart : (xs ys : List StartKind) (i : ℕ) → AllApart xs ys → (NoStart G.text (Contains xs) i → ⊥) → NoStart G.text (Contains ys) i
  apart xs ys i all some t among there = some (λ s is match. never_meet s t (all s t is among) G.text h.text i match there)

  all_contained : (P : ℕ → Type 0) (qs : List ℕ) → ((q : ℕ) → Contains qs q → P q) → AllByRecursion P qs
  all_contained P [] f = tt
  all_contained P (q ∷ qs) f = (f q (contains_first q qs), all_contained P qs (λ r is. f r (contains_after q r qs is)))

  pub paid_alternative : (p q : ℕ) (qs : List ℕ) (i : ℕ) (z : End) (m : ℕ) → PartIsPredictive sets p q → c.climb q ≤ c.climb p → PaidNode q i z m → PaidAlternatives p (q ∷ qs) i z (m + zero)
  paid_alternative p q qs i z m f up x =
      raised (nodes.fare G sets h c) 0 (omega arith) (omega arith) (omega arith) (λ n. (q, contains_first q qs, n)) (λ none. none.0)
      (λ j. bare_of G sets h (sets.follow q) (Contains (sets.follow p)) j f.follow) x

  pub paid_others : (p q : ℕ) (qs : List ℕ) (i : ℕ) (z : End) (m n : ℕ) → ((other : ℕ) → Contains qs other → ComesBefore sets p q other) → c.climb q ≤ c.climb p → AreLow (q ∷ qs) →
      PaidNode q i (paid.stops false) m → PaidAlternatives p qs i z n → PaidAlternatives p (q ∷ qs) i z (m + n)
  paid_others p q qs i z m n before up low x y =
      let first = low.0 in
      let rest = all_low c.cost c.size qs low.1 in
      or_else (nodes.fare G sets h c) (sets.nullable q ≡ true) (SomeNullable qs) (SomeNullable (q ∷ qs)) (Bare q i) (AllBare qs i) (AllBare (q ∷ qs) i) (Beyond q) (Beyond p)
      (c.cost q) (c.size q + c.climb q) (steps_of_all c.cost qs) (steps_of_all c.size qs + c.climb p) (steps_of_all c.cost (q ∷ qs)) (steps_of_all c.size (q ∷ qs) + c.climb p) i
      (λ none. none.0) (λ none. none.1) (λ some. all_contained (λ r. Bare r i) qs (λ r is. apart (sets.first q) (sets.first r) i (before r is).first some))
      (λ some empty. apart (sets.first q) (sets.follow p) i ((before empty.0 empty.1).follow empty.2) some) (λ empty. (empty.0, contains_after q empty.0 qs empty.1, empty.2))
      (omega arith) (omega arith) (omega arith) x y
