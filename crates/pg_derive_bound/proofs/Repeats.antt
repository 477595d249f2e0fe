-- Repetitions and chains pay, where their parts do: a share for the last round, which fails.
use Rattle.std.proofs.Common.{◌≡◌, ◌≤◌, ◌+◌, inl, inr, ℕ, zero, List, [], ◌∷◌, Bool, true, false, ◌||◌, refl, ap, ◌∙◌, arith}
use Rattle.std.specs.List.{Contains}
use Rattle.pg_tree.specs.Trees.{Tree}
use Rattle.pg_tree.specs.declared.shape.Shape.{Shape}
use Rattle.pg_grammar_form.specs.declared.side.Side.{Side}
use Rattle.pg_grammar_value.specs.declared.trail.TrailItem.{TrailItem}
use Rattle.pg_start.specs.Apart.{Apart}
use Rattle.pg_start.specs.declared.kind.StartKind.{StartKind}
use Rattle.pg_start.proofs.Meeting.{never_meet}
use Rattle.pg_predict_costs.specs.Steps.{steps_of_all}
use Rattle.pg_language.specs.Answers.{Given}
use Rattle.pg_language.specs.Derives.{Spot}
use Rattle.pg_language.specs.Errors.{Error}
use Rattle.pg_language.specs.Outcomes.{Outcome, ok, failed, empty_round}
use Rattle.pg_language.specs.Reactions.{then_rest, then_round, noted, as_finished, unless_begun}
use Rattle.pg_derive.specs.ClosedSets.{NodeSets, AllNullable, BeginsParts}
use Rattle.pg_derive.specs.Predictive.{ManyIsPredictive, ChainIsPredictive}
use Rattle.pg_derive.specs.PredictiveLaws.{Predicts}
use Rattle.pg_derive.proofs.Quiet.{NoStart}
use Rattle.pg_derive_bound.proofs.Charges.{Charges}
use Rattle.pg_derive_bound.proofs.Paid as paid
use Rattle.pg_derive_bound.proofs.Paid.{End, end_of, joined, returned, Paid, raised, and_rest, or_return}
use Rattle.pg_derive_bound.proofs.Nodes as nodes
use Rattle.pg_derive_bound.proofs.Nodes.{bare_of}
use Rattle.pg_derive_bound.proofs.Parts.{reached_cost, over_nullable, first_reached, reached_low, Climbs, spare, spare_room, apart, rest_ends}

-- ---- how reactions end

pub round_ends : (v : List Tree) (t : List TrailItem) (o : Outcome) → joined true (end_of o) ≡ end_of (then_round v t o)
round_ends v t (ok d b w u f) = refl
round_ends v t (failed d f) = refl
round_ends v t empty_round = refl

pub noted_ends : (x : TrailItem) (o : Outcome) → end_of o ≡ end_of (noted x o)
noted_ends x (ok c b v t e) = refl
noted_ends x (failed c e) = refl
noted_ends x empty_round = refl

pub begun_ends : (c : Bool) (a : Spot) (v : List Tree) (e : Error) → returned a.place (paid.stops c) ≡ end_of (unless_begun c a v e)
begun_ends true a v e = refl
begun_ends false a v e = refl

finished_ends : (side : Side) (shape : Shape) (x s : List Tree) (o : Outcome) → end_of o ≡ end_of (as_finished side shape x s o)
finished_ends side shape x s (ok c b v t e) = refl
finished_ends side shape x s (failed c e) = refl
finished_ends side shape x s empty_round = refl

pub both_joined : (c d : Bool) (z : End) → joined (c || d) z ≡ joined c (joined d z)
both_joined true d (paid.ends x j) = refl
both_joined false d (paid.ends x j) = refl
both_joined true d (paid.stops x) = refl
both_joined false d (paid.stops x) = refl
both_joined true d paid.never = refl
both_joined false d paid.never = refl

pub linked_ends : (side : Side) (shape : Shape) (left v w : List Tree) (c d : Bool) (t u : List TrailItem) (e f : Error) (o : Outcome) →
    joined (c || d) (end_of o) ≡ end_of (then_rest c w t e (then_rest d w u f (as_finished side shape left v o)))
linked_ends side shape left v w c d t u e f o =
    both_joined c d (end_of o) ∙ ap (λ z. joined c (joined d z)) (finished_ends side shape left v o) ∙ ap (joined c) (rest_ends d w u f (as_finished side shape left v o))
    ∙ rest_ends c w t e (then_rest d w u f (as_finished side shape left v o))

pub not_both : {b : Bool} {X : Type 0} → b ≡ true → b ≡ false → X
not_both e f = absurd cc

module _ (G : Given) (sets : NodeSets) (h : Predicts G sets) (c : Charges G.grammar sets) where
  abbrev PaidNode : ℕ → ℕ → End → ℕ → Type 0
  PaidNode p i z m = nodes.PaidNode G sets h c p i z m

  abbrev Bare : ℕ → ℕ → Type 0
  Bare p i = nodes.Bare G sets h p i

  abbrev Beyond : ℕ → ℕ → Type 0
  Beyond p i = nodes.Beyond G sets h p i

  -- ---- repetitions

  -- rounds of q in the repetition at p
  abbrev pub PaidRounds : ℕ → ℕ → ℕ → End → ℕ → Type 0
  PaidRounds p q i z m = Paid (nodes.fare G sets h c) (Unit {0}) (Bare q i) (Beyond p) (c.cost q) (c.size q + c.climb q + c.share) i z m

  pub paid_round_failed : (p q i : ℕ) (d : Bool) (m : ℕ) → ManyIsPredictive sets p q → PaidNode q i (paid.stops d) m → PaidRounds p q i (returned i (paid.stops d)) (m + zero)
  paid_round_failed p q i d m f x =
      raised (nodes.fare G sets h c) 0 (omega arith) (omega arith) (omega arith) (λ u. u) (λ none. none) (λ j none. none)
      (or_return (nodes.fare G sets h c) {E = Unit {0}} {B = Bare q i} {A = Beyond p} {cost = c.cost q} {toll = c.size q + c.climb q} tt (λ none. none) (apart G sets h c (sets.first q) (sets.follow p) i f.apart) (omega arith) (omega arith) x)

  pub paid_rounds : (p q i k : ℕ) (d : Bool) (m : ℕ) (z : End) (n : ℕ) → ManyIsPredictive sets p q → c.cost q ≤ c.share → c.size q ≤ c.share → PaidNode q i (paid.ends d k) m → PaidRounds p q k z n →
      PaidRounds p q i (joined d z) (m + n)
  paid_rounds p q i k d m z n f few small x y =
      let room = c.room q in
      and_rest (nodes.fare G sets h c) (sets.nullable q ≡ true) (Unit {0}) (Unit {0}) (Bare q i) (Bare q i) (λ k. Bare q k) (Beyond q) (Beyond p) (c.cost q) (c.size q + c.climb q) (c.cost q)
      (c.size q + c.climb q + c.share) (c.size q + c.climb q + c.share) (c.cost q) (c.size q + c.climb q + c.share) i
      (λ none. none) (λ e none. not_both e f.full) (λ k. bare_of G sets h (sets.follow q) (Contains (sets.first q)) k f.again)
      (λ k none u. bare_of G sets h (sets.follow q) (Contains (sets.follow p)) k f.follow none) (λ e u. u) (λ e. not_both e f.full) (λ e. not_both e f.full) (omega arith) (omega arith)
      x (λ e same. not_both e f.full) y

  -- ---- chains of q with separators r

  abbrev Link : ℕ → ℕ → List ℕ
  Link q r = r ∷ q ∷ []

  -- neither a link nor what follows the chain begins there
  abbrev Done : ℕ → ℕ → ℕ → ℕ → Type 0
  Done p q r i = NoStart G.text (BeginsParts sets (Link q r)) i × Beyond p i

  abbrev link_cost : ℕ → ℕ → ℕ
  link_cost q r = reached_cost c.nullable c.cost (Link q r)

  abbrev link_size : ℕ → ℕ → ℕ
  link_size q r = steps_of_all c.size (Link q r)

  -- one link, whose parts that are reached climb no further than w
  abbrev pub PaidLink : ℕ → ℕ → ℕ → ℕ → ℕ → End → ℕ → Type 0
  PaidLink p q r w i z m = Paid (nodes.fare G sets h c) (AllNullable sets (Link q r)) (NoStart G.text (BeginsParts sets (Link q r)) i) (Done p q r) (link_cost q r) (link_size q r + w) i z m

  pub paid_no_separator : (p q r w i : ℕ) (d : Bool) (m : ℕ) → Climbs sets c.climb w (Link q r) → PaidNode r i (paid.stops d) m → PaidLink p q r w i (paid.stops d) (m + zero)
  paid_no_separator p q r w i d m climbs (paid.refuses l) = let first = first_reached c.nullable c.cost r (q ∷ []) in paid.refuses (omega arith)
  paid_no_separator p q r w i d m climbs (paid.breaks b l) = let up = climbs.0 in paid.breaks (λ none. b (λ s x. none s (inl x))) (omega arith)

  pub paid_link : (p q r w i k : ℕ) (d : Bool) (m : ℕ) (z : End) (n : ℕ) → ChainIsPredictive sets p q r → Climbs sets c.climb w (Link q r) → c.cost q ≤ c.size q → c.cost r ≤ c.size r →
      PaidNode r i (paid.ends d k) m → PaidNode q k z n → PaidLink p q r w i (joined d z) (m + n)
  paid_link p q r w i k d m z n f climbs low_q low_r x y =
      let up = climbs.0 in
      let room = c.room q in
      let alone = first_reached c.nullable c.cost q [] in
      let low = reached_low c.nullable c.cost c.size (q ∷ []) (low_q, tt) in
      let operand : Paid (nodes.fare G sets h c) (sets.nullable q ≡ true) (Bare q k) (Done p q r) (reached_cost c.nullable c.cost (q ∷ [])) (c.size q + c.climb q) k z n =
      raised (nodes.fare G sets h c) 0 (omega arith) (omega arith) (omega arith) (λ e. e) (λ none. none)
      (λ j none. (bare_of G sets h (sets.follow q) (BeginsParts sets (Link q r)) j f.again none, bare_of G sets h (sets.follow q) (Contains (sets.follow p)) j f.follow none)) y in
      and_rest (nodes.fare G sets h c) (sets.nullable r ≡ true) (sets.nullable q ≡ true) (AllNullable sets (Link q r)) (Bare r i) (NoStart G.text (BeginsParts sets (Link q r)) i) (λ k. Bare q k) (Beyond r) (Done p q r)
      (c.cost r) (c.size r + c.climb r) (reached_cost c.nullable c.cost (q ∷ [])) (c.size q + c.climb q) (c.size q + c.climb q) (link_cost q r) (link_size q r + w) i
      (λ none s b. none s (inl b)) (λ e none s b. none s (inr (e, inl b))) (λ k. bare_of G sets h (sets.follow r) (Contains (sets.first q)) k f.between)
      (λ k none e. (bare_of G sets h (sets.follow r) (BeginsParts sets (Link q r)) k (f.over_next e) none, bare_of G sets h (sets.follow r) (Contains (sets.follow p)) k (f.over_last e) none))
      (λ e n. (e, (n, tt))) (λ e. over_nullable c.nullable c.cost r (q ∷ []) (c.marks r ∙ e)) (λ e. let further = (climbs.1 e).0 in omega arith) (omega arith) (omega arith) x (λ e same. operand) operand

  -- links of the chain at p
  abbrev pub PaidLinks : ℕ → ℕ → ℕ → ℕ → ℕ → End → ℕ → Type 0
  PaidLinks p q r w i z m = Paid (nodes.fare G sets h c) (Unit {0}) (NoStart G.text (BeginsParts sets (Link q r)) i) (Beyond p) (link_cost q r) (link_size q r + w + c.share) i z m

  apart_link : (p q r i : ℕ) → ((s t : StartKind) → BeginsParts sets (r ∷ q ∷ []) s → Contains (sets.follow p) t → Apart s t) → (NoStart G.text (BeginsParts sets (Link q r)) i → ⊥) → Beyond p i
  apart_link p q r i all some t among there = some (λ s is match. never_meet s t (all s t is among) G.text h.text i match there)

  pub paid_link_failed : (p q r w i : ℕ) (d : Bool) (m : ℕ) → ChainIsPredictive sets p q r → PaidLink p q r w i (paid.stops d) m → PaidLinks p q r w i (returned i (paid.stops d)) m
  paid_link_failed p q r w i d m f x = or_return (nodes.fare G sets h c) tt (λ none. none) (apart_link p q r i f.apart) (omega arith) (omega arith) x

  pub paid_links : (p q r w i k : ℕ) (d : Bool) (m : ℕ) (z : End) (n : ℕ) → ChainIsPredictive sets p q r → c.cost q ≤ c.size q → c.cost r ≤ c.size r → link_size q r ≤ c.share → w + c.share ≤ c.rate →
      PaidLink p q r w i (paid.ends d k) m → PaidLinks p q r w k z n → PaidLinks p q r w i (joined d z) (m + n)
  paid_links p q r w i k d m z n f low_q low_r small room x y =
      let low = reached_low c.nullable c.cost c.size (Link q r) (low_r, (low_q, tt)) in
      and_rest (nodes.fare G sets h c) (AllNullable sets (Link q r)) (Unit {0}) (Unit {0}) (NoStart G.text (BeginsParts sets (Link q r)) i) (NoStart G.text (BeginsParts sets (Link q r)) i)
      (λ k. NoStart G.text (BeginsParts sets (Link q r)) k) (Done p q r) (Beyond p) (link_cost q r) (link_size q r + w) (link_cost q r) (link_size q r + w + c.share) (link_size q r + w + c.share)
      (link_cost q r) (link_size q r + w + c.share) i
      (λ none. none) (λ e none. absurd (f.full e)) (λ k done. done.0) (λ k done u. done.1) (λ e u. u) (λ e. absurd (f.full e)) (λ e. absurd (f.full e)) (omega arith) (omega arith)
      x (λ e same. absurd (f.full e)) y

  -- a chain at p
  abbrev pub PaidChain : ℕ → ℕ → ℕ → ℕ → End → ℕ → Type 0
  PaidChain p q r i z m = Paid (nodes.fare G sets h c) (sets.nullable p ≡ true) (Bare p i) (Beyond p) (reached_cost c.nullable c.cost (q ∷ r ∷ q ∷ [])) (steps_of_all c.size (q ∷ r ∷ []) + c.climb p) i z m

  pub paid_no_operand : (p q r i : ℕ) (d : Bool) (m : ℕ) → ChainIsPredictive sets p q r → c.climb q ≤ c.climb p → PaidNode q i (paid.stops d) m → PaidChain p q r i (paid.stops d) (m + zero)
  paid_no_operand p q r i d m f up (paid.refuses l) = let first = first_reached c.nullable c.cost q (r ∷ q ∷ []) in paid.refuses (omega arith)
  paid_no_operand p q r i d m f up (paid.breaks b l) = paid.breaks (λ none. b (bare_of G sets h (sets.first p) (Contains (sets.first q)) i f.first none)) (omega arith)

  pub paid_chain : (p q r w i k : ℕ) (d : Bool) (m : ℕ) (z : End) (n : ℕ) → ChainIsPredictive sets p q r → c.cost q ≤ c.size q → c.cost r ≤ c.size r → link_size q r ≤ c.share →
      c.climb q + c.share ≤ c.climb p → w + c.share + c.share ≤ c.climb p → PaidNode q i (paid.ends d k) m → (sets.nullable q ≡ true → PaidLinks p q r w k z n) → PaidLinks p q r (spare G sets h c) k z n →
      PaidChain p q r i (joined d z) (m + n)
  paid_chain p q r w i k d m z n f low_q low_r small up over x near far =
      let low = reached_low c.nullable c.cost c.size (Link q r) (low_r, (low_q, tt)) in
      let room = spare_room G sets h c p in
      and_rest (nodes.fare G sets h c) (sets.nullable q ≡ true) (Unit {0}) (sets.nullable p ≡ true) (Bare q i) (Bare p i) (λ k. NoStart G.text (BeginsParts sets (Link q r)) k) (Beyond q) (Beyond p)
      (c.cost q) (c.size q + c.climb q) (link_cost q r) (link_size q r + w + c.share) (link_size q r + spare G sets h c + c.share) (reached_cost c.nullable c.cost (q ∷ r ∷ q ∷ []))
      (steps_of_all c.size (q ∷ r ∷ []) + c.climb p) i
      (λ none. bare_of G sets h (sets.first p) (Contains (sets.first q)) i f.first none) (λ e none. bare_of G sets h (sets.first p) (BeginsParts sets (Link q r)) i (f.next e) none)
      (λ k. bare_of G sets h (sets.follow q) (BeginsParts sets (Link q r)) k f.again) (λ k none u. bare_of G sets h (sets.follow q) (Contains (sets.follow p)) k f.follow none) (λ e u. f.empty e)
      (λ e. over_nullable c.nullable c.cost q (Link q r) (c.marks q ∙ e)) (λ e. omega arith) (omega arith) (omega arith) x (λ e same. near e) far
