-- What repetitions and chains note, by what their parts do.
use Rattle.std.proofs.Common.{◌≡◌, inl, inr, ℕ, List, [], ◌∷◌, ◌++◌, Bool, true}
use Rattle.std.specs.List.{Contains}
use Rattle.pg_start.specs.Apart.{Apart}
use Rattle.pg_start.specs.declared.kind.StartKind.{StartKind}
use Rattle.pg_start.proofs.Meeting.{never_meet}
use Rattle.pg_language.specs.Answers.{Given}
use Rattle.pg_derive.specs.ClosedSets.{NodeSets, AllNullable, BeginsParts}
use Rattle.pg_derive.specs.Predictive.{ManyIsPredictive, ChainIsPredictive}
use Rattle.pg_derive.specs.PredictiveLaws.{Predicts}
use Rattle.pg_derive.proofs.Quiet.{NoStart}
use Rattle.pg_derive_bound.proofs.Nodes as nodes
use Rattle.pg_derive_bound.proofs.Nodes.{bare_of}
use Rattle.pg_derive_bound.proofs.Paid as paid
use Rattle.pg_derive_bound.proofs.Paid.{End, joined, returned}
use Rattle.pg_derive_bound.proofs.Repeats.{not_both}
use Rattle.pg_derive_backtracking.specs.Events.{Event}
use Rattle.pg_derive_backtracking.proofs.Calm.{Notes, refuses, breaks, around, and_rest, or_return}
use Rattle.pg_derive_backtracking.proofs.Nodes.{NotesNode}
use Rattle.pg_derive_backtracking.proofs.Parts.{apart}

module _ (G : Given) (sets : NodeSets) (h : Predicts G sets) where
  abbrev Bare : ℕ → ℕ → Type 0
  Bare p i = nodes.Bare G sets h p i

  abbrev Beyond : ℕ → ℕ → Type 0
  Beyond p i = nodes.Beyond G sets h p i

  -- ---- repetitions

  -- rounds of q in the repetition at p
  abbrev pub NotesRounds : ℕ → ℕ → ℕ → End → List Event → Type 0
  NotesRounds p q i z l = Notes (Unit {0}) (Bare q i) (Beyond p) i z l

  pub failed_round : (p q i : ℕ) (d : Bool) (l : List Event) → ManyIsPredictive sets p q → NotesNode G sets h q i (paid.stops d) l → NotesRounds p q i (returned i (paid.stops d)) l
  failed_round p q i d l f x = or_return tt (λ none. none) (apart G sets h (sets.first q) (sets.follow p) i f.apart) x

  pub more_rounds : (p q i k : ℕ) (d : Bool) (z : End) (l n : List Event) → ManyIsPredictive sets p q → NotesNode G sets h q i (paid.ends d k) l → NotesRounds p q k z n → NotesRounds p q i (joined d z) (l ++ n)
  more_rounds p q i k d z l n f x y =
      and_rest (sets.nullable q ≡ true) (Unit {0}) (Unit {0}) (Bare q i) (Bare q i) (λ k. Bare q k) (Beyond q) (Beyond p) i
      (λ none. none) (λ e none. not_both e f.full) (λ k. bare_of G sets h (sets.follow q) (Contains (sets.first q)) k f.again)
      (λ k none u. bare_of G sets h (sets.follow q) (Contains (sets.follow p)) k f.follow none) (λ e u. u) x y

  pub whole_many : (p q i : ℕ) (z : End) (l : List Event) → ManyIsPredictive sets p q → NotesRounds p q i z l → NotesNode G sets h p i z l
  whole_many p q i z l f x = around (λ u. f.empty) (bare_of G sets h (sets.first p) (Contains (sets.first q)) i f.first) (λ j none. none) x

  -- ---- chains of q with separators r

  abbrev Link : ℕ → ℕ → List ℕ
  Link q r = r ∷ q ∷ []

  -- neither a link nor what follows the chain begins there
  abbrev Done : ℕ → ℕ → ℕ → ℕ → Type 0
  Done p q r i = NoStart G.text (BeginsParts sets (Link q r)) i × Beyond p i

  -- one link
  abbrev pub NotesLink : ℕ → ℕ → ℕ → ℕ → End → List Event → Type 0
  NotesLink p q r i z l = Notes (AllNullable sets (Link q r)) (NoStart G.text (BeginsParts sets (Link q r)) i) (Done p q r) i z l

  pub no_separator : (p q r i : ℕ) (d : Bool) (l : List Event) → NotesNode G sets h r i (paid.stops d) l → NotesLink p q r i (paid.stops d) l
  no_separator p q r i d l refuses = refuses
  no_separator p q r i d l (breaks b n) = breaks (λ none. b (λ s x. none s (inl x))) n

  pub one_link : (p q r i k : ℕ) (d : Bool) (z : End) (l n : List Event) → ChainIsPredictive sets p q r → NotesNode G sets h r i (paid.ends d k) l → NotesNode G sets h q k z n → NotesLink p q r i (joined d z) (l ++ n)
  one_link p q r i k d z l n f x y =
      let operand : Notes (sets.nullable q ≡ true) (Bare q k) (Done p q r) k z n =
      around (λ e. e) (λ none. none)
      (λ j none. (bare_of G sets h (sets.follow q) (BeginsParts sets (Link q r)) j f.again none, bare_of G sets h (sets.follow q) (Contains (sets.follow p)) j f.follow none)) y in
      and_rest (sets.nullable r ≡ true) (sets.nullable q ≡ true) (AllNullable sets (Link q r)) (Bare r i) (NoStart G.text (BeginsParts sets (Link q r)) i) (λ k. Bare q k) (Beyond r) (Done p q r) i
      (λ none s b. none s (inl b)) (λ e none s b. none s (inr (e, inl b))) (λ k. bare_of G sets h (sets.follow r) (Contains (sets.first q)) k f.between)
      (λ k none e. (bare_of G sets h (sets.follow r) (BeginsParts sets (Link q r)) k (f.over_next e) none, bare_of G sets h (sets.follow r) (Contains (sets.follow p)) k (f.over_last e) none))
      (λ e n. (e, (n, tt))) x operand

  -- links of the chain at p
  abbrev pub NotesLinks : ℕ → ℕ → ℕ → ℕ → End → List Event → Type 0
  NotesLinks p q r i z l = Notes (Unit {0}) (NoStart G.text (BeginsParts sets (Link q r)) i) (Beyond p) i z l

  apart_link : (p q r i : ℕ) → ((s t : StartKind) → BeginsParts sets (r ∷ q ∷ []) s → Contains (sets.follow p) t → Apart s t) → (NoStart G.text (BeginsParts sets (Link q r)) i → ⊥) → Beyond p i
  apart_link p q r i all some t among there = some (λ s is match. never_meet s t (all s t is among) G.text h.text i match there)

  pub failed_link : (p q r i : ℕ) (d : Bool) (l : List Event) → ChainIsPredictive sets p q r → NotesLink p q r i (paid.stops d) l → NotesLinks p q r i (returned i (paid.stops d)) l
  failed_link p q r i d l f x = or_return tt (λ none. none) (apart_link p q r i f.apart) x

  pub more_links : (p q r i k : ℕ) (d : Bool) (z : End) (l n : List Event) → ChainIsPredictive sets p q r → NotesLink p q r i (paid.ends d k) l → NotesLinks p q r k z n → NotesLinks p q r i (joined d z) (l ++ n)
  more_links p q r i k d z l n f x y =
      and_rest (AllNullable sets (Link q r)) (Unit {0}) (Unit {0}) (NoStart G.text (BeginsParts sets (Link q r)) i) (NoStart G.text (BeginsParts sets (Link q r)) i)
      (λ k. NoStart G.text (BeginsParts sets (Link q r)) k) (Done p q r) (Beyond p) i
      (λ none. none) (λ e none. absurd (f.full e)) (λ k done. done.0) (λ k done u. done.1) (λ e u. u) x y

  pub no_operand : (p q r i : ℕ) (d : Bool) (l : List Event) → ChainIsPredictive sets p q r → NotesNode G sets h q i (paid.stops d) l → NotesNode G sets h p i (paid.stops d) l
  no_operand p q r i d l f refuses = refuses
  no_operand p q r i d l f (breaks b n) = breaks (λ none. b (bare_of G sets h (sets.first p) (Contains (sets.first q)) i f.first none)) n

  pub whole_chain : (p q r i k : ℕ) (d : Bool) (z : End) (l n : List Event) → ChainIsPredictive sets p q r → NotesNode G sets h q i (paid.ends d k) l → NotesLinks p q r k z n → NotesNode G sets h p i (joined d z) (l ++ n)
  whole_chain p q r i k d z l n f x y =
      and_rest (sets.nullable q ≡ true) (Unit {0}) (sets.nullable p ≡ true) (Bare q i) (Bare p i) (λ k. NoStart G.text (BeginsParts sets (Link q r)) k) (Beyond q) (Beyond p) i
      (λ none. bare_of G sets h (sets.first p) (Contains (sets.first q)) i f.first none) (λ e none. bare_of G sets h (sets.first p) (BeginsParts sets (Link q r)) i (f.next e) none)
      (λ k. bare_of G sets h (sets.follow q) (BeginsParts sets (Link q r)) k f.again) (λ k none u. bare_of G sets h (sets.follow q) (Contains (sets.follow p)) k f.follow none) (λ e u. f.empty e) x y
