-- What sequences and choices note, by what their parts do.
use Rattle.std.proofs.Common.{◌≡◌, inl, inr, ℕ, List, [], ◌∷◌, ◌++◌, Bool, true, false, ap, ◌∙◌}
use Rattle.std.specs.List.{Contains, AllByRecursion}
use Rattle.pg_start.specs.declared.kind.StartKind.{StartKind}
use Rattle.pg_start.proofs.Meeting.{never_meet}
use Rattle.pg_language.specs.Answers.{Given}
use Rattle.pg_derive.specs.ClosedSets.{NodeSets, AllApart, AllNullable, BeginsParts, PartsFollowed}
use Rattle.pg_derive.specs.Predictive.{PartIsPredictive, ComesBefore, SeqIsPredictive, AlternativesArePredictive}
use Rattle.pg_derive.specs.PredictiveLaws.{Predicts}
use Rattle.pg_derive.proofs.Quiet.{NoStart}
use Rattle.pg_derive.proofs.StartLists.{contains_none, contains_cases, contains_first, contains_after}
use Rattle.pg_derive_bound.proofs.Nodes as nodes
use Rattle.pg_derive_bound.proofs.Nodes.{bare_of}
use Rattle.pg_derive_bound.proofs.Paid as paid
use Rattle.pg_derive_bound.proofs.Paid.{End, joined}
use Rattle.pg_derive_backtracking.specs.Events.{Event}
use Rattle.pg_derive_backtracking.proofs.Calm.{Notes, refuses, breaks, around, and_rest, or_else}
use Rattle.pg_derive_backtracking.proofs.Nodes.{NotesNode}

module _ (G : Given) (sets : NodeSets) (h : Predicts G sets) where
  abbrev Bare : ℕ → ℕ → Type 0
  Bare p i = nodes.Bare G sets h p i

  abbrev Beyond : ℕ → ℕ → Type 0
  Beyond p i = nodes.Beyond G sets h p i

  -- where the starts of one list don't all fail to match, no start matches of a list that is apart from it
  pub apart : (xs ys : List StartKind) (i : ℕ) → AllApart xs ys → (NoStart G.text (Contains xs) i → ⊥) → NoStart G.text (Contains ys) i
  apart xs ys i all some t among there = some (λ s is match. never_meet s t (all s t is among) G.text h.text i match there)

  -- ---- sequences

  -- the last parts of the sequence at p
  abbrev pub NotesParts : ℕ → List ℕ → ℕ → End → List Event → Type 0
  NotesParts p qs i z l = Notes (AllNullable sets qs) (NoStart G.text (BeginsParts sets qs) i) (Beyond p) i z l

  pub last_part : (p q i : ℕ) (z : End) (l : List Event) → PartsFollowed sets (sets.follow p) (q ∷ []) → NotesNode G sets h q i z l → NotesParts p (q ∷ []) i z l
  last_part p q i z l followed x = around (λ n. (n, tt)) (λ none s b. none s (inl b)) (λ j. bare_of G sets h (sets.follow q) (Contains (sets.follow p)) j (followed.1 tt)) x

  pub failed_part : (p q : ℕ) (qs : List ℕ) (i : ℕ) (d : Bool) (l : List Event) → NotesNode G sets h q i (paid.stops d) l → NotesParts p (q ∷ qs) i (paid.stops d) l
  failed_part p q qs i d l refuses = refuses
  failed_part p q qs i d l (breaks b r) = breaks (λ none. b (λ s x. none s (inl x))) r

  pub rest_of_parts : (p q r : ℕ) (rs : List ℕ) (i k : ℕ) (d : Bool) (z : End) (l n : List Event) → PartsFollowed sets (sets.follow p) (q ∷ r ∷ rs) → NotesNode G sets h q i (paid.ends d k) l → NotesParts p (r ∷ rs) k z n →
      NotesParts p (q ∷ r ∷ rs) i (joined d z) (l ++ n)
  rest_of_parts p q r rs i k d z l n followed x y =
      and_rest (sets.nullable q ≡ true) (AllNullable sets (r ∷ rs)) (AllNullable sets (q ∷ r ∷ rs)) (Bare q i) (NoStart G.text (BeginsParts sets (q ∷ r ∷ rs)) i)
      (λ k. NoStart G.text (BeginsParts sets (r ∷ rs)) k) (Beyond q) (Beyond p) i
      (λ none s b. none s (inl b)) (λ e none s b. none s (inr (e, b))) (λ k. bare_of G sets h (sets.follow q) (BeginsParts sets (r ∷ rs)) k followed.0)
      (λ k none all. bare_of G sets h (sets.follow q) (Contains (sets.follow p)) k (followed.1 all) none) (λ e all. (e, all)) x y

  pub whole_seq : (p : ℕ) (qs : List ℕ) (i : ℕ) (z : End) (l : List Event) → SeqIsPredictive sets p qs → NotesParts p qs i z l → NotesNode G sets h p i z l
  whole_seq p qs i z l f x = around f.empty (bare_of G sets h (sets.first p) (BeginsParts sets qs) i f.first) (λ j none. none) x

  -- ---- choices

  abbrev pub AllBare : List ℕ → ℕ → Type 0
  AllBare qs i = AllByRecursion (λ q. Bare q i) qs

  abbrev pub SomeNullable : List ℕ → Type 0
  SomeNullable qs = (q : ℕ) × Contains qs q × (sets.nullable q ≡ true)

  -- these alternatives of the choice at p
  abbrev pub NotesAlternatives : ℕ → List ℕ → ℕ → End → List Event → Type 0
  NotesAlternatives p qs i z l = Notes (SomeNullable qs) (AllBare qs i) (Beyond p) i z l

  all_contained : (P : ℕ → Type 0) (qs : List ℕ) → ((q : ℕ) → Contains qs q → P q) → AllByRecursion P qs
  all_contained P [] f = tt
  all_contained P (q ∷ qs) f = (f q (contains_first q qs), all_contained P qs (λ r is. f r (contains_after q r qs is)))

  pub one_alternative : (p q : ℕ) (qs : List ℕ) (i : ℕ) (z : End) (l : List Event) → PartIsPredictive sets p q → NotesNode G sets h q i z l → NotesAlternatives p (q ∷ qs) i z l
  one_alternative p q qs i z l f x = around (λ n. (q, contains_first q qs, n)) (λ none. none.0) (λ j. bare_of G sets h (sets.follow q) (Contains (sets.follow p)) j f.follow) x

  pub other_alternatives : (p q : ℕ) (qs : List ℕ) (i : ℕ) (z : End) (l n : List Event) → ((other : ℕ) → Contains qs other → ComesBefore sets p q other) →
      NotesNode G sets h q i (paid.stops false) l → NotesAlternatives p qs i z n → NotesAlternatives p (q ∷ qs) i z (l ++ n)
  other_alternatives p q qs i z l n before x y =
      or_else (sets.nullable q ≡ true) (SomeNullable qs) (SomeNullable (q ∷ qs)) (Bare q i) (AllBare qs i) (AllBare (q ∷ qs) i) (Beyond q) (Beyond p) i
      (λ none. none.0) (λ none. none.1) (λ some. all_contained (λ r. Bare r i) qs (λ r is. apart (sets.first q) (sets.first r) i (before r is).first some))
      (λ some empty. apart (sets.first q) (sets.follow p) i ((before empty.0 empty.1).follow empty.2) some) (λ empty. (empty.0, contains_after q empty.0 qs empty.1, empty.2)) x y

  alternatives_bare : (p : ℕ) (qs : List ℕ) (i : ℕ) → AlternativesArePredictive sets p qs → Bare p i → AllBare qs i
  alternatives_bare p [] i f none = tt
  alternatives_bare p (q ∷ qs) i f none = (bare_of G sets h (sets.first p) (Contains (sets.first q)) i f.0.first none, alternatives_bare p qs i f.2 none)

  any_nullable : (p : ℕ) (qs : List ℕ) → AlternativesArePredictive sets p qs → (q : ℕ) → Contains qs q → sets.nullable q ≡ true → sets.nullable p ≡ true
  any_nullable p [] f q is e = absurd (contains_none q is)
  any_nullable p (r ∷ qs) f q is e =
      elim (contains_cases r q qs is) [
        | inl same ↦ f.0.empty (ap sets.nullable same ∙ e)
        | inr later ↦ any_nullable p qs f.2 q later e
      ]

  pub whole_choice : (p : ℕ) (qs : List ℕ) (i : ℕ) (z : End) (l : List Event) → AlternativesArePredictive sets p qs → NotesAlternatives p qs i z l → NotesNode G sets h p i z l
  whole_choice p qs i z l f x = around (λ some. any_nullable p qs f some.0 some.1 some.2) (alternatives_bare p qs i f) (λ j none. none) x
