-- The log of a node of a predictive grammar, from the log of its part.
use Rattle.std.proofs.Common.{◌≡◌, ℕ, List, [], ◌∷◌, ◌++◌, Bool, true, false, refl, sym, ap, subst, Some, slice_get, ◌∙◌}
use Rattle.std.specs.Prelude.{nat_lt, ◌&&◌}
use Rattle.std.specs.List.{Contains}
use Rattle.std.specs.Option.{option_map_or}
use Rattle.pg_grammar_form.specs.declared.class.ClassPart.{ClassPart}
use Rattle.pg_grammar_form.specs.declared.form.Form.TheVariants as form
use Rattle.pg_grammar_form.specs.declared.form.Leaf.TheVariants as leaf
use Rattle.pg_grammar_form.specs.declared.form.Around.{Around}
use Rattle.pg_grammar_form.specs.declared.form.Around.TheVariants as kind
use Rattle.pg_grammar_form.specs.Forms.{Node}
use Rattle.pg_predict_costs.specs.Costs.{is_string, is_not_followed_by, is_at}
use Rattle.pg_language.specs.Answers.{Given, Answers}
use Rattle.pg_language.specs.Derives.{Spot}
use Rattle.pg_language.specs.Outcomes.{Outcome, ok, failed, empty_round}
use Rattle.pg_language.specs.Reactions.{counted_by, surrounded}
use Rattle.pg_language.proofs.Flags.{moved}
use Rattle.pg_language.proofs.Moves.{tells}
use Rattle.pg_derive.specs.ClosedSets.{NodeSets}
use Rattle.pg_derive.specs.Predictive.{PartIsPredictive, TryIsPredictive, of_part, of_string, of_key, AroundIsPredictive}
use Rattle.pg_derive.specs.PredictiveLaws.{Predicts}
use Rattle.pg_derive.proofs.Begins.{still, moves, BeginsNode}
use Rattle.pg_derive.proofs.Predicted.{spelled}
use Rattle.pg_derive_bound.proofs.Nodes as nodes
use Rattle.pg_derive_bound.proofs.Nodes.{IsSpot, bare_of, begins_at, consumes_begun, differ}
use Rattle.pg_derive_bound.proofs.Paid as paid
use Rattle.pg_derive_bound.proofs.Paid.{End, end_of}
use Rattle.pg_derive_bound.proofs.Repeats.{not_both}
use Rattle.pg_derive_backtracking.specs.Events.{Event, leaf_log, lexeme_log, is_lexeme, given_back, try_log, around_log}
use Rattle.pg_derive_backtracking.proofs.Calm.{Notes, refuses, rests, goes, breaks, stuck, around, and_nothing, noted_as, back_at_end}

-- ---- forms around a part

-- what doesn't go back ends as its part does
surround : {E B : Type 0} {A : ℕ → Type 0} {i : ℕ} {l : List Event} (k : Around) (text : List ℕ) (a : Spot) (o : Outcome) → ((d : Bool) → counted_by k d ≡ d) → Notes E B A i (end_of o) l →
    Notes E B A i (end_of (surrounded k text a o)) l
surround k text a (ok d b v t e) kept x = x
surround {E} {B} {A} {i} {l} k text a (failed d e) kept x = subst (λ d. Notes E B A i (paid.stops d) l) (sym (kept d)) x
surround k text a empty_round kept x = x

-- a `try` notes the place that it gives back
tried : {E B : Type 0} {A : ℕ → Type 0} {i : ℕ} {l : List Event} (text : List ℕ) (a : Spot) (o : Outcome) → Notes E B A i (end_of o) l →
    Notes E B A i (end_of (surrounded kind.Try text a o)) (l ++ given_back a.place o)
tried text a (ok d b v t e) x = and_nothing x
tried text a (failed false e) x = and_nothing x
tried {l = l} text a (failed true e) (breaks none h) = breaks none (back_at_end l a.place h)
tried text a empty_round x = and_nothing x

-- around a lexeme it notes as a leaf does
leaf_as_lexeme : (text : List ℕ) (a : Spot) (o : Outcome) → leaf_log a.place (surrounded kind.Try text a o) ≡ lexeme_log a.place o
leaf_as_lexeme text a (ok true b v t e) = refl
leaf_as_lexeme text a (ok false b v t e) = refl
leaf_as_lexeme text a (failed c e) = refl
leaf_as_lexeme text a empty_round = refl

-- ---- lexemes

node_there : (is : Node → Bool) (list : List Node) (q : ℕ) (n : Node) → slice_get list q ≡ Some n → is_at is list q ≡ is n
node_there is list q n e = ap (λ found. option_map_or is found false) e

string_is_lexeme : (list : List Node) (q : ℕ) (s : List ℕ) → slice_get list q ≡ Some (form.Leaf (leaf.String s)) → is_at (is_lexeme list) list q ≡ true
string_is_lexeme list q s e = node_there (is_lexeme list) list q _ e

key_is_lexeme : (list : List Node) (q x y : ℕ) (s : List ℕ) (class : List ClassPart) → slice_get list q ≡ Some (form.Seq (x ∷ y ∷ [])) → slice_get list x ≡ Some (form.Leaf (leaf.String s)) →
    slice_get list y ≡ Some (form.Leaf (leaf.NotFollowedBy class)) → is_at (is_lexeme list) list q ≡ true
key_is_lexeme list q x y s class e first second =
    node_there (is_lexeme list) list q _ e ∙ ap (λ b. b && is_at is_not_followed_by list y) (node_there is_string list x _ first) ∙ node_there is_not_followed_by list y _ second

module _ (G : Given) (sets : NodeSets) (h : Predicts G sets) where
  -- what is noted by a run of the node p from the place i
  abbrev pub NotesNode : ℕ → ℕ → End → List Event → Type 0
  NotesNode p i z l = Notes (sets.nullable p ≡ true) (nodes.Bare G sets h p i) (nodes.Beyond G sets h p) i z l

  -- what notes no more than that it consumed
  pub by_itself : {p : ℕ} {a : Spot} {o : Outcome} {m : ℕ} → Answers G p a o m → IsSpot G sets h a → NotesNode p a.place (end_of o) (leaf_log a.place o)
  by_itself {p = p} {a = a} {o = ok true b v t e} run is = goes (consumes_begun G sets h run is refl) tt
  by_itself {p = p} {a = a} {o = ok false b v t e} run is = go (tells G (spelled G sets h) run).0 (begins_at G sets h run)
    where
      go : false ≡ nat_lt a.place b.place → BeginsNode G.grammar sets G.text p a b → NotesNode p a.place (paid.ends false b.place) []
      go flag (still stays n) = rests n (ap (λ (z : Spot). z.place) stays)
      go flag (moves l n) = absurd (differ flag (moved l))
  by_itself {o = failed true e} run is = breaks (consumes_begun G sets h run is refl) tt
  by_itself {o = failed false e} run is = refuses
  by_itself {o = empty_round} run is = stuck

  pub as_part : (p q i : ℕ) (z : End) (l : List Event) → PartIsPredictive sets p q → NotesNode q i z l → NotesNode p i z l
  as_part p q i z l f x = around f.empty (bare_of G sets h (sets.first p) (Contains (sets.first q)) i f.first) (λ j. bare_of G sets h (sets.follow q) (Contains (sets.follow p)) j f.follow) x

  lexeme_tried : (p q : ℕ) (a : Spot) (o : Outcome) (m : ℕ) → Answers G p a (surrounded kind.Try G.text a o) m → IsSpot G sets h a → NotesNode p a.place (end_of (surrounded kind.Try G.text a o)) (lexeme_log a.place o)
  lexeme_tried p q a o m run is = noted_as (leaf_as_lexeme G.text a o) (by_itself run is)

  try_around : (p q : ℕ) (a : Spot) (o : Outcome) (m n : ℕ) (l : List Event) → TryIsPredictive G.grammar sets p q → IsSpot G sets h a → Answers G p a (surrounded kind.Try G.text a o) m → NotesNode q a.place (end_of o) l →
      NotesNode p a.place (end_of (surrounded kind.Try G.text a o)) (try_log (is_at (is_lexeme G.grammar.nodes) G.grammar.nodes q) a.place o l)
  try_around p q a o m n l f is run x = go (is_at (is_lexeme G.grammar.nodes) G.grammar.nodes q) refl f
    where
      go : (b : Bool) → is_at (is_lexeme G.grammar.nodes) G.grammar.nodes q ≡ b → TryIsPredictive G.grammar sets p q → NotesNode p a.place (end_of (surrounded kind.Try G.text a o)) (try_log b a.place o l)
      go true e f = lexeme_tried p q a o m run is
      go false e (of_part f) = tried G.text a o (as_part p q a.place (end_of o) l f x)
      go false e (of_string {s = s} string spelled falls f) = not_both (string_is_lexeme G.grammar.nodes q s string) e
      go false e (of_key {x = first} {y = second} {s = s} {class = class} two string end spelled falls f) = not_both (key_is_lexeme G.grammar.nodes q first second s class two string end) e

  part_around : (p q : ℕ) (k : Around) (a : Spot) (o : Outcome) (l : List Event) → ((d : Bool) → counted_by k d ≡ d) → PartIsPredictive sets p q → NotesNode q a.place (end_of o) l →
      NotesNode p a.place (end_of (surrounded k G.text a o)) l
  part_around p q k a o l kept f x = surround k G.text a o kept (as_part p q a.place (end_of o) l f x)

  -- whatever stands around the part
  pub any_around : (p q : ℕ) (k : Around) (a : Spot) (o : Outcome) (m : ℕ) (l : List Event) → AroundIsPredictive G.grammar sets p k q → IsSpot G sets h a → Answers G p a (surrounded k G.text a o) m →
      NotesNode q a.place (end_of o) l → NotesNode p a.place (end_of (surrounded k G.text a o)) (around_log G.grammar.nodes k q a.place o l)
  any_around p q kind.Try a o m l f is run x = try_around p q a o m m l f is run x
  any_around p q kind.Text a o m l f is run x = part_around p q kind.Text a o l (λ d. refl) f x
  any_around p q kind.Skip a o m l f is run x = part_around p q kind.Skip a o l (λ d. refl) f x
  any_around p q (kind.Build used symbol) a o m l f is run x = part_around p q (kind.Build used symbol) a o l (λ d. refl) f x
  any_around p q (kind.Label message) a o m l f is run x = part_around p q (kind.Label message) a o l (λ d. refl) f x
  any_around p q kind.Local a o m l f is run x = part_around p q kind.Local a o l (λ d. refl) f x
