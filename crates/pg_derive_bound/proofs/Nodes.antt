-- What is known of the answers of a node of a predictive grammar, whatever stands at the node.
use Rattle.std.proofs.Common.{◌≡◌, ◌<◌, ◌≤◌, ◌+◌, ℕ, List, Bool, true, false, refl, ap, subst, length, arith}
use Rattle.std.specs.Prelude.{nat_lt}
use Rattle.std.specs.List.{Contains}
use Rattle.std.proofs.lemmas.Option.{slice_get_within}
use Rattle.pg_tree.specs.Trees.{Tree}
use Rattle.pg_grammar_value.specs.declared.trail.TrailItem.{TrailItem}
use Rattle.pg_start.specs.declared.kind.StartKind.{StartKind}
use Rattle.pg_table.specs.Tables.{ComesFrom}
use Rattle.pg_language.specs.Derives.{Spot}
use Rattle.pg_language.specs.Answers.{Given, Answers, entered}
use Rattle.pg_language.specs.Errors.{Error}
use Rattle.pg_language.specs.Outcomes.{Outcome, ok, failed, empty_round}
use Rattle.pg_language.proofs.Flags.{moved, stayed}
use Rattle.pg_language.proofs.Moves.{tells}
use Rattle.pg_language.proofs.Onward.{leads_on}
use Rattle.pg_language.proofs.Sound.{sound}
use Rattle.pg_language.proofs.Unique.{same}
use Rattle.pg_derive.specs.ClosedSets.{NodeSets, Covers}
use Rattle.pg_derive.specs.PredictiveLaws.{Predicts}
use Rattle.pg_derive.proofs.Begins.{still, moves, BeginsNode}
use Rattle.pg_derive.proofs.Complete.{begun}
use Rattle.pg_derive.proofs.Inverted.{comes_on}
use Rattle.pg_derive.proofs.Predicted.{spelled}
use Rattle.pg_derive.proofs.Quiet.{NoStart, Quietly, refuses, skips, quiet}
use Rattle.pg_derive.proofs.Whole.{is_whole}
use Rattle.pg_derive_bound.proofs.Charges.{Charges}
use Rattle.pg_derive_bound.proofs.Paid as paid
use Rattle.pg_derive_bound.proofs.Paid.{End, end_of, Fare, Paid}

-- something was consumed
abbrev pub IsConsumed : Outcome → Type 0
IsConsumed (ok c b v t e) = c ≡ true
IsConsumed (failed c e) = c ≡ true
IsConsumed empty_round = ⊥

-- a flag that would be two things
pub apart : {x y : Bool} → true ≡ x → y ≡ false → y ≡ x → ⊥
apart e f g = absurd cc

-- false is not true
pub differ : {x : Bool} → false ≡ x → x ≡ true → ⊥
differ e f = absurd cc

module _ (G : Given) (sets : NodeSets) (h : Predicts G sets) where
  -- a place in the text, under a table of the grammar
  abbrev pub IsSpot : Spot → Type 0
  IsSpot a = (a.place ≤ length G.text) × ComesFrom G.grammar a.table

  -- no start matches at the place of what can begin the node, and of what can follow it
  abbrev pub Bare : ℕ → ℕ → Type 0
  Bare p i = NoStart G.text (Contains (sets.first p)) i

  abbrev pub Beyond : ℕ → ℕ → Type 0
  Beyond p i = NoStart G.text (Contains (sets.follow p)) i

  -- where none of a list matches, none matches that the list covers
  pub bare_of : (starts : List StartKind) (IsStart : StartKind → Type 0) (i : ℕ) → ((s : StartKind) → IsStart s → Covers starts s) → NoStart G.text (Contains starts) i → NoStart G.text IsStart i
  bare_of starts IsStart i f none s is there = let m = f s is G.text h.text i there in none m.start m.among m.there

  pub is_node : {p : ℕ} {a : Spot} {o : Outcome} {m : ℕ} → Answers G p a o m → p < length G.grammar.nodes
  is_node (entered e d) = slice_get_within G.grammar.nodes _ _ e

  pub begins_at : {p : ℕ} {a b : Spot} {c : Bool} {v : List Tree} {t : List TrailItem} {e : Error} {m : ℕ} → Answers G p a (ok c b v t e) m → BeginsNode G.grammar sets G.text p a b
  begins_at d = begun G h.text (is_whole G.grammar h.grammar) sets h.predictive.nodes (sound d)

  pub ends_at_spot : {p : ℕ} {a b : Spot} {c : Bool} {v : List Tree} {t : List TrailItem} {e : Error} {m : ℕ} → Answers G p a (ok c b v t e) m → IsSpot a → IsSpot b
  ends_at_spot d is = ((leads_on (sound d)).within is.0, comes_on (sound d) is.1)

  -- what consumes does so where a start matches of what can begin the node
  pub consumes_begun : {p : ℕ} {a : Spot} {o : Outcome} {m : ℕ} → Answers G p a o m → IsSpot a → IsConsumed o → Bare p a.place → ⊥
  consumes_begun {p = p} {a = a} {o = o} d is consumed bare = go (quiet G h.text (is_whole G.grammar h.grammar) sets h.predictive.nodes p a is.1 (is_node d) bare)
    where
      empty : {q : Outcome} → o ≡ q → IsConsumed q
      empty e = subst IsConsumed e consumed

      go : Quietly (Answers G p a) (sets.nullable p ≡ true) a → ⊥
      go (refuses e m run) = let c = empty (same d run).outcome in absurd cc
      go (skips x v t e m run) = let c = empty (same d run).outcome in absurd cc

  module _ (c : Charges G.grammar sets) where
    abbrev pub fare : Fare
    fare = record { rate = c.rate; last = length G.text; due = c.due; rises = c.rises }

    abbrev pub PaidNode : ℕ → ℕ → End → ℕ → Type 0
    PaidNode p i z m = Paid fare (sets.nullable p ≡ true) (Bare p i) (Beyond p) (c.cost p) (c.size p + c.climb p) i z m

    -- what doesn't enter more nodes than a run that consumes nothing, unless it fails at the end of the text
    pub by_few : {p : ℕ} {a : Spot} {o : Outcome} {m : ℕ} → Answers G p a o m → IsSpot a → m + m ≤ c.cost p → ((e : Error) → o ≡ failed true e → a.place < length G.text) → PaidNode p a.place (end_of o) m
    by_few {p = p} {a = a} {o = ok d b v t e} {m = m} run is few inside = go d refl (tells G (spelled G sets h) run).0 (begins_at run)
      where
        go : (x : Bool) → d ≡ x → x ≡ nat_lt a.place b.place → BeginsNode G.grammar sets G.text p a b → PaidNode p a.place (paid.ends x b.place) m
        go false x flag (still stays n) = paid.rests n (ap (λ (z : Spot). z.place) stays) few
        go true x flag (still stays n) = absurd (apart flag (stayed a.place) (ap (λ (z : Spot). nat_lt a.place z.place) stays))
        go true x flag (moves l n) =
            let low = c.low p (is_node run) in
            let up = c.rises a.place b.place l in
            paid.goes (consumes_begun run is x) l (ends_at_spot run is).0 (omega arith)
        go false x flag (moves l n) = absurd (differ flag (moved l))
    by_few {o = failed false e} run is few inside = paid.refuses few
    by_few {p = p} {a = a} {o = failed true e} run is few inside =
        let low = c.low p (is_node run) in
        let up = c.rises a.place (length G.text) (inside e refl) in
        paid.breaks (consumes_begun run is refl) (omega arith)
    by_few {o = empty_round} run is few inside = paid.stuck
