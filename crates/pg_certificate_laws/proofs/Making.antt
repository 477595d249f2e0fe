-- Lists that exist: numbers of nodes made from the numbers of their parts, and what a function gives.
use Rattle.std.proofs.Common.{◌≡◌, ◌<◌, ◌≤◌, ◌+◌, ℕ, zero, suc, List, slice_set, length, map, replicate, ◌∙◌, arith}
use Rattle.std.specs.List.{range_with_len, slice_index_or}
use Rattle.std.proofs.lemmas.List.{length-map, length-replicate, length-set}
use Rattle.std.proofs.lemmas.List.FromFn.{length-range_with_len, get_or-map-range_with_len}
use Rattle.std.proofs.lemmas.Option.{slice_get_within}
use Rattle.pg_derive.proofs.Quiet.{found}
use Rattle.pg_grammar_form.specs.Forms.{Node}
use Rattle.pg_grammar_value.specs.Grammar.{Grammar, IsGrammar}
use Rattle.pg_certificate_verify.proofs.OnePass.{IsLocal, IsKept, still_kept}

-- ---- numbers of nodes

-- there is one for each node, and from this one on it is what is found of it
record AreKeptFrom {V : Type 0} (d : V) (find : (ℕ → V) → Node → V) (g : Grammar) (from : ℕ) : Type 0 where
  kept : List V
  long : length kept ≡ length g.nodes
  each : (p : ℕ) → from ≤ p → IsKept d find g kept p

module _ {V : Type 0} (d : V) (find : (ℕ → V) → Node → V) (g : Grammar) (grammar : IsGrammar g) (local : IsLocal find) where
  last_kept : (from : ℕ) → length g.nodes ≤ from → AreKeptFrom d find g from
  last_kept from past = record {
    kept = replicate (length g.nodes) d;
    long = length-replicate (length g.nodes) d;
    each = λ p after n at. (let inside = slice_get_within g.nodes p n at in absurd (omega (arith, past, after, inside)));
  }

  one_more : (i : ℕ) → i < length g.nodes → AreKeptFrom d find g (suc i) → AreKeptFrom d find g i
  one_more i inside behind =
      let node = found g.nodes i inside in
      let long = behind.long in
      let new = find (λ q. slice_index_or behind.kept q d) node.0 in
      record {
        kept = slice_set behind.kept i new;
        long = length-set behind.kept i new ∙ long;
        each = still_kept d find g behind.kept i node.0 local grammar.preorder (omega (arith, inside, long)) node.1 behind.each;
      }

  kept_from : (count i : ℕ) → i + count ≡ length g.nodes → AreKeptFrom d find g i
  kept_from zero i all = last_kept i (omega (arith, all))
  kept_from (suc count) i all = one_more i (omega (arith, all)) (kept_from count (suc i) (omega (arith, all)))

  pub all_kept : (kept : List V) × (length kept ≡ length g.nodes) × ((p : ℕ) → IsKept d find g kept p)
  all_kept = let made = kept_from (length g.nodes) 0 (omega arith) in (made.kept, made.long, λ p. made.each p (omega arith))

-- ---- lists of what a function gives

abbrev pub listed_from : {A : Type 0} → (ℕ → A) → ℕ → List A
listed_from f count = map f (range_with_len 0 count)

pub listed_long : {A : Type 0} (f : ℕ → A) (count : ℕ) → length (listed_from f count) ≡ count
listed_long f count = length-map (range_with_len 0 count) f ∙ length-range_with_len 0 count

pub listed_at : {A : Type 0} (f : ℕ → A) (count k : ℕ) (d : A) → k < count → slice_index_or (listed_from f count) k d ≡ f k
listed_at f count k d inside = get_or-map-range_with_len f 0 count k k d inside (omega arith)
