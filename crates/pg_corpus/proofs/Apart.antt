-- Keys of a set and one more.
use Rattle.std.proofs.Common.{◌≡◌, ◌≢◌, ◌+◌, ◌<◌, ◌≤◌, ℕ, zero, suc, Bool, true, false, not, cond, ◌||◌, List, [], ◌∷◌, ◌++◌, length, take, map, get_or, refl, sym, ap, subst, ◌∙◌, arith}
use Rattle.std.specs.Global.{Vec}
use Rattle.std.specs.List.{list_any, AllPairs}
use Rattle.std.specs.Str.{bytes_eq}
use Rattle.std.proofs.lemmas.Bool.{false≢true}
use Rattle.std.proofs.lemmas.List.{map-append, take_more, take_all}
use Rattle.std.proofs.lemmas.List.Quantifiers.{all_pairs_push}
use Rattle.std.proofs.lemmas.Slice.Eq.{bytes_eq-Decides}
use Rattle.indexmap.specs.IndexSet.{insert_key}
use Rattle.pg_corpus.specs.Names.{AreApart, Adds, texts_of}
use Rattle.pg_corpus.specs.declared.case.Case.{Case}

abbrev pub same : Vec ℕ → Vec ℕ → Bool
same k l = bytes_eq k.items l.items

first_false : (a b : Bool) → (a || b) ≡ false → a ≡ false
first_false true b h = h
first_false false b h = refl

second_false : (a b : Bool) → (a || b) ≡ false → b ≡ false
second_false true b h = absurd (false≢true (sym h))
second_false false b h = h

is_false : (b : Bool) → not b ≡ true → b ≡ false
is_false true h = sym h
is_false false h = refl

none_same : (k : Vec ℕ) (keys : List (Vec ℕ)) → list_any (same k) keys ≡ false → (i : ℕ) (d : List ℕ) → i < length (texts_of keys) → get_or (texts_of keys) i d ≢ k.items
none_same k [] h i d below = absurd (omega arith)
none_same k (x ∷ xs) h zero d below =
    λ e. false≢true (sym (first_false (same k x) (list_any (same k) xs) h) ∙ (bytes_eq-Decides k.items x.items).1 (sym e))
none_same k (x ∷ xs) h (suc i) d below = none_same k xs (second_false (same k x) (list_any (same k) xs) h) i d (omega arith)

pub adds : (keys : List (Vec ℕ)) (k : Vec ℕ) → not (list_any (same k) keys) ≡ true → Adds k.items keys (insert_key same keys k)
adds keys k new =
    let n : list_any (same k) keys ≡ false = is_false (list_any (same k) keys) new in
    record {
      grown = ap (λ b. texts_of (cond b keys (keys ++ k ∷ []))) n ∙ map-append (λ (l : Vec ℕ). l.items) keys (k ∷ []);
      other = none_same k keys n;
    }

-- the keys are the names of the first cases, no two of which are the same
pub record AreNames (cases : List Case) (count : ℕ) (keys : List (Vec ℕ)) : Type 0 where
  pub are : texts_of keys ≡ map (λ (c : Case). c.name.now) (take count cases)
  pub apart : AllPairs (λ a b. a ≢ b) (texts_of keys)

pub no_names : (cases : List Case) → AreNames cases 0 []
no_names cases = record { are = refl; apart = λ i j d order below. absurd (omega arith) }

pub one_name : (cases : List Case) (count : ℕ) (d : Case) (name : List ℕ) (old new : List (Vec ℕ)) → AreNames cases count old → count < length cases
    → name ≡ (get_or cases count d).name.now → Adds name old new → AreNames cases (count + 1) new
one_name cases count d name old new so_far below named added = record {
  are = added.grown ∙ (ap (λ (ls : List (List ℕ)). ls ++ name ∷ []) so_far.are ∙ (ap (λ (l : List ℕ). map (λ (c : Case). c.name.now) (take count cases) ++ l ∷ []) named
      ∙ sym (ap (map (λ (c : Case). c.name.now)) (take_more cases count d below)
      ∙ map-append (λ (c : Case). c.name.now) (take count cases) (get_or cases count d ∷ []))));
  apart = subst (AllPairs (λ a b. a ≢ b)) (sym added.grown) (all_pairs_push (λ a b. a ≢ b) (texts_of old) name so_far.apart added.other);
}

pub all_names : (cases : List Case) (count : ℕ) (keys : List (Vec ℕ)) → AreNames cases count keys → length cases ≤ count → AreApart cases
all_names cases count keys so_far past =
    subst (AllPairs (λ a b. a ≢ b)) (so_far.are ∙ ap (map (λ (c : Case). c.name.now)) (take_all count cases past)) so_far.apart
