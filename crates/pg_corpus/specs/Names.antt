-- Names of cases, each of which is another.
use Rattle.std.specs.Prelude.{◌≡◌, ◌≢◌, ◌<◌, ℕ, List, [], ◌∷◌, ◌++◌, length, map, slice_index_or}
use Rattle.std.specs.Global.{Vec}
use Rattle.std.specs.List.{AllPairs}
use Rattle.pg_corpus.specs.declared.case.Case.{Case}

-- no two cases have the same name
abbrev pub AreApart : List Case → Type 0
AreApart cases = AllPairs (λ a b. a ≢ b) (map (λ c. c.name.now) cases)

-- the texts of keys
abbrev pub texts_of : List (Vec ℕ) → List (List ℕ)
texts_of keys = map (λ k. k.items) keys

-- the new keys are the old ones and this text, which none of them is
pub record Adds (text : List ℕ) (old new : List (Vec ℕ)) : Type 0 where
  pub grown : texts_of new ≡ texts_of old ++ text ∷ []
  pub other : (k : ℕ) (d : List ℕ) → k < length (texts_of old) → slice_index_or (texts_of old) k d ≢ text
