-- Lists with one element more.
use Rattle.std.proofs.Common.{All, List, [], ◌∷◌, ◌++◌}
use Rattle.std.proofs.lemmas.List.Elements.{All-append, All-cons, All-nil}

-- what holds of each element of a list and of one more holds of each element once that one is appended
pub one_more : {X : Type 0} (P : X → Type 0) (xs : List X) (x : X) → All P xs → P x → All P (xs ++ (x ∷ []))
one_more P xs x all is = All-append P xs (x ∷ []) all (All-cons P x [] is (All-nil P))
