-- One more expression of several.
use Rattle.std.proofs.Common.{◌≡◌, ℕ, zero, suc, Bool, true, false, ◌||◌, List, [], ◌∷◌, take, drop, refl}
use Rattle.pg_grammar_form.specs.Classes.{one_holds}

-- one of three, however they are grouped
or_assoc : (p q r : Bool) → ((p || q) || r) ≡ (p || (q || r))
or_assoc true q r = refl
or_assoc false q r = refl

-- one more, which stands alone in a list
or_next : (any b rest : Bool) → ((any || (b || false)) || rest) ≡ (any || (b || rest))
or_next true b rest = refl
or_next false true rest = refl
or_next false false rest = refl

-- the first of k + 1, and then k of those after it
pub one_holds-next : (any : Bool) (k : ℕ) (bs : List Bool) → ((any || one_holds (take 1 bs)) || one_holds (take k (drop 1 bs))) ≡ (any || one_holds (take (suc k) bs))
one_holds-next any zero [] = or_assoc any false false
one_holds-next any (suc k) [] = or_assoc any false false
one_holds-next any k (b ∷ bs) = or_next any b (one_holds (take k bs))

-- after the first, and then after k more
pub drop-next : (k : ℕ) (bs : List Bool) → drop k (drop 1 bs) ≡ drop (suc k) bs
drop-next zero [] = refl
drop-next (suc k) [] = refl
drop-next k (b ∷ bs) = refl
