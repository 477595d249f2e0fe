-- A name is found among the class items exactly if it is there.
use Rattle.std.proofs.Common.{◌≡◌, ℕ, Bool, true, false, ◌||◌, List, Some, None, Err, refl, sym, ap, ◌∙◌}
use Rattle.std.specs.Result.{IsErrOf}
use Rattle.pg_grammar_form.specs.Names.{Name, has_name, place_of_name, number_of}
use Rattle.pg_grammar_form.proofs.Lookup.{place_is_none, place_is_number}

pub found_is_there : (names : List Name) (name : Name) (k : ℕ) → place_of_name names name ≡ Some k → has_name names name ≡ true
found_is_there names name k e = go (has_name names name) refl
  where
    go : (b : Bool) → has_name names name ≡ b → b ≡ true
    go true h = refl
    go false h = let q : Some k ≡ None = sym e ∙ place_is_none names name h in absurd cc

pub none_is_absent : (names : List Name) (name : Name) → place_of_name names name ≡ None → has_name names name ≡ false
none_is_absent names name e = go (has_name names name) refl
  where
    go : (b : Bool) → has_name names name ≡ b → b ≡ false
    go true h = let q : None ≡ Some (number_of names name) = sym e ∙ place_is_number names name h in absurd cc
    go false h = refl

pub found_is_known : (names : List Name) (name : Name) (other : Bool) (k : ℕ) → place_of_name names name ≡ Some k → (has_name names name || other) ≡ true
found_is_known names name other k e = rw (found_is_there names name k e) refl

pub none_is_other : (names : List Name) (name : Name) (other : Bool) → place_of_name names name ≡ None → other ≡ false → (has_name names name || other) ≡ false
none_is_other names name other e h = rw (none_is_absent names name e, h) refl

-- an error is the same error, whatever value it stands in place of
pub same_err : {S T E : Type 0} (e f : E) → IsErrOf {T = S} (Err e) f → IsErrOf {T = T} (Err e) f
same_err e f h = let same : e ≡ f = cc in ap Err same
