-- What stands under a name is read off the first thing that has it.
use Rattle.std.proofs.Common.{◌≡◌, ◌∙◌, Bool, true, false, cond, List, [], ◌∷◌, map, find, Option, Some, None, is_some, refl, sym, ap}
use Rattle.std.specs.Prelude.{◌↔◌, IfSome, IsNone, option_map, option_copied}
use Rattle.std.specs.Str.{bytes_eq}
use denote.Bor.{Bor}
use Rattle.pg_pred.specs.Names.{Name, under_name}

-- looking under a name is finding the first thing with it
under_name-find : {T A : Type 0} (ts : List T) (name_of : T → Name) (read : T → A) (name : Name)
    → under_name (map (λ t. (name_of t, read t)) ts) name ≡ option_map read (find (λ t. bytes_eq (name_of t) name) ts)
under_name-find [] name_of read name = refl
under_name-find (t ∷ ts) name_of read name = go (bytes_eq (name_of t) name) (under_name-find ts name_of read name)
  where
    go : (b : Bool)
        → under_name (map (λ s. (name_of s, read s)) ts) name ≡ option_map read (find (λ s. bytes_eq (name_of s) name) ts)
        → cond b (Some (read t)) (under_name (map (λ s. (name_of s, read s)) ts) name)
        ≡ option_map read (cond b (Some t) (find (λ s. bytes_eq (name_of s) name) ts))
    go true ih = refl
    go false ih = ih

-- a value is there exactly where what is read off it is
is_some-read : {T A : Type 0} (read : T → A) (o : Option (Bor T)) → is_some (option_map read (option_copied o)) ≡ is_some o
is_some-read read None = refl
is_some-read read (Some t) = refl

-- what was found is what stands under the name
pub found_is_under : {T A : Type 0} (ts : List T) (name_of : T → Name) (read : T → A) (name : Name) (o : Option (Bor T))
    → option_copied o ≡ find (λ t. bytes_eq (name_of t) name) ts
    → IfSome o (λ t. under_name (map (λ s. (name_of s, read s)) ts) name ≡ Some (read t.now))
found_is_under ts name_of read name None found = tt
found_is_under ts name_of read name (Some t) found =
    under_name-find ts name_of read name ∙ ap (option_map read) (sym found)

-- nothing was found exactly where nothing stands under the name
pub none_is_under : {T A : Type 0} (ts : List T) (name_of : T → Name) (read : T → A) (name : Name) (o : Option (Bor T))
    → option_copied o ≡ find (λ t. bytes_eq (name_of t) name) ts
    → IsNone o ↔ IsNone (under_name (map (λ s. (name_of s, read s)) ts) name)
none_is_under ts name_of read name o found =
    let under = under_name-find ts name_of read name in
    let same : is_some o ≡ is_some (under_name (map (λ s. (name_of s, read s)) ts) name) =
    sym (is_some-read read o) ∙ ap (λ p. is_some (option_map read p)) found ∙ sym (ap is_some under) in
    (λ none. sym same ∙ none, λ none. same ∙ none)
