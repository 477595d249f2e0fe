-- Operators that stand with symbols: what one more changes.
use Rattle.std.proofs.Common.{◌≡◌, inl, inr, ℕ, Bool, true, false, cond, List, [], ◌∷◌, ◌++◌, map, Option, Some, refl, sym, ap, subst, ◌∙◌, append-nil}
use Rattle.std.specs.Prelude.{unwrap_or}
use Rattle.std.specs.Option.{option_map}
use Rattle.std.specs.Global.{Vec}
use Rattle.std.specs.Map.{lookup, IsKeyTest, AreApart, KeepsOthers}
use Rattle.std.specs.Str.{bytes_eq}
use Rattle.std.specs.Cmp.Lexicographic.{nat_list_eq_equiv}
use Rattle.std.proofs.lemmas.Bool.{cases_Bool}
use Rattle.std.proofs.lemmas.Slice.Eq.{bytes_eq-Decides}
use Rattle.pg_expand.specs.declared.lookup.RowOperator.{RowOperator}
use Rattle.pg_expand.specs.Lookups.{Groups, found, IsAdded}

others_kept : {K V : Type 0} (eq : K → K → Bool) (test : K → Bool) (old new : List (K × V)) → KeepsOthers eq test old new →
    (other : K → Bool) → IsKeyTest eq other → AreApart test other → lookup other new ≡ lookup other old
unfolding KeepsOthers
others_kept eq test old new h = h

-- keys that have a symbol, and values that have operators
module _ {K V : Type 0} (symbol : K → List ℕ) (operators : V → List RowOperator) where
  abbrev pub shown : List (K × V) → Groups
  shown es = map (λ e. (symbol e.0, operators e.1)) es

  abbrev pub has : List ℕ → K → Bool
  has s k = bytes_eq s (symbol k)

  abbrev pub same : K → K → Bool
  same k l = bytes_eq (symbol k) (symbol l)

  abbrev pub at : List ℕ → List (K × V) → List RowOperator
  at s es = unwrap_or (option_map operators (lookup (has s) es)) []

  lookup_one : (b : Bool) (v : V) (x : Option (List RowOperator)) (y : Option V) → x ≡ option_map operators y →
      cond b (Some (operators v)) x ≡ option_map operators (cond b (Some v) y)
  lookup_one true v x y e = refl
  lookup_one false v x y e = e

  lookup-shown : (s : List ℕ) (es : List (K × V)) → lookup (bytes_eq s) (shown es) ≡ option_map operators (lookup (has s) es)
  lookup-shown s [] = refl
  lookup-shown s (e ∷ es) = lookup_one (bytes_eq s (symbol e.0)) e.1 (lookup (bytes_eq s) (shown es)) (lookup (has s) es) (lookup-shown s es)

  pub found-shown : (s : List ℕ) (es : List (K × V)) → found (shown es) s ≡ at s es
  found-shown s es = ap (λ (x : Option (List RowOperator)). unwrap_or x []) (lookup-shown s es)

  apart : (s t : List ℕ) → bytes_eq s t ≡ false → AreApart (has s) (has t)
  apart s t n k y = nat_list_eq_equiv.symm t (symbol k) ∙ (sym (nat_list_eq_equiv.congr s (symbol k) t y) ∙ n)

  kept : (s t : List ℕ) (old new : List (K × V)) → KeepsOthers same (has s) old new → bytes_eq s t ≡ false → lookup (has t) new ≡ lookup (has t) old
  kept s t old new h n = others_kept same (has s) old new h (has t) (λ x y. nat_list_eq_equiv.congr t (symbol x) (symbol y)) (apart s t n)

  -- the operators of one symbol are taken out, and put back with one more
  pub added : (s : List ℕ) (one : RowOperator) (old between new : List (K × V)) (group : V) → s ≡ one.operator.symbol →
      KeepsOthers same (has s) old between → KeepsOthers same (has s) between new → lookup (has s) new ≡ Some group → operators group ≡ at s old ++ one ∷ [] →
      IsAdded (shown old) one (shown new)
  added s one old between new group named out back there more t = elim (cases_Bool (bytes_eq s t)) [
    | inl y ↦ (let e : s ≡ t = (bytes_eq-Decides s t).0 y in
        found-shown t new ∙ (subst (λ u. at u new ≡ at u old ++ one ∷ []) e (ap (λ (x : Option V). unwrap_or (option_map operators x) []) there ∙ more)
        ∙ (ap (λ (l : List RowOperator). l ++ one ∷ []) (sym (found-shown t old))
        ∙ ap (λ b. found (shown old) t ++ cond b (one ∷ []) []) (sym y ∙ ap (λ u. bytes_eq u t) named))))
    | inr n ↦ (found-shown t new ∙ (ap (λ (x : Option V). unwrap_or (option_map operators x) []) (kept s t between new back n ∙ kept s t old between out n)
        ∙ (sym (found-shown t old) ∙ (sym (append-nil (found (shown old) t))
        ∙ ap (λ b. found (shown old) t ++ cond b (one ∷ []) []) (sym n ∙ ap (λ u. bytes_eq u t) named)))))
  ]

-- ---- as the code keeps them

abbrev pub symbol_of : Vec ℕ → List ℕ
symbol_of key = key.items

abbrev pub operators_of : Vec RowOperator → List RowOperator
operators_of group = group.items

abbrev pub shown_groups : List (Vec ℕ × Vec RowOperator) → Groups
shown_groups = shown symbol_of operators_of

pub found_group : (s : List ℕ) (es : List (Vec ℕ × Vec RowOperator)) → found (shown symbol_of operators_of es) s ≡ at symbol_of operators_of s es
found_group = found-shown symbol_of operators_of

-- a group is taken out, or a new one is made, one more operator comes to its end, and it is put in
pub group_added : (taken put : List ℕ) (one : RowOperator) (old between new : List (Vec ℕ × Vec RowOperator)) (result : Option (Vec RowOperator)) (before after : Vec RowOperator) →
    taken ≡ put → put ≡ one.operator.symbol → KeepsOthers (same symbol_of operators_of) (has symbol_of operators_of taken) old between →
    KeepsOthers (same symbol_of operators_of) (has symbol_of operators_of put) between new → lookup (has symbol_of operators_of put) new ≡ Some after →
    result ≡ lookup (has symbol_of operators_of taken) old → before.items ≡ unwrap_or (option_map operators_of result) [] → after.items ≡ before.items ++ one ∷ [] →
    IsAdded (shown symbol_of operators_of old) one (shown symbol_of operators_of new)
group_added taken put one old between new result before after e named out back there found_before is_before is_after =
    added symbol_of operators_of put one old between new after named
    (subst (λ s. KeepsOthers (same symbol_of operators_of) (has symbol_of operators_of s) old between) e out) back there
    (is_after ∙ ap (λ (l : List RowOperator). l ++ one ∷ []) (is_before
    ∙ (ap (λ (x : Option (Vec RowOperator)). unwrap_or (option_map operators_of x) []) found_before ∙ ap (λ (s : List ℕ). at symbol_of operators_of s old) e)))
