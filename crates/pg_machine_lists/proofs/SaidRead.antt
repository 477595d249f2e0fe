-- What is said where operators aren't read, by whether there are any.
use Rattle.std.proofs.Common.{◌≡◌, ℕ, Bool, List, [], ◌∷◌, ◌++◌, refl, sym, ap}
use Rattle.std.specs.Prelude.{◌||◌}
use Rattle.pg_grammar_form.specs.Operators.{Operator}
use Rattle.pg_language_operators.specs.RowRoles.{is_any}
use Rattle.pg_machine_lists.specs.TapeLevels.{Said, wanted, no_affix_said, unread_said, no_infix_said}
use Rattle.pg_machine_lists.specs.ViewLevels.{seen_if, operator_if}

pub no_affix_by : (text : List ℕ) (operators : List Operator) (i : ℕ) (any : Bool) → any ≡ is_any operators →
    no_affix_said text operators i ≡ record { place = i; messages = seen_if any text i ++ wanted [] ∷ [] }
no_affix_by text [] i any h = ap {B = Said} (λ (any : Bool). record { place = i; messages = seen_if any text i ++ wanted [] ∷ [] }) (sym h)
no_affix_by text (o ∷ os) i any h = ap {B = Said} (λ (any : Bool). record { place = i; messages = seen_if any text i ++ wanted [] ∷ [] }) (sym h)

pub unread_by : (text : List ℕ) (operators : List Operator) (i : ℕ) (any : Bool) → any ≡ is_any operators →
    unread_said text operators i ≡ record { place = i; messages = seen_if any text i ++ [] }
unread_by text [] i any h = ap {B = Said} (λ (any : Bool). record { place = i; messages = seen_if any text i ++ [] }) (sym h)
unread_by text (o ∷ os) i any h = ap {B = Said} (λ (any : Bool). record { place = i; messages = seen_if any text i ++ [] }) (sym h)

pub no_infix_by : (text : List ℕ) (operators : List Operator) (i : ℕ) (any : Bool) → any ≡ is_any operators →
    no_infix_said text operators i ≡ record { place = i; messages = seen_if any text i ++ operator_if any }
no_infix_by text [] i any h = ap {B = Said} (λ (any : Bool). record { place = i; messages = seen_if any text i ++ operator_if any }) (sym h)
no_infix_by text (o ∷ os) i any h = ap {B = Said} (λ (any : Bool). record { place = i; messages = seen_if any text i ++ operator_if any }) (sym h)

-- a row has infix operators where it has some that associate to the right, to the left, or to neither side
pub infix_any : (right left non : List Operator) → ((is_any right || is_any left) || is_any non) ≡ is_any (right ++ (left ++ non))
infix_any [] [] non = refl
infix_any [] (o ∷ left) non = refl
infix_any (o ∷ right) left non = refl
