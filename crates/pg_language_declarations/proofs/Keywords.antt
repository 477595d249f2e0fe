-- Keywords that stand in a text lie within it.
use Rattle.std.proofs.Common.{◌≡◌, ◌+◌, ◌<◌, ◌≤◌, ℕ, List, true, sym, ap, drop, length, arith, length-take, length-drop}
use Rattle.std.specs.Prelude.{Some}
use Rattle.std.proofs.lemmas.Slice.Eq.{bytes_eq-Decides}
use Rattle.pg_grammar_form.specs.declared.class.ClassPart.{ClassPart}
use Rattle.pg_grammar_form.specs.declared.decl.Role.{Role}
use Rattle.pg_grammar_value.specs.Grammar.{Grammar}
use Rattle.pg_language.specs.Runs.{keyword, stands_at, StandsAt}
use Rattle.pg_language.specs.Declarations.{has_keyword, roles, role_at}
use Rattle.pg_language.proofs.DeclarationsDerived.{found, keyword_there, keyword_spelled}

within : (text word : List ℕ) (i : ℕ) → StandsAt text i word → 0 < length word → i + length word ≤ length text
within text word i h l =
    let shown = ap length h in let taken = length-take (length word) (drop i text) in let dropped = length-drop i text in
    omega (arith, shown, taken, dropped)

-- a word that a test finds there, and that has a character
pub stands_within : (text word : List ℕ) (i : ℕ) → stands_at text i word ≡ true → 0 < length word → i + length word ≤ length text
stands_within text word i e l = within text word i (sym ((bytes_eq-Decides _ _).0 e)) l

-- the keyword of the role that is found
pub role_within : (g : Grammar) (text : List ℕ) (class : List ClassPart) (i : ℕ) (role : Role) → role_at g text class i ≡ Some role → i + length (keyword role) ≤ length text
role_within g text class i role e =
    let there = keyword_there g text class i role (found (has_keyword g text class i) roles role e) in
    within text (keyword role) i there.begins (keyword_spelled role)
