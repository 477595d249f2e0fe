-- What is read where a declaration stands is an operator that can be declared.
use Rattle.std.proofs.Common.{◌≡◌, ℕ, List, sym, subst}
use Rattle.pg_grammar_form.specs.declared.class.ClassPart.{ClassPart}
use Rattle.pg_grammar_form.specs.declared.operators_item.OperatorsItem.{OperatorsItem}
use Rattle.pg_grammar_value.specs.Grammar.{Grammar}
use Rattle.pg_language.specs.Declarations.{Declaration, no_keyword, no_digit, no_symbol, declared, declaration_at}
use Rattle.pg_language.proofs.DeclarationsDerived.{Stands, declaration_stands}
use Rattle.pg_language_declarations.specs.Views.{IsProper}

stands_proper : (g : Grammar) (text : List ℕ) (item : OperatorsItem) (class : List ClassPart) (i : ℕ) (x : Declaration) → Stands g text item class i x → IsProper x
stands_proper g text item class i no_keyword h = tt
stands_proper g text item class i (no_digit j) h = tt
stands_proper g text item class i (no_symbol j) h = tt
stands_proper g text item class i (declared d k j) h = record { digit = h.precedence; spelled = h.spelled }

pub is_proper : (g : Grammar) (text : List ℕ) (item : OperatorsItem) (class : List ClassPart) (i : ℕ) (x : Declaration) → x ≡ declaration_at g text item class i → IsProper x
is_proper g text item class i x e = stands_proper g text item class i x (subst (Stands g text item class i) (sym e) (declaration_stands g text item class i))
