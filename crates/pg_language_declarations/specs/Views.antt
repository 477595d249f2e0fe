-- The code's view of a declaration in terms of the definitions.
use Rattle.pg_grammar_form.specs.Operators.{Operator, IsOperator}
use Rattle.pg_language.specs.Declarations as read
use Rattle.pg_language_declarations.specs.declared.declaration.Declaration.{Declaration}
use Rattle.pg_language_declarations.specs.declared.declaration.Declaration.TheVariants as declaration
use Rattle.pg_language_declarations.specs.declared.declaration.Declared.{Declared}

abbrev pub operator_of : Declared → Operator
operator_of d = record { role = d.role; precedence = d.precedence; symbol = d.symbol.now }

abbrev pub declaration_of : Declaration → read.Declaration
declaration_of declaration.NoKeyword = read.no_keyword
declaration_of (declaration.NoDigit i) = read.no_digit i
declaration_of (declaration.NoSymbol i) = read.no_symbol i
declaration_of (declaration.Declared d) = read.declared (operator_of d) d.place d.end

-- the operator that was read, if there is one, can be declared
abbrev pub IsProper : read.Declaration → Type 0
IsProper read.no_keyword = Unit {0}
IsProper (read.no_digit i) = Unit {0}
IsProper (read.no_symbol i) = Unit {0}
IsProper (read.declared d i j) = IsOperator d
