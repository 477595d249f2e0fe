-- The operators of a tree in reading order tell its reading: their sides tell where the terms stand.
use Rattle.std.proofs.Common.{◌≡◌, List, [], ◌∷◌, ◌++◌, refl, sym, ap, ◌∙◌, append_assoc, append-nil}
use Rattle.pg_grammar_value.specs.declared.trail.AppliedOperator.{AppliedOperator}
use Rattle.pg_grammar_value.specs.declared.trail.Fixity.{Fixity}
use Rattle.pg_grammar_value.specs.declared.trail.Fixity.TheVariants as fixity
use Rattle.pg_table.specs.Fitting.{Expression, term, prefixed, postfixed, joined}
use Rattle.pg_table.specs.Trails.{applied, operators_read}
use Rattle.pg_expand.specs.Readings.{Token, a_term, an_operator, reading}

-- what is read from an operator on, where an operand is still to come, and where one has been read
abbrev reads_on : Fixity → AppliedOperator → List Token × List Token → List Token × List Token
reads_on fixity.Prefix o rest = (an_operator o ∷ rest.0, an_operator o ∷ rest.0)
reads_on fixity.Infix o rest = (a_term ∷ (an_operator o ∷ rest.0), an_operator o ∷ rest.0)
reads_on fixity.Postfix o rest = (a_term ∷ (an_operator o ∷ rest.1), an_operator o ∷ rest.1)

abbrev tokens_of : List AppliedOperator → List Token × List Token
tokens_of [] = (a_term ∷ [], [])
tokens_of (o ∷ os) = reads_on o.fixity o (tokens_of os)

-- a tree with operators after it, the first of which is no prefix
reads_tree : (x : Expression) (os : List AppliedOperator) → (tokens_of os).0 ≡ a_term ∷ (tokens_of os).1 → (tokens_of (operators_read x ++ os)).0 ≡ reading x ++ (tokens_of os).1
reads_tree term os h = h
reads_tree (prefixed o x) os h = ap (λ (l : List Token). an_operator (applied fixity.Prefix o) ∷ l) (reads_tree x os h)
reads_tree (postfixed o x) os h =
    ap (λ (l : List AppliedOperator). (tokens_of l).0) (append_assoc (operators_read x) (applied fixity.Postfix o ∷ []) os)
    ∙ (reads_tree x (applied fixity.Postfix o ∷ os) refl ∙ sym (append_assoc (reading x) (an_operator (applied fixity.Postfix o) ∷ []) (tokens_of os).1))
reads_tree (joined o x y) os h =
    ap (λ (l : List AppliedOperator). (tokens_of l).0) (append_assoc (operators_read x) (applied fixity.Infix o ∷ operators_read y) os)
    ∙ (reads_tree x (applied fixity.Infix o ∷ (operators_read y ++ os)) refl
    ∙ (ap (λ (l : List Token). reading x ++ an_operator (applied fixity.Infix o) ∷ l) (reads_tree y os h)
    ∙ sym (append_assoc (reading x) (an_operator (applied fixity.Infix o) ∷ reading y) (tokens_of os).1)))

reads_whole : (x : Expression) → (tokens_of (operators_read x)).0 ≡ reading x
reads_whole x = ap (λ (l : List AppliedOperator). (tokens_of l).0) (sym (append-nil (operators_read x))) ∙ (reads_tree x [] refl ∙ append-nil (reading x))

pub told_reading : (x y : Expression) → operators_read x ≡ operators_read y → reading x ≡ reading y
told_reading x y e = sym (reads_whole x) ∙ (ap (λ (l : List AppliedOperator). (tokens_of l).0) e ∙ reads_whole y)
