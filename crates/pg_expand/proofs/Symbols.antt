-- In a table of a grammar a symbol and a side tell the operator, so that a reading tells the operators of its tree.
use Rattle.std.proofs.Common.{◌≡◌, ◌⊎◌, ℕ, suc, Bool, true, false, not, ◌&&◌, ◌||◌, if◌then◌else◌, nat_lt, nat_le, List, [], ◌∷◌, ◌++◌, map, Option, Some, None, length, inl, inr, refl, sym, ap, subst, ◌∙◌}
use Rattle.std.specs.Cmp.Derive.{both_true}
use Rattle.pg_table.proofs.Added.{same_table}
use Rattle.std.specs.List.{AllByRecursion, list_any}
use Rattle.std.specs.Str.{bytes_eq}
use Rattle.std.proofs.lemmas.Slice.Eq.{bytes_eq-Decides}
use Rattle.std.proofs.lemmas.List.{map-append}
use Rattle.std.proofs.lemmas.Bool.{or_right}
use Rattle.pg_grammar_value.specs.Grammar.{Grammar}
use Rattle.pg_grammar_form.specs.Operators.{Operator}
use Rattle.pg_grammar_form.specs.declared.decl.Role.{Role}
use Rattle.pg_grammar_form.specs.declared.decl.Role.TheVariants.{InfixLeft, InfixRight, InfixNone, Prefix, Postfix}
use Rattle.pg_grammar_form.specs.declared.operators_item.OperatorsItem.{OperatorsItem}
use Rattle.pg_grammar_value.specs.declared.trail.AppliedOperator.{AppliedOperator}
use Rattle.pg_grammar_value.specs.declared.trail.Fixity.{Fixity}
use Rattle.pg_grammar_value.specs.declared.trail.Fixity.TheVariants as fixity
use Rattle.pg_table.specs.declared.admit_fault.AdmitFault.{AdmitFault}
use Rattle.pg_table.specs.declared.admit_fault.AdmitFault.TheVariants.{SymbolTooLong, SymbolReserved, PrefixThere, SymbolThere, TableFull}
use Rattle.pg_table.specs.Tables.{Table, is_prefix, has_prefix, has_other, Admits, with_operator, empty_table, Added, whole, added_unless, added_from, ComesFrom}
use Rattle.pg_table.specs.Fitting.{Expression, term, prefixed, postfixed, joined, IsInfix, IsFitting}
use Rattle.pg_table.specs.Trails.{applied}
use Rattle.pg_expand.specs.Readings.{Token, a_term, an_operator, reading}
use Rattle.pg_expand.proofs.Members.{Among, among_either}
use Rattle.pg_expand.proofs.Ranks.{Mark, blank, mark, marks}
use Rattle.pg_expand.proofs.OneTree.{one_tree}
use Rattle.pg_expand.proofs.Levels.{to_member}

-- ---- symbols in a table

-- a symbol and the question whether it is a prefix's tell the operator
abbrev pub AreTold : List Operator → Type 0
AreTold os = (o p : Operator) → Among o os → Among p os → is_prefix o.role ≡ is_prefix p.role → o.symbol ≡ p.symbol → o ≡ p

any_member : (test : Operator → Bool) (os : List Operator) (o : Operator) → Among o os → test o ≡ true → list_any test os ≡ true
any_member test [] o h t = absurd h
any_member test (p ∷ os) o (inl e) t = ap (λ b. b || list_any test os) (sym (ap test e) ∙ t)
any_member test (p ∷ os) o (inr h) t = or_right (test p) (list_any test os) (any_member test os o h t)

same_bytes : (a b : List ℕ) → a ≡ b → bytes_eq a b ≡ true
same_bytes a b e = (bytes_eq-Decides a b).1 e

-- of five reasons none holds, so neither the third does nor the fourth
no_reason : (a b c d e : Bool) (first second third fourth fifth : AdmitFault) →
    (if a then Some first else if b then Some second else if c then Some third else if d then Some fourth else if e then Some fifth else None) ≡ None → (c ≡ false) × (d ≡ false)
no_reason true b c d e first second third fourth fifth h = absurd cc
no_reason false true c d e first second third fourth fifth h = absurd cc
no_reason false false true d e first second third fourth fifth h = absurd cc
no_reason false false false true e first second third fourth fifth h = absurd cc
no_reason false false false false e first second third fourth fifth h = (refl, refl)

true_not_false : (b : Bool) → b ≡ true → b ≡ false → ⊥
true_not_false b e h = cc

-- an operator that is admitted has another symbol than those on its side
pub new_symbol : (table : Table) (d o : Operator) → Admits table d → Among o table.operators → is_prefix o.role ≡ is_prefix d.role → o.symbol ≡ d.symbol → ⊥
new_symbol table d o admits among side symbol =
    let neither =
    no_reason (nat_lt 16 (length d.symbol)) (list_any (λ s. bytes_eq s d.symbol) table.reserved) (is_prefix d.role && has_prefix table.operators d.symbol)
    (not (is_prefix d.role) && has_other table.operators d.symbol) (nat_le table.most (length table.operators)) SymbolTooLong SymbolReserved PrefixThere SymbolThere TableFull admits in
    by_side (is_prefix d.role) refl neither.0 neither.1
  where
    by_side : (b : Bool) → is_prefix d.role ≡ b → (is_prefix d.role && has_prefix table.operators d.symbol) ≡ false → (not (is_prefix d.role) && has_other table.operators d.symbol) ≡ false → ⊥
    by_side true e p q =
        true_not_false _ (both_true e
        (any_member (λ o. is_prefix o.role && bytes_eq o.symbol d.symbol) table.operators o among (both_true (side ∙ e) (same_bytes o.symbol d.symbol symbol)))) p
    by_side false e p q =
        true_not_false _ (both_true (ap not e)
        (any_member (λ o. not (is_prefix o.role) && bytes_eq o.symbol d.symbol) table.operators o among (both_true (ap not (side ∙ e)) (same_bytes o.symbol d.symbol symbol)))) q

told_with : (table : Table) (d : Operator) → AreTold table.operators → Admits table d → AreTold (table.operators ++ d ∷ [])
told_with table d told admits o p m n side symbol = by_place (among_either o table.operators (d ∷ []) m) (among_either p table.operators (d ∷ []) n)
  where
    by_place : Among o table.operators ⊎ Among o (d ∷ []) → Among p table.operators ⊎ Among p (d ∷ []) → o ≡ p
    by_place (inl a) (inl b) = told o p a b side symbol
    by_place (inl a) (inr (inl e)) = absurd (new_symbol table d o admits a (side ∙ ap (λ (q : Operator). is_prefix q.role) e) (symbol ∙ ap (λ (q : Operator). q.symbol) e))
    by_place (inl a) (inr (inr b)) = absurd b
    by_place (inr (inl e)) (inl b) = absurd (new_symbol table d p admits b (sym side ∙ ap (λ (q : Operator). is_prefix q.role) e) (sym symbol ∙ ap (λ (q : Operator). q.symbol) e))
    by_place (inr (inl e)) (inr (inl h)) = e ∙ sym h
    by_place (inr (inl e)) (inr (inr b)) = absurd b
    by_place (inr (inr a)) b = absurd a

-- ---- tables of a grammar

-- where operators were added, nothing was wrong with the first
pub added_whole : (fault : Option AdmitFault) (k : ℕ) (others : Added) (u : Table) → added_unless fault k others ≡ whole u → (fault ≡ None) × (others ≡ whole u)
added_whole None k others u e = (refl, e)
added_whole (Some fault) k others u e = absurd cc

told_added : (k : ℕ) (t u : Table) (ds : List Operator) → AreTold t.operators → added_from k t ds ≡ whole u → AreTold u.operators
told_added k t u [] told e = subst (λ (t : Table). AreTold t.operators) (same_table t u e) told
told_added k t u (d ∷ ds) told e = let step = added_whole _ k _ u e in told_added (suc k) (with_operator t d) u ds (told_with t d told step.0) step.1

told_none : (item : Option OperatorsItem) → AreTold (empty_table item).operators
told_none None o p m n side symbol = absurd m
told_none (Some item) o p m n side symbol = absurd m

pub told_table : (g : Grammar) (table : Table) → ComesFrom g table → AreTold table.operators
told_table g table comes =
    told_added 0 comes.first table comes.further (told_added 0 (empty_table g.operators) comes.first g.initials (told_none g.operators) comes.initial) comes.added

-- ---- readings

-- what a reading shows of a mark
abbrev seen : Mark → Token
seen blank = a_term
seen (mark side o) = an_operator (applied side o)

seen-reading : (x : Expression) → map seen (marks x) ≡ reading x
seen-reading term = refl
seen-reading (prefixed o x) = ap (λ (l : List Token). an_operator (applied fixity.Prefix o) ∷ l) (seen-reading x)
seen-reading (postfixed o x) =
    map-append seen (marks x) (mark fixity.Postfix o ∷ []) ∙ ap (λ (l : List Token). l ++ an_operator (applied fixity.Postfix o) ∷ []) (seen-reading x)
seen-reading (joined o x y) =
    map-append seen (marks x) (mark fixity.Infix o ∷ marks y)
    ∙ (ap (λ (l : List Token). l ++ an_operator (applied fixity.Infix o) ∷ map seen (marks y)) (seen-reading x)
    ∙ ap (λ (l : List Token). reading x ++ an_operator (applied fixity.Infix o) ∷ l) (seen-reading y))

-- a role that stands on a side
abbrev StandsOn : Fixity → Role → Type 0
StandsOn fixity.Prefix role = role ≡ Prefix
StandsOn fixity.Infix role = IsInfix role
StandsOn fixity.Postfix role = role ≡ Postfix

-- a mark of an operator of the table, on the side where its role stands
abbrev IsOf : List Operator → Mark → Type 0
IsOf os blank = Unit {0}
IsOf os (mark side o) = Among o os × StandsOn side o.role

of_both : (os : List Operator) (xs ys : List Mark) → AllByRecursion (IsOf os) xs → AllByRecursion (IsOf os) ys → AllByRecursion (IsOf os) (xs ++ ys)
of_both os [] ys a b = b
of_both os (x ∷ xs) ys a b = (a.0, of_both os xs ys a.1 b)

marks_of : (os : List Operator) (x : Expression) → IsFitting os x → AllByRecursion (IsOf os) (marks x)
marks_of os term f = (tt, tt)
marks_of os (prefixed o x) f = ((to_member os o f.0, f.1), marks_of os x f.2)
marks_of os (postfixed o x) f = of_both os (marks x) (mark fixity.Postfix o ∷ []) (marks_of os x f.2) ((to_member os o f.0, f.1), tt)
marks_of os (joined o x y) f = of_both os (marks x) (mark fixity.Infix o ∷ marks y) (marks_of os x f.2) ((to_member os o f.0, f.1), marks_of os y f.3)

-- ---- marks that look the same

-- an infix role is no prefix
pub infix_is_no_prefix : (role : Role) → IsInfix role → is_prefix role ≡ false
infix_is_no_prefix InfixLeft i = refl
infix_is_no_prefix InfixRight i = refl
infix_is_no_prefix InfixNone i = refl
infix_is_no_prefix Prefix i = absurd i
infix_is_no_prefix Postfix i = absurd i

same_half : (side : Fixity) (r q : Role) → StandsOn side r → StandsOn side q → is_prefix r ≡ is_prefix q
same_half fixity.Prefix r q a b = ap is_prefix (a ∙ sym b)
same_half fixity.Infix r q a b = infix_is_no_prefix r a ∙ sym (infix_is_no_prefix q b)
same_half fixity.Postfix r q a b = ap is_prefix (a ∙ sym b)

same_applied : (r q : AppliedOperator) → an_operator r ≡ an_operator q → r ≡ q
same_applied r q e = cc

same_fixity : (a b : Fixity) (o p : Operator) → an_operator (applied a o) ≡ an_operator (applied b p) → a ≡ b
same_fixity a b o p e = ap (λ (r : AppliedOperator). r.fixity) (same_applied (applied a o) (applied b p) e)

same_symbol : (a b : Fixity) (o p : Operator) → an_operator (applied a o) ≡ an_operator (applied b p) → o.symbol ≡ p.symbol
same_symbol a b o p e = ap (λ (r : AppliedOperator). r.symbol) (same_applied (applied a o) (applied b p) e)

same_marks : (a b : Fixity) (o p : Operator) → a ≡ b → o ≡ p → mark a o ≡ mark b p
same_marks a b o p e h = cc

one_mark : (os : List Operator) → AreTold os → (m n : Mark) → IsOf os m → IsOf os n → seen m ≡ seen n → m ≡ n
one_mark os told blank blank a b e = refl
one_mark os told blank (mark side o) a b e = absurd cc
one_mark os told (mark side o) blank a b e = absurd cc
one_mark os told (mark side o) (mark other p) a b e =
    let sides = same_fixity side other o p e in
    let on_side : StandsOn side p.role = subst (λ s. StandsOn s p.role) (sym sides) b.1 in
    same_marks side other o p sides (told o p a.0 b.0 (same_half side o.role p.role a.1 on_side) (same_symbol side other o p e))

cons_both : (m n : Mark) (xs ys : List Mark) → m ≡ n → xs ≡ ys → m ∷ xs ≡ n ∷ ys
cons_both m n xs ys e h = cc

first_seen : (s t : Token) (xs ys : List Token) → s ∷ xs ≡ t ∷ ys → s ≡ t
first_seen s t xs ys e = cc

rest_seen : (s t : Token) (xs ys : List Token) → s ∷ xs ≡ t ∷ ys → xs ≡ ys
rest_seen s t xs ys e = cc

one_list : (os : List Operator) → AreTold os → (xs ys : List Mark) → AllByRecursion (IsOf os) xs → AllByRecursion (IsOf os) ys → map seen xs ≡ map seen ys → xs ≡ ys
one_list os told [] [] a b e = refl
one_list os told [] (n ∷ ys) a b e = absurd cc
one_list os told (m ∷ xs) [] a b e = absurd cc
one_list os told (m ∷ xs) (n ∷ ys) a b e =
    cons_both m n xs ys (one_mark os told m n a.0 b.0 (first_seen (seen m) (seen n) (map seen xs) (map seen ys) e))
    (one_list os told xs ys a.1 b.1 (rest_seen (seen m) (seen n) (map seen xs) (map seen ys) e))

-- two fitting trees with one reading are equal
pub one_reading : (os : List Operator) → AreTold os → (x y : Expression) → IsFitting os x → IsFitting os y → reading x ≡ reading y → x ≡ y
one_reading os told x y f g e =
    one_tree os x y f g (one_list os told (marks x) (marks y) (marks_of os x f) (marks_of os y g) (seen-reading x ∙ (e ∙ sym (seen-reading y))))
