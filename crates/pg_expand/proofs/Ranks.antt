-- The operators in a fitting tree, by their rows.
use Rattle.std.proofs.Common.{◌≡◌, ◌⊎◌, ◌<◌, ◌≤◌, ℕ, List, [], ◌∷◌, ◌++◌, inl, inr, sym, ap, ◌∙◌, arith}
use Rattle.pg_grammar_form.specs.Operators.{Operator}
use Rattle.pg_grammar_form.specs.declared.decl.Role.{Role}
use Rattle.pg_grammar_form.specs.declared.decl.Role.TheVariants.{InfixLeft, InfixRight}
use Rattle.pg_grammar_value.specs.declared.trail.Fixity.{Fixity}
use Rattle.pg_grammar_value.specs.declared.trail.Fixity.TheVariants as fixity
use Rattle.pg_table.specs.Fitting.{Expression, term, prefixed, postfixed, joined, row, rank, IsPrefixed, IsUnary, IsJoined, IsFittingSide, IsFitting}
use Rattle.pg_expand.proofs.Members.{Among, among_either}

-- a term, or an operator with the side on which it stands
pub data Mark : Type 0 where
  blank : Mark
  mark : Fixity → Operator → Mark

-- the operators and terms of a tree from left to right
abbrev pub marks : Expression → List Mark
marks term = blank ∷ []
marks (prefixed o x) = mark fixity.Prefix o ∷ marks x
marks (postfixed o x) = marks x ++ mark fixity.Postfix o ∷ []
marks (joined o x y) = marks x ++ mark fixity.Infix o ∷ marks y

pub same_operator : (a b : Fixity) (o p : Operator) → mark a o ≡ mark b p → o ≡ p
same_operator a b o p e = cc

pub same_side : (a b : Fixity) (o p : Operator) → mark a o ≡ mark b p → a ≡ b
same_side a b o p e = cc

-- ---- operands

pub unary_rank : (operators : List Operator) (k : ℕ) (x : Expression) → IsUnary operators k x → rank operators x ≡ k
unary_rank operators k term u = absurd u
unary_rank operators k (prefixed o x) u = u
unary_rank operators k (postfixed o x) u = u
unary_rank operators k (joined o x y) u = absurd u

pub joined_rank : (operators : List Operator) (side : Role) (k : ℕ) (x : Expression) → IsJoined operators side k x → rank operators x ≡ k
joined_rank operators side k term j = absurd j
joined_rank operators side k (prefixed o x) j = absurd j
joined_rank operators side k (postfixed o x) j = absurd j
joined_rank operators side k (joined o x y) j = j.0

pub prefixed_rank : (operators : List Operator) (k : ℕ) (x : Expression) → IsPrefixed operators k x → rank operators x ≡ k
prefixed_rank operators k term u = absurd u
prefixed_rank operators k (prefixed o x) u = u
prefixed_rank operators k (postfixed o x) u = absurd u
prefixed_rank operators k (joined o x y) u = absurd u

pub side_rank : (operators : List Operator) (side : Role) (o : Operator) (x : Expression) → IsFittingSide operators side o x → rank operators x ≤ row operators o
side_rank operators side o x (inl (inl below)) = omega arith
side_rank operators side o x (inl (inr u)) = let e = unary_rank operators (row operators o) x u in omega arith
side_rank operators side o x (inr j) = let e = joined_rank operators side (row operators o) x j.1 in omega arith

pub postfixed_operand : (operators : List Operator) (o : Operator) (x : Expression) → (rank operators x < row operators o) ⊎ IsPrefixed operators (row operators o) x → rank operators x ≤ row operators o
postfixed_operand operators o x (inl below) = omega arith
postfixed_operand operators o x (inr u) = let e = prefixed_rank operators (row operators o) x u in omega arith

-- ---- all operators

-- no operator of a fitting tree has a looser row than the tree
pub within : (operators : List Operator) (x : Expression) (side : Fixity) (o : Operator) → IsFitting operators x → Among (mark side o) (marks x) → row operators o ≤ rank operators x
within operators term side o f (inl e) = absurd cc
within operators term side o f (inr h) = absurd h
within operators (prefixed p x) side o f (inl e) = let same : row operators o ≡ row operators p = ap (row operators) (same_operator side fixity.Prefix o p e) in omega arith
within operators (prefixed p x) side o f (inr h) = let below = within operators x side o f.2 h in let lower = f.3 in omega arith
within operators (postfixed p x) side o f h = elim (among_either (mark side o) (marks x) (mark fixity.Postfix p ∷ []) h) [
  | inl m ↦ (let below = within operators x side o f.2 m in let lower = postfixed_operand operators p x f.3 in omega arith)
  | inr (inl e) ↦ (let same : row operators o ≡ row operators p = ap (row operators) (same_operator side fixity.Postfix o p e) in omega arith)
  | inr (inr m) ↦ absurd m
]
within operators (joined p x y) side o f h = elim (among_either (mark side o) (marks x) (mark fixity.Infix p ∷ marks y) h) [
  | inl m ↦ (let below = within operators x side o f.2 m in let lower = side_rank operators InfixLeft p x f.4 in omega arith)
  | inr (inl e) ↦ (let same : row operators o ≡ row operators p = ap (row operators) (same_operator side fixity.Infix o p e) in omega arith)
  | inr (inr m) ↦ (let below = within operators y side o f.3 m in let lower = side_rank operators InfixRight p y f.5 in omega arith)
]

-- ---- infix operators

between_before : (o p : Operator) → mark fixity.Infix o ≡ mark fixity.Prefix p → ⊥
between_before o p e = let same = same_side fixity.Infix fixity.Prefix o p e in absurd cc

between_after : (o p : Operator) → mark fixity.Infix o ≡ mark fixity.Postfix p → ⊥
between_after o p e = let same = same_side fixity.Infix fixity.Postfix o p e in absurd cc

-- an infix operator in an operand of a prefix of a row has a tighter row
prefixed_infix : (operators : List Operator) (k : ℕ) (x : Expression) (o : Operator) → IsFitting operators x → IsPrefixed operators k x → Among (mark fixity.Infix o) (marks x) → row operators o < k
prefixed_infix operators k term o f u m = absurd u
prefixed_infix operators k (prefixed p x) o f u (inl e) = absurd (between_before o p e)
prefixed_infix operators k (prefixed p x) o f u (inr m) = let below = within operators x fixity.Infix o f.2 m in let lower = f.3 in omega arith
prefixed_infix operators k (postfixed p x) o f u m = absurd u
prefixed_infix operators k (joined p x y) o f u m = absurd u

under_postfix : (operators : List Operator) (p : Operator) (x : Expression) (o : Operator) → IsFitting operators x → (rank operators x < row operators p) ⊎ IsPrefixed operators (row operators p) x →
    Among (mark fixity.Infix o) (marks x) → row operators o < row operators p
under_postfix operators p x o f (inl lower) m = let below = within operators x fixity.Infix o f m in omega arith
under_postfix operators p x o f (inr u) m = prefixed_infix operators (row operators p) x o f u m

-- an infix operator in an operand has a tighter row
pub operand_infix : (operators : List Operator) (k : ℕ) (x : Expression) (o : Operator) → IsFitting operators x → (rank operators x < k) ⊎ IsUnary operators k x → Among (mark fixity.Infix o) (marks x) → row operators o < k
operand_infix operators k x o f (inl lower) m = let below = within operators x fixity.Infix o f m in omega arith
operand_infix operators k term o f (inr u) m = absurd u
operand_infix operators k (prefixed p x) o f (inr u) m = prefixed_infix operators k (prefixed p x) o f u m
operand_infix operators k (postfixed p x) o f (inr u) m = elim (among_either (mark fixity.Infix o) (marks x) (mark fixity.Postfix p ∷ []) m) [
  | inl h ↦ (let below = under_postfix operators p x o f.2 f.3 h in let same : row operators p ≡ k = u in omega arith)
  | inr (inl e) ↦ absurd (between_after o p e)
  | inr (inr h) ↦ absurd h
]
operand_infix operators k (joined p x y) o f (inr u) m = absurd u

-- an infix operator of the row on the side of another stands in a tree of it, and associates to that side
pub side_infix : (operators : List Operator) (side : Role) (p : Operator) (x : Expression) (o : Operator) → IsFitting operators x → IsFittingSide operators side p x → Among (mark fixity.Infix o) (marks x) → row operators o ≡ row operators p →
    (p.role ≡ side) × IsJoined operators side (row operators p) x
side_infix operators side p x o f (inl operand) m e = let below = operand_infix operators (row operators p) x o f operand m in absurd (omega arith)
side_infix operators side p x o f (inr j) m e = j

-- no role is left- and right-associative
pub sides_differ : (r : Role) → r ≡ InfixLeft → r ≡ InfixRight → ⊥
sides_differ r e h = cc

-- all infix operators of the row in a tree of left-associative ones associate to the left
pub left_infix : (operators : List Operator) (k : ℕ) (x : Expression) (o : Operator) → IsFitting operators x → IsJoined operators InfixLeft k x → Among (mark fixity.Infix o) (marks x) → row operators o ≡ k → o.role ≡ InfixLeft
left_infix operators k term o f j m e = absurd j
left_infix operators k (prefixed p x) o f j m e = absurd j
left_infix operators k (postfixed p x) o f j m e = absurd j
left_infix operators k (joined p x y) o f j m e = elim (among_either (mark fixity.Infix o) (marks x) (mark fixity.Infix p ∷ marks y) m) [
  | inl h ↦ (let there = side_infix operators InfixLeft p x o f.2 f.4 h (e ∙ sym j.0) in left_infix operators (row operators p) x o f.2 there.1 h (e ∙ sym j.0))
  | inr (inl h) ↦ (ap (λ (q : Operator). q.role) (same_operator fixity.Infix fixity.Infix o p h) ∙ j.1)
  | inr (inr h) ↦ (let there = side_infix operators InfixRight p y o f.3 f.5 h (e ∙ sym j.0) in absurd (sides_differ p.role j.1 there.0))
]
