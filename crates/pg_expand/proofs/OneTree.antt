-- Two fitting trees with one reading are equal.
use Rattle.std.proofs.Common.{◌≡◌, ◌≤◌, List, [], ◌∷◌, ◌++◌, inl, inr, refl, sym, subst, arith}
use Rattle.pg_grammar_form.specs.Operators.{Operator}
use Rattle.pg_grammar_form.specs.declared.decl.Role.TheVariants.{InfixLeft, InfixRight}
use Rattle.pg_grammar_value.specs.declared.trail.Fixity.{Fixity}
use Rattle.pg_grammar_value.specs.declared.trail.Fixity.TheVariants as fixity
use Rattle.pg_table.specs.Fitting.{Expression, term, prefixed, postfixed, joined, row, rank, IsFitting}
use Rattle.pg_expand.proofs.Members.{Among, among_after, split_at}
use Rattle.pg_expand.proofs.Ranks.{sides_differ, Mark, blank, mark, marks, same_operator, same_side, within, operand_infix, side_infix, left_infix}

-- ---- ranks

rank_within : (operators : List Operator) (x y : Expression) → IsFitting operators y → marks x ≡ marks y → rank operators x ≤ rank operators y
rank_within operators term y g e = omega arith
rank_within operators (prefixed o x) y g e = within operators y fixity.Prefix o g (subst (λ l. Among (mark fixity.Prefix o) l) e (inl refl))
rank_within operators (postfixed o x) y g e = within operators y fixity.Postfix o g (subst (λ l. Among (mark fixity.Postfix o) l) e (among_after (mark fixity.Postfix o) (marks x) (mark fixity.Postfix o ∷ []) (inl refl)))
rank_within operators (joined o x z) y g e = within operators y fixity.Infix o g (subst (λ l. Among (mark fixity.Infix o) l) e (among_after (mark fixity.Infix o) (marks x) (mark fixity.Infix o ∷ marks z) (inl refl)))

same_rank : (operators : List Operator) (x y : Expression) → IsFitting operators x → IsFitting operators y → marks x ≡ marks y → rank operators x ≡ rank operators y
same_rank operators x y f g e = let there = rank_within operators x y g e in let back = rank_within operators y x f (sym e) in omega arith

-- ---- trees of different kinds

-- a list that ends with an operator, or holds one, is no term
not_blank : (a : List Mark) (m : Mark) (b : List Mark) → blank ∷ [] ≡ a ++ m ∷ b → blank ≡ m
not_blank a m b e = elim (split_at [] blank [] a m b e) [
  | inl h ↦ h.1
  | inr (inl h) ↦ absurd h.1
  | inr (inr h) ↦ absurd h.0
]

no_term : (a : List Mark) (side : Fixity) (o : Operator) (b : List Mark) → blank ∷ [] ≡ a ++ mark side o ∷ b → ⊥
no_term a side o b e = let same : blank ≡ mark side o = not_blank a (mark side o) b e in absurd cc

sides_before_after : (o p : Operator) → mark fixity.Prefix o ≡ mark fixity.Postfix p → ⊥
sides_before_after o p e = let same = same_side fixity.Prefix fixity.Postfix o p e in absurd cc

sides_before_between : (o p : Operator) → mark fixity.Prefix o ≡ mark fixity.Infix p → ⊥
sides_before_between o p e = let same = same_side fixity.Prefix fixity.Infix o p e in absurd cc

prefix_no_postfix : (operators : List Operator) (o p : Operator) (x y : Expression) → IsFitting operators (prefixed o x) → IsFitting operators (postfixed p y) → marks (prefixed o x) ≡ marks (postfixed p y) → ⊥
prefix_no_postfix operators o p x y f g e =
    let same : row operators o ≡ row operators p = same_rank operators (prefixed o x) (postfixed p y) f g e in
    elim (split_at [] (mark fixity.Prefix o) (marks x) (marks y) (mark fixity.Postfix p) [] e) [
      | inl h ↦ sides_before_after o p h.1
      | inr (inl h) ↦ (let below = within operators x fixity.Postfix p f.2 h.1 in let lower = f.3 in absurd (omega arith))
      | inr (inr h) ↦ absurd h.0
    ]

prefix_no_infix : (operators : List Operator) (o p : Operator) (x y z : Expression) → IsFitting operators (prefixed o x) → IsFitting operators (joined p y z) → marks (prefixed o x) ≡ marks (joined p y z) → ⊥
prefix_no_infix operators o p x y z f g e =
    let same : row operators o ≡ row operators p = same_rank operators (prefixed o x) (joined p y z) f g e in
    elim (split_at [] (mark fixity.Prefix o) (marks x) (marks y) (mark fixity.Infix p) (marks z) e) [
      | inl h ↦ sides_before_between o p h.1
      | inr (inl h) ↦ (let below = within operators x fixity.Infix p f.2 h.1 in let lower = f.3 in absurd (omega arith))
      | inr (inr h) ↦ absurd h.0
    ]

postfix_no_infix : (operators : List Operator) (o p : Operator) (x y z : Expression) → IsFitting operators (postfixed o x) → IsFitting operators (joined p y z) → marks (postfixed o x) ≡ marks (joined p y z) → ⊥
postfix_no_infix operators o p x y z f g e =
    let same : row operators o ≡ row operators p = same_rank operators (postfixed o x) (joined p y z) f g e in
    let there : Among (mark fixity.Infix p) (marks (postfixed o x)) = subst (λ l. Among (mark fixity.Infix p) l) (sym e) (among_after (mark fixity.Infix p) (marks y) (mark fixity.Infix p ∷ marks z) (inl refl)) in
    let below = operand_infix operators (row operators o) (postfixed o x) p f (inr refl) there in
    absurd (omega arith)

-- ---- two infix operators

-- where one of two infix operators of a row stands further left, it would have to lean to both sides
not_further : (operators : List Operator) (o p : Operator) (x y z w : Expression) → IsFitting operators (joined o x y) → IsFitting operators (joined p z w) → row operators o ≡ row operators p →
    Among (mark fixity.Infix o) (marks z) → Among (mark fixity.Infix p) (marks y) → ⊥
not_further operators o p x y z w f g same m n =
    let leans_right = side_infix operators InfixRight o y p f.3 f.5 n (sym same) in
    let leans_left = side_infix operators InfixLeft p z o g.2 g.4 m same in
    sides_differ o.role (left_infix operators (row operators p) z o g.2 leans_left.1 m same) leans_right.0

one_place : (operators : List Operator) (o p : Operator) (x y z w : Expression) → IsFitting operators (joined o x y) → IsFitting operators (joined p z w) → marks (joined o x y) ≡ marks (joined p z w) →
    (marks x ≡ marks z) × (mark fixity.Infix o ≡ mark fixity.Infix p) × (marks y ≡ marks w)
one_place operators o p x y z w f g e =
    let same : row operators o ≡ row operators p = same_rank operators (joined o x y) (joined p z w) f g e in
    elim (split_at (marks x) (mark fixity.Infix o) (marks y) (marks z) (mark fixity.Infix p) (marks w) e) [
      | inl h ↦ h
      | inr (inl h) ↦ absurd (not_further operators o p x y z w f g same h.0 h.1)
      | inr (inr h) ↦ absurd (not_further operators p o z w x y g f (sym same) h.0 h.1)
    ]

one_end : (o p : Operator) (a b : List Mark) → a ++ mark fixity.Postfix o ∷ [] ≡ b ++ mark fixity.Postfix p ∷ [] → (a ≡ b) × (mark fixity.Postfix o ≡ mark fixity.Postfix p)
one_end o p a b e = elim (split_at a (mark fixity.Postfix o) [] b (mark fixity.Postfix p) [] e) [
  | inl h ↦ (h.0, h.1)
  | inr (inl h) ↦ absurd h.1
  | inr (inr h) ↦ absurd h.1
]

-- ---- equal trees

same_prefixed : (o p : Operator) (x y : Expression) → o ≡ p → x ≡ y → prefixed o x ≡ prefixed p y
same_prefixed o p x y e h = cc

same_postfixed : (o p : Operator) (x y : Expression) → o ≡ p → x ≡ y → postfixed o x ≡ postfixed p y
same_postfixed o p x y e h = cc

same_joined : (o p : Operator) (x y z w : Expression) → o ≡ p → x ≡ z → y ≡ w → joined o x y ≡ joined p z w
same_joined o p x y z w e h i = cc

same_head : (o p : Operator) (a b : List Mark) → mark fixity.Prefix o ∷ a ≡ mark fixity.Prefix p ∷ b → o ≡ p
same_head o p a b e = cc

same_tail : (o p : Operator) (a b : List Mark) → mark fixity.Prefix o ∷ a ≡ mark fixity.Prefix p ∷ b → a ≡ b
same_tail o p a b e = cc

pub one_tree : (operators : List Operator) (x y : Expression) → IsFitting operators x → IsFitting operators y → marks x ≡ marks y → x ≡ y
one_tree operators term term f g e = refl
one_tree operators term (prefixed p y) f g e = absurd cc
one_tree operators term (postfixed p y) f g e = absurd (no_term (marks y) fixity.Postfix p [] e)
one_tree operators term (joined p y z) f g e = absurd (no_term (marks y) fixity.Infix p (marks z) e)
one_tree operators (prefixed o x) term f g e = absurd cc
one_tree operators (prefixed o x) (prefixed p y) f g e =
    same_prefixed o p x y (same_head o p (marks x) (marks y) e) (one_tree operators x y f.2 g.2 (same_tail o p (marks x) (marks y) e))
one_tree operators (prefixed o x) (postfixed p y) f g e = absurd (prefix_no_postfix operators o p x y f g e)
one_tree operators (prefixed o x) (joined p y z) f g e = absurd (prefix_no_infix operators o p x y z f g e)
one_tree operators (postfixed o x) term f g e = absurd (no_term (marks x) fixity.Postfix o [] (sym e))
one_tree operators (postfixed o x) (prefixed p y) f g e = absurd (prefix_no_postfix operators p o y x g f (sym e))
one_tree operators (postfixed o x) (postfixed p y) f g e =
    let ends = one_end o p (marks x) (marks y) e in
    same_postfixed o p x y (same_operator fixity.Postfix fixity.Postfix o p ends.1) (one_tree operators x y f.2 g.2 ends.0)
one_tree operators (postfixed o x) (joined p y z) f g e = absurd (postfix_no_infix operators o p x y z f g e)
one_tree operators (joined o x w) term f g e = absurd (no_term (marks x) fixity.Infix o (marks w) (sym e))
one_tree operators (joined o x w) (prefixed p y) f g e = absurd (prefix_no_infix operators p o y x w g f (sym e))
one_tree operators (joined o x w) (postfixed p y) f g e = absurd (postfix_no_infix operators p o y x w g f (sym e))
one_tree operators (joined o x w) (joined p y z) f g e =
    let place = one_place operators o p x w y z f g e in
    same_joined o p x w y z (same_operator fixity.Infix fixity.Infix o p place.1) (one_tree operators x y f.2 g.2 place.0) (one_tree operators w z f.3 g.3 place.2)
