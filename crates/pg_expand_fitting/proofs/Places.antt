-- What the judge's tests say of trees: which may be the last operand of which, stand on the left of an infix operator, or before a postfix one.
use Rattle.std.proofs.Common.{◌≡◌, ◌<◌, ◌⊎◌, ◌==◌, ◌&&◌, ◌||◌, ℕ, Bool, true, false, not, List, [], ◌∷◌, inl, inr, refl, sym, ap, ◌∙◌, arith}
use Rattle.std.specs.Prelude.{Option, None, Some, map, if◌then◌else◌}
use Rattle.std.specs.Bool.{Decides}
use Rattle.std.proofs.lemmas.Bool.Decides.{Decides-eqb, Decides-ltb, Decides-and, Decides-or}
use Rattle.pg_grammar_form.specs.Operators.{Operator}
use Rattle.pg_grammar_form.specs.declared.decl.Role.{Role}
use Rattle.pg_grammar_form.specs.declared.decl.Role.TheVariants.{InfixLeft, InfixRight, InfixNone, Prefix, Postfix}
use Rattle.pg_grammar_value.specs.declared.trail.Fixity.TheVariants as fixity
use Rattle.pg_table.specs.Tables.{is_prefix}
use Rattle.pg_table.specs.Fitting.{Expression, term, prefixed, postfixed, joined, row, rank, IsInfix, IsPrefixed, IsUnary, IsJoined, IsFittingSide, IsFitting}
use Rattle.pg_expand.specs.Rows.{is_left, is_right}
use Rattle.pg_expand.proofs.Levels.{left_role, right_role}
use Rattle.pg_expand_fitting.specs.Judge.{Known, is_unary, goes_under, top_takes, root_row, beside, goes_left, is_prefixed, takes_postfix}
use Rattle.pg_expand_fitting.proofs.Waiting.{Waiting, before, between, known, known_waiting, root, FitsUnder, IsWaiting, FitsTop}

pub if_true : {X : Type 0} (b : Bool) (x y : X) → b ≡ true → (if b then x else y) ≡ x
if_true true x y e = refl
if_true false x y e = absurd cc

pub if_false : {X : Type 0} (b : Bool) (x y : X) → b ≡ false → (if b then x else y) ≡ y
if_false true x y e = absurd cc
if_false false x y e = refl

-- ---- roles

infix_not_unary : (r : Role) → IsInfix r → is_unary r ≡ true → ⊥
infix_not_unary InfixLeft h e = cc
infix_not_unary InfixRight h e = cc
infix_not_unary InfixNone h e = cc
infix_not_unary Prefix h e = h
infix_not_unary Postfix h e = h

infix_not_prefix : (r : Role) → IsInfix r → is_prefix r ≡ true → ⊥
infix_not_prefix InfixLeft h e = cc
infix_not_prefix InfixRight h e = cc
infix_not_prefix InfixNone h e = cc
infix_not_prefix Prefix h e = h
infix_not_prefix Postfix h e = h

pub infix_no_prefix : (r : Role) → IsInfix r → not (is_prefix r) ≡ true
infix_no_prefix InfixLeft h = refl
infix_no_prefix InfixRight h = refl
infix_no_prefix InfixNone h = refl
infix_no_prefix Prefix h = absurd h
infix_no_prefix Postfix h = absurd h

prefix_is_unary : (r : Role) → r ≡ Prefix → is_unary r ≡ true
prefix_is_unary r e = ap is_unary e

postfix_is_unary : (r : Role) → r ≡ Postfix → is_unary r ≡ true
postfix_is_unary r e = ap is_unary e

no_prefix : (r : Role) → r ≡ Prefix → not (is_prefix r) ≡ true → ⊥
no_prefix r e h = let same = ap (λ q. not (is_prefix q)) e in cc

-- ---- what the tests say

self : (b : Bool) → Decides b (b ≡ true)
self b = (λ e. e, λ e. e)

-- a tree of the second operator may be the last operand of the first
abbrev pub GoesUnder : Known → Known → Type 0
GoesUnder w k = (k.row < w.row) ⊎ ((not (is_prefix w.role) ≡ true) × ((k.row ≡ w.row) × ((is_unary k.role ≡ true) ⊎ ((is_right w.role ≡ true) × (is_right k.role ≡ true)))))

pub under_decides : (w k : Known) → Decides (goes_under w k) (GoesUnder w k)
under_decides w k = Decides-or _ _ (Decides-ltb k.row w.row)
    (Decides-and _ _ (self (not (is_prefix w.role))) (Decides-and _ _ (Decides-eqb k.row w.row)
    (Decides-or _ _ (self (is_unary k.role)) (Decides-and _ _ (self (is_right w.role)) (self (is_right k.role))))))

abbrev Beside : Known → Option Known → Type 0
Beside o None = ⊥
Beside o (Some k) = (k.row ≡ o.row) × ((is_unary k.role ≡ true) ⊎ ((is_left o.role ≡ true) × (is_left k.role ≡ true)))

beside_decides : (o : Known) (r : Option Known) → Decides (beside o r) (Beside o r)
beside_decides o None = (λ e. absurd cc, λ h. absurd h)
beside_decides o (Some k) = Decides-and _ _ (Decides-eqb k.row o.row) (Decides-or _ _ (self (is_unary k.role)) (Decides-and _ _ (self (is_left o.role)) (self (is_left k.role))))

abbrev GoesLeft : Known → Option Known → Type 0
GoesLeft o r = (root_row r < o.row) ⊎ Beside o r

left_decides : (o : Known) (r : Option Known) → Decides (goes_left o r) (GoesLeft o r)
left_decides o r = Decides-or _ _ (Decides-ltb (root_row r) o.row) (beside_decides o r)

abbrev IsPrefixedRoot : Known → Option Known → Type 0
IsPrefixedRoot o None = ⊥
IsPrefixedRoot o (Some k) = (k.row ≡ o.row) × (is_prefix k.role ≡ true)

prefixed_decides : (o : Known) (r : Option Known) → Decides (is_prefixed o r) (IsPrefixedRoot o r)
prefixed_decides o None = (λ e. absurd cc, λ h. absurd h)
prefixed_decides o (Some k) = Decides-and _ _ (Decides-eqb k.row o.row) (self (is_prefix k.role))

postfix_decides : (o : Known) (r : Option Known) → Decides (takes_postfix o r) ((root_row r < o.row) ⊎ IsPrefixedRoot o r)
postfix_decides o r = Decides-or _ _ (Decides-ltb (root_row r) o.row) (prefixed_decides o r)

module _ (operators : List Operator) where
  root-rank : (x : Expression) → root_row (root operators x) ≡ rank operators x
  root-rank term = refl
  root-rank (prefixed o x) = refl
  root-rank (postfixed o x) = refl
  root-rank (joined o x y) = refl

  known_rank : (x : Expression) (k : Known) → root operators x ≡ Some k → k.row ≡ rank operators x
  known_rank x k e = sym (ap root_row e) ∙ root-rank x

  -- ---- by the operator that a tree is made with

  unary_tree : (x : Expression) (k : Known) (n : ℕ) → IsFitting operators x → root operators x ≡ Some k → k.row ≡ n → is_unary k.role ≡ true → IsUnary operators n x
  unary_tree term k n f e r u = absurd cc
  unary_tree (prefixed o x) k n f e r u = let same : known operators fixity.Prefix o ≡ k = cc in ap (λ (j : Known). j.row) same ∙ r
  unary_tree (postfixed o x) k n f e r u = let same : known operators fixity.Postfix o ≡ k = cc in ap (λ (j : Known). j.row) same ∙ r
  unary_tree (joined o x y) k n f e r u =
      let same : known operators fixity.Infix o ≡ k = cc in absurd (infix_not_unary o.role f.1 (ap (λ (j : Known). is_unary j.role) same ∙ u))

  unary_known : (x : Expression) (k : Known) (n : ℕ) → IsFitting operators x → root operators x ≡ Some k → IsUnary operators n x → (k.row ≡ n) × (is_unary k.role ≡ true)
  unary_known term k n f e u = absurd u
  unary_known (prefixed o x) k n f e u =
      let same : known operators fixity.Prefix o ≡ k = cc in (sym (ap (λ (j : Known). j.row) same) ∙ u, sym (ap (λ (j : Known). is_unary j.role) same) ∙ prefix_is_unary o.role f.1)
  unary_known (postfixed o x) k n f e u =
      let same : known operators fixity.Postfix o ≡ k = cc in (sym (ap (λ (j : Known). j.row) same) ∙ u, sym (ap (λ (j : Known). is_unary j.role) same) ∙ postfix_is_unary o.role f.1)
  unary_known (joined o x y) k n f e u = absurd u

  joined_tree : (side : Role) (test : Role → Bool) (x : Expression) (k : Known) (n : ℕ) → test Prefix ≡ false → test Postfix ≡ false → ((r : Role) → test r ≡ true → r ≡ side) →
      IsFitting operators x → root operators x ≡ Some k → k.row ≡ n → test k.role ≡ true → IsJoined operators side n x
  joined_tree side test term k n p q only f e r t = absurd cc
  joined_tree side test (prefixed o x) k n p q only f e r t =
      let same : known operators fixity.Prefix o ≡ k = cc in let on = ap (λ (j : Known). test j.role) same ∙ t in let role = ap test f.1 in absurd cc
  joined_tree side test (postfixed o x) k n p q only f e r t =
      let same : known operators fixity.Postfix o ≡ k = cc in let on = ap (λ (j : Known). test j.role) same ∙ t in let role = ap test f.1 in absurd cc
  joined_tree side test (joined o x y) k n p q only f e r t =
      let same : known operators fixity.Infix o ≡ k = cc in (ap (λ (j : Known). j.row) same ∙ r, only o.role (ap (λ (j : Known). test j.role) same ∙ t))

  joined_known : (side : Role) (test : Role → Bool) (x : Expression) (k : Known) (n : ℕ) → test side ≡ true → root operators x ≡ Some k → IsJoined operators side n x → (k.row ≡ n) × (test k.role ≡ true)
  joined_known side test term k n on e j = absurd j
  joined_known side test (prefixed o x) k n on e j = absurd j
  joined_known side test (postfixed o x) k n on e j = absurd j
  joined_known side test (joined o x y) k n on e j =
      let same : known operators fixity.Infix o ≡ k = cc in (sym (ap (λ (i : Known). i.row) same) ∙ j.0, sym (ap (λ (i : Known). test i.role) same) ∙ ap test j.1 ∙ on)

  -- ---- last operands

  under_fits : (w : Waiting) (x : Expression) (k : Known) → IsWaiting operators w → IsFitting operators x → root operators x ≡ Some k → GoesUnder (known_waiting operators w) k → FitsUnder operators w x
  under_fits (before o) x k h f e (inl lower) = let same = known_rank x k e in omega arith
  under_fits (before o) x k h f e (inr g) = absurd (no_prefix o.role h.1 g.0)
  under_fits (between o l) x k h f e (inl lower) = let same = known_rank x k e in inl (inl (omega arith))
  under_fits (between o l) x k h f e (inr g) = elim g.1.1 [
    | inl u ↦ inl (inr (unary_tree x k (row operators o) f e g.1.0 u))
    | inr r ↦ inr (right_role o.role r.0, joined_tree InfixRight is_right x k (row operators o) refl refl right_role f e g.1.0 r.1)
  ]

  fits_under : (w : Waiting) (x : Expression) (k : Known) → IsWaiting operators w → IsFitting operators x → root operators x ≡ Some k → FitsUnder operators w x → GoesUnder (known_waiting operators w) k
  fits_under (before o) x k h f e u = let same = known_rank x k e in inl (omega arith)
  fits_under (between o l) x k h f e (inl (inl lower)) = let same = known_rank x k e in inl (omega arith)
  fits_under (between o l) x k h f e (inl (inr u)) = let there = unary_known x k (row operators o) f e u in inr (infix_no_prefix o.role h.1, (there.0, inl there.1))
  fits_under (between o l) x k h f e (inr j) =
      let there = joined_known InfixRight is_right x k (row operators o) refl e j.1 in
      inr (infix_no_prefix o.role h.1, (there.0, inr (ap is_right j.0, there.1)))

  pub top_fits : (ws : List Waiting) (x : Expression) (k : Known) → IsFitting operators x → root operators x ≡ Some k → top_takes (map (known_waiting operators) ws) k ≡ true →
      ((w : Waiting) (more : List Waiting) → ws ≡ w ∷ more → IsWaiting operators w) → FitsTop operators ws x
  top_fits [] x k f e t h = tt
  top_fits (w ∷ ws) x k f e t h = under_fits w x k (h w ws refl) f e ((under_decides (known_waiting operators w) k).0 t)

  pub fits_top : (ws : List Waiting) (x : Expression) (k : Known) → IsFitting operators x → root operators x ≡ Some k → FitsTop operators ws x →
      ((w : Waiting) (more : List Waiting) → ws ≡ w ∷ more → IsWaiting operators w) → top_takes (map (known_waiting operators) ws) k ≡ true
  fits_top [] x k f e t h = refl
  fits_top (w ∷ ws) x k f e t h = (under_decides (known_waiting operators w) k).1 (fits_under w x k (h w ws refl) f e t)

  -- ---- left operands, and those of postfix operators

  beside_fits : (o : Operator) (x : Expression) (r : Option Known) → IsFitting operators x → root operators x ≡ r → Beside (known operators fixity.Infix o) r → IsFittingSide operators InfixLeft o x
  beside_fits o x None f e h = absurd h
  beside_fits o x (Some k) f e h = elim h.1 [
    | inl u ↦ inl (inr (unary_tree x k (row operators o) f e h.0 u))
    | inr l ↦ inr (left_role o.role l.0, joined_tree InfixLeft is_left x k (row operators o) refl refl left_role f e h.0 l.1)
  ]

  pub left_fits : (o : Operator) (x : Expression) → IsFitting operators x → goes_left (known operators fixity.Infix o) (root operators x) ≡ true → IsFittingSide operators InfixLeft o x
  left_fits o x f t = by_test ((left_decides (known operators fixity.Infix o) (root operators x)).0 t)
    where
      by_test : GoesLeft (known operators fixity.Infix o) (root operators x) → IsFittingSide operators InfixLeft o x
      by_test (inl lower) = let same = root-rank x in inl (inl (omega arith))
      by_test (inr h) = beside_fits o x (root operators x) f refl h

  fits_beside : (o : Operator) (x : Expression) (r : Option Known) → IsFitting operators x → root operators x ≡ r →
      IsUnary operators (row operators o) x ⊎ ((o.role ≡ InfixLeft) × IsJoined operators InfixLeft (row operators o) x) → Beside (known operators fixity.Infix o) r
  fits_beside o x None f e h = absurd (made x f e h)
    where
      made : (x : Expression) → IsFitting operators x → root operators x ≡ None → IsUnary operators (row operators o) x ⊎ ((o.role ≡ InfixLeft) × IsJoined operators InfixLeft (row operators o) x) → ⊥
      made term f e h = elim h [ inl u ↦ u | inr j ↦ j.1 ]
      made (prefixed p y) f e h = cc
      made (postfixed p y) f e h = cc
      made (joined p y z) f e h = cc
  fits_beside o x (Some k) f e (inl u) = let there = unary_known x k (row operators o) f e u in (there.0, inl there.1)
  fits_beside o x (Some k) f e (inr j) = let there = joined_known InfixLeft is_left x k (row operators o) refl e j.1 in (there.0, inr (ap is_left j.0, there.1))

  pub fits_left : (o : Operator) (x : Expression) → IsFitting operators x → IsFittingSide operators InfixLeft o x → goes_left (known operators fixity.Infix o) (root operators x) ≡ true
  fits_left o x f s = (left_decides (known operators fixity.Infix o) (root operators x)).1 (by_side s)
    where
      by_side : IsFittingSide operators InfixLeft o x → GoesLeft (known operators fixity.Infix o) (root operators x)
      by_side (inl (inl lower)) = let same = root-rank x in inl (omega arith)
      by_side (inl (inr u)) = inr (fits_beside o x (root operators x) f refl (inl u))
      by_side (inr j) = inr (fits_beside o x (root operators x) f refl (inr j))

  prefixed_tree : (x : Expression) (o : Known) → IsFitting operators x → IsPrefixedRoot o (root operators x) → IsPrefixed operators o.row x
  prefixed_tree term o f h = h
  prefixed_tree (prefixed p x) o f h = h.0
  prefixed_tree (postfixed p x) o f h = let role = ap is_prefix f.1 in let on = h.1 in absurd cc
  prefixed_tree (joined p x y) o f h = absurd (infix_not_prefix p.role f.1 h.1)

  tree_prefixed : (x : Expression) (o : Known) → IsFitting operators x → IsPrefixed operators o.row x → IsPrefixedRoot o (root operators x)
  tree_prefixed term o f h = h
  tree_prefixed (prefixed p x) o f h = (h, ap is_prefix f.1)
  tree_prefixed (postfixed p x) o f h = absurd h
  tree_prefixed (joined p x y) o f h = absurd h

  pub postfix_fits : (o : Operator) (x : Expression) → IsFitting operators x → takes_postfix (known operators fixity.Postfix o) (root operators x) ≡ true →
      (rank operators x < row operators o) ⊎ IsPrefixed operators (row operators o) x
  postfix_fits o x f t = by_test ((postfix_decides (known operators fixity.Postfix o) (root operators x)).0 t)
    where
      by_test : (root_row (root operators x) < row operators o) ⊎ IsPrefixedRoot (known operators fixity.Postfix o) (root operators x) → (rank operators x < row operators o) ⊎ IsPrefixed operators (row operators o) x
      by_test (inl lower) = let same = root-rank x in inl (omega arith)
      by_test (inr h) = inr (prefixed_tree x (known operators fixity.Postfix o) f h)

  pub fits_postfix : (o : Operator) (x : Expression) → IsFitting operators x → (rank operators x < row operators o) ⊎ IsPrefixed operators (row operators o) x →
      takes_postfix (known operators fixity.Postfix o) (root operators x) ≡ true
  fits_postfix o x f h = (postfix_decides (known operators fixity.Postfix o) (root operators x)).1 (by_fit h)
    where
      by_fit : (rank operators x < row operators o) ⊎ IsPrefixed operators (row operators o) x → (root_row (root operators x) < row operators o) ⊎ IsPrefixedRoot (known operators fixity.Postfix o) (root operators x)
      by_fit (inl lower) = let same = root-rank x in inl (omega arith)
      by_fit (inr p) = inr (tree_prefixed x (known operators fixity.Postfix o) f p)
