-- What one row derives over the tighter ones, and which trees fit.
use Rattle.std.proofs.Common.{◌≡◌, ◌⊎◌, ◌<◌, ◌≤◌, ◌↔◌, ℕ, suc, List, [], ◌∷◌, ◌++◌, inl, inr, refl, sym, ap, subst, ◌∙◌, append_assoc, append-nil, arith}
use Rattle.pg_grammar_form.specs.Operators.{Operator}
use Rattle.pg_grammar_form.specs.declared.decl.Role.{Role}
use Rattle.pg_grammar_form.specs.declared.decl.Role.TheVariants.{InfixLeft, InfixRight, InfixNone, Prefix, Postfix}
use Rattle.pg_grammar_value.specs.declared.trail.Fixity.TheVariants as fixity
use Rattle.pg_table.specs.Trails.{applied}
use Rattle.pg_expand.specs.declared.rows.Row.{Row}
use Rattle.pg_table.specs.Fitting.{Expression, term, prefixed, postfixed, joined, row, rank, IsPrefixed, IsUnary, IsJoined, IsFittingSide, IsInfix, IsAmong, IsFitting}
use Rattle.pg_expand.specs.Readings.{Token, an_operator, reading}
use Rattle.pg_expand.specs.RowGrammar.{Language, IsOperand, bare, with_prefix, with_postfix, with_both, GoesRight, right, MayGoRight, on_right, ends_right, GoesLeft, left, MayGoLeft, on_left, ends_left, RowDerives, by_right, by_left, by_non, alone}
use Rattle.pg_expand.proofs.Ranks.{sides_differ, unary_rank, joined_rank}

-- the language derives the fitting trees up to the row k, each with its reading, and nothing else
abbrev pub IsExact : List Operator → ℕ → Language → Type 0
IsExact operators k language = (s : List Token) (x : Expression) → (language s x ↔ (IsFitting operators x × (rank operators x ≤ k) × (s ≡ reading x)))

-- these are the operators of the table that have the role and the row
abbrev pub AreThose : List Operator → Role → ℕ → List Operator → Type 0
AreThose operators role k those = (o : Operator) → (IsAmong those o ↔ (IsAmong operators o × (o.role ≡ role) × (row operators o ≡ k)))

-- the row has the operators of the table's row k
pub record IsRow (operators : List Operator) (k : ℕ) (these : Row) : Type 0 where
  pub right : AreThose operators InfixRight k these.right
  pub left : AreThose operators InfixLeft k these.left
  pub non : AreThose operators InfixNone k these.non
  pub prefix : AreThose operators Prefix k these.prefix
  pub postfix : AreThose operators Postfix k these.postfix

-- what stands on one side of an infix operator of the row k: an operand, or a tree of such operators
abbrev Operandish : List Operator → ℕ → Expression → Type 0
Operandish operators k x = (rank operators x < k) ⊎ IsUnary operators k x

abbrev Sidewise : List Operator → Role → ℕ → Expression → Type 0
Sidewise operators side k x = Operandish operators k x ⊎ IsJoined operators side k x

infix_role : (r : Role) → ((r ≡ InfixLeft) ⊎ (r ≡ InfixRight)) ⊎ (r ≡ InfixNone) → IsInfix r
infix_role r (inl (inl e)) = subst IsInfix (sym e) tt
infix_role r (inl (inr e)) = subst IsInfix (sym e) tt
infix_role r (inr e) = subst IsInfix (sym e) tt

infix_cases : (r : Role) → IsInfix r → ((r ≡ InfixLeft) ⊎ (r ≡ InfixRight)) ⊎ (r ≡ InfixNone)
infix_cases InfixLeft i = inl (inl refl)
infix_cases InfixRight i = inl (inr refl)
infix_cases InfixNone i = inr refl
infix_cases Prefix i = absurd i
infix_cases Postfix i = absurd i

non_not_left : (r : Role) → r ≡ InfixNone → r ≡ InfixLeft → ⊥
non_not_left r e h = cc

non_not_right : (r : Role) → r ≡ InfixNone → r ≡ InfixRight → ⊥
non_not_right r e h = cc

operandish_rank : (operators : List Operator) (k : ℕ) (x : Expression) → Operandish operators k x → rank operators x ≤ k
operandish_rank operators k x (inl l) = omega arith
operandish_rank operators k x (inr u) = let e = unary_rank operators k x u in omega arith

-- an operand fits on each side, and a tree of the role on the side of the role
side_of_operand : (operators : List Operator) (k : ℕ) (side : Role) (o : Operator) (x : Expression) → row operators o ≡ k → Operandish operators k x → IsFittingSide operators side o x
side_of_operand operators k side o x e h = inl (subst (λ r. Operandish operators r x) (sym e) h)

side_of : (operators : List Operator) (k : ℕ) (side : Role) (o : Operator) (x : Expression) → row operators o ≡ k → o.role ≡ side → Sidewise operators side k x → IsFittingSide operators side o x
side_of operators k side o x e r (inl h) = side_of_operand operators k side o x e h
side_of operators k side o x e r (inr h) = inr (r, subst (λ r. IsJoined operators side r x) (sym e) h)

-- and the other way round
sidewise : (operators : List Operator) (k : ℕ) (side : Role) (o : Operator) (x : Expression) → row operators o ≡ k → IsFittingSide operators side o x → Sidewise operators side k x
sidewise operators k side o x e (inl h) = inl (subst (λ r. Operandish operators r x) e h)
sidewise operators k side o x e (inr h) = inr (subst (λ r. IsJoined operators side r x) e h.1)

operandish : (operators : List Operator) (k : ℕ) (side : Role) (o : Operator) (x : Expression) → row operators o ≡ k → (o.role ≡ side → ⊥) → IsFittingSide operators side o x → Operandish operators k x
operandish operators k side o x e n (inl h) = subst (λ r. Operandish operators r x) e h
operandish operators k side o x e n (inr h) = absurd (n h.0)

module _ (operators : List Operator) (k : ℕ) (tighter : Language) (exact : IsExact operators k tighter) (these : Row) (is : IsRow operators (suc k) these) where
  -- ---- what is derived fits

  operand_fits : {s : List Token} {x : Expression} → IsOperand these tighter s x → IsFitting operators x × Operandish operators (suc k) x × (s ≡ reading x)
  operand_fits (bare {s} {x} d) = let h = (exact s x).0 d in (h.0, inl (let l = h.1 in omega arith), h.2)
  operand_fits (with_prefix {s} {o} {x} a d) =
      let h = (exact s x).0 d in
      let p = (is.prefix o).0 a in
      ((p.0, p.1, h.0, (let l = h.1 in let e = p.2 in omega arith)), inr p.2, ap (λ (l : List Token). an_operator (applied fixity.Prefix o) ∷ l) h.2)
  operand_fits (with_postfix {s} {o} {x} d a) =
      let h = (exact s x).0 d in
      let p = (is.postfix o).0 a in
      ((p.0, p.1, h.0, inl (let l = h.1 in let e = p.2 in omega arith)), inr p.2, ap (λ (l : List Token). l ++ an_operator (applied fixity.Postfix o) ∷ []) h.2)
  operand_fits (with_both {s} {o} {p = q} {x} a d b) =
      let h = (exact s x).0 d in
      let p = (is.prefix o).0 a in
      let r = (is.postfix q).0 b in (
        (r.0, r.1, (p.0, p.1, h.0, (let l = h.1 in let e = p.2 in omega arith)), inr (p.2 ∙ sym r.2)),
        inr r.2,
        ap (λ (l : List Token). an_operator (applied fixity.Prefix o) ∷ (l ++ an_operator (applied fixity.Postfix q) ∷ [])) h.2,
      )

  -- the reading of three, the last two of which are read together
  read_on : (o : Operator) (x : Expression) (s t : List Token) (y z : Expression) → s ≡ reading y → reading y ++ t ≡ reading z → reading x ++ an_operator (applied fixity.Infix o) ∷ (s ++ t) ≡ reading (joined o x z)
  read_on o x s t y z e h = ap (λ (l : List Token). reading x ++ an_operator (applied fixity.Infix o) ∷ l) (ap (λ (l : List Token). l ++ t) e ∙ h)

  -- the first two of which are
  read_then : (o : Operator) (x : Expression) (s t : List Token) (y z : Expression) → s ≡ reading y → reading (joined o x y) ++ t ≡ reading z → reading x ++ an_operator (applied fixity.Infix o) ∷ (s ++ t) ≡ reading z
  read_then o x s t y z e h =
      ap (λ (l : List Token). reading x ++ an_operator (applied fixity.Infix o) ∷ (l ++ t)) e ∙ (sym (append_assoc (reading x) (an_operator (applied fixity.Infix o) ∷ reading y) t) ∙ h)

  mutual
    right_fits : {t : List Token} {x y : Expression} → GoesRight these tighter x t y → IsFitting operators x → Operandish operators (suc k) x → IsFitting operators y × IsJoined operators InfixRight (suc k) y × (reading x ++ t ≡ reading y)
    right_fits (right {s} {t} {o} {x} {y} {z} a d m) f h =
        let p = (is.right o).0 a in
        let first = operand_fits d in
        let rest = may_right_fits m first.0 first.1 in
        ((p.0, infix_role o.role (inl (inr p.1)), f, rest.0, side_of_operand operators (suc k) InfixLeft o x p.2 h, side_of operators (suc k) InfixRight o z p.2 p.1 rest.1), (p.2, p.1), read_on o x s t y z first.2 rest.2)

    may_right_fits : {t : List Token} {x y : Expression} → MayGoRight these tighter x t y → IsFitting operators x → Operandish operators (suc k) x → IsFitting operators y × Sidewise operators InfixRight (suc k) y × (reading x ++ t ≡ reading y)
    may_right_fits (on_right d) f h = let r = right_fits d f h in (r.0, inr r.1, r.2)
    may_right_fits (ends_right {x}) f h = (f, inl h, append-nil (reading x))

  mutual
    left_fits : {t : List Token} {x y : Expression} → GoesLeft these tighter x t y → IsFitting operators x → Sidewise operators InfixLeft (suc k) x → IsFitting operators y × IsJoined operators InfixLeft (suc k) y × (reading x ++ t ≡ reading y)
    left_fits (left {s} {t} {o} {x} {y} {z} a d m) f h =
        let p = (is.left o).0 a in
        let second = operand_fits d in
        let fits : IsFitting operators (joined o x y) = (p.0, infix_role o.role (inl (inl p.1)), f, second.0, side_of operators (suc k) InfixLeft o x p.2 p.1 h, side_of_operand operators (suc k) InfixRight o y p.2 second.1) in
        let rest = may_left_fits m fits (p.2, p.1) in
        (rest.0, rest.1, read_then o x s t y z second.2 rest.2)

    may_left_fits : {t : List Token} {x y : Expression} → MayGoLeft these tighter x t y → IsFitting operators x → IsJoined operators InfixLeft (suc k) x → IsFitting operators y × IsJoined operators InfixLeft (suc k) y × (reading x ++ t ≡ reading y)
    may_left_fits (on_left d) f h = left_fits d f (inr h)
    may_left_fits (ends_left {x}) f h = (f, h, append-nil (reading x))

  row_fits : {s : List Token} {x : Expression} → RowDerives these tighter s x → IsFitting operators x × (rank operators x ≤ suc k) × (s ≡ reading x)
  row_fits (by_right {s} {t} {x} {y} d m) =
      let first = operand_fits d in
      let rest = right_fits m first.0 first.1 in
      (rest.0, (let e = joined_rank operators InfixRight (suc k) y rest.1 in omega arith), ap (λ (l : List Token). l ++ t) first.2 ∙ rest.2)
  row_fits (by_left {s} {t} {x} {y} d m) =
      let first = operand_fits d in
      let rest = left_fits m first.0 (inl first.1) in
      (rest.0, (let e = joined_rank operators InfixLeft (suc k) y rest.1 in omega arith), ap (λ (l : List Token). l ++ t) first.2 ∙ rest.2)
  row_fits (by_non {s} {t} {o} {x} {y} d a b) =
      let p = (is.non o).0 a in
      let first = operand_fits d in
      let second = operand_fits b in (
        (p.0, infix_role o.role (inr p.1), first.0, second.0, side_of_operand operators (suc k) InfixLeft o x p.2 first.1, side_of_operand operators (suc k) InfixRight o y p.2 second.1),
        (let e = p.2 in omega arith),
        ap (λ (l : List Token). l ++ an_operator (applied fixity.Infix o) ∷ t) first.2 ∙ ap (λ (l : List Token). reading x ++ an_operator (applied fixity.Infix o) ∷ l) second.2,
      )
  row_fits (alone {s} {x} d) = let h = operand_fits d in (h.0, operandish_rank operators (suc k) x h.1, h.2)

  -- ---- what fits is derived

  under_postfix : (o : Operator) (x : Expression) → IsAmong these.postfix o → IsFitting operators x → row operators o ≡ suc k → (rank operators x < row operators o) ⊎ IsPrefixed operators (row operators o) x →
      IsOperand these tighter (reading (postfixed o x)) (postfixed o x)
  under_postfix o x a f e (inl l) = with_postfix ((exact (reading x) x).1 (f, (omega arith), refl)) a
  under_postfix o term a f e (inr u) = absurd u
  under_postfix o (prefixed p x) a f e (inr u) =
      with_both ((is.prefix p).1 (f.0, f.1, u ∙ e)) ((exact (reading x) x).1 (f.2, (let l = f.3 in let h : row operators p ≡ suc k = u ∙ e in omega arith), refl)) a
  under_postfix o (postfixed p x) a f e (inr u) = absurd u
  under_postfix o (joined p x y) a f e (inr u) = absurd u

  operand_derived : (x : Expression) → IsFitting operators x → Operandish operators (suc k) x → IsOperand these tighter (reading x) x
  operand_derived x f (inl l) = bare ((exact (reading x) x).1 (f, (omega arith), refl))
  operand_derived term f (inr u) = absurd u
  operand_derived (prefixed o x) f (inr u) = with_prefix ((is.prefix o).1 (f.0, f.1, u)) ((exact (reading x) x).1 (f.2, (let l = f.3 in let h : row operators o ≡ suc k = u in omega arith), refl))
  operand_derived (postfixed o x) f (inr u) = under_postfix o x ((is.postfix o).1 (f.0, f.1, u)) f.2 u f.3
  operand_derived (joined o x y) f (inr u) = absurd u

  -- an operand from which right-associative operators lead on to a tree
  record RightSpine (x : Expression) : Type 0 where
    pub first : Expression
    pub front : List Token
    pub rest : List Token
    pub operand : IsOperand these tighter front first
    pub more : MayGoRight these tighter first rest x
    pub all : front ++ rest ≡ reading x

  right_derived : (x : Expression) → IsFitting operators x → Sidewise operators InfixRight (suc k) x → RightSpine x
  right_derived x f (inl h) = record { first = x; front = reading x; rest = []; operand = operand_derived x f h; more = ends_right; all = append-nil (reading x) }
  right_derived term f (inr h) = absurd h
  right_derived (prefixed o x) f (inr h) = absurd h
  right_derived (postfixed o x) f (inr h) = absurd h
  right_derived (joined o x y) f (inr h) =
      let spine = right_derived y f.3 (sidewise operators (suc k) InfixRight o y h.0 f.5) in
      record {
        first = x;
        front = reading x;
        rest = an_operator (applied fixity.Infix o) ∷ (spine.front ++ spine.rest);
        operand = operand_derived x f.2 (operandish operators (suc k) InfixLeft o x h.0 (λ e. sides_differ o.role e h.1) f.4);
        more = on_right (right ((is.right o).1 (f.0, h.1, h.0)) spine.operand spine.more);
        all = ap (λ (l : List Token). reading x ++ an_operator (applied fixity.Infix o) ∷ l) spine.all;
      }

  -- an operand from which left-associative operators lead on to a tree, where so many tokens lie after another tree
  record LeftSpine (x : Expression) (t : List Token) (z : Expression) : Type 0 where
    pub first : Expression
    pub front : List Token
    pub rest : List Token
    pub operand : IsOperand these tighter front first
    pub more : MayGoLeft these tighter first rest z
    pub all : front ++ rest ≡ reading x ++ t

  left_derived : (x : Expression) (t : List Token) (z : Expression) → IsFitting operators x → Sidewise operators InfixLeft (suc k) x → MayGoLeft these tighter x t z → LeftSpine x t z
  left_derived x t z f (inl h) m = record { first = x; front = reading x; rest = t; operand = operand_derived x f h; more = m; all = refl }
  left_derived term t z f (inr h) m = absurd h
  left_derived (prefixed o x) t z f (inr h) m = absurd h
  left_derived (postfixed o x) t z f (inr h) m = absurd h
  left_derived (joined o x y) t z f (inr h) m =
      let second = operand_derived y f.3 (operandish operators (suc k) InfixRight o y h.0 (λ e. sides_differ o.role h.1 e) f.5) in
      let spine = left_derived x (an_operator (applied fixity.Infix o) ∷ (reading y ++ t)) z f.2 (sidewise operators (suc k) InfixLeft o x h.0 f.4) (on_left (left ((is.left o).1 (f.0, h.1, h.0)) second m)) in
      record {
        first = spine.first;
        front = spine.front;
        rest = spine.rest;
        operand = spine.operand;
        more = spine.more;
        all = spine.all ∙ sym (append_assoc (reading x) (an_operator (applied fixity.Infix o) ∷ reading y) t);
      }

  goes_left : (x y : Expression) (s t : List Token) → IsOperand these tighter s y → MayGoLeft these tighter y t x → RowDerives these tighter (s ++ t) x
  goes_left x y s t d (on_left m) = by_left d m
  goes_left x y s t d ends_left = subst (λ l. RowDerives these tighter l x) (sym (append-nil s)) (alone d)

  joined_derived : (o : Operator) (x y : Expression) → IsFitting operators (joined o x y) → row operators o ≡ suc k → ((o.role ≡ InfixLeft) ⊎ (o.role ≡ InfixRight)) ⊎ (o.role ≡ InfixNone) → RowDerives these tighter (reading (joined o x y)) (joined o x y)
  joined_derived o x y f e (inl (inl r)) =
      let spine = left_derived (joined o x y) [] (joined o x y) f (inr (e, r)) ends_left in
      subst (λ l. RowDerives these tighter l (joined o x y)) (spine.all ∙ append-nil (reading (joined o x y))) (goes_left (joined o x y) spine.first spine.front spine.rest spine.operand spine.more)
  joined_derived o x y f e (inl (inr r)) =
      let first = operand_derived x f.2 (operandish operators (suc k) InfixLeft o x e (λ h. sides_differ o.role h r) f.4) in
      let spine = right_derived y f.3 (sidewise operators (suc k) InfixRight o y e f.5) in
      subst (λ l. RowDerives these tighter (reading x ++ an_operator (applied fixity.Infix o) ∷ l) (joined o x y)) spine.all (by_right first (right ((is.right o).1 (f.0, r, e)) spine.operand spine.more))
  joined_derived o x y f e (inr r) =
      by_non (operand_derived x f.2 (operandish operators (suc k) InfixLeft o x e (λ h. non_not_left o.role r h) f.4)) ((is.non o).1 (f.0, r, e))
      (operand_derived y f.3 (operandish operators (suc k) InfixRight o y e (λ h. non_not_right o.role r h) f.5))

  top_derived : (x : Expression) → IsFitting operators x → (rank operators x < suc k) ⊎ (rank operators x ≡ suc k) → RowDerives these tighter (reading x) x
  top_derived x f (inl l) = alone (operand_derived x f (inl l))
  top_derived term f (inr e) = absurd (omega arith)
  top_derived (prefixed o x) f (inr e) = alone (operand_derived (prefixed o x) f (inr e))
  top_derived (postfixed o x) f (inr e) = alone (operand_derived (postfixed o x) f (inr e))
  top_derived (joined o x y) f (inr e) = joined_derived o x y f e (infix_cases o.role f.1)

  below_or_at : (a b : ℕ) → a ≤ b → (a < b) ⊎ (a ≡ b)
  below_or_at a b l = grind arith

  -- a row derives just the fitting trees up to it, where the tighter ones do so
  pub row_exact : IsExact operators (suc k) (RowDerives these tighter)
  row_exact s x = (row_fits, λ h. subst (λ l. RowDerives these tighter l x) (sym h.2) (top_derived x h.0 (below_or_at (rank operators x) (suc k) h.1)))
