-- A declaration that is answered ok is a derivation.
use Rattle.std.proofs.Common.{◌≡◌, ◌==◌, ◌+◌, ◌-◌, ◌<◌, ◌≤◌, ℕ, zero, suc, cond, List, [], ◌∷◌, Bool, true, false, refl, ap, ◌∙◌, sym, length, arith}
use Rattle.std.specs.Prelude.{Option, Some, None, slice_get, find, not, nat_le, if◌then◌else◌}
use Rattle.std.specs.Int.{is_in_range}
use Rattle.std.proofs.lemmas.Bool.{and_parts, not-true}
use Rattle.std.proofs.lemmas.Bool.Decides.{nat_tests}
use Rattle.std.proofs.lemmas.Slice.Eq.{bytes_eq-Decides}
use Rattle.pg_grammar_value.specs.Grammar.{Grammar}
use Rattle.pg_grammar_form.specs.Operators.{Operator}
use Rattle.pg_grammar_form.specs.declared.class.ClassPart.{ClassPart}
use Rattle.pg_grammar_form.specs.declared.decl.Role.{Role}
use Rattle.pg_grammar_form.specs.declared.decl.Role.TheVariants.{InfixLeft, InfixRight, InfixNone, Prefix, Postfix}
use Rattle.pg_grammar_form.specs.declared.form.Form.TheVariants as form
use Rattle.pg_grammar_form.specs.declared.form.Leaf.TheVariants as leaf
use Rattle.pg_grammar_form.specs.declared.operators_item.OperatorsItem.{OperatorsItem}
use Rattle.pg_language.specs.Derives as derives
use Rattle.pg_language.specs.Derives.{Spot, DerivesForm, declare}
use Rattle.pg_language.specs.Runs.{run_at, past_run, stands_at, keyword, IsKeywordAt, IsDeclarationAt}
use Rattle.pg_table.specs.Tables.{admit_fault}
use Rattle.pg_table.specs.declared.admit_fault.AdmitFault.{AdmitFault}
use Rattle.pg_language.specs.Declarations.{Declaration, no_keyword, no_digit, no_symbol, declared, goes_on_with, has_keyword, roles, role_at, symbol_read, digit_value, digit_read, keyword_read, declaration_at, unless_refused, declaration_outcome, declare_outcome}
use Rattle.pg_language.proofs.Derived.{WhereOk}

pub found : {A : Type 0} (test : A → Bool) (xs : List A) (x : A) → find test xs ≡ Some x → test x ≡ true
found test [] x e = absurd cc
found test (y ∷ xs) x e = go (test y) refl (λ h. found test xs x h) e
  where
    go : (b : Bool) → test y ≡ b → (find test xs ≡ Some x → test x ≡ true) → cond b (Some y) (find test xs) ≡ Some x → test x ≡ true
    go true t rest h = let same : x ≡ y = cc in ap test same ∙ t
    go false t rest h = rest h

spelled : (n : ℕ) → (n == 0) ≡ false → 0 < n
spelled zero e = absurd cc
spelled (suc n) e = omega arith

pub keyword_there : (g : Grammar) (text : List ℕ) (class : List ClassPart) (i : ℕ) (role : Role) → has_keyword g text class i role ≡ true → IsKeywordAt g text class role i
keyword_there g text class i role e =
    let parts = and_parts (stands_at text i (keyword role)) (not (goes_on_with g class (slice_get text (i + length (keyword role))))) e in
    record {
      begins = sym ((bytes_eq-Decides _ _).0 parts.0);
      ends = λ c there. sym (ap (goes_on_with g class) there) ∙ not-true _ parts.1;
    }

-- a digit that says so much stands there
said_by : (next : Option ℕ) (precedence : ℕ) → digit_value next ≡ Some precedence → (next ≡ Some (48 + precedence)) × (precedence ≤ 9)
said_by None precedence e = absurd cc
said_by (Some c) precedence e = go (is_in_range 48 57 c) refl e
  where
    go : (b : Bool) → is_in_range 48 57 c ≡ b → (if b then Some (c - 48) else None) ≡ Some precedence → (Some c ≡ Some (48 + precedence)) × (precedence ≤ 9)
    go true h e =
        let parts = and_parts (nat_le 48 c) (nat_le c 57) h in
        let low : 48 ≤ c = (let h = parts.0 in grind (arith, nat_tests)) in
        let high : c ≤ 57 = (let h = parts.1 in grind (arith, nat_tests)) in
        let same : c - 48 ≡ precedence = cc in
        let whole : c ≡ 48 + precedence = omega arith in
        (ap (λ (n : ℕ). Some n) whole, omega arith)
    go false h e = absurd cc

module _ (g : Grammar) (text : List ℕ) (item : OperatorsItem) (class : List ClassPart) (i : ℕ) where
  -- where an operator is read, a declaration of it stands there
  abbrev pub Stands : Declaration → Type 0
  Stands no_keyword = Unit {0}
  Stands (no_digit j) = Unit {0}
  Stands (no_symbol j) = Unit {0}
  Stands (declared d k j) = IsDeclarationAt g text item class d i j

  stands_if : (b : Bool) (x y : Declaration) → (b ≡ true → Stands x) → (b ≡ false → Stands y) → Stands (if b then x else y)
  stands_if true x y f h = f refl
  stands_if false x y f h = h refl

  symbol_stands : (role : Role) (precedence k digit_place : ℕ) → IsKeywordAt g text class role i → digit_place ≡ past_run g text item.gap (i + length (keyword role)) →
      slice_get text digit_place ≡ Some (48 + precedence) → precedence ≤ 9 → k ≡ past_run g text item.gap (suc digit_place) → Stands (symbol_read g text item role precedence k)
  symbol_stands role precedence k digit_place word first digit low second =
      stands_if (length (run_at g text item.class k) == 0) _ _ (λ h. tt) (λ h. record {
        begins = word.begins;
        ends = word.ends;
        digit_place = digit_place;
        first_gap = first;
        digit = digit;
        precedence = low;
        symbol_place = k;
        second_gap = second;
        symbol = refl;
        spelled = spelled (length (run_at g text item.class k)) h;
        last_gap = refl;
      })

  digit_stands : (role : Role) (k : ℕ) (said : Option ℕ) → IsKeywordAt g text class role i → k ≡ past_run g text item.gap (i + length (keyword role)) →
      digit_value (slice_get text k) ≡ said → Stands (digit_read g text item role k said)
  digit_stands role k None word first e = tt
  digit_stands role k (Some precedence) word first e =
      let digit = said_by (slice_get text k) precedence e in
      let next : k + 1 ≡ suc k = omega arith in
      symbol_stands role precedence (past_run g text item.gap (k + 1)) k word first digit.0 digit.1 (ap (past_run g text item.gap) next)

  keyword_stands : (word : Option Role) → role_at g text class i ≡ word → Stands (keyword_read g text item i word)
  keyword_stands None e = tt
  keyword_stands (Some role) e =
      let k : ℕ = past_run g text item.gap (i + length (keyword role)) in
      digit_stands role k (digit_value (slice_get text k)) (keyword_there g text class i role (found (has_keyword g text class i) roles role e)) refl refl

  pub declaration_stands : Stands (declaration_at g text item class i)
  declaration_stands = keyword_stands (role_at g text class i) refl

-- each keyword has a character
pub keyword_spelled : (role : Role) → 0 < length (keyword role)
keyword_spelled InfixLeft = omega arith
keyword_spelled InfixRight = omega arith
keyword_spelled InfixNone = omega arith
keyword_spelled Prefix = omega arith
keyword_spelled Postfix = omega arith

-- a declaration consumes
pub declaration_moves : (g : Grammar) (text : List ℕ) (item : OperatorsItem) (class : List ClassPart) (d : Operator) (i j : ℕ) → IsDeclarationAt g text item class d i j → i < j
declaration_moves g text item class d i j h =
    let first = h.first_gap in let second = h.second_gap in let last = h.last_gap in let l = keyword_spelled d.role in omega arith

module _ (g : Grammar) (text : List ℕ) (item : OperatorsItem) (class : List ClassPart) (a : Spot) (there : g.operators ≡ Some item) where
  admitted_derived : (d : Operator) (i j : ℕ) (fault : Option AdmitFault) → admit_fault a.table d ≡ fault → IsDeclarationAt g text item class d a.place j →
      WhereOk (DerivesForm g text (form.Leaf (leaf.Declare class)) a) (unless_refused d a.table i j fault)
  admitted_derived d i j None e h = derives.leaf (declare there h e)
  admitted_derived d i j (Some fault) e h = tt

  declaration_derived : (x : Declaration) → Stands g text item class a.place x → WhereOk (DerivesForm g text (form.Leaf (leaf.Declare class)) a) (declaration_outcome text a x)
  declaration_derived no_keyword h = tt
  declaration_derived (no_digit i) h = tt
  declaration_derived (no_symbol i) h = tt
  declaration_derived (declared d i j) h = admitted_derived d i j (admit_fault a.table d) refl h

  pub declare_derived : WhereOk (DerivesForm g text (form.Leaf (leaf.Declare class)) a) (declare_outcome g text item class a)
  declare_derived = declaration_derived (declaration_at g text item class a.place) (declaration_stands g text item class a.place)
