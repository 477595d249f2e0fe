-- At a place stands the keyword of one role at most; where a declaration stands, its operator is read.
use Rattle.std.proofs.Common.{◌≡◌, ◌==◌, ◌+◌, ◌-◌, ◌<◌, ◌≤◌, ◌||◌, ◌⊎◌, inl, inr, ℕ, zero, suc, cond, List, [], ◌∷◌, Bool, true, false, refl, sym, ap, ◌∙◌, length, take, drop, eq-eqb, arith, if◌then◌else◌}
use Rattle.std.specs.Prelude.{Option, Some, None, slice_get, find, not, nat_le, ◌&&◌}
use Rattle.std.specs.Int.{is_in_range}
use Rattle.std.proofs.Math.Bool.{or-true}
use Rattle.std.proofs.lemmas.Bool.Decides.{nat_tests}
use Rattle.std.proofs.lemmas.Slice.Eq.{bytes_eq-Decides}
use Rattle.pg_grammar_form.specs.ClassItems.{has_character}
use Rattle.pg_grammar_form.specs.Operators.{Operator}
use Rattle.pg_grammar_form.specs.declared.class.ClassPart.{ClassPart}
use Rattle.pg_grammar_form.specs.declared.decl.Role.{Role}
use Rattle.pg_grammar_form.specs.declared.decl.Role.TheVariants.{InfixLeft, InfixRight, InfixNone, Prefix, Postfix}
use Rattle.pg_grammar_form.specs.declared.operators_item.OperatorsItem.{OperatorsItem}
use Rattle.pg_grammar_value.specs.Grammar.{Grammar}
use Rattle.pg_language.specs.Runs.{past_run, stands_at, StandsAt, keyword, goes_on, IsKeywordAt, IsDeclarationAt}
use Rattle.pg_language.specs.Declarations.{no_symbol, declared, goes_on_with, has_keyword, roles, role_at, symbol_read, digit_value, digit_read, keyword_read, declaration_at}
use Rattle.pg_language.proofs.DeclarationsDerived.{keyword_there}

-- ---- one keyword

-- a character of what stands at a place stands there too
head_of : (text s : List ℕ) (k c : ℕ) → take (length s) text ≡ s → slice_get s k ≡ Some c → slice_get text k ≡ Some c
head_of text [] k c h e = absurd cc
head_of [] (x ∷ s) k c h e = absurd cc
head_of (y ∷ text) (x ∷ s) zero c h e = cc
head_of (y ∷ text) (x ∷ s) (suc k) c h e = let rest : take (length s) text ≡ s = cc in head_of text s k c rest e

after_drop : (text : List ℕ) (i k : ℕ) → slice_get (drop i text) k ≡ slice_get text (i + k)
after_drop text zero k = let z : k ≡ 0 + k = omega arith in ap (slice_get text) z
after_drop [] (suc i) k = refl
after_drop (y ∷ text) (suc i) k = let z : suc (i + k) ≡ suc i + k = omega arith in after_drop text i k ∙ ap (slice_get (y ∷ text)) z

character_there : (text s : List ℕ) (i k c : ℕ) → StandsAt text i s → slice_get s k ≡ Some c → slice_get text (i + k) ≡ Some c
character_there text s i k c h e = sym (after_drop text i k) ∙ head_of (drop i text) s k c h e

two_there : (text : List ℕ) (i c d : ℕ) → slice_get text i ≡ Some c → slice_get text i ≡ Some d → (c == d) ≡ false → ⊥
two_there text i c d h e other = let same : c ≡ d = cc in let equal : (c == d) ≡ true = eq-eqb c d same in cc

goes_further : (g : Grammar) (text : List ℕ) (class : List ClassPart) (i k c : ℕ) → slice_get text (i + k) ≡ Some c → ((c : ℕ) → slice_get text (i + k) ≡ Some c → goes_on g class c ≡ false) →
    is_in_range 97 122 c ≡ true → ⊥
goes_further g text class i k c there ends letter =
    let goes : goes_on g class c ≡ true = ap (λ b. has_character g.classes class c || b) letter ∙ or-true (has_character g.classes class c) in
    let stops = ends c there in cc

module _ (g : Grammar) (text : List ℕ) (class : List ClassPart) (i : ℕ) where
  pub one_keyword : (role other : Role) → IsKeywordAt g text class role i → IsKeywordAt g text class other i → role ≡ other
  one_keyword InfixLeft InfixLeft h e = refl
  one_keyword InfixLeft InfixRight h e = absurd (two_there text (i + 5) 108 114 (character_there text (keyword InfixLeft) i 5 108 h.begins refl) (character_there text (keyword InfixRight) i 5 114 e.begins refl) refl)
  one_keyword InfixLeft InfixNone h e = absurd (goes_further g text class i 5 108 (character_there text (keyword InfixLeft) i 5 108 h.begins refl) e.ends refl)
  one_keyword InfixLeft Prefix h e = absurd (two_there text (i + 0) 105 112 (character_there text (keyword InfixLeft) i 0 105 h.begins refl) (character_there text (keyword Prefix) i 0 112 e.begins refl) refl)
  one_keyword InfixLeft Postfix h e = absurd (two_there text (i + 0) 105 112 (character_there text (keyword InfixLeft) i 0 105 h.begins refl) (character_there text (keyword Postfix) i 0 112 e.begins refl) refl)
  one_keyword InfixRight InfixLeft h e = absurd (two_there text (i + 5) 114 108 (character_there text (keyword InfixRight) i 5 114 h.begins refl) (character_there text (keyword InfixLeft) i 5 108 e.begins refl) refl)
  one_keyword InfixRight InfixRight h e = refl
  one_keyword InfixRight InfixNone h e = absurd (goes_further g text class i 5 114 (character_there text (keyword InfixRight) i 5 114 h.begins refl) e.ends refl)
  one_keyword InfixRight Prefix h e = absurd (two_there text (i + 0) 105 112 (character_there text (keyword InfixRight) i 0 105 h.begins refl) (character_there text (keyword Prefix) i 0 112 e.begins refl) refl)
  one_keyword InfixRight Postfix h e = absurd (two_there text (i + 0) 105 112 (character_there text (keyword InfixRight) i 0 105 h.begins refl) (character_there text (keyword Postfix) i 0 112 e.begins refl) refl)
  one_keyword InfixNone InfixLeft h e = absurd (goes_further g text class i 5 108 (character_there text (keyword InfixLeft) i 5 108 e.begins refl) h.ends refl)
  one_keyword InfixNone InfixRight h e = absurd (goes_further g text class i 5 114 (character_there text (keyword InfixRight) i 5 114 e.begins refl) h.ends refl)
  one_keyword InfixNone InfixNone h e = refl
  one_keyword InfixNone Prefix h e = absurd (two_there text (i + 0) 105 112 (character_there text (keyword InfixNone) i 0 105 h.begins refl) (character_there text (keyword Prefix) i 0 112 e.begins refl) refl)
  one_keyword InfixNone Postfix h e = absurd (two_there text (i + 0) 105 112 (character_there text (keyword InfixNone) i 0 105 h.begins refl) (character_there text (keyword Postfix) i 0 112 e.begins refl) refl)
  one_keyword Prefix InfixLeft h e = absurd (two_there text (i + 0) 112 105 (character_there text (keyword Prefix) i 0 112 h.begins refl) (character_there text (keyword InfixLeft) i 0 105 e.begins refl) refl)
  one_keyword Prefix InfixRight h e = absurd (two_there text (i + 0) 112 105 (character_there text (keyword Prefix) i 0 112 h.begins refl) (character_there text (keyword InfixRight) i 0 105 e.begins refl) refl)
  one_keyword Prefix InfixNone h e = absurd (two_there text (i + 0) 112 105 (character_there text (keyword Prefix) i 0 112 h.begins refl) (character_there text (keyword InfixNone) i 0 105 e.begins refl) refl)
  one_keyword Prefix Prefix h e = refl
  one_keyword Prefix Postfix h e = absurd (two_there text (i + 1) 114 111 (character_there text (keyword Prefix) i 1 114 h.begins refl) (character_there text (keyword Postfix) i 1 111 e.begins refl) refl)
  one_keyword Postfix InfixLeft h e = absurd (two_there text (i + 0) 112 105 (character_there text (keyword Postfix) i 0 112 h.begins refl) (character_there text (keyword InfixLeft) i 0 105 e.begins refl) refl)
  one_keyword Postfix InfixRight h e = absurd (two_there text (i + 0) 112 105 (character_there text (keyword Postfix) i 0 112 h.begins refl) (character_there text (keyword InfixRight) i 0 105 e.begins refl) refl)
  one_keyword Postfix InfixNone h e = absurd (two_there text (i + 0) 112 105 (character_there text (keyword Postfix) i 0 112 h.begins refl) (character_there text (keyword InfixNone) i 0 105 e.begins refl) refl)
  one_keyword Postfix Prefix h e = absurd (two_there text (i + 1) 111 114 (character_there text (keyword Postfix) i 1 111 h.begins refl) (character_there text (keyword Prefix) i 1 114 e.begins refl) refl)
  one_keyword Postfix Postfix h e = refl

-- ---- the first of the roles for which a test is true

Among : {A : Type 0} → List A → A → Type 0
Among [] one = ⊥
Among (x ∷ xs) one = (x ≡ one) ⊎ Among xs one

find_one : {A : Type 0} (test : A → Bool) (xs : List A) (one : A) → test one ≡ true → ((x : A) → test x ≡ true → x ≡ one) → Among xs one → find test xs ≡ Some one
unfolding Among
find_one test [] one t only there = elim there [ ]
find_one {A} test (x ∷ xs) one t only there = go (test x) refl there (λ h. find_one test xs one t only h)
  where
    go : (b : Bool) → test x ≡ b → (x ≡ one) ⊎ Among xs one → (Among xs one → find test xs ≡ Some one) → cond b (Some x) (find test xs) ≡ Some one
    go true e there rest = ap (λ (y : A). Some y) (only x e)
    go false e (inl same) rest = let is : test x ≡ true = ap test same ∙ t in absurd cc
    go false e (inr there) rest = rest there

among : (role : Role) → Among roles role
unfolding Among
among InfixLeft = inl refl
among InfixRight = inr (inl refl)
among InfixNone = inr (inr (inl refl))
among Prefix = inr (inr (inr (inl refl)))
among Postfix = inr (inr (inr (inr (inl refl))))

-- ---- a declaration

has_keyword_there : (g : Grammar) (text : List ℕ) (class : List ClassPart) (i : ℕ) (role : Role) → IsKeywordAt g text class role i → has_keyword g text class i role ≡ true
has_keyword_there g text class i role h =
    let begins : stands_at text i (keyword role) ≡ true = (bytes_eq-Decides _ _).1 (sym h.begins) in
    ap (λ b. b && not (goes_on_with g class (slice_get text (i + length (keyword role))))) begins ∙ go (slice_get text (i + length (keyword role))) refl
  where
    go : (next : Option ℕ) → slice_get text (i + length (keyword role)) ≡ next → not (goes_on_with g class next) ≡ true
    go None e = refl
    go (Some c) e = ap not (h.ends c e)

role_found : (g : Grammar) (text : List ℕ) (class : List ClassPart) (i : ℕ) (role : Role) → IsKeywordAt g text class role i → role_at g text class i ≡ Some role
role_found g text class i role h =
    find_one (has_keyword g text class i) roles role (has_keyword_there g text class i role h) (λ other e. one_keyword g text class i other role (keyword_there g text class i other e) h) (among role)

digit_found : (precedence : ℕ) → precedence ≤ 9 → digit_value (Some (48 + precedence)) ≡ Some precedence
digit_found precedence l =
    let low : nat_le 48 (48 + precedence) ≡ true = grind (arith, nat_tests) in
    let high : nat_le (48 + precedence) 57 ≡ true = grind (arith, nat_tests) in
    let within : is_in_range 48 57 (48 + precedence) ≡ true = rw (low, high) refl in
    let back : (48 + precedence) - 48 ≡ precedence = omega arith in
    rw within (ap (λ (n : ℕ). Some n) back)

isnt_empty : (n : ℕ) → 0 < n → (n == 0) ≡ false
isnt_empty n h = grind (arith, nat_tests)

pub declaration_read : (g : Grammar) (text : List ℕ) (item : OperatorsItem) (class : List ClassPart) (d : Operator) (i j : ℕ) (is : IsDeclarationAt g text item class d i j) →
    declaration_at g text item class i ≡ declared d is.symbol_place j
declaration_read g text item class d i j is =
    let keyword_is : IsKeywordAt g text class d.role i = record { begins = is.begins; ends = is.ends } in
    let next : is.digit_place + 1 ≡ suc is.digit_place = omega arith in
    ap (keyword_read g text item i) (role_found g text class i d.role keyword_is)
    ∙ ap (λ k. digit_read g text item d.role k (digit_value (slice_get text k))) (sym is.first_gap)
    ∙ ap (λ (c : Option ℕ). digit_read g text item d.role is.digit_place (digit_value c)) is.digit
    ∙ ap (digit_read g text item d.role is.digit_place) (digit_found d.precedence is.precedence)
    ∙ ap (λ k. symbol_read g text item d.role d.precedence (past_run g text item.gap k)) next
    ∙ ap (symbol_read g text item d.role d.precedence) (sym is.second_gap)
    ∙ ap (λ (symbol : List ℕ). if length symbol == 0 then no_symbol is.symbol_place
    else declared (record { role = d.role; precedence = d.precedence; symbol = symbol }) is.symbol_place (past_run g text item.gap (is.symbol_place + length symbol))) is.symbol
    ∙ ap (λ b. if b then no_symbol is.symbol_place else declared d is.symbol_place (past_run g text item.gap (is.symbol_place + length d.symbol))) (isnt_empty (length d.symbol) is.spelled)
    ∙ ap (λ k. declared d is.symbol_place k) (sym is.last_gap)
