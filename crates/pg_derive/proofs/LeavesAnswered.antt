-- Leaves answer what they derive, and fail without consuming where nothing of theirs begins.
use Rattle.std.proofs.Common.{◌≡◌, ◌==◌, ◌+◌, ◌<◌, ◌⊎◌, inl, inr, ℕ, zero, suc, List, [], ◌∷◌, Bool, true, false, refl, sym, ◌∙◌, ap, length, take, drop, if◌then◌else◌, cond, eqb-true, arith}
use Rattle.std.specs.Prelude.{Option, Some, None, slice_get, nat_eq, nat_lt}
use Rattle.std.specs.List.{list_any, common_prefix_len}
use Rattle.std.specs.Str.{bytes_eq}
use Rattle.std.proofs.lemmas.Bool.{eq-eqb}
use Rattle.std.proofs.lemmas.Bool.Decides.{nat_tests}
use Rattle.pg_grammar_form.specs.ClassItems.{has_character}
use Rattle.pg_grammar_value.specs.Grammar.{Grammar}
use Rattle.pg_grammar_form.specs.declared.class.ClassPart.{ClassPart}
use Rattle.pg_grammar_form.specs.declared.word_item.WordItem.{WordItem}
use Rattle.pg_grammar_form.specs.Operators.{Operator}
use Rattle.pg_grammar_form.specs.declared.decl.Role.{Role}
use Rattle.pg_grammar_form.specs.declared.operators_item.OperatorsItem.{OperatorsItem}
use Rattle.pg_table.specs.Tables.{Admits, with_operator}
use Rattle.pg_language.specs.Derives.{Spot, declaration_tree}
use Rattle.pg_language.specs.Runs.{HasAt, StandsAt, IsWordAt, IsKeywordAt, IsDeclarationAt, run_at}
use Rattle.pg_language.specs.Errors.{Error, quote, seen_at, no_messages_at, stopped_before}
use Rattle.pg_language.specs.Leaves.{taken, satisfy_next, satisfy_outcome, word_read, word_next, word_outcome, not_followed_next, not_followed_outcome, matched, string_outcome, end_outcome}
use Rattle.pg_language.specs.Outcomes.{Outcome, ok, failed}
use Rattle.pg_language.specs.Declarations.{has_keyword, roles, role_at, keyword_read, unless_refused, declaration_outcome, declare_outcome}
use Rattle.pg_language.proofs.DeclarationsDerived.{found, keyword_there}
use Rattle.pg_language.proofs.KeywordsRead.{declaration_read}
use Rattle.pg_derive.specs.Predictive.{BeginsAt}

-- an error, and nothing was consumed
pub record FailsEmpty (o : Outcome) : Type 0 where
  pub error : Error
  pub is : o ≡ failed false error

-- ok, and nothing was consumed or read
pub record StaysOk (a : Spot) (o : Outcome) : Type 0 where
  pub error : Error
  pub is : o ≡ ok false a [] [] error

pub if_true : {X : Type 0} (b : Bool) (x y : X) → b ≡ true → (if b then x else y) ≡ x
if_true true x y e = refl
if_true false x y e = absurd (cc)

pub if_false : {X : Type 0} (b : Bool) (x y : X) → b ≡ false → (if b then x else y) ≡ y
if_false true x y e = absurd (cc)
if_false false x y e = refl

fails_if : (b : Bool) (o q : Outcome) → (b ≡ true → FailsEmpty o) → (b ≡ false → FailsEmpty q) → FailsEmpty (if b then o else q)
fails_if true o q f g = f refl
fails_if false o q f g = g refl

failed_empty : (e : Error) → FailsEmpty (failed false e)
failed_empty e = record { error = e; is = refl }

-- ---- one character

pub satisfy_ok : (g : Grammar) (text : List ℕ) (class : List ClassPart) (a : Spot) (has : HasAt g text class a.place) →
    satisfy_outcome g text class a ≡ taken a (has.character ∷ [])
satisfy_ok g text class a has = ap (satisfy_next g class a) has.there ∙ if_true (has_character g.classes class has.character) _ _ has.member

satisfy_by : (g : Grammar) (text : List ℕ) (class : List ClassPart) (a : Spot) (next : Option ℕ) → slice_get text a.place ≡ next →
    (HasAt g text class a.place → ⊥) → FailsEmpty (satisfy_next g class a next)
satisfy_by g text class a None e bare = failed_empty _
satisfy_by g text class a (Some c) e bare = fails_if (has_character g.classes class c) _ _
    (λ h. absurd (bare (record { character = c; there = e; member = h }))) (λ h. failed_empty _)

pub satisfy_fails : (g : Grammar) (text : List ℕ) (class : List ClassPart) (a : Spot) → (HasAt g text class a.place → ⊥) → FailsEmpty (satisfy_outcome g text class a)
satisfy_fails g text class a bare = satisfy_by g text class a (slice_get text a.place) refl bare

-- ---- words

word_read_ok : (item : WordItem) (a : Spot) (s : List ℕ) → list_any (λ reserved. bytes_eq reserved s) item.reserved ≡ false → word_read item a s ≡ taken a s
word_read_ok item a s free = if_false (list_any (λ reserved. bytes_eq reserved s) item.reserved) _ _ free

pub word_ok : (g : Grammar) (text : List ℕ) (item : WordItem) (a : Spot) (s : List ℕ) → IsWordAt g text item a.place s → word_outcome g text item a ≡ taken a s
word_ok g text item a s is =
    ap (word_next g text item a) is.there
    ∙ if_true (has_character g.classes item.head is.head) _ _ is.member
    ∙ ap (word_read item a) (sym is.whole)
    ∙ word_read_ok item a s is.free

word_by : (g : Grammar) (text : List ℕ) (item : WordItem) (a : Spot) (next : Option ℕ) → slice_get text a.place ≡ next →
    ((s : List ℕ) → IsWordAt g text item a.place s → ⊥) → FailsEmpty (word_next g text item a next)
word_by g text item a None e bare = failed_empty _
word_by g text item a (Some c) e bare = fails_if (has_character g.classes item.head c) _ _
    (λ h. fails_if (list_any (λ reserved. bytes_eq reserved (c ∷ run_at g text item.rest (suc a.place))) item.reserved) _ _
    (λ r. failed_empty _)
    (λ r. absurd (bare (c ∷ run_at g text item.rest (suc a.place)) (record { head = c; there = e; member = h; whole = refl; free = r }))))
    (λ h. failed_empty _)

pub word_fails : (g : Grammar) (text : List ℕ) (item : WordItem) (a : Spot) → ((s : List ℕ) → IsWordAt g text item a.place s → ⊥) → FailsEmpty (word_outcome g text item a)
word_fails g text item a bare = word_by g text item a (slice_get text a.place) refl bare

-- ---- strings

pub head_there : (text : List ℕ) (i c : ℕ) (cs : List ℕ) → drop i text ≡ c ∷ cs → slice_get text i ≡ Some c
head_there [] zero c cs e = absurd (cc)
head_there (x ∷ xs) zero c cs e = cc
head_there [] (suc i) c cs e = absurd (cc)
head_there (x ∷ xs) (suc i) c cs e = head_there xs i c cs e

counts_all : (s cs : List ℕ) → take (length s) cs ≡ s → common_prefix_len nat_eq s cs ≡ length s
counts_all [] cs e = refl
counts_all (x ∷ s) [] e = absurd (cc)
counts_all (x ∷ s) (c ∷ cs) e =
    let same : x ≡ c = cc in
    let rest : take (length s) cs ≡ s = cc in
    let counted : common_prefix_len nat_eq s cs ≡ length s = counts_all s cs rest in
    let all : 1 + common_prefix_len nat_eq s cs ≡ suc (length s) = omega arith in
    ap (λ b. cond b (1 + common_prefix_len nat_eq s cs) 0) (eq-eqb x c same) ∙ all

pub string_ok : (text s : List ℕ) (a : Spot) → StandsAt text a.place s → string_outcome text s a ≡ taken a s
string_ok text s a stands = if_true (matched text s a.place == length s) _ _ (eq-eqb _ _ (counts_all s (drop a.place text) stands))

-- the first character isn't there: nothing matches
counts_none : (s cs : List ℕ) → ((x c : ℕ) → slice_get s 0 ≡ Some x → slice_get cs 0 ≡ Some c → x ≡ c → ⊥) → common_prefix_len nat_eq s cs ≡ 0
counts_none [] cs bare = refl
counts_none (x ∷ s) [] bare = refl
counts_none (x ∷ s) (c ∷ cs) bare = go (nat_eq x c) refl
  where
    go : (b : Bool) → nat_eq x c ≡ b → cond b (1 + common_prefix_len nat_eq s cs) 0 ≡ 0
    go true h = absurd (bare x c refl refl (eqb-true x c h))
    go false h = refl

first_seen : (text cs : List ℕ) (i : ℕ) → drop i text ≡ cs → (c : ℕ) → slice_get cs 0 ≡ Some c → slice_get text i ≡ Some c
first_seen text [] i e c h = absurd (cc)
first_seen text (d ∷ cs) i e c h = let same : d ≡ c = cc in head_there text i c cs (e ∙ ap (λ x. x ∷ cs) same)

string_none : (text s : List ℕ) (a : Spot) → (BeginsAt text a.place s → ⊥) → matched text s a.place ≡ 0
string_none text s a bare = counts_none s (drop a.place text) (λ x c f g e.
    bare (record { character = x; first = f; there = first_seen text (drop a.place text) a.place refl c g ∙ ap Some (sym e) }))

unequal : (m k : ℕ) → m < k → (m == k) ≡ false
unequal m k l = grind (arith, nat_tests)

pub string_fails : (text s : List ℕ) (a : Spot) → 0 < length s → (BeginsAt text a.place s → ⊥) → FailsEmpty (string_outcome text s a)
string_fails text s a spelled bare =
    let none : matched text s a.place ≡ 0 = string_none text s a bare in
    let e : Error = stopped_before (quote s) (seen_at text (a.place + matched text s a.place)) a.place in
    record {
      error = e;
      is = if_false (matched text s a.place == length s) _ _ (unequal (matched text s a.place) (length s) (omega arith)) ∙ ap (λ m. failed (nat_lt 0 m) e) none;
    }

-- ---- what comes next, and is not taken

not_followed_by_next : (g : Grammar) (text : List ℕ) (class : List ClassPart) (a : Spot) (next : Option ℕ) → slice_get text a.place ≡ next →
    (HasAt g text class a.place → ⊥) → StaysOk a (not_followed_next g class a next)
not_followed_by_next g text class a None e bare = record { error = _; is = refl }
not_followed_by_next g text class a (Some c) e bare = go (has_character g.classes class c) refl
  where
    go : (b : Bool) → has_character g.classes class c ≡ b → StaysOk a (not_followed_next g class a (Some c))
    go true h = absurd (bare (record { character = c; there = e; member = h }))
    go false h = record { error = _; is = if_false (has_character g.classes class c) _ _ h }

pub not_followed_ok : (g : Grammar) (text : List ℕ) (class : List ClassPart) (a : Spot) → (HasAt g text class a.place → ⊥) → StaysOk a (not_followed_outcome g text class a)
not_followed_ok g text class a bare = not_followed_by_next g text class a (slice_get text a.place) refl bare

not_followed_either : (g : Grammar) (text : List ℕ) (class : List ClassPart) (a : Spot) (next : Option ℕ) →
    FailsEmpty (not_followed_next g class a next) ⊎ StaysOk a (not_followed_next g class a next)
not_followed_either g text class a None = inr (record { error = _; is = refl })
not_followed_either g text class a (Some c) = go (has_character g.classes class c) refl
  where
    go : (b : Bool) → has_character g.classes class c ≡ b → FailsEmpty (not_followed_next g class a (Some c)) ⊎ StaysOk a (not_followed_next g class a (Some c))
    go true h = inl (record { error = _; is = if_true (has_character g.classes class c) _ _ h })
    go false h = inr (record { error = _; is = if_false (has_character g.classes class c) _ _ h })

pub not_followed_decided : (g : Grammar) (text : List ℕ) (class : List ClassPart) (a : Spot) →
    FailsEmpty (not_followed_outcome g text class a) ⊎ StaysOk a (not_followed_outcome g text class a)
not_followed_decided g text class a = not_followed_either g text class a (slice_get text a.place)

pub end_ok : (text : List ℕ) (a : Spot) → a.place ≡ length text → StaysOk a (end_outcome text a)
end_ok text a e = record { error = _; is = if_true (a.place == length text) _ _ (eq-eqb _ _ e) }

pub end_decided : (text : List ℕ) (a : Spot) → FailsEmpty (end_outcome text a) ⊎ StaysOk a (end_outcome text a)
end_decided text a = go (a.place == length text) refl
  where
    go : (b : Bool) → (a.place == length text) ≡ b → FailsEmpty (end_outcome text a) ⊎ StaysOk a (end_outcome text a)
    go true h = inr (record { error = _; is = if_true (a.place == length text) _ _ h })
    go false h = inl (record { error = _; is = if_false (a.place == length text) _ _ h })

-- ---- declarations

pub declare_fails : (g : Grammar) (text : List ℕ) (item : OperatorsItem) (class : List ClassPart) (a : Spot) → ((role : Role) → IsKeywordAt g text class role a.place → ⊥) →
    FailsEmpty (declare_outcome g text item class a)
declare_fails g text item class a bare = go (role_at g text class a.place) refl
  where
    go : (word : Option Role) → role_at g text class a.place ≡ word → FailsEmpty (declaration_outcome text a (keyword_read g text item a.place word))
    go None e = failed_empty _
    go (Some role) e = absurd (bare role (keyword_there g text class a.place role (found (has_keyword g text class a.place) roles role e)))

pub declare_ok : (g : Grammar) (text : List ℕ) (item : OperatorsItem) (class : List ClassPart) (d : Operator) (a : Spot) (j : ℕ) → IsDeclarationAt g text item class d a.place j → Admits a.table d →
    declare_outcome g text item class a ≡ ok true (record { place = j; table = with_operator a.table d }) (declaration_tree d ∷ []) [] (no_messages_at j)
declare_ok g text item class d a j is admits =
    ap (declaration_outcome text a) (declaration_read g text item class d a.place j is) ∙ ap (unless_refused d a.table is.symbol_place j) admits
