-- The tokens that characters spell are printable: a literal holds characters of the file or those that escapes name.
use Rattle.std.proofs.Common.{◌≡◌, ◌<◌, ◌≤◌, ◌⊎◌, inl, inr, ℕ, Bool, true, false, ◌&&◌, ◌==◌, nat_le, List, [], ◌∷◌, ◌++◌, length, Some, None, refl, sym, ap, subst, ◌∙◌, arith}
use Rattle.std.proofs.lemmas.Bool.{and_parts}
use Rattle.std.proofs.lemmas.Bool.Decides.{nat_tests}
use Rattle.std.specs.Str.{chars, all_scalars, IsUtf8}
use Rattle.std.specs.Str.Parse.{digits_value}
use lib.Utf8.{scalar, scalar_cases}
use Rattle.pg_file_tokens.specs.Tokens.{Token}
use Rattle.pg_file_tokens.specs.Lexical.{passes, is_scalar, is_hex, is_code, mark_text, short_escape, Escape, short, unicode, Literal, closed, plain, escaped, Spelled, ends, blank, comment, a_mark, a_name, a_number, a_literal}
use Rattle.pg_file.proofs.AgainLemmas.Printable.{ArePrintable}
use Rattle.pg_file_tokens.proofs.Encoded.{chars_encoded}

abbrev AreScalars : List ℕ → Type 0
AreScalars s = passes is_scalar s ≡ true

-- the characters after some others
after : (xs ys : List ℕ) → AreScalars (xs ++ ys) → AreScalars ys
after [] ys h = h
after (c ∷ xs) ys h = after xs ys (and_parts (is_scalar c) (passes is_scalar (xs ++ ys)) h).1

first : (c : ℕ) (cs : List ℕ) → AreScalars (c ∷ cs) → is_scalar c ≡ true
first c cs h = (and_parts (is_scalar c) (passes is_scalar cs) h).0

others : (c : ℕ) (cs : List ℕ) → AreScalars (c ∷ cs) → AreScalars cs
others c cs h = (and_parts (is_scalar c) (passes is_scalar cs) h).1

before_all : (c : ℕ) (cs : List ℕ) → is_scalar c ≡ true → AreScalars cs → AreScalars (c ∷ cs)
before_all c cs h e = rw (h, e) refl

-- ---- literals

-- what a short escape stands for
short_is_scalar : (e c : ℕ) → short_escape e ≡ Some c → is_scalar c ≡ true
short_is_scalar e c h = go (e == 34) (e == 92) (e == 110) (e == 116) (e == 114) refl refl refl refl refl
  where
    stands_for : (d : ℕ) → is_scalar d ≡ true → short_escape e ≡ Some d → is_scalar c ≡ true
    stands_for d k is = let q : Some d ≡ Some c = sym is ∙ h in let same : d ≡ c = cc in subst (λ x. is_scalar x ≡ true) same k

    go : (b1 b2 b3 b4 b5 : Bool) → (e == 34) ≡ b1 → (e == 92) ≡ b2 → (e == 110) ≡ b3 → (e == 116) ≡ b4 → (e == 114) ≡ b5 → is_scalar c ≡ true
    go true b2 b3 b4 b5 e1 e2 e3 e4 e5 = stands_for 34 refl (rw e1 refl)
    go false true b3 b4 b5 e1 e2 e3 e4 e5 = stands_for 92 refl (rw (e1, e2) refl)
    go false false true b4 b5 e1 e2 e3 e4 e5 = stands_for 10 refl (rw (e1, e2, e3) refl)
    go false false false true b5 e1 e2 e3 e4 e5 = stands_for 9 refl (rw (e1, e2, e3, e4) refl)
    go false false false false true e1 e2 e3 e4 e5 = stands_for 13 refl (rw (e1, e2, e3, e4, e5) refl)
    go false false false false false e1 e2 e3 e4 e5 =
        let is : short_escape e ≡ None = rw (e1, e2, e3, e4, e5) refl in
        let q : None ≡ Some c = sym is ∙ h in absurd cc

code_is_scalar : (ds : List ℕ) → is_code ds ≡ true → is_scalar (digits_value 16 ds) ≡ true
code_is_scalar ds h =
    let q = and_parts (nat_le 1 (length ds)) (nat_le (length ds) 6 && (passes is_hex ds && is_scalar (digits_value 16 ds))) h in
    let p = and_parts (nat_le (length ds) 6) (passes is_hex ds && is_scalar (digits_value 16 ds)) q.1 in
    (and_parts (passes is_hex ds) (is_scalar (digits_value 16 ds)) p.1).1

escape_scalars : (cs : List ℕ) (c : ℕ) (rest : List ℕ) → Escape cs c rest → AreScalars cs → (is_scalar c ≡ true) × AreScalars rest
escape_scalars cs c rest (short {e = e} {c = d} {rest = tail} k) h = (short_is_scalar e d k, others e tail h)
escape_scalars cs c rest (unicode ds tail k) h =
    (code_is_scalar ds k, others 125 tail (after ds (125 ∷ tail) (others 123 (ds ++ 125 ∷ tail) (others 117 (123 ∷ (ds ++ 125 ∷ tail)) h))))

literal_scalars : (cs s rest : List ℕ) → Literal cs s rest → AreScalars cs → AreScalars s × AreScalars rest
literal_scalars cs s rest (closed {rest = tail}) h = (refl, others 34 tail h)
literal_scalars cs s rest (plain {c = c} {cs = ds} {s = t} {rest = tail} k l) h =
    let q = literal_scalars ds t tail l (others c ds h) in (before_all c t (first c ds h) q.0, q.1)
literal_scalars cs s rest (escaped {c = c} {cs = ds} {after = more} {s = t} {rest = tail} k l) h =
    let p = escape_scalars ds c more k (others 92 ds h) in
    let q = literal_scalars more t tail l p.1 in
    (before_all c t p.0 q.0, q.1)

-- ---- tokens

pub spelled_printable : (cs : List ℕ) (ts : List Token) → Spelled cs ts → AreScalars cs → ArePrintable ts
spelled_printable cs ts ends h = tt
spelled_printable cs ts (blank {c = c} {cs = ds} {ts = us} k l) h = spelled_printable ds us l (others c ds h)
spelled_printable cs ts (comment xs ds {ts = us} k e l) h = spelled_printable ds us l (after xs ds (others 35 (xs ++ ds) h))
spelled_printable cs ts (a_mark m ds {ts = us} l) h = (tt, spelled_printable ds us l (after (mark_text m) ds h))
spelled_printable cs ts (a_name s ds {ts = us} k e l) h = (k, spelled_printable ds us l (after s ds h))
spelled_printable cs ts (a_number s ds {ts = us} k e l) h = (k, spelled_printable ds us l (after s ds h))
spelled_printable cs ts (a_literal {cs = ds} {s = s} {rest = tail} {ts = us} k l) h =
    let q = literal_scalars ds s tail k (others 34 ds h) in (q.0, spelled_printable tail us l q.1)

-- ---- characters of UTF-8

scalar_again : (c : ℕ) → scalar c ≡ true → is_scalar c ≡ true
scalar_again c h = go (scalar_cases c h)
  where
    go : (c < 55296) ⊎ ((57344 ≤ c) × (c < 1114112)) → is_scalar c ≡ true
    go (inl k) = grind (arith, nat_tests)
    go (inr k) = let low = k.0 in let high = k.1 in grind (arith, nat_tests)

scalars_again : (cs : List ℕ) → all_scalars cs ≡ true → AreScalars cs
scalars_again [] h = refl
scalars_again (c ∷ cs) h = let q = and_parts (scalar c) (all_scalars cs) h in before_all c cs (scalar_again c q.0) (scalars_again cs q.1)

pub utf8_scalars : (bytes : List ℕ) → IsUtf8 bytes → AreScalars (chars bytes)
utf8_scalars bytes h =
    subst AreScalars (sym (chars_encoded h.0) ∙ ap chars h.1.1) (scalars_again h.0 h.1.0)
