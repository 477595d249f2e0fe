-- Whether two starts are apart is decided.
use Rattle.std.proofs.Common.{◌≡◌, ◌<◌, ◌⊎◌, inl, inr, ℕ, List, Bool, true, false, Option, Some, None, slice_get, length, refl, sym, ap, ◌∙◌, arith}
use Rattle.std.specs.Char.{IsScalar}
use Rattle.std.proofs.Math.Utf8.{scalar}
use Rattle.std.proofs.lemmas.Bool.{both_ways, cases_Bool}
use Rattle.std.proofs.lemmas.Bool.Decides.{leb_tells}
use Rattle.std.proofs.lemmas.Option.{same_Some, none-some}
use Rattle.pg_class.specs.Ranges.{Range, AreDisjoint, IsWithin, has}
use Rattle.pg_start.specs.Apart.{Apart, KeysApart, differ, other_goes_on, key_goes_on, KeyWordApart, begins_outside, goes_on, ends}
use Rattle.pg_text.specs.Texts.{is_among}
use Rattle.pg_start.specs.Prefixes.{begins_in, IsPrefix, word_prefix}
use Rattle.pg_start.specs.Starts.{HasAt}
use Rattle.pg_start.specs.declared.kind.StartKind.{StartKind}
use Rattle.pg_start.specs.declared.kind.StartKind.TheVariants.{Class, Key, Word, End}
use Rattle.std.specs.Prelude.{take}
use Rattle.pg_derive.proofs.Least.{Decided, decided_true, decided_false, decided_both, decided_either, decided_not, decided_as, decided_same, decided_some}

-- ---- classes

-- characters have numbers below this
scalar_below : (c : ℕ) → IsScalar c → c < 1114112
scalar_below c s = grind (arith, leb_tells, s)

decided_bool : (a b : Bool) → Decided (a ≡ b)
decided_bool a true = decided_true a
decided_bool a false = decided_false a

common_decided : (xs ys : List Range) (b : Bool) → Decided ((c : ℕ) × (IsScalar c × ((has xs c ≡ true) × (has ys c ≡ b))))
common_decided xs ys b =
    decided_some (λ c. IsScalar c × ((has xs c ≡ true) × (has ys c ≡ b)))
    (λ c. decided_both (decided_true (scalar c)) (decided_both (decided_true (has xs c)) (decided_bool (has ys c) b)))
    1114112 (λ c h. scalar_below c h.0)

pub disjoint_decided : (xs ys : List Range) → Decided (AreDisjoint xs ys)
disjoint_decided xs ys = decided_as (λ none c s h k. none (c, (s, (h, k)))) (λ apart h. apart h.0 h.1.0 h.1.1.0 h.1.1.1) (decided_not (common_decided xs ys true))

pub within_decided : (xs ys : List Range) → Decided (IsWithin xs ys)
within_decided xs ys =
    decided_as
    (λ none c s h. elim (cases_Bool (has ys c)) [ inl is ↦ is | inr not ↦ absurd (none (c, (s, (h, not)))) ])
    (λ within h. both_ways (has ys h.0) h.1.1.1 (within h.0 h.1.0 h.1.1.0)) (decided_not (common_decided xs ys false))

-- ---- keys

has_at_decided : (text : List ℕ) (place : ℕ) (class : List Range) → Decided (HasAt text place class)
has_at_decided text place class = go (slice_get text place) refl
  where
    go : (found : Option ℕ) → slice_get text place ≡ found → Decided (HasAt text place class)
    go None e = inr (λ h. none-some h.character (sym e ∙ h.there))
    go (Some c) e =
        decided_as (λ m. record { character = c; there = e; member = m })
        (λ h. let same = same_Some h.character c (sym h.there ∙ e) in ap (has class) (sym same) ∙ h.member)
        (decided_true (has class c))

prefix_decided : (prefix text : List ℕ) → Decided (IsPrefix prefix text)
prefix_decided prefix text = decided_same (take (length prefix) text) prefix

keys_decided : (key : List ℕ) (excluded : List Range) (other : List ℕ) (other_excluded : List Range) → Decided (KeysApart key excluded other other_excluded)
keys_decided key excluded other other_excluded =
    decided_as there back (
    decided_either (decided_both (decided_not (prefix_decided key other)) (decided_not (prefix_decided other key)))
    (decided_either (decided_both (prefix_decided key other) (has_at_decided other (length key) excluded))
    (decided_both (prefix_decided other key) (has_at_decided key (length other) other_excluded)))
    )
  where
    there : ((IsPrefix key other → ⊥) × (IsPrefix other key → ⊥)) ⊎ ((IsPrefix key other × HasAt other (length key) excluded) ⊎ (IsPrefix other key × HasAt key (length other) other_excluded)) →
        KeysApart key excluded other other_excluded
    there (inl h) = differ h.0 h.1
    there (inr (inl h)) = other_goes_on h.0 h.1
    there (inr (inr h)) = key_goes_on h.0 h.1

    back : KeysApart key excluded other other_excluded →
        ((IsPrefix key other → ⊥) × (IsPrefix other key → ⊥)) ⊎ ((IsPrefix key other × HasAt other (length key) excluded) ⊎ (IsPrefix other key × HasAt key (length other) other_excluded))
    back (differ n m) = inl (n, m)
    back (other_goes_on f h) = inr (inl (f, h))
    back (key_goes_on f h) = inr (inr (f, h))

-- ---- a key and words

key_word_decided : (key : List ℕ) (excluded heads rest : List Range) (reserved : List (List ℕ)) → Decided (KeyWordApart key excluded heads rest reserved)
key_word_decided key excluded heads rest reserved =
    decided_as there back (
    decided_either (decided_false (begins_in heads key))
    (decided_both (decided_true (is_among reserved (word_prefix rest key)))
    (decided_either (decided_not (decided_same (word_prefix rest key) key)) (within_decided rest excluded)))
    )
  where
    there : (begins_in heads key ≡ false) ⊎ ((is_among reserved (word_prefix rest key) ≡ true) × (((word_prefix rest key ≡ key) → ⊥) ⊎ IsWithin rest excluded)) →
        KeyWordApart key excluded heads rest reserved
    there (inl h) = begins_outside h
    there (inr h) = elim h.1 [ inl n ↦ goes_on h.0 n | inr w ↦ ends h.0 w ]

    back : KeyWordApart key excluded heads rest reserved →
        (begins_in heads key ≡ false) ⊎ ((is_among reserved (word_prefix rest key) ≡ true) × (((word_prefix rest key ≡ key) → ⊥) ⊎ IsWithin rest excluded))
    back (begins_outside h) = inl h
    back (goes_on h n) = inr (h, inl n)
    back (ends h w) = inr (h, inr w)

-- ---- starts

pub apart_decided : (s t : StartKind) → Decided (Apart s t)
apart_decided (Class xs) (Class ys) = disjoint_decided xs ys
apart_decided (Class xs) (Key key excluded) = decided_false (begins_in xs key)
apart_decided (Class xs) (Word heads rest reserved) = disjoint_decided xs heads
apart_decided (Class xs) End = inl tt
apart_decided (Key key excluded) (Class ys) = decided_false (begins_in ys key)
apart_decided (Key key excluded) (Key other others) = keys_decided key excluded other others
apart_decided (Key key excluded) (Word heads rest reserved) = key_word_decided key excluded heads rest reserved
apart_decided (Key key excluded) End = inl tt
apart_decided (Word heads rest reserved) (Class ys) = disjoint_decided heads ys
apart_decided (Word heads rest reserved) (Key key excluded) = key_word_decided key excluded heads rest reserved
apart_decided (Word heads rest reserved) (Word others rests texts) = disjoint_decided heads others
apart_decided (Word heads rest reserved) End = inl tt
apart_decided End (Class ys) = inl tt
apart_decided End (Key key excluded) = inl tt
apart_decided End (Word heads rest reserved) = inl tt
apart_decided End End = inr (λ h. h)
