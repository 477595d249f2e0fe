-- What starts match at a place is told by what the text begins with from there on.
use Rattle.std.proofs.Common.{◌≡◌, ℕ, zero, suc, ◌+◌, ◌<◌, true, false, List, [], ◌∷◌, Some, length, drop, slice_get, refl, ap, ◌∙◌, sym}
use Rattle.std.proofs.lemmas.Bool.{false≢true}
use Rattle.std.proofs.lemmas.List.{drop-drop}
use Rattle.pg_class.specs.Ranges.{Range, has}
use Rattle.pg_text.specs.Texts.{is_among}
use Rattle.pg_start.specs.Prefixes.{begins_in, IsPrefix, word_prefix}
use Rattle.pg_start.specs.Starts.{HasAt, IsKeyAt, IsWordAt}

-- from the place of a character on
pub drop_at : (text : List ℕ) (i c : ℕ) → slice_get text i ≡ Some c → drop i text ≡ c ∷ drop (suc i) text
drop_at [] i c e = cc
drop_at (x ∷ xs) zero c e = let same : x ≡ c = cc in ap (λ y. y ∷ xs) same
drop_at (x ∷ xs) (suc i) c e = drop_at xs i c e

-- ---- a character of a class

pub begins_from_has : (text : List ℕ) (i : ℕ) (class : List Range) → HasAt text i class → begins_in class (drop i text) ≡ true
begins_from_has text i class h = ap (begins_in class) (drop_at text i h.character h.there) ∙ h.member

pub has_from_begins : (text : List ℕ) (i : ℕ) (class : List Range) → begins_in class (drop i text) ≡ true → HasAt text i class
has_from_begins [] zero class e = absurd (false≢true e)
has_from_begins [] (suc i) class e = absurd (false≢true e)
has_from_begins (x ∷ xs) zero class e = record { character = x; there = refl; member = e }
has_from_begins (x ∷ xs) (suc i) class e =
    let h = has_from_begins xs i class e in
    record { character = h.character; there = h.there; member = h.member }

-- no character of a class
pub none_from_begins : (text : List ℕ) (i : ℕ) (class : List Range) → begins_in class (drop i text) ≡ false
    → (c : ℕ) → slice_get text i ≡ Some c → has class c ≡ false
none_from_begins text i class e = λ c there. sym (ap (begins_in class) (drop_at text i c there)) ∙ e

pub begins_from_none : (text : List ℕ) (i : ℕ) (class : List Range) → ((c : ℕ) → slice_get text i ≡ Some c → has class c ≡ false)
    → begins_in class (drop i text) ≡ false
begins_from_none [] zero class h = refl
begins_from_none [] (suc i) class h = refl
begins_from_none (x ∷ xs) zero class h = h x refl
begins_from_none (x ∷ xs) (suc i) class h = begins_from_none xs i class h

-- ---- a key

pub key_from_ahead : (text : List ℕ) (i : ℕ) (key : List ℕ) (excluded : List Range) → 0 < length key → IsPrefix key (drop i text)
    → begins_in excluded (drop (length key) (drop i text)) ≡ false → IsKeyAt text i key excluded
key_from_ahead text i key excluded spelled there e = record {
  spelled = spelled;
  there = there;
  ends = none_from_begins text (i + length key) excluded (ap (begins_in excluded) (sym (drop-drop (length key) i text)) ∙ e);
}

pub ends_from_key : (text : List ℕ) (i : ℕ) (key : List ℕ) (class : List Range)
    → ((c : ℕ) → slice_get text (i + length key) ≡ Some c → has class c ≡ false) → begins_in class (drop (length key) (drop i text)) ≡ false
ends_from_key text i key class h = ap (begins_in class) (drop-drop (length key) i text) ∙ begins_from_none text (i + length key) class h

-- ---- a word

pub word_from_ahead : (text : List ℕ) (i : ℕ) (heads rest : List Range) (reserved : List (List ℕ)) → begins_in heads (drop i text) ≡ true
    → is_among reserved (word_prefix rest (drop i text)) ≡ false → IsWordAt text i heads rest reserved
word_from_ahead text i heads rest reserved e f =
    let h = has_from_begins text i heads e in
    record {
      head = h.character;
      there = h.there;
      member = h.member;
      free = sym (ap (λ a. is_among reserved (word_prefix rest a)) (drop_at text i h.character h.there)) ∙ f;
    }

pub head_of_word : (text : List ℕ) (i : ℕ) (heads rest : List Range) (reserved : List (List ℕ)) → IsWordAt text i heads rest reserved → HasAt text i heads
head_of_word text i heads rest reserved w = record { character = w.head; there = w.there; member = w.member }

pub free_of_word : (text : List ℕ) (i : ℕ) (heads rest : List Range) (reserved : List (List ℕ)) → IsWordAt text i heads rest reserved
    → is_among reserved (word_prefix rest (drop i text)) ≡ false
free_of_word text i heads rest reserved w = ap (λ a. is_among reserved (word_prefix rest a)) (drop_at text i w.head w.there) ∙ w.free
