-- When two starts are apart, so that no place of a text has both.
use Rattle.std.specs.Prelude.{◌≡◌, ◌≢◌, ℕ, false, true, List, length}
use Rattle.pg_class.specs.Ranges.{Range, AreDisjoint, IsWithin}
use Rattle.pg_text.specs.Texts.{is_among}
use Rattle.pg_start.specs.Prefixes.{begins_in, IsPrefix, word_prefix}
use Rattle.pg_start.specs.Starts.{HasAt}
use Rattle.pg_start.specs.declared.kind.StartKind.{StartKind}
use Rattle.pg_start.specs.declared.kind.StartKind.TheVariants.{Class, Key, Word, End}

-- two keys are apart
pub data KeysApart (key : List ℕ) (excluded : List Range) (other : List ℕ) (other_excluded : List Range) : Type 0 where
  -- neither begins with the other
  differ : ¬ (IsPrefix key other) → ¬ (IsPrefix other key) → KeysApart key excluded other other_excluded
  -- the other is longer, and goes on with a character that the first excludes; or the other way round
  other_goes_on : IsPrefix key other → HasAt other (length key) excluded → KeysApart key excluded other other_excluded
  key_goes_on : IsPrefix other key → HasAt key (length other) other_excluded → KeysApart key excluded other other_excluded

-- a key and a word are apart
pub data KeyWordApart (key : List ℕ) (excluded heads rest : List Range) (reserved : List (List ℕ)) : Type 0 where
  -- the key doesn't begin with a head of the word
  begins_outside : begins_in heads key ≡ false → KeyWordApart key excluded heads rest reserved
  -- the word at the beginning of the key is reserved, and the key goes on after it
  goes_on : is_among reserved (word_prefix rest key) ≡ true → word_prefix rest key ≢ key → KeyWordApart key excluded heads rest reserved
  -- the word at the beginning of the key is reserved, and the key excludes all that could continue it
  ends : is_among reserved (word_prefix rest key) ≡ true → IsWithin rest excluded → KeyWordApart key excluded heads rest reserved

-- two starts are apart
abbrev pub Apart : StartKind → StartKind → Type 0
Apart (Class class) (Class other) = AreDisjoint class other
Apart (Class class) (Key key excluded) = begins_in class key ≡ false
Apart (Class class) (Word heads rest reserved) = AreDisjoint class heads
Apart (Class class) End = Unit {0}
Apart (Key key excluded) (Class class) = begins_in class key ≡ false
Apart (Key key excluded) (Key other other_excluded) = KeysApart key excluded other other_excluded
Apart (Key key excluded) (Word heads rest reserved) = KeyWordApart key excluded heads rest reserved
Apart (Key key excluded) End = Unit {0}
Apart (Word heads rest reserved) (Class class) = AreDisjoint heads class
Apart (Word heads rest reserved) (Key key excluded) = KeyWordApart key excluded heads rest reserved
Apart (Word heads rest reserved) (Word other_heads other_rest other_reserved) = AreDisjoint heads other_heads
Apart (Word heads rest reserved) End = Unit {0}
Apart End (Class class) = Unit {0}
Apart End (Key key excluded) = Unit {0}
Apart End (Word heads rest reserved) = Unit {0}
Apart End End = ⊥
