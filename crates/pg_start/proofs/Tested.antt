-- What the tests of the characters ahead of a place tell of a start there.
use Rattle.std.proofs.Common.{◌≡◌, ℕ, ◌-◌, Bool, true, false, not, List, length, take, drop, arith, ◌∙◌, sym, subst}
use Rattle.std.proofs.lemmas.Bool.{false≢true, not-true, not_from_false}
use Rattle.std.proofs.lemmas.List.{take_all, length-drop}
use Rattle.pg_class.specs.Ranges.{Range}
use Rattle.pg_text.specs.Texts.{is_among}
use Rattle.pg_start.specs.Prefixes.{begins_in, IsPrefix, word_prefix}
use Rattle.pg_start.specs.Starts.{IsStart, MatchesAt}
use Rattle.pg_start.specs.declared.kind.StartKind.{StartKind}
use Rattle.pg_start.specs.declared.kind.StartKind.TheVariants.{Class, Key, Word}
use Rattle.pg_start.proofs.Ahead.{begins_from_has, has_from_begins, key_from_ahead, ends_from_key, word_from_ahead, head_of_word, free_of_word}

-- all characters from a place on
pub from_place : (text : List ℕ) (i : ℕ) → take (length text - i) (drop i text) ≡ drop i text
from_place text i = let all = length-drop i text in take_all (length text - i) (drop i text) (omega arith)

pub class_tested : (start : StartKind) (text : List ℕ) (i : ℕ) (class : List Range) (r : Bool) → start ≡ Class class
    → r ≡ begins_in class (drop i text) → (r ≡ true → MatchesAt start text i) × (MatchesAt start text i → r ≡ true)
class_tested start text i class r e is =
    subst (λ (s : StartKind). (r ≡ true → MatchesAt s text i) × (MatchesAt s text i → r ≡ true)) (sym e)
    (λ t. has_from_begins text i class (sym is ∙ t), λ h. is ∙ begins_from_has text i class h)

-- the key stands ahead, with no excluded character after it
abbrev pub KeyAhead : List ℕ → List Range → List ℕ → Type 0
KeyAhead key excluded ahead = IsPrefix key ahead × (begins_in excluded (drop (length key) ahead) ≡ false)

pub key_tested : (start : StartKind) (text : List ℕ) (i : ℕ) (key : List ℕ) (excluded : List Range) (k ahead : List ℕ) (r : Bool)
    → start ≡ Key key excluded → IsStart start → k ≡ key → ahead ≡ drop i text
    → (r ≡ true → KeyAhead k excluded ahead) × (KeyAhead k excluded ahead → r ≡ true)
    → (r ≡ true → MatchesAt start text i) × (MatchesAt start text i → r ≡ true)
key_tested start text i key excluded k ahead r e is f g told =
    let spelled = subst IsStart e is in
    let by_key = subst (λ (l : List ℕ). (r ≡ true → KeyAhead l excluded ahead) × (KeyAhead l excluded ahead → r ≡ true)) f told in
    let here = subst (λ (a : List ℕ). (r ≡ true → KeyAhead key excluded a) × (KeyAhead key excluded a → r ≡ true)) g by_key in
    subst (λ (s : StartKind). (r ≡ true → MatchesAt s text i) × (MatchesAt s text i → r ≡ true)) (sym e) (
      λ t. let h = here.0 t in key_from_ahead text i key excluded spelled h.0 h.1,
      λ h. here.1 (h.there, ends_from_key text i key excluded h.ends),
    )

-- where the text goes on with a head
pub word_tested : (start : StartKind) (text : List ℕ) (i : ℕ) (heads rest : List Range) (reserved : List (List ℕ)) (r : Bool)
    → start ≡ Word heads rest reserved → begins_in heads (drop i text) ≡ true → r ≡ is_among reserved (word_prefix rest (drop i text))
    → (not r ≡ true → MatchesAt start text i) × (MatchesAt start text i → not r ≡ true)
word_tested start text i heads rest reserved r e begins is =
    subst (λ (s : StartKind). (not r ≡ true → MatchesAt s text i) × (MatchesAt s text i → not r ≡ true)) (sym e) (
      λ t. word_from_ahead text i heads rest reserved begins (sym is ∙ not-true r t),
      λ w. not_from_false r (is ∙ free_of_word text i heads rest reserved w),
    )

-- and where it doesn't
pub no_word_tested : (start : StartKind) (text : List ℕ) (i : ℕ) (heads rest : List Range) (reserved : List (List ℕ)) (r : Bool)
    → start ≡ Word heads rest reserved → r ≡ begins_in heads (drop i text) → r ≡ false
    → (r ≡ true → MatchesAt start text i) × (MatchesAt start text i → r ≡ true)
no_word_tested start text i heads rest reserved r e is f =
    subst (λ (s : StartKind). (r ≡ true → MatchesAt s text i) × (MatchesAt s text i → r ≡ true)) (sym e) (
      λ t. absurd (false≢true (sym f ∙ t)),
      λ w. is ∙ begins_from_has text i heads (head_of_word text i heads rest reserved w),
    )
