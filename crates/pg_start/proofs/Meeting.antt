-- Being apart knows no order, and two starts that are apart match together at no place.
use Rattle.std.proofs.Common.{◌≡◌, ℕ, zero, suc, ◌+◌, ◌<◌, ◌≤◌, Bool, true, false, List, [], ◌∷◌, Option, Some, length, drop, slice_get, arith, refl, ap, ◌∙◌, sym, subst, ⊎_elim}
use Rattle.std.proofs.lemmas.Bool.{false≢true, and_parts, cases_lt}
use Rattle.std.proofs.lemmas.List.{drop_all}
use Rattle.std.proofs.lemmas.Option.{slice_get_within}
use Rattle.std.specs.Char.{IsScalar}
use Rattle.std.specs.Str.{all_scalars}
use Rattle.pg_class.specs.Ranges.{Range, AreDisjoint, has}
use Rattle.pg_class.proofs.Disjoint.{AreDisjoint-swap}
use Rattle.pg_text.specs.Texts.{is_among}
use Rattle.pg_start.specs.Prefixes.{begins_in, IsPrefix}
use Rattle.pg_start.specs.Starts.{HasAt, IsKeyAt, IsWordAt, MatchesAt}
use Rattle.pg_start.specs.Apart.{Apart, KeysApart, differ, other_goes_on, key_goes_on, KeyWordApart, begins_outside, goes_on, ends}
use Rattle.pg_start.specs.declared.kind.StartKind.{StartKind}
use Rattle.pg_start.specs.declared.kind.StartKind.TheVariants.{Class, Key, Word, End}
use Rattle.pg_start.proofs.Ahead.{begins_from_has, ends_from_key, head_of_word, free_of_word}
use Rattle.pg_start.proofs.Keys.{prefix_of_prefix, read_of_prefix, slice_get-drop, prefix_begins, prefix_not_empty, KeysApart-swap}
use Rattle.pg_start.proofs.Runs.{word_inside, word_ends}

-- ---- symmetry

pub Apart-swap : (one other : StartKind) → Apart one other → Apart other one
Apart-swap (Class a) (Class b) h = AreDisjoint-swap a b h
Apart-swap (Class a) (Key k e) h = h
Apart-swap (Class a) (Word h r d) apart = AreDisjoint-swap a h apart
Apart-swap (Class a) End h = tt
Apart-swap (Key k e) (Class a) h = h
Apart-swap (Key k e) (Key l f) h = KeysApart-swap k e l f h
Apart-swap (Key k e) (Word h r d) apart = apart
Apart-swap (Key k e) End h = tt
Apart-swap (Word h r d) (Class a) apart = AreDisjoint-swap h a apart
Apart-swap (Word h r d) (Key k e) apart = apart
Apart-swap (Word h r d) (Word i s f) apart = AreDisjoint-swap h i apart
Apart-swap (Word h r d) End apart = tt
Apart-swap End (Class a) h = tt
Apart-swap End (Key k e) h = tt
Apart-swap End (Word h r d) apart = tt
Apart-swap End End h = h

-- ---- two starts at one place

-- what stands at a place of a text is a character
pub scalar_at : (text : List ℕ) (i c : ℕ) → all_scalars text ≡ true → slice_get text i ≡ Some c → IsScalar c
scalar_at [] i c s e = cc
scalar_at (x ∷ xs) zero c s e =
    let same : x ≡ c = cc in
    subst IsScalar same (and_parts _ _ s).0
scalar_at (x ∷ xs) (suc i) c s e = scalar_at xs i c (and_parts _ _ s).1 e

same_character : (o : Option ℕ) (c d : ℕ) → o ≡ Some c → o ≡ Some d → c ≡ d
same_character o c d e f = cc

classes_never : (a b : List Range) (text : List ℕ) (i : ℕ) → AreDisjoint a b → all_scalars text ≡ true → HasAt text i a → HasAt text i b → ⊥
classes_never a b text i apart s h k =
    let same = same_character (slice_get text i) h.character k.character h.there k.there in
    apart h.character (scalar_at text i h.character s h.there) h.member (ap (has b) same ∙ k.member)

class_key_never : (a : List Range) (key : List ℕ) (excluded : List Range) (text : List ℕ) (i : ℕ) → begins_in a key ≡ false
    → HasAt text i a → IsKeyAt text i key excluded → ⊥
class_key_never a key excluded text i apart h k =
    false≢true (sym apart ∙ sym (prefix_begins key (drop i text) a k.spelled k.there) ∙ begins_from_has text i a h)

-- keys, of which the other goes on with a character that the first excludes
longer_never : (key : List ℕ) (excluded : List Range) (other : List ℕ) (others : List Range) (text : List ℕ) (i : ℕ)
    → HasAt other (length key) excluded → IsKeyAt text i key excluded → IsKeyAt text i other others → ⊥
longer_never key excluded other others text i h k l =
    let ahead = read_of_prefix other (drop i text) (length key) h.character l.there h.there in
    let there = sym (slice_get-drop text i (length key)) ∙ ahead in
    false≢true (sym (k.ends h.character there) ∙ h.member)

keys_never : (key : List ℕ) (excluded : List Range) (other : List ℕ) (others : List Range) (text : List ℕ) (i : ℕ)
    → KeysApart key excluded other others → IsKeyAt text i key excluded → IsKeyAt text i other others → ⊥
keys_never key excluded other others text i (differ n m) k l =
    ⊎_elim
    (λ (below : length key < length other). n (prefix_of_prefix key other (drop i text) (omega arith) k.there l.there))
    (λ (above : length other ≤ length key). m (prefix_of_prefix other key (drop i text) above l.there k.there))
    (cases_lt (length key) (length other))
keys_never key excluded other others text i (other_goes_on f h) k l = longer_never key excluded other others text i h k l
keys_never key excluded other others text i (key_goes_on f h) k l = longer_never other others key excluded text i h l k

-- no character of the rest follows the key
rest_ends : (key : List ℕ) (excluded rest : List Range) (text : List ℕ) (i : ℕ)
    → ((c : ℕ) → IsScalar c → has rest c ≡ true → has excluded c ≡ true) → all_scalars text ≡ true → IsKeyAt text i key excluded
    → (c : ℕ) → slice_get text (i + length key) ≡ Some c → has rest c ≡ false
rest_ends key excluded rest text i within s k c there = by_case (has rest c) refl
  where
    by_case : (b : Bool) → has rest c ≡ b → b ≡ false
    by_case true m =
        let is = within c (scalar_at text (i + length key) c s there) m in
        absurd (false≢true (sym (k.ends c there) ∙ is))
    by_case false m = refl

key_word_never : (key : List ℕ) (excluded heads rest : List Range) (reserved : List (List ℕ)) (text : List ℕ) (i : ℕ)
    → KeyWordApart key excluded heads rest reserved → all_scalars text ≡ true → IsKeyAt text i key excluded → IsWordAt text i heads rest reserved → ⊥
key_word_never key excluded heads rest reserved text i (begins_outside e) s k w =
    class_key_never heads key excluded text i e (head_of_word text i heads rest reserved w) k
key_word_never key excluded heads rest reserved text i (goes_on r n) s k w =
    let same = word_inside rest key (drop i text) k.spelled k.there n in
    false≢true (sym (free_of_word text i heads rest reserved w) ∙ ap (is_among reserved) same ∙ r)
key_word_never key excluded heads rest reserved text i (ends r within) s k w =
    let after = ends_from_key text i key rest (rest_ends key excluded rest text i within s k) in
    let same = word_ends rest key (drop i text) k.spelled k.there after in
    false≢true (sym (free_of_word text i heads rest reserved w) ∙ ap (is_among reserved) same ∙ r)

class_end_never : (a : List Range) (text : List ℕ) (i : ℕ) → HasAt text i a → i ≡ length text → ⊥
class_end_never a text i h e = let within = slice_get_within text i h.character h.there in omega arith

key_end_never : (key : List ℕ) (excluded : List Range) (text : List ℕ) (i : ℕ) → IsKeyAt text i key excluded → i ≡ length text → ⊥
key_end_never key excluded text i k e =
    prefix_not_empty key k.spelled (subst (IsPrefix key) (drop_all i text (omega arith)) k.there)

pub never_meet : (one other : StartKind) → Apart one other → (text : List ℕ) → all_scalars text ≡ true → (i : ℕ)
    → MatchesAt one text i → MatchesAt other text i → ⊥
never_meet (Class a) (Class b) apart text s i h k = classes_never a b text i apart s h k
never_meet (Class a) (Key key e) apart text s i h k = class_key_never a key e text i apart h k
never_meet (Class a) (Word hs r d) apart text s i h w = classes_never a hs text i apart s h (head_of_word text i hs r d w)
never_meet (Class a) End apart text s i h e = class_end_never a text i h e
never_meet (Key key e) (Class a) apart text s i k h = class_key_never a key e text i apart h k
never_meet (Key key e) (Key other f) apart text s i k l = keys_never key e other f text i apart k l
never_meet (Key key e) (Word hs r d) apart text s i k w = key_word_never key e hs r d text i apart s k w
never_meet (Key key e) End apart text s i k end = key_end_never key e text i k end
never_meet (Word hs r d) (Class a) apart text s i w h = classes_never hs a text i apart s (head_of_word text i hs r d w) h
never_meet (Word hs r d) (Key key e) apart text s i w k = key_word_never key e hs r d text i apart s k w
never_meet (Word hs r d) (Word is q f) apart text s i w v = classes_never hs is text i apart s (head_of_word text i hs r d w) (head_of_word text i is q f v)
never_meet (Word hs r d) End apart text s i w e = class_end_never hs text i (head_of_word text i hs r d w) e
never_meet End (Class a) apart text s i e h = class_end_never a text i h e
never_meet End (Key key e) apart text s i end k = key_end_never key e text i k end
never_meet End (Word hs r d) apart text s i e w = class_end_never hs text i (head_of_word text i hs r d w) e
never_meet End End apart text s i e f = apart
