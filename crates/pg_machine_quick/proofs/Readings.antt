-- What leaves read, by the next characters.
use Rattle.std.proofs.Common.{◌≡◌, ◌∙◌, ◌+◌, ◌≤◌, ◌<◌, ◌==◌, ℕ, zero, suc, List, [], ◌∷◌, ◌++◌, Bool, true, false, refl, sym, ap, subst, Some, None, length, take, drop, slice_get, cond, if◌then◌else◌, arith, length-take}
use Rattle.std.specs.Prelude.{nat_eq, nat_lt, codes, slice_index_or, unwrap_or}
use Rattle.std.specs.Option.{option_map}
use Rattle.std.specs.List.{common_prefix_len, list_any, prefix_len}
use Rattle.std.specs.Str.{bytes_eq}
use Rattle.std.proofs.lemmas.Bool.Decides.{nat_tests}
use Rattle.pg_grammar_classes.specs.Contents.{word_head, word_rest}
use Rattle.pg_grammar_classes.specs.declared.site.ClassSite.TheVariants as site
use Rattle.pg_grammar_value.specs.Grammar.{Grammar}
use Rattle.pg_grammar_value.specs.Sites.{class_at}
use Rattle.pg_grammar_form.specs.ClassItems.{has_character}
use Rattle.pg_grammar_form.specs.declared.class.ClassPart.{ClassPart}
use Rattle.pg_grammar_form.specs.declared.operators_item.OperatorsItem.{OperatorsItem}
use Rattle.pg_grammar_form.specs.declared.word_item.WordItem.{WordItem}
use Rattle.pg_language.specs.Derives.{leaf_of}
use Rattle.pg_language.specs.Errors.{Error, stopped_by, stopped_before, refused, refused_before, seen_at, no_messages_at, quote}
use Rattle.pg_language.specs.Declarations.{Declaration, declaration_at, declaration_outcome}
use Rattle.pg_language.specs.Leaves.{some_declare_outcome, satisfy_next, satisfy_outcome, not_followed_next, not_followed_outcome, string_outcome, end_outcome, some_word_outcome, word_next, word_outcome, word_read, matched, taken}
use Rattle.pg_language.specs.Outcomes.{Outcome, ok, failed}
use Rattle.pg_language.specs.Runs.{run_at}
use Rattle.pg_table.specs.Tables.{Table}
use Rattle.pg_machine_quick.specs.Readings.{Reads, IsUndeclaredAt, IsWordReadAt}
use Rattle.pg_machine_quick.specs.Tape.{spot_at}
use Rattle.pg_machine_plan.proofs.LeafVerdicts.{at_front}
use Rattle.pg_machine_quick.proofs.Spans.{front_taken, past_front}
use Rattle.pg_machine_quick.specs.declared.reading.Reading.{Reading}
use Rattle.pg_machine_quick.specs.declared.reading.Reading.TheVariants.{Took, Nothing, Failed}

-- what comes first from a place on
first_from : (text : List ℕ) (i d : ℕ) → slice_get text i ≡ Some d → take 1 (drop i text) ≡ d ∷ []
first_from [] zero d h = absurd (cc)
first_from [] (suc i) d h = absurd (cc)
first_from (x ∷ xs) zero d h = cc
first_from (x ∷ xs) (suc i) d h = first_from xs i d h

-- ---- a class

pub class_read : (g : Grammar) (text : List ℕ) (class : List ClassPart) (table : Table) (i d : ℕ) → slice_get text i ≡ Some d → has_character g.classes class d ≡ true →
    Reads text table i (satisfy_outcome g text class (spot_at table i)) (Took 1)
class_read g text class table i d h has = (
  [],
  no_messages_at (i + 1),
  ap (satisfy_next g class (spot_at table i)) h
      ∙ ap (λ b. if b then taken (spot_at table i) (d ∷ []) else failed false (stopped_by (quote (d ∷ [])) i)) has
      ∙ ap (λ s. ok true (spot_at table (i + 1)) (leaf_of s ∷ []) [] (no_messages_at (i + 1))) (sym (first_from text i d h)),
)

pub class_unread : (g : Grammar) (text : List ℕ) (class : List ClassPart) (table : Table) (i d : ℕ) → slice_get text i ≡ Some d → has_character g.classes class d ≡ false →
    Reads text table i (satisfy_outcome g text class (spot_at table i)) (Failed false)
class_unread g text class table i d h has = (
  stopped_by (quote (d ∷ [])) i,
  ap (satisfy_next g class (spot_at table i)) h ∙ ap (λ b. if b then taken (spot_at table i) (d ∷ []) else failed false (stopped_by (quote (d ∷ [])) i)) has,
)

pub class_ended : (g : Grammar) (text : List ℕ) (class : List ClassPart) (table : Table) (i : ℕ) → slice_get text i ≡ None →
    Reads text table i (satisfy_outcome g text class (spot_at table i)) (Failed false)
class_ended g text class table i h = (stopped_by [] i, ap (satisfy_next g class (spot_at table i)) h)

pub class_follows : (g : Grammar) (text : List ℕ) (class : List ClassPart) (table : Table) (i d : ℕ) → slice_get text i ≡ Some d → has_character g.classes class d ≡ true →
    Reads text table i (not_followed_outcome g text class (spot_at table i)) (Failed false)
class_follows g text class table i d h has = (
  refused (quote (d ∷ [])) i,
  ap (not_followed_next g class (spot_at table i)) h
      ∙ ap (λ b. if b then failed false (refused (quote (d ∷ [])) i) else ok false (spot_at table i) [] [] (stopped_by (quote (d ∷ [])) i)) has,
)

pub other_follows : (g : Grammar) (text : List ℕ) (class : List ClassPart) (table : Table) (i d : ℕ) → slice_get text i ≡ Some d → has_character g.classes class d ≡ false →
    Reads text table i (not_followed_outcome g text class (spot_at table i)) Nothing
other_follows g text class table i d h has = (
  [],
  stopped_by (quote (d ∷ [])) i,
  ap (not_followed_next g class (spot_at table i)) h
      ∙ ap (λ b. if b then failed false (refused (quote (d ∷ [])) i) else ok false (spot_at table i) [] [] (stopped_by (quote (d ∷ [])) i)) has,
)

pub end_follows : (g : Grammar) (text : List ℕ) (class : List ClassPart) (table : Table) (i : ℕ) → slice_get text i ≡ None →
    Reads text table i (not_followed_outcome g text class (spot_at table i)) Nothing
end_follows g text class table i h = ([], stopped_by [] i, ap (not_followed_next g class (spot_at table i)) h)

-- ---- the end

same_number : (i n : ℕ) → i ≡ n → (i == n) ≡ true
same_number i n h = grind (arith, nat_tests)

other_number : (i n : ℕ) → (i ≡ n → ⊥) → (i == n) ≡ false
other_number i n h = grind (arith, nat_tests)

pub is_end : (text : List ℕ) (table : Table) (i : ℕ) → i ≡ length text → Reads text table i (end_outcome text (spot_at table i)) Nothing
is_end text table i h = ([], stopped_before (codes "end of input") [] i, rw (same_number i (length text) h) refl)

pub is_no_end : (text : List ℕ) (table : Table) (i : ℕ) → (i ≡ length text → ⊥) → Reads text table i (end_outcome text (spot_at table i)) (Failed false)
is_no_end text table i h = (refused_before (codes "end of input") (seen_at text i) i, rw (other_number i (length text) h) refl)

-- ---- strings

all_there : (s r : List ℕ) → common_prefix_len nat_eq s r ≡ length s → take (length s) r ≡ s
all_there [] r h = cc
all_there (x ∷ s) [] h = absurd (omega arith)
all_there (x ∷ s) (y ∷ r) h = by_front (nat_eq x y) refl (λ e. all_there s r e) h
  where
    by_front : (b : Bool) → nat_eq x y ≡ b → (common_prefix_len nat_eq s r ≡ length s → take (length s) r ≡ s) →
        cond b (1 + common_prefix_len nat_eq s r) 0 ≡ length (x ∷ s) → take (length (x ∷ s)) (y ∷ r) ≡ x ∷ s
    by_front true e rest h =
        let same : x ≡ y = grind (arith, nat_tests) in
        let fewer : common_prefix_len nat_eq s r ≡ length s = omega arith in
        let more : length (x ∷ s) ≡ suc (length s) = omega arith in
        ap (λ n. take n (y ∷ r)) more ∙ ap (λ z. y ∷ z) (rest fewer) ∙ ap (λ z. z ∷ s) (sym same)
    by_front false e rest h = absurd (omega arith)

pub string_read : (text s : List ℕ) (table : Table) (i n : ℕ) → n ≡ matched text s i → n ≡ length s → Reads text table i (string_outcome text s (spot_at table i)) (Took n)
string_read text s table i n h whole =
    let there : take n (drop i text) ≡ s = ap (λ m. take m (drop i text)) whole ∙ all_there s (drop i text) (sym h ∙ whole) in
    let failure : Outcome = failed (nat_lt 0 (matched text s i)) (stopped_before (quote s) (seen_at text (i + matched text s i)) i) in (
      [],
      no_messages_at (i + length s),
      ap (λ b. if b then taken (spot_at table i) s else failure) (same_number (matched text s i) (length s) (sym h ∙ whole))
          ∙ ap (λ m. ok true (spot_at table (i + m)) (leaf_of s ∷ []) [] (no_messages_at (i + length s))) (sym whole)
          ∙ ap (λ z. ok true (spot_at table (i + n)) (leaf_of z ∷ []) [] (no_messages_at (i + length s))) (sym there),
    )

pub string_unread : (text s : List ℕ) (table : Table) (i n : ℕ) → n ≡ matched text s i → (n ≡ length s → ⊥) →
    Reads text table i (string_outcome text s (spot_at table i)) (Failed (nat_lt 0 n))
string_unread text s table i n h other =
    let e : Error = stopped_before (quote s) (seen_at text (i + matched text s i)) i in (
      e,
      ap (λ b. if b then taken (spot_at table i) s else failed (nat_lt 0 (matched text s i)) e) (other_number (matched text s i) (length s) (λ q. other (h ∙ q)))
          ∙ ap (λ m. failed (nat_lt 0 m) e) (sym h),
    )

-- ---- words

module _ (g : Grammar) (text : List ℕ) (item : WordItem) (table : Table) (i d : ℕ) (ds : List ℕ) (there : drop i text ≡ d ∷ ds) where
  -- the character that comes next decides how a word goes on
  begun : word_outcome g text item (spot_at table i) ≡ word_next g text item (spot_at table i) (Some d)
  begun = ap (word_next g text item (spot_at table i)) (at_front text i ∙ ap (λ z. slice_get z 0) there)

  pub word_unbegun : has_character g.classes item.head d ≡ false → Reads text table i (word_outcome g text item (spot_at table i)) (Failed false)
  word_unbegun h = (
    stopped_by (quote (d ∷ [])) i,
    begun ∙ ap (λ b. if b then word_read item (spot_at table i) (d ∷ run_at g text item.rest (suc i)) else failed false (stopped_by (quote (d ∷ [])) i)) h,
  )

  -- the whole word
  whole : (n : ℕ) → n ≡ prefix_len (has_character g.classes item.rest) ds → d ∷ run_at g text item.rest (suc i) ≡ take (n + 1) (drop i text)
  whole n count =
      let next : 1 + n ≡ n + 1 = omega arith in
      ap (λ (z : List ℕ). d ∷ take (prefix_len (has_character g.classes item.rest) z) z) (past_front text i d ds there)
      ∙ ap (λ m. d ∷ take m ds) (sym count) ∙ front_taken d n ds ∙ ap (λ m. take m (d ∷ ds)) next ∙ ap (take (n + 1)) (sym there)

  -- a word that was begun is read
  read : (n : ℕ) → n ≡ prefix_len (has_character g.classes item.rest) ds → has_character g.classes item.head d ≡ true →
      word_outcome g text item (spot_at table i) ≡ word_read item (spot_at table i) (take (n + 1) (drop i text))
  read n count h = begun
      ∙ ap (λ b. if b then word_read item (spot_at table i) (d ∷ run_at g text item.rest (suc i)) else failed false (stopped_by (quote (d ∷ [])) i)) h
      ∙ ap (word_read item (spot_at table i)) (whole n count)

  pub word_reserved : (n : ℕ) → n ≡ prefix_len (has_character g.classes item.rest) ds → has_character g.classes item.head d ≡ true →
      list_any (λ s. bytes_eq s (take (n + 1) (drop i text))) item.reserved ≡ true → Reads text table i (word_outcome g text item (spot_at table i)) (Failed false)
  word_reserved n count h among =
      let w : List ℕ = take (n + 1) (drop i text) in
      let e : Error = refused (codes "reserved word " ++ quote w) i in
      (e, read n count h ∙ ap (λ b. if b then failed false e else taken (spot_at table i) w) among)

  pub word_free : (n : ℕ) → n ≡ prefix_len (has_character g.classes item.rest) ds → n ≤ length ds → has_character g.classes item.head d ≡ true →
      list_any (λ s. bytes_eq s (take (n + 1) (drop i text))) item.reserved ≡ false → Reads text table i (word_outcome g text item (spot_at table i)) (Took (n + 1))
  word_free n count within h among =
      let w : List ℕ = take (n + 1) (drop i text) in
      let e : Error = refused (codes "reserved word " ++ quote w) i in
      let size : length (drop i text) ≡ length (d ∷ ds) = ap length there in
      let long : length w ≡ n + 1 = omega (arith, length-take (n + 1) (drop i text)) in (
        [],
        no_messages_at (i + length w),
        read n count h ∙ ap (λ b. if b then failed false e else taken (spot_at table i) w) among
            ∙ ap (λ m. ok true (spot_at table (i + m)) (leaf_of w ∷ []) [] (no_messages_at (i + length w))) long,
      )

pub word_ended : (g : Grammar) (text : List ℕ) (item : WordItem) (table : Table) (i : ℕ) → drop i text ≡ [] →
    Reads text table i (word_outcome g text item (spot_at table i)) (Failed false)
word_ended g text item table i there = (stopped_by [] i, ap (word_next g text item (spot_at table i)) (at_front text i ∙ ap (λ z. slice_get z 0) there))

-- ---- words, by what the code asks

-- a slice that has a first item
front_of : (xs : List ℕ) (d : ℕ) → 1 ≤ length xs → d ≡ slice_index_or xs 0 d → xs ≡ d ∷ drop 1 xs
front_of [] d some h = absurd (omega arith)
front_of (x ∷ xs) d some h = ap (λ z. z ∷ xs) (sym h)

none_left : (xs : List ℕ) → length xs < 1 → xs ≡ []
none_left [] h = refl
none_left (x ∷ xs) h = absurd (omega arith)

module _ (g : Grammar) (text : List ℕ) (item : WordItem) (number i d : ℕ) (all : List ℕ) (is : slice_get g.words number ≡ Some item) (same : all ≡ drop i text) (some : 1 ≤ length all)
    (first : d ≡ slice_index_or all 0 d) (table : Table) where
  told : (r : Reading) → Reads text table i (word_outcome g text item (spot_at table i)) r → IsWordReadAt g text table i number r
  told r reads = (word_outcome g text item (spot_at table i), ap (some_word_outcome g text (spot_at table i)) is, reads)

  there : drop i text ≡ d ∷ drop 1 all
  there = sym same ∙ front_of all d some first

  head_at : class_at g (site.Head number) ≡ item.head
  head_at = ap (λ o. unwrap_or (option_map word_head o) []) is

  rest_at : class_at g (site.Rest number) ≡ item.rest
  rest_at = ap (λ o. unwrap_or (option_map word_rest o) []) is

  has_head : (b : Bool) → b ≡ has_character g.classes (class_at g (site.Head number)) d → has_character g.classes item.head d ≡ b
  has_head b h = ap (λ k. has_character g.classes k d) (sym head_at) ∙ sym h

  is_count : (n : ℕ) (rest : List ℕ) → rest ≡ drop 1 all → n ≡ prefix_len (has_character g.classes (class_at g (site.Rest number))) rest →
      n ≡ prefix_len (has_character g.classes item.rest) (drop 1 all)
  is_count n rest e h = h ∙ ap (λ k. prefix_len (has_character g.classes k) rest) rest_at ∙ ap (λ z. prefix_len (has_character g.classes item.rest) z) e

  is_word : (n : ℕ) (b : Bool) → b ≡ list_any (λ s. bytes_eq s (take (n + 1) all)) item.reserved → list_any (λ s. bytes_eq s (take (n + 1) (drop i text))) item.reserved ≡ b
  is_word n b h = ap (λ z. list_any (λ s. bytes_eq s (take (n + 1) z)) item.reserved) (sym same) ∙ sym h

  pub no_word : (b : Bool) → b ≡ has_character g.classes (class_at g (site.Head number)) d → b ≡ false → IsWordReadAt g text table i number (Failed false)
  no_word b h e = told (Failed false) (word_unbegun g text item table i d (drop 1 all) there (has_head b h ∙ e))

  module _ (n : ℕ) (rest : List ℕ) (after : rest ≡ drop 1 all) (count : n ≡ prefix_len (has_character g.classes (class_at g (site.Rest number))) rest) where
    pub reserved_word : (b x : Bool) → b ≡ has_character g.classes (class_at g (site.Head number)) d → b ≡ true →
        x ≡ list_any (λ s. bytes_eq s (take (n + 1) all)) item.reserved → x ≡ true → IsWordReadAt g text table i number (Failed false)
    reserved_word b x h e among is_among = told (Failed false)
        (word_reserved g text item table i d (drop 1 all) there n (is_count n rest after count) (has_head b h ∙ e) (is_word n x among ∙ is_among))

    pub free_word : (b x : Bool) → b ≡ has_character g.classes (class_at g (site.Head number)) d → b ≡ true → n ≤ length rest →
        x ≡ list_any (λ s. bytes_eq s (take (n + 1) all)) item.reserved → x ≡ false → IsWordReadAt g text table i number (Took (n + 1))
    free_word b x h e within among is_among = told (Took (n + 1))
        (word_free g text item table i d (drop 1 all) there n (is_count n rest after count) (subst (λ z. n ≤ length z) after within) (has_head b h ∙ e) (is_word n x among ∙ is_among))

pub ended_word : (g : Grammar) (text : List ℕ) (item : WordItem) (number i : ℕ) (all : List ℕ) → slice_get g.words number ≡ Some item → all ≡ drop i text → length all < 1 →
    (table : Table) → IsWordReadAt g text table i number (Failed false)
ended_word g text item number i all is same none table =
    (word_outcome g text item (spot_at table i), ap (some_word_outcome g text (spot_at table i)) is, word_ended g text item table i (sym same ∙ none_left all none))

-- ---- a declaration

-- what has this outcome where one may stand
pub declares_nothing : (g : Grammar) (text : List ℕ) (class : List ClassPart) (table : Table) (i : ℕ) (item : OperatorsItem) (d : Declaration) (c : Bool) (e : Error) → g.operators ≡ Some item →
    d ≡ declaration_at g text item class i → declaration_outcome text (spot_at table i) d ≡ failed c e → IsUndeclaredAt g text table i class (Failed c)
declares_nothing g text class table i item d c e some there o = (
  failed c e,
  ap (λ x. some_declare_outcome g text class (spot_at table i) x) some ∙ ap (λ x. Some (declaration_outcome text (spot_at table i) x)) (sym there) ∙ ap (λ x. Some x) o,
  (e, refl),
)
