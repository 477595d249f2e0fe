-- How many bits words have.
use Rattle.std.proofs.Common.{◌≡◌, ℕ, zero, suc, ◌+◌, ◌*◌, ◌^◌, ◌<◌, ◌≤◌, Bool, false, cond, List, [], ◌∷◌, ◌++◌, length, map, get_or, ◌-◌, eqb, count_by, refl, sym, ap, subst, ◌∙◌, arith, add-zero, zero-add}
use Rattle.std.specs.Int.{bit_at}
use Rattle.std.specs.List.{range_with_len}
use Rattle.std.specs.Int.RustNames.{count_ones}
use Rattle.std.proofs.lemmas.List.Sums.{sum_by-append, count_by-le-length}
use Rattle.std.proofs.lemmas.List.FromFn.{get_or-map-range_with_len, length-map-range_with_len, length-range_with_len}
use Rattle.std.proofs.lemmas.Nat.Bits.{bit_at-lt, same_from_bits_below}
use Rattle.std.proofs.lemmas.Simd.{mask_l-lt, bit_mask_l, ones-mask_l}
use lib.Lanes.{mask_l}
use Rattle.pg_graph_bits.specs.Words.{has_bit, bits_below, marks_of, HoldsBelow}
use Rattle.pg_graph_bits.proofs.Meeting.{one_tells}

count_first : {X : Type 0} (p : X → Bool) (x : X) (xs : List X) → count_by p (x ∷ xs) ≡ cond (p x) 1 0 + count_by p xs
count_first p x xs = sum_by-append (λ y. cond {A = ℕ} (p y) 1 0) (x ∷ []) xs ∙ ap (λ n. n + count_by p xs) (zero-add (cond (p x) 1 0))

-- counting marks counts those that are marked
count_map : {X : Type 0} (p : X → Bool) (xs : List X) → count_by (λ mark. mark) (map p xs) ≡ count_by p xs
count_map p [] = refl
count_map p (x ∷ xs) = count_first (λ mark. mark) (p x) (map p xs) ∙ (ap (λ n. cond (p x) 1 0 + n) (count_map p xs) ∙ sym (count_first p x xs))

-- numbers in two parts
range_parts : (a n m : ℕ) → range_with_len a (n + m) ≡ range_with_len a n ++ range_with_len (a + n) m
range_parts a zero m = let e : 0 + m ≡ m = omega arith in let f : a + 0 ≡ a = omega arith in ap (range_with_len a) e ∙ ap (λ b. range_with_len b m) (sym f)
range_parts a (suc n) m =
    let e : suc n + m ≡ suc (n + m) = omega arith in
    let f : a + 1 + n ≡ a + suc n = omega arith in
    ap (range_with_len a) e ∙ ap (λ xs. a ∷ xs) (range_parts (a + 1) n m ∙ ap (λ b. range_with_len (a + 1) n ++ range_with_len b m) f)

count_parts : (p : ℕ → Bool) (n m : ℕ) → count_by p (range_with_len 0 (n + m)) ≡ count_by p (range_with_len 0 n) + count_by p (range_with_len n m)
count_parts p n m =
    ap (count_by p) (range_parts 0 n m ∙ ap (λ b. range_with_len 0 n ++ range_with_len b m) (zero-add n))
    ∙ sum_by-append (λ y. cond {A = ℕ} (p y) 1 0) (range_with_len 0 n) (range_with_len n m)

-- the bits of one word
word_is : (words : List ℕ) (k : ℕ) → get_or words k 0 < 2 ^ 64 → mask_l (map (has_bit words) (range_with_len (k * 64) 64)) ≡ get_or words k 0
word_is words k fits =
    let bits = map (has_bit words) (range_with_len (k * 64) 64) in
    let long : length bits ≡ 64 = length-map-range_with_len (has_bit words) (k * 64) 64 in
    same_from_bits_below 64 (mask_l bits) (get_or words k 0) (subst (λ n. mask_l bits < 2 ^ n) long (mask_l-lt bits)) fits
    (λ i few.
    bit_mask_l bits i
    ∙ (ap (λ b. cond {A = ℕ} b 1 0) (get_or-map-range_with_len (has_bit words) (k * 64) 64 i (k * 64 + i) false few refl ∙ one_tells words k i few)
    ∙ one_or_none (bit_at (get_or words k 0) i) (bit_at-lt (get_or words k 0) i)))
  where
    one_or_none : (b : ℕ) → b < 2 → cond {A = ℕ} (eqb b 1) 1 0 ≡ b
    one_or_none zero l = refl
    one_or_none (suc zero) l = refl
    one_or_none (suc (suc b)) l = absurd (omega arith)

pub word_more : (words : List ℕ) (k : ℕ) → get_or words k 0 < 2 ^ 64 → bits_below words (64 * (k + 1)) ≡ bits_below words (64 * k) + count_ones (get_or words k 0)
word_more words k fits =
    let e : 64 * (k + 1) ≡ 64 * k + 64 = omega arith in
    let f : 64 * k ≡ k * 64 = omega arith in
    ap (bits_below words) e
    ∙ (count_parts (has_bit words) (64 * k) 64
    ∙ (ap (λ a. bits_below words (64 * k) + count_by (has_bit words) (range_with_len a 64)) f
    ∙ ap (λ n. bits_below words (64 * k) + n) (sym (ones-mask_l (has_bit words) (range_with_len (k * 64) 64)) ∙ ap count_ones (word_is words k fits))))

-- further numbers take nothing away
pub bits_more : (words : List ℕ) (n m : ℕ) → n ≤ m → bits_below words n ≤ bits_below words m
bits_more words n m le =
    let rest : ℕ = m - n in
    let e : m ≡ n + rest = omega arith in
    let parts = count_parts (has_bit words) n rest in
    subst (λ j. bits_below words n ≤ bits_below words j) (sym e) (omega arith)

none_counted : (p : ℕ → Bool) (a n : ℕ) → ((m : ℕ) → a ≤ m → p m ≡ false) → count_by p (range_with_len a n) ≡ 0
none_counted p a zero none = refl
none_counted p a (suc n) none =
    count_first p a (range_with_len (a + 1) n)
    ∙ (ap (λ b. cond {A = ℕ} b 1 0 + count_by p (range_with_len (a + 1) n)) (none a (omega arith))
    ∙ (zero-add (count_by p (range_with_len (a + 1) n)) ∙ none_counted p (a + 1) n (λ m low. none m (omega arith))))

-- all bits are those of the numbers below the limit
pub bits_all : (words : List ℕ) (limit : ℕ) → HoldsBelow words limit → bits_below words (64 * length words) ≡ bits_below words limit
bits_all words limit holds =
    let long = holds.long in
    let rest : ℕ = 64 * length words - limit in
    let e : 64 * length words ≡ limit + rest = omega arith in
    let none = none_counted (has_bit words) limit rest holds.none_past in
    ap (bits_below words) e ∙ (count_parts (has_bit words) limit rest ∙ (ap (λ n. bits_below words limit + n) none ∙ add-zero (bits_below words limit)))

pub bits_few : (words : List ℕ) (limit : ℕ) → bits_below words limit ≤ limit
bits_few words limit = let few = count_by-le-length (has_bit words) (range_with_len 0 limit) in let long = length-range_with_len 0 limit in omega arith

pub marks_counted : (words : List ℕ) (limit : ℕ) → count_by (λ mark. mark) (marks_of words limit) ≡ bits_below words limit
marks_counted words limit = count_map (has_bit words) (range_with_len 0 limit)
