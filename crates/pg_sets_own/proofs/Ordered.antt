-- Only a start itself is equal to it in the order of starts.
use Rattle.std.proofs.Common.{◌≡◌, ℕ, true, List, [], ◌∷◌, refl, sym, ap, ◌∙◌, arith}
use Rattle.std.specs.Cmp.Lexicographic.{slice_cmp}
use Rattle.std.proofs.Common.{Less, Equal, Greater}
use Rattle.std.specs.Ordering.{is_eq, nat_cmp, ordering_then}
use Rattle.std.specs.declared.cmp.Ordering.{Ordering}
use Rattle.std.proofs.lemmas.Bool.{true≢false}
use Rattle.std.proofs.lemmas.Cmp.{ranked}
use Rattle.pg_class.specs.Ranges.{Range}
use Rattle.pg_start.specs.declared.kind.StartKind.{StartKind}
use Rattle.pg_start.specs.declared.kind.StartKind.TheVariants.{Class, Key, Word, End}
use Rattle.pg_sets_own.specs.Listed.{start_order, kind_number, key_text, ranges_of, heads_of, rest_of, reserved_of, range_order, ranges_order, text_order}
use Rattle.pg_sets_own.specs.declared.listed.ListedStart.{ListedStart}

-- two answers of a comparison differ
pub less-equal : Less ≡ Equal → ⊥
less-equal e = grind (arith, e)

greater-equal : Greater ≡ Equal → ⊥
greater-equal e = grind (arith, e)

pub equal_is : (r : Ordering) → is_eq r ≡ true → r ≡ Equal
equal_is Less e = absurd (true≢false (sym e))
equal_is Equal e = refl
equal_is Greater e = absurd (true≢false (sym e))

then_first : (r s : Ordering) → ordering_then r s ≡ Equal → r ≡ Equal
then_first Less s e = e
then_first Equal s e = refl
then_first Greater s e = e

then_second : (r s : Ordering) → ordering_then r s ≡ Equal → s ≡ Equal
then_second Less s e = absurd (less-equal e)
then_second Equal s e = e
then_second Greater s e = absurd (greater-equal e)

same_number : (a b : ℕ) → nat_cmp a b ≡ Equal → a ≡ b
same_number a b e = ranked a b Equal (sym e)

same_list : {X : Type 0} (cmp : X → X → Ordering) → ((x y : X) → cmp x y ≡ Equal → x ≡ y) → (xs ys : List X) → slice_cmp cmp xs ys ≡ Equal → xs ≡ ys
same_list cmp same [] [] e = refl
same_list cmp same [] (y ∷ ys) e = absurd (less-equal e)
same_list cmp same (x ∷ xs) [] e = absurd (greater-equal e)
same_list cmp same (x ∷ xs) (y ∷ ys) e =
    ap (λ z. z ∷ xs) (same x y (then_first (cmp x y) (slice_cmp cmp xs ys) e)) ∙ ap (λ zs. y ∷ zs) (same_list cmp same xs ys (then_second (cmp x y) (slice_cmp cmp xs ys) e))

same_range : (x y : Range) → range_order x y ≡ Equal → x ≡ y
same_range x y e =
    let first : x.0 ≡ y.0 = same_number x.0 y.0 (then_first (nat_cmp x.0 y.0) (nat_cmp x.1 y.1) e) in
    let second : x.1 ≡ y.1 = same_number x.1 y.1 (then_second (nat_cmp x.0 y.0) (nat_cmp x.1 y.1) e) in
    ap (λ (n : ℕ). (n, x.1)) first ∙ ap (λ (n : ℕ). (y.0, n)) second

same_ranges : (xs ys : List Range) → ranges_order xs ys ≡ Equal → xs ≡ ys
same_ranges = same_list range_order same_range

same_text : (xs ys : List ℕ) → text_order xs ys ≡ Equal → xs ≡ ys
same_text = same_list nat_cmp same_number

pub same_texts : (xs ys : List (List ℕ)) → slice_cmp text_order xs ys ≡ Equal → xs ≡ ys
same_texts = same_list text_order same_text

-- two kinds with the same parts
same_kind : (a b : StartKind) → kind_number a ≡ kind_number b → key_text a ≡ key_text b → ranges_of a ≡ ranges_of b → heads_of a ≡ heads_of b → rest_of a ≡ rest_of b
    → reserved_of a ≡ reserved_of b → a ≡ b
same_kind (Class x) (Class y) kind text ranges heads rest reserved = ap Class ranges
same_kind (Class x) (Key s y) kind text ranges heads rest reserved = absurd (omega arith)
same_kind (Class x) (Word h r s) kind text ranges heads rest reserved = absurd (omega arith)
same_kind (Class x) End kind text ranges heads rest reserved = absurd (omega arith)
same_kind (Key s x) (Class y) kind text ranges heads rest reserved = absurd (omega arith)
same_kind (Key s x) (Key t y) kind text ranges heads rest reserved = ap (λ u. Key u x) text ∙ ap (Key t) ranges
same_kind (Key s x) (Word h r t) kind text ranges heads rest reserved = absurd (omega arith)
same_kind (Key s x) End kind text ranges heads rest reserved = absurd (omega arith)
same_kind (Word h r s) (Class y) kind text ranges heads rest reserved = absurd (omega arith)
same_kind (Word h r s) (Key t y) kind text ranges heads rest reserved = absurd (omega arith)
same_kind (Word h r s) (Word i q t) kind text ranges heads rest reserved = ap (λ x. Word x r s) heads ∙ (ap (λ x. Word i x s) rest ∙ ap (Word i q) reserved)
same_kind (Word h r s) End kind text ranges heads rest reserved = absurd (omega arith)
same_kind End (Class y) kind text ranges heads rest reserved = absurd (omega arith)
same_kind End (Key t y) kind text ranges heads rest reserved = absurd (omega arith)
same_kind End (Word h r s) kind text ranges heads rest reserved = absurd (omega arith)
same_kind End End kind text ranges heads rest reserved = refl

pub same_start : (one other : ListedStart) → start_order one other ≡ Equal → one ≡ other
same_start one other e =
    let a = one.start in
    let b = other.start in
    let kinds = nat_cmp (kind_number a) (kind_number b) in
    let texts = ordering_then kinds (text_order (key_text a) (key_text b)) in
    let ranges = ordering_then texts (ranges_order (ranges_of a) (ranges_of b)) in
    let words = ordering_then ranges (nat_cmp one.word other.word) in
    let heads = ordering_then words (ranges_order (heads_of a) (heads_of b)) in
    let rests = ordering_then heads (ranges_order (rest_of a) (rest_of b)) in
    let to_rests : rests ≡ Equal = then_first rests (slice_cmp text_order (reserved_of a) (reserved_of b)) e in
    let to_heads : heads ≡ Equal = then_first heads (ranges_order (rest_of a) (rest_of b)) to_rests in
    let to_words : words ≡ Equal = then_first words (ranges_order (heads_of a) (heads_of b)) to_heads in
    let to_ranges : ranges ≡ Equal = then_first ranges (nat_cmp one.word other.word) to_words in
    let to_texts : texts ≡ Equal = then_first texts (ranges_order (ranges_of a) (ranges_of b)) to_ranges in
    let to_kinds : kinds ≡ Equal = then_first kinds (text_order (key_text a) (key_text b)) to_texts in
    let start : a ≡ b =
    same_kind a b (same_number (kind_number a) (kind_number b) to_kinds)
    (same_text (key_text a) (key_text b) (then_second kinds (text_order (key_text a) (key_text b)) to_texts))
    (same_ranges (ranges_of a) (ranges_of b) (then_second texts (ranges_order (ranges_of a) (ranges_of b)) to_ranges))
    (same_ranges (heads_of a) (heads_of b) (then_second words (ranges_order (heads_of a) (heads_of b)) to_heads))
    (same_ranges (rest_of a) (rest_of b) (then_second heads (ranges_order (rest_of a) (rest_of b)) to_rests))
    (same_texts (reserved_of a) (reserved_of b) (then_second rests (slice_cmp text_order (reserved_of a) (reserved_of b)) e)) in
    let word : one.word ≡ other.word = same_number one.word other.word (then_second ranges (nat_cmp one.word other.word) to_words) in
    let moved : ◌≡◌ {A = ListedStart} (record { start = a; word = one.word }) (record { start = b; word = other.word }) =
    ap (λ x. record { start = x; word = one.word }) start ∙ ap (λ w. record { start = b; word = w }) word in
    moved
