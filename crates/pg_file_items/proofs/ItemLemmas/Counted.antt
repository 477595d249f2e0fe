-- Sizes may be counted at each step, as well as at the end.
use Rattle.std.proofs.Common.{◌≡◌, ℕ, zero, suc, ◌+◌, ◌≤◌, ◌<◌, ◌==◌, min, Bool, true, false, nat_le, if◌then◌else◌, List, [], ◌∷◌, map, take, drop, refl, sym, ap, ◌∙◌, arith}
use Rattle.std.proofs.lemmas.Bool.Decides.{nat_tests}
use Rattle.std.proofs.lemmas.List.{take-map, drop-map}
use Rattle.pg_file_items.specs.declared.written.WrittenForm.{WrittenForm}
use Rattle.pg_file_items.specs.declared.written.WrittenForm.TheVariants as written
use Rattle.pg_file_items.specs.declared.words.SomeForm.{SomeForm}
use Rattle.pg_file_items.specs.declared.words.SomeForm.TheVariants as some_form
use Rattle.pg_file_items.specs.declared.words.OneForm.{OneForm}
use Rattle.pg_file_items.specs.declared.words.OneForm.TheVariants as one_form
use Rattle.pg_file_items.specs.declared.words.TwoForm.{TwoForm}
use Rattle.pg_file_items.specs.declared.words.TwoForm.TheVariants as two_form
use Rattle.pg_file_items.specs.Sizes.{part_count, sizes, sum_of, size_at, some_size, one_size, two_size, size_of_form, counted}

-- two numbers are counted alike
pub record CountAlike (m n : ℕ) : Type 0 where
  pub alike : min m 8193 ≡ min n 8193

pub counted_is_min : (n : ℕ) → counted n ≡ min n 8193
counted_is_min n = go (nat_le n 8192) refl
  where
    go : (b : Bool) → nat_le n 8192 ≡ b → (if b then n else 8193) ≡ min n 8193
    go true e = let small : n ≤ 8192 = grind (arith, nat_tests) in omega arith
    go false e = let great : 8192 < n = grind (arith, nat_tests) in omega arith

pub counted_alike : (m n : ℕ) → CountAlike m n → counted m ≡ counted n
counted_alike m n h = counted_is_min m ∙ h.alike ∙ sym (counted_is_min n)

same : (n : ℕ) → CountAlike n n
same n = record { alike = refl }

once : (n : ℕ) → CountAlike (counted n) n
once n = let c = counted_is_min n in record { alike = omega arith }

both : (a b c d : ℕ) → CountAlike a b → CountAlike c d → CountAlike (a + c) (b + d)
both a b c d h e = let x = h.alike in let y = e.alike in record { alike = omega arith }

first : (k : ℕ) (ns : List ℕ) → CountAlike (size_at k (map counted ns)) (size_at k ns)
first k [] = same 0
first zero (n ∷ ns) = once n
first (suc k) (n ∷ ns) = first k ns

all : (ns : List ℕ) → CountAlike (sum_of (map counted ns)) (sum_of ns)
all [] = same 0
all (n ∷ ns) = both (counted n) n _ _ (once n) (all ns)

more : (k m n : ℕ) → CountAlike m n → CountAlike (k + m) (k + n)
more k m n h = both k k m n (same k) h

some_alike : (form : SomeForm) (n : ℕ) (ns : List ℕ) → CountAlike (some_size form n (map counted ns)) (some_size form n ns)
some_alike some_form.Choice n ns = more 1 _ _ (all ns)
some_alike some_form.Try n ns = more (if n == 1 then 1 else 2) _ _ (all ns)
some_alike some_form.Local n ns = more (if n == 1 then 1 else 2) _ _ (all ns)

one_alike : (form : OneForm) (m n : ℕ) → CountAlike m n → CountAlike (one_size form m) (one_size form n)
one_alike one_form.Many m n h = more 1 m n h
one_alike one_form.Many1 m n h = more 2 (m + m) (n + n) (both m n m n h h)
one_alike one_form.Option m n h = more 2 m n h
one_alike one_form.Text m n h = more 1 m n h
one_alike one_form.Skip m n h = more 1 m n h

two_alike : (form : TwoForm) (k l m n : ℕ) → CountAlike k l → CountAlike m n → CountAlike (two_size form k m) (two_size form l n)
two_alike two_form.SepBy k l m n h e = more 6 _ _ (both k l _ _ h (both k l m n h e))
two_alike two_form.SepBy1 k l m n h e = more 4 _ _ (both k l _ _ h (both k l m n h e))
two_alike two_form.EndBy k l m n h e = more 3 _ _ (both k l m n h e)

pub form_alike : (form : WrittenForm) (ns : List ℕ) → CountAlike (size_of_form form (map counted ns)) (size_of_form form ns)
form_alike (written.OfClass form parts) ns = same 1
form_alike (written.String s) ns = same 1
form_alike (written.Seq n) ns = more 1 _ _ (all ns)
form_alike (written.OfSome form n) ns = some_alike form n ns
form_alike (written.OfOne form) ns = one_alike form _ _ (first 0 ns)
form_alike (written.OfTwo form) ns = two_alike form _ _ _ _ (first 0 ns) (first 1 ns)
form_alike written.Between ns = more 3 _ _ (both _ _ _ _ (first 0 ns) (both _ _ _ _ (first 1 ns) (first 2 ns)))
form_alike (written.Chain form builder symbol) ns = more 1 _ _ (both _ _ _ _ (first 0 ns) (first 1 ns))
form_alike (written.Expression infixes prefixes postfixes) ns = more 1 _ _ (first 0 ns)
form_alike (written.Build builder symbol) ns = more 1 _ _ (first 0 ns)
form_alike (written.Label message) ns = more 1 _ _ (first 0 ns)
form_alike written.EndOfText ns = same 1
form_alike (written.Word s) ns = same 1
form_alike (written.Rule s) ns = same 1

pub form_counted : (form : WrittenForm) (ns : List ℕ) → counted (size_of_form form (map counted ns)) ≡ counted (size_of_form form ns)
form_counted form ns = counted_alike _ _ (form_alike form ns)

pub counted_small : (n : ℕ) → counted n ≤ 8193
counted_small n = let c = counted_is_min n in omega arith

-- a sum that is counted before another number is added
pub counted_sum : (a b c : ℕ) → counted (counted (a + b) + c) ≡ counted (a + (b + c))
counted_sum a b c =
    let whole : a + b + c ≡ a + (b + c) = omega arith in
    counted_alike _ _ (both (counted (a + b)) (a + b) c c (once (a + b)) (same c)) ∙ ap counted whole

pub first_counted : (ns : List ℕ) → size_at 0 (map counted ns) ≡ counted (size_at 0 ns)
first_counted [] = refl
first_counted (n ∷ ns) = refl

-- the size of a form before others, from sizes that are counted
pub step_counted : (form : WrittenForm) (forms : List WrittenForm) (waiting : List ℕ) (size : ℕ)
    → waiting ≡ map counted (sizes forms) → size ≡ counted (size_of_form form (take (part_count form) waiting))
    → size ∷ drop (part_count form) waiting ≡ map counted (sizes (form ∷ forms))
step_counted form forms waiting size h e =
    let front : take (part_count form) (map counted (sizes forms)) ≡ map counted (take (part_count form) (sizes forms)) = take-map counted (part_count form) (sizes forms) in
    let rest : drop (part_count form) (map counted (sizes forms)) ≡ map counted (drop (part_count form) (sizes forms)) = drop-map counted (part_count form) (sizes forms) in
    let own : size ≡ counted (size_of_form form (take (part_count form) (sizes forms))) =
    e ∙ rw (h, front) (form_counted form (take (part_count form) (sizes forms))) in
    let others : drop (part_count form) waiting ≡ map counted (drop (part_count form) (sizes forms)) = rw h rest in
    cc
