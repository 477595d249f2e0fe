-- How many base forms a value in preorder stands for. Each form uses the sizes of the next whole forms.
use Rattle.std.specs.Prelude.{ℕ, zero, suc, ◌+◌, ◌==◌, nat_le, if◌then◌else◌, List, [], ◌∷◌, take, drop}
use Rattle.pg_file_items.specs.declared.written.WrittenForm.{WrittenForm}
use Rattle.pg_file_items.specs.declared.written.WrittenForm.TheVariants as written
use Rattle.pg_file_items.specs.declared.words.SomeForm.{SomeForm}
use Rattle.pg_file_items.specs.declared.words.SomeForm.TheVariants as some_form
use Rattle.pg_file_items.specs.declared.words.OneForm.{OneForm}
use Rattle.pg_file_items.specs.declared.words.OneForm.TheVariants as one_form
use Rattle.pg_file_items.specs.declared.words.TwoForm.{TwoForm}
use Rattle.pg_file_items.specs.declared.words.TwoForm.TheVariants as two_form

-- how many of the next whole forms are a form's parts
abbrev pub part_count : WrittenForm → ℕ
part_count (written.OfClass form parts) = 0
part_count (written.String s) = 0
part_count (written.Seq n) = n
part_count (written.OfSome form n) = n
part_count (written.OfOne form) = 1
part_count (written.OfTwo form) = 2
part_count written.Between = 3
part_count (written.Chain form builder symbol) = 2
part_count (written.Expression infixes prefixes postfixes) = 1
part_count (written.Build builder symbol) = 1
part_count (written.Label message) = 1
part_count written.EndOfText = 0
part_count (written.Word s) = 0
part_count (written.Rule s) = 0

abbrev pub sum_of : List ℕ → ℕ
sum_of [] = 0
sum_of (size ∷ sizes) = size + sum_of sizes

-- the size with an index
abbrev pub size_at : ℕ → List ℕ → ℕ
size_at k [] = 0
size_at zero (size ∷ sizes) = size
size_at (suc k) (size ∷ sizes) = size_at k sizes

-- the size of a form of n values; several values of a `try` are a `seq` in it
abbrev pub some_size : SomeForm → ℕ → List ℕ → ℕ
some_size some_form.Choice n sizes = 1 + sum_of sizes
some_size some_form.Try n sizes = (if n == 1 then 1 else 2) + sum_of sizes
some_size some_form.Local n sizes = (if n == 1 then 1 else 2) + sum_of sizes

abbrev pub one_size : OneForm → ℕ → ℕ
one_size one_form.Many size = 1 + size
one_size one_form.Many1 size = 2 + (size + size)
one_size one_form.Option size = 2 + size
one_size one_form.Text size = 1 + size
one_size one_form.Skip size = 1 + size

abbrev pub two_size : TwoForm → ℕ → ℕ → ℕ
two_size two_form.SepBy size separator = 6 + (size + (size + separator))
two_size two_form.SepBy1 size separator = 4 + (size + (size + separator))
two_size two_form.EndBy size separator = 3 + (size + separator)

-- how many base forms a form stands for, given the sizes of its parts
abbrev pub size_of_form : WrittenForm → List ℕ → ℕ
size_of_form (written.OfClass form parts) sizes = 1
size_of_form (written.String s) sizes = 1
size_of_form (written.Seq n) sizes = 1 + sum_of sizes
size_of_form (written.OfSome form n) sizes = some_size form n sizes
size_of_form (written.OfOne form) sizes = one_size form (size_at 0 sizes)
size_of_form (written.OfTwo form) sizes = two_size form (size_at 0 sizes) (size_at 1 sizes)
size_of_form written.Between sizes = 3 + (size_at 0 sizes + (size_at 1 sizes + size_at 2 sizes))
size_of_form (written.Chain form builder symbol) sizes = 1 + (size_at 0 sizes + size_at 1 sizes)
size_of_form (written.Expression infixes prefixes postfixes) sizes = 1 + size_at 0 sizes
size_of_form (written.Build builder symbol) sizes = 1 + size_at 0 sizes
size_of_form (written.Label message) sizes = 1 + size_at 0 sizes
size_of_form written.EndOfText sizes = 1
size_of_form (written.Word s) sizes = 1
size_of_form (written.Rule s) sizes = 1

-- the sizes of the whole forms, from left to right
abbrev pub sizes : List WrittenForm → List ℕ
sizes [] = []
sizes (form ∷ forms) = size_of_form form (take (part_count form) (sizes forms)) ∷ drop (part_count form) (sizes forms)

-- how many base forms one value stands for
abbrev pub body_size : List WrittenForm → ℕ
body_size forms = size_at 0 (sizes forms)

-- a number as it is counted: any above 8,192 as 8,193
abbrev pub counted : ℕ → ℕ
counted n = if nat_le n 8192 then n else 8193
