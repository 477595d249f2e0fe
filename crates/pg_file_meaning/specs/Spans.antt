-- The spans of the base forms that a value stands for, as `Meaning.antt` and `Bodies.antt` have the base forms: each has the span of the written form that it
-- comes from.
use Rattle.std.specs.Prelude.{ℕ, zero, suc, List, [], ◌∷◌, ◌++◌, map, take, drop}
use Rattle.std.specs.Global.{Vec}
use Rattle.pg_file_items.specs.Joined.{joined}
use Rattle.pg_file_items.specs.Sizes.{part_count}
use Rattle.pg_file_items.specs.declared.span.Span.{Span}
use Rattle.pg_file_items.specs.declared.item.PlacedForm.{PlacedForm}
use Rattle.pg_file_items.specs.declared.written.WrittenForm.{WrittenForm}
use Rattle.pg_file_items.specs.declared.written.WrittenForm.TheVariants as written
use Rattle.pg_file_items.specs.declared.words.SomeForm.{SomeForm}
use Rattle.pg_file_items.specs.declared.words.SomeForm.TheVariants as some_form
use Rattle.pg_file_items.specs.declared.words.OneForm.{OneForm}
use Rattle.pg_file_items.specs.declared.words.OneForm.TheVariants as one_form
use Rattle.pg_file_items.specs.declared.words.TwoForm.{TwoForm}
use Rattle.pg_file_items.specs.declared.words.TwoForm.TheVariants as two_form
use Rattle.pg_file_meaning.specs.declared.body.PlacedBase.{PlacedBase}

-- the spans of a body's base forms
abbrev pub Spans : Type 0
Spans = List Span

-- a base form before several bodies, as in a `seq` and a `choice`
abbrev pub before_spans : Span → List Spans → Spans
before_spans span bodies = span ∷ joined bodies

-- a single body as it is, several in a `seq`
abbrev pub whole_spans : Span → List Spans → Spans
whole_spans span [] = before_spans span []
whole_spans span (body ∷ []) = body
whole_spans span (body ∷ other ∷ bodies) = before_spans span (body ∷ other ∷ bodies)

abbrev pub some_spans : SomeForm → Span → List Spans → Spans
some_spans some_form.Choice span bodies = before_spans span bodies
some_spans some_form.Try span bodies = span ∷ whole_spans span bodies
some_spans some_form.Local span bodies = span ∷ whole_spans span bodies

-- a body, or nothing: a `choice`, and an empty `seq` after the body
abbrev pub optional_spans : Span → Spans → Spans
optional_spans span body = before_spans span (body ∷ before_spans span [] ∷ [])

-- a body once or more, with a separator between any two: a `seq`, and after the body a `many` of a `seq` of a `skip` and the body again
abbrev pub separated_spans : Span → Spans → Spans → Spans
separated_spans span body separator = before_spans span (body ∷ (span ∷ before_spans span ((span ∷ separator) ∷ body ∷ [])) ∷ [])

abbrev pub one_spans : OneForm → Span → Spans → Spans
one_spans one_form.Many span body = span ∷ body
one_spans one_form.Many1 span body = before_spans span (body ∷ (span ∷ body) ∷ [])
one_spans one_form.Option span body = optional_spans span body
one_spans one_form.Text span body = span ∷ body
one_spans one_form.Skip span body = span ∷ body

abbrev pub two_spans : TwoForm → Span → Spans → Spans → Spans
two_spans two_form.SepBy span body separator = optional_spans span (separated_spans span body separator)
two_spans two_form.SepBy1 span body separator = separated_spans span body separator
two_spans two_form.EndBy span body separator = span ∷ before_spans span (body ∷ (span ∷ separator) ∷ [])

abbrev pub between_spans : Span → Spans → Spans → Spans → Spans
between_spans span before after inner = before_spans span ((span ∷ before) ∷ inner ∷ (span ∷ after) ∷ [])

-- ---- values in preorder

-- those of the body with an index
abbrev pub spans_at : ℕ → List Spans → Spans
spans_at k [] = []
spans_at zero (body ∷ bodies) = body
spans_at (suc k) (body ∷ bodies) = spans_at k bodies

-- those of a form with a span, given those of its parts
abbrev pub spans_of_form : WrittenForm → Span → List Spans → Spans
spans_of_form (written.OfClass form parts) span bodies = span ∷ []
spans_of_form (written.String s) span bodies = span ∷ []
spans_of_form (written.Seq n) span bodies = before_spans span bodies
spans_of_form (written.OfSome form n) span bodies = some_spans form span bodies
spans_of_form (written.OfOne form) span bodies = one_spans form span (spans_at 0 bodies)
spans_of_form (written.OfTwo form) span bodies = two_spans form span (spans_at 0 bodies) (spans_at 1 bodies)
spans_of_form written.Between span bodies = between_spans span (spans_at 0 bodies) (spans_at 1 bodies) (spans_at 2 bodies)
spans_of_form (written.Chain form builder symbol) span bodies = span ∷ (spans_at 0 bodies ++ spans_at 1 bodies)
spans_of_form (written.Expression infixes prefixes postfixes) span bodies = span ∷ spans_at 0 bodies
spans_of_form (written.Build builder symbol) span bodies = span ∷ spans_at 0 bodies
spans_of_form (written.Label message) span bodies = span ∷ spans_at 0 bodies
spans_of_form written.EndOfText span bodies = span ∷ []
spans_of_form (written.Word s) span bodies = span ∷ []
spans_of_form (written.Rule s) span bodies = span ∷ []

-- those of the whole forms, from left to right
abbrev pub all_spans : List PlacedForm → List Spans
all_spans [] = []
all_spans (form ∷ forms) =
    spans_of_form form.form form.span (take (part_count form.form) (all_spans forms)) ∷ drop (part_count form.form) (all_spans forms)

-- those of one value
abbrev pub value_spans : List PlacedForm → Spans
value_spans forms = spans_at 0 (all_spans forms)

-- the spans of base forms
abbrev pub spans_of : List PlacedBase → Spans
spans_of placed = map (λ (b : PlacedBase). b.span) placed

-- those of several bodies, from left to right
abbrev pub all_spans_of : List (Vec PlacedBase) → List Spans
all_spans_of placed = map (λ (b : Vec PlacedBase). spans_of b.items) placed
