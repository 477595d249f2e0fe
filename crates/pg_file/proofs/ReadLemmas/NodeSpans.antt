-- Each span of a node is that of a form.
use Rattle.std.proofs.Common.{◌≡◌, ℕ, zero, suc, List, [], ◌∷◌, ◌++◌, map, take, drop, sym, subst}
use Rattle.std.specs.List.{AllByRecursion}
use Rattle.pg_file_tokens.specs.declared.token.Lexeme.{Lexeme}
use Rattle.pg_file_tokens.specs.Lexing.{placed_of}
use Rattle.pg_file_tokens.specs.View.{placed_tokens_of}
use Rattle.pg_file_items.specs.Joined.{joined}
use Rattle.pg_file_items.specs.Sizes.{part_count}
use Rattle.pg_file_items.specs.Entries.{forms_of}
use Rattle.pg_file_items.specs.declared.span.Span.{Span}
use Rattle.pg_file_items.specs.declared.item.PlacedForm.{PlacedForm}
use Rattle.pg_file_items.specs.declared.item.Item.{Item}
use Rattle.pg_file_items.specs.declared.item.Item.TheVariants as item
use Rattle.pg_file_items.specs.declared.written.WrittenForm.{WrittenForm}
use Rattle.pg_file_items.specs.declared.written.WrittenForm.TheVariants as written
use Rattle.pg_file_items.specs.declared.words.SomeForm.{SomeForm}
use Rattle.pg_file_items.specs.declared.words.SomeForm.TheVariants as some_form
use Rattle.pg_file_items.specs.declared.words.OneForm.{OneForm}
use Rattle.pg_file_items.specs.declared.words.OneForm.TheVariants as one_form
use Rattle.pg_file_items.specs.declared.words.TwoForm.{TwoForm}
use Rattle.pg_file_items.specs.declared.words.TwoForm.TheVariants as two_form
use Rattle.pg_file_parser.specs.Given.{spans_of}
use Rattle.pg_file_parser.specs.Places.{AreCovered, IsInPlace, AreItemsInPlace}
use Rattle.pg_file_meaning.specs.Spans.{Spans, before_spans, whole_spans, some_spans, optional_spans, separated_spans, one_spans, two_spans, between_spans, spans_at, spans_of_form, all_spans, value_spans}
use Rattle.pg_file_making.specs.Spans.{item_spans, items_spans}
use Rattle.pg_file.specs.Syntax.{AreSpansOf, IsSpanOfForm}

-- ---- a fact of a form's span and of those of its parts is one of the spans of its base forms

all_append : (P : Span → Type 0) (xs ys : Spans) → AllByRecursion P xs → AllByRecursion P ys → AllByRecursion P (xs ++ ys)
all_append P [] ys a b = b
all_append P (x ∷ xs) ys a b = (a.0, all_append P xs ys a.1 b)

all_joined : (P : Span → Type 0) (bodies : List Spans) → AllByRecursion (AllByRecursion P) bodies → AllByRecursion P (joined bodies)
all_joined P [] a = tt
all_joined P (body ∷ bodies) a = all_append P body (joined bodies) a.0 (all_joined P bodies a.1)

all_taken : (P : Span → Type 0) (n : ℕ) (bodies : List Spans) → AllByRecursion (AllByRecursion P) bodies → AllByRecursion (AllByRecursion P) (take n bodies)
all_taken P zero bodies a = tt
all_taken P (suc n) [] a = tt
all_taken P (suc n) (body ∷ bodies) a = (a.0, all_taken P n bodies a.1)

all_left : (P : Span → Type 0) (n : ℕ) (bodies : List Spans) → AllByRecursion (AllByRecursion P) bodies → AllByRecursion (AllByRecursion P) (drop n bodies)
all_left P zero bodies a = a
all_left P (suc n) [] a = tt
all_left P (suc n) (body ∷ bodies) a = all_left P n bodies a.1

all_at : (P : Span → Type 0) (k : ℕ) (bodies : List Spans) → AllByRecursion (AllByRecursion P) bodies → AllByRecursion P (spans_at k bodies)
all_at P k [] a = tt
all_at P zero (body ∷ bodies) a = a.0
all_at P (suc k) (body ∷ bodies) a = all_at P k bodies a.1

all_before : (P : Span → Type 0) (span : Span) (bodies : List Spans) → P span → AllByRecursion (AllByRecursion P) bodies → AllByRecursion P (before_spans span bodies)
all_before P span bodies p a = (p, all_joined P bodies a)

all_whole : (P : Span → Type 0) (span : Span) (bodies : List Spans) → P span → AllByRecursion (AllByRecursion P) bodies → AllByRecursion P (whole_spans span bodies)
all_whole P span [] p a = (p, tt)
all_whole P span (body ∷ []) p a = a.0
all_whole P span (body ∷ other ∷ bodies) p a = all_before P span (body ∷ other ∷ bodies) p a

all_some : (P : Span → Type 0) (form : SomeForm) (span : Span) (bodies : List Spans) → P span → AllByRecursion (AllByRecursion P) bodies → AllByRecursion P (some_spans form span bodies)
all_some P some_form.Choice span bodies p a = all_before P span bodies p a
all_some P some_form.Try span bodies p a = (p, all_whole P span bodies p a)
all_some P some_form.Local span bodies p a = (p, all_whole P span bodies p a)

all_optional : (P : Span → Type 0) (span : Span) (body : Spans) → P span → AllByRecursion P body → AllByRecursion P (optional_spans span body)
all_optional P span body p a = all_before P span (body ∷ (span ∷ []) ∷ []) p (a, ((p, tt), tt))

all_separated : (P : Span → Type 0) (span : Span) (body separator : Spans) → P span → AllByRecursion P body → AllByRecursion P separator → AllByRecursion P (separated_spans span body separator)
all_separated P span body separator p a b =
    let round = (span ∷ separator) ∷ body ∷ [] in
    all_before P span (body ∷ (span ∷ before_spans span round) ∷ []) p (a, ((p, all_before P span round p ((p, b), (a, tt))), tt))

all_one : (P : Span → Type 0) (form : OneForm) (span : Span) (body : Spans) → P span → AllByRecursion P body → AllByRecursion P (one_spans form span body)
all_one P one_form.Many span body p a = (p, a)
all_one P one_form.Many1 span body p a = all_before P span (body ∷ (span ∷ body) ∷ []) p (a, ((p, a), tt))
all_one P one_form.Option span body p a = all_optional P span body p a
all_one P one_form.Text span body p a = (p, a)
all_one P one_form.Skip span body p a = (p, a)

all_two : (P : Span → Type 0) (form : TwoForm) (span : Span) (body separator : Spans) → P span → AllByRecursion P body → AllByRecursion P separator → AllByRecursion P (two_spans form span body separator)
all_two P two_form.SepBy span body separator p a b = all_optional P span (separated_spans span body separator) p (all_separated P span body separator p a b)
all_two P two_form.SepBy1 span body separator p a b = all_separated P span body separator p a b
all_two P two_form.EndBy span body separator p a b = (p, all_before P span (body ∷ (span ∷ separator) ∷ []) p (a, ((p, b), tt)))

all_between : (P : Span → Type 0) (span : Span) (before after inner : Spans) → P span → AllByRecursion P before → AllByRecursion P after → AllByRecursion P inner → AllByRecursion P (between_spans span before after inner)
all_between P span before after inner p a b c = all_before P span ((span ∷ before) ∷ inner ∷ (span ∷ after) ∷ []) p ((p, a), (c, ((p, b), tt)))

all_of_form : (P : Span → Type 0) (form : WrittenForm) (span : Span) (bodies : List Spans) → P span → AllByRecursion (AllByRecursion P) bodies → AllByRecursion P (spans_of_form form span bodies)
all_of_form P (written.OfClass form parts) span bodies p a = (p, tt)
all_of_form P (written.String s) span bodies p a = (p, tt)
all_of_form P (written.Seq n) span bodies p a = all_before P span bodies p a
all_of_form P (written.OfSome form n) span bodies p a = all_some P form span bodies p a
all_of_form P (written.OfOne form) span bodies p a = all_one P form span (spans_at 0 bodies) p (all_at P 0 bodies a)
all_of_form P (written.OfTwo form) span bodies p a = all_two P form span (spans_at 0 bodies) (spans_at 1 bodies) p (all_at P 0 bodies a) (all_at P 1 bodies a)
all_of_form P written.Between span bodies p a =
    all_between P span (spans_at 0 bodies) (spans_at 1 bodies) (spans_at 2 bodies) p (all_at P 0 bodies a) (all_at P 1 bodies a) (all_at P 2 bodies a)
all_of_form P (written.Chain form builder symbol) span bodies p a = (p, all_append P (spans_at 0 bodies) (spans_at 1 bodies) (all_at P 0 bodies a) (all_at P 1 bodies a))
all_of_form P (written.Expression infixes prefixes postfixes) span bodies p a = (p, all_at P 0 bodies a)
all_of_form P (written.Build builder symbol) span bodies p a = (p, all_at P 0 bodies a)
all_of_form P (written.Label message) span bodies p a = (p, all_at P 0 bodies a)
all_of_form P written.EndOfText span bodies p a = (p, tt)
all_of_form P (written.Word s) span bodies p a = (p, tt)
all_of_form P (written.Rule s) span bodies p a = (p, tt)

all_of_forms : (P : Span → Type 0) (forms : List PlacedForm) → AllByRecursion P (spans_of forms) → AllByRecursion (AllByRecursion P) (all_spans forms)
all_of_forms P [] a = tt
all_of_forms P (form ∷ forms) a =
    let rest = all_of_forms P forms a.1 in (
      all_of_form P form.form form.span (take (part_count form.form) (all_spans forms)) a.0 (all_taken P (part_count form.form) (all_spans forms) rest),
      all_left P (part_count form.form) (all_spans forms) rest,
    )

-- ---- the spans of a file

covered_all : (characters : List ℕ) (lexemes : List Lexeme) (spans : Spans) (forms : List WrittenForm) → placed_tokens_of lexemes ≡ placed_of characters → AreCovered lexemes spans forms → AllByRecursion (IsSpanOfForm characters) spans
covered_all characters lexemes [] forms places a = tt
covered_all characters lexemes (span ∷ spans) [] places a = absurd a
covered_all characters lexemes (span ∷ spans) (form ∷ forms) places a = (
  record { lexemes = lexemes; places = places; forms = form ∷ forms; covers = a.0 },
  covered_all characters lexemes spans forms places a.1,
)

item_all : (characters : List ℕ) (lexemes : List Lexeme) (i : Item) → placed_tokens_of lexemes ≡ placed_of characters → IsInPlace lexemes i → AllByRecursion (IsSpanOfForm characters) (item_spans i)
item_all characters lexemes (item.Class s place c) places a = tt
item_all characters lexemes (item.Word s place head rest reserved) places a = tt
item_all characters lexemes (item.Operators c gap reserved most place) places a = tt
item_all characters lexemes (item.Table role precedence symbol place symbol_place) places a = tt
item_all characters lexemes (item.Start s place name_place) places a = tt
item_all characters lexemes (item.Rule s place body) places a =
    let P = IsSpanOfForm characters in
    all_at P 0 (all_spans body.items) (all_of_forms P body.items (covered_all characters lexemes (spans_of body.items) (forms_of body.items) places a))

items_all : (characters : List ℕ) (lexemes : List Lexeme) (items : List Item) → placed_tokens_of lexemes ≡ placed_of characters → AreItemsInPlace lexemes items → AllByRecursion (IsSpanOfForm characters) (items_spans items)
items_all characters lexemes [] places a = tt
items_all characters lexemes (i ∷ items) places a =
    all_append (IsSpanOfForm characters) (item_spans i) (items_spans items) (item_all characters lexemes i places a.0) (items_all characters lexemes items places a.1)

pub spans_of_forms : (characters : List ℕ) (spans : Spans) → AreSpansOf characters spans → AllByRecursion (IsSpanOfForm characters) spans
spans_of_forms characters spans are =
    subst (AllByRecursion (IsSpanOfForm characters)) (sym are.are) (items_all characters are.lexemes are.items are.syntax_is.places are.syntax_is.in_place)
