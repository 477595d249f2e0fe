-- The forms and roles that words name, as functions on names.
use Rattle.std.specs.Prelude.{ℕ, if◌then◌else◌, List, Option, Some, None, codes}
use Rattle.std.specs.Str.{bytes_eq}
use Rattle.pg_grammar_form.specs.declared.decl.Role.{Role}
use Rattle.pg_grammar_form.specs.declared.decl.Role.TheVariants.{InfixLeft, InfixRight, InfixNone, Prefix, Postfix}
use Rattle.pg_file_items.specs.declared.words.ClassForm.{ClassForm}
use Rattle.pg_file_items.specs.declared.words.ClassForm.TheVariants.{Satisfy, NotFollowedBy, Declare}
use Rattle.pg_file_items.specs.declared.words.SomeForm.{SomeForm}
use Rattle.pg_file_items.specs.declared.words.SomeForm.TheVariants.{Choice, Try, Local}
use Rattle.pg_file_items.specs.declared.words.OneForm.{OneForm}
use Rattle.pg_file_items.specs.declared.words.OneForm.TheVariants as one
use Rattle.pg_file_items.specs.declared.words.TwoForm.{TwoForm}
use Rattle.pg_file_items.specs.declared.words.TwoForm.TheVariants.{SepBy, SepBy1, EndBy}
use Rattle.pg_grammar_form.specs.declared.side.Side.{Side}
use Rattle.pg_grammar_form.specs.declared.side.Side.TheVariants.{Left, Right}
use Rattle.pg_file_items.specs.declared.words.FormWord.{FormWord}
use Rattle.pg_file_items.specs.declared.words.FormWord.TheVariants as word
use Rattle.pg_file_items.specs.Syntax.{class_word, some_word, one_word, two_word, chain_word, role_word}

unfoldable pub class_form : List ℕ → Option ClassForm
class_form s =
    if bytes_eq (class_word Satisfy) s then Some Satisfy
    else if bytes_eq (class_word NotFollowedBy) s then Some NotFollowedBy
    else if bytes_eq (class_word Declare) s then Some Declare
    else None

unfoldable pub some_form : List ℕ → Option SomeForm
some_form s =
    if bytes_eq (some_word Choice) s then Some Choice
    else if bytes_eq (some_word Try) s then Some Try
    else if bytes_eq (some_word Local) s then Some Local
    else None

unfoldable pub one_form : List ℕ → Option OneForm
one_form s =
    if bytes_eq (one_word one.Many) s then Some one.Many
    else if bytes_eq (one_word one.Many1) s then Some one.Many1
    else if bytes_eq (one_word one.Option) s then Some one.Option
    else if bytes_eq (one_word one.Text) s then Some one.Text
    else if bytes_eq (one_word one.Skip) s then Some one.Skip
    else None

unfoldable pub two_form : List ℕ → Option TwoForm
two_form s =
    if bytes_eq (two_word SepBy) s then Some SepBy
    else if bytes_eq (two_word SepBy1) s then Some SepBy1
    else if bytes_eq (two_word EndBy) s then Some EndBy
    else None

unfoldable pub chain_side : List ℕ → Option Side
chain_side s =
    if bytes_eq (chain_word Left) s then Some Left
    else if bytes_eq (chain_word Right) s then Some Right
    else None

-- the form, if it is the only one of its kind
unfoldable pub single_form : List ℕ → Option FormWord
single_form s =
    if bytes_eq (codes "string") s then Some word.String
    else if bytes_eq (codes "seq") s then Some word.Seq
    else if bytes_eq (codes "between") s then Some word.Between
    else if bytes_eq (codes "expr") s then Some word.Expression
    else if bytes_eq (codes "build") s then Some word.Build
    else if bytes_eq (codes "label") s then Some word.Label
    else if bytes_eq (codes "word") s then Some word.Word
    else None

-- a form of this kind, or otherwise another
abbrev pub first_form : {A : Type 0} → (A → FormWord) → Option A → Option FormWord → Option FormWord
first_form of (Some form) others = Some (of form)
first_form of None others = others

-- the form that a word begins
unfoldable pub form_word : List ℕ → Option FormWord
form_word s =
    first_form word.OfClass (class_form s) (first_form word.OfSome (some_form s) (first_form word.OfOne (one_form s)
    (first_form word.OfTwo (two_form s) (first_form word.Chain (chain_side s) (single_form s)))))

-- the role that a word names
unfoldable pub role_named : List ℕ → Option Role
role_named s =
    if bytes_eq (role_word InfixLeft) s then Some InfixLeft
    else if bytes_eq (role_word InfixRight) s then Some InfixRight
    else if bytes_eq (role_word InfixNone) s then Some InfixNone
    else if bytes_eq (role_word Prefix) s then Some Prefix
    else if bytes_eq (role_word Postfix) s then Some Postfix
    else None
