-- The words of forms and roles: each is told by its text.
use Rattle.std.proofs.Common.{◌≡◌, ℕ, true, false, cond, List, Option, Some, None, refl, sym, ap, ◌∙◌, inl, inr}
use Rattle.std.specs.Prelude.{codes}
use Rattle.std.specs.Str.{bytes_eq}
use Rattle.pg_grammar_form.specs.declared.decl.Role.{Role}
use Rattle.pg_grammar_form.specs.declared.decl.Role.TheVariants as role
use Rattle.pg_file_items.specs.declared.words.ClassForm.{ClassForm}
use Rattle.pg_file_items.specs.declared.words.ClassForm.TheVariants as of_class
use Rattle.pg_file_items.specs.declared.words.SomeForm.{SomeForm}
use Rattle.pg_file_items.specs.declared.words.SomeForm.TheVariants as of_some
use Rattle.pg_file_items.specs.declared.words.OneForm.{OneForm}
use Rattle.pg_file_items.specs.declared.words.OneForm.TheVariants as of_one
use Rattle.pg_file_items.specs.declared.words.TwoForm.{TwoForm}
use Rattle.pg_file_items.specs.declared.words.TwoForm.TheVariants as of_two
use Rattle.pg_grammar_form.specs.declared.side.Side.{Side}
use Rattle.pg_grammar_form.specs.declared.side.Side.TheVariants as side
use Rattle.pg_file_items.specs.declared.words.FormWord.{FormWord}
use Rattle.pg_file_items.specs.declared.words.FormWord.TheVariants as word
use Rattle.pg_file_items.specs.Syntax.{class_word, some_word, one_word, two_word, chain_word, role_word}
use Rattle.pg_file_items.specs.Proper.{is_reserved, IsFreeName}
use Rattle.pg_file_items.specs.Words.{class_form, some_form, one_form, two_form, chain_side, single_form, first_form, form_word, role_named}
use Rattle.pg_file_parser.proofs.ParserLemmas.Steps.{chosen, some_is, word_is}

-- the word after which a form begins
abbrev pub word_text : FormWord → List ℕ
word_text (word.OfClass form) = class_word form
word_text word.String = codes "string"
word_text word.Seq = codes "seq"
word_text (word.OfSome form) = some_word form
word_text (word.OfOne form) = one_word form
word_text (word.OfTwo form) = two_word form
word_text word.Between = codes "between"
word_text (word.Chain form) = chain_word form
word_text word.Expression = codes "expr"
word_text word.Build = codes "build"
word_text word.Label = codes "label"
word_text word.Word = codes "word"

-- the word that was recognized, or what the tests after it found
word_or : {A : Type 0} (text : A → List ℕ) (s : List ℕ) (v w : A) (others : Option A) → cond (bytes_eq (text v) s) (Some v) others ≡ Some w
    → (others ≡ Some w → s ≡ text w) → s ≡ text w
word_or text s v w others e after =
    elim (chosen (bytes_eq (text v) s) (Some v) others (Some w) e) [
      | inl h ↦ word_is (text v) s h.0 ∙ ap text (some_is v w h.1)
      | inr h ↦ after h.1
    ]

class_form_is : (s : List ℕ) (w : ClassForm) → class_form s ≡ Some w → s ≡ class_word w
unfolding class_form
class_form_is s w e =
    word_or class_word s of_class.Satisfy w _ e (λ e. word_or class_word s of_class.NotFollowedBy w _ e (λ e. word_or class_word s of_class.Declare w _ e (λ e. absurd cc)))

some_form_is : (s : List ℕ) (w : SomeForm) → some_form s ≡ Some w → s ≡ some_word w
unfolding some_form
some_form_is s w e =
    word_or some_word s of_some.Choice w _ e (λ e. word_or some_word s of_some.Try w _ e (λ e. word_or some_word s of_some.Local w _ e (λ e. absurd cc)))

one_form_is : (s : List ℕ) (w : OneForm) → one_form s ≡ Some w → s ≡ one_word w
unfolding one_form
one_form_is s w e =
    word_or one_word s of_one.Many w _ e (λ e. word_or one_word s of_one.Many1 w _ e (λ e. word_or one_word s of_one.Option w _ e
    (λ e. word_or one_word s of_one.Text w _ e (λ e. word_or one_word s of_one.Skip w _ e (λ e. absurd cc)))))

two_form_is : (s : List ℕ) (w : TwoForm) → two_form s ≡ Some w → s ≡ two_word w
unfolding two_form
two_form_is s w e =
    word_or two_word s of_two.SepBy w _ e (λ e. word_or two_word s of_two.SepBy1 w _ e (λ e. word_or two_word s of_two.EndBy w _ e (λ e. absurd cc)))

chain_side_is : (s : List ℕ) (w : Side) → chain_side s ≡ Some w → s ≡ chain_word w
unfolding chain_side
chain_side_is s w e = word_or chain_word s side.Left w _ e (λ e. word_or chain_word s side.Right w _ e (λ e. absurd cc))

single_form_is : (s : List ℕ) (w : FormWord) → single_form s ≡ Some w → s ≡ word_text w
unfolding single_form
single_form_is s w e =
    word_or word_text s word.String w _ e (λ e. word_or word_text s word.Seq w _ e (λ e. word_or word_text s word.Between w _ e
    (λ e. word_or word_text s word.Expression w _ e (λ e. word_or word_text s word.Build w _ e (λ e. word_or word_text s word.Label w _ e
    (λ e. word_or word_text s word.Word w _ e (λ e. absurd cc)))))))

-- a form of one kind, or what the kinds after it have
kind_or : {A : Type 0} (of : A → FormWord) (o : Option A) (others : Option FormWord) (s : List ℕ) (w : FormWord) → first_form of o others ≡ Some w
    → ((form : A) → o ≡ Some form → s ≡ word_text (of form)) → (others ≡ Some w → s ≡ word_text w) → s ≡ word_text w
kind_or of (Some form) others s w e found after = found form refl ∙ ap word_text (some_is (of form) w e)
kind_or of None others s w e found after = after e

pub form_word_is : (s : List ℕ) (w : FormWord) → form_word s ≡ Some w → s ≡ word_text w
unfolding form_word
form_word_is s w e =
    kind_or word.OfClass (class_form s) _ s w e (class_form_is s) (λ e.
    kind_or word.OfSome (some_form s) _ s w e (some_form_is s) (λ e.
    kind_or word.OfOne (one_form s) _ s w e (one_form_is s) (λ e.
    kind_or word.OfTwo (two_form s) _ s w e (two_form_is s) (λ e.
    kind_or word.Chain (chain_side s) _ s w e (chain_side_is s) (single_form_is s w)))))

pub role_named_is : (s : List ℕ) (r : Role) → role_named s ≡ Some r → s ≡ role_word r
unfolding role_named
role_named_is s r e =
    word_or role_word s role.InfixLeft r _ e (λ e. word_or role_word s role.InfixRight r _ e (λ e. word_or role_word s role.InfixNone r _ e
    (λ e. word_or role_word s role.Prefix r _ e (λ e. word_or role_word s role.Postfix r _ e (λ e. absurd cc)))))

-- ---- each word is found

pub form_word_found : (w : FormWord) → form_word (word_text w) ≡ Some w
unfolding form_word class_form some_form one_form two_form chain_side single_form
form_word_found (word.OfClass of_class.Satisfy) = refl
form_word_found (word.OfClass of_class.NotFollowedBy) = refl
form_word_found (word.OfClass of_class.Declare) = refl
form_word_found word.String = refl
form_word_found word.Seq = refl
form_word_found (word.OfSome of_some.Choice) = refl
form_word_found (word.OfSome of_some.Try) = refl
form_word_found (word.OfSome of_some.Local) = refl
form_word_found (word.OfOne of_one.Many) = refl
form_word_found (word.OfOne of_one.Many1) = refl
form_word_found (word.OfOne of_one.Option) = refl
form_word_found (word.OfOne of_one.Text) = refl
form_word_found (word.OfOne of_one.Skip) = refl
form_word_found (word.OfTwo of_two.SepBy) = refl
form_word_found (word.OfTwo of_two.SepBy1) = refl
form_word_found (word.OfTwo of_two.EndBy) = refl
form_word_found word.Between = refl
form_word_found (word.Chain side.Left) = refl
form_word_found (word.Chain side.Right) = refl
form_word_found word.Expression = refl
form_word_found word.Build = refl
form_word_found word.Label = refl
form_word_found word.Word = refl

-- each is reserved
form_reserved : (w : FormWord) → is_reserved (word_text w) ≡ true
unfolding is_reserved
form_reserved (word.OfClass of_class.Satisfy) = refl
form_reserved (word.OfClass of_class.NotFollowedBy) = refl
form_reserved (word.OfClass of_class.Declare) = refl
form_reserved word.String = refl
form_reserved word.Seq = refl
form_reserved (word.OfSome of_some.Choice) = refl
form_reserved (word.OfSome of_some.Try) = refl
form_reserved (word.OfSome of_some.Local) = refl
form_reserved (word.OfOne of_one.Many) = refl
form_reserved (word.OfOne of_one.Many1) = refl
form_reserved (word.OfOne of_one.Option) = refl
form_reserved (word.OfOne of_one.Text) = refl
form_reserved (word.OfOne of_one.Skip) = refl
form_reserved (word.OfTwo of_two.SepBy) = refl
form_reserved (word.OfTwo of_two.SepBy1) = refl
form_reserved (word.OfTwo of_two.EndBy) = refl
form_reserved word.Between = refl
form_reserved (word.Chain side.Left) = refl
form_reserved (word.Chain side.Right) = refl
form_reserved word.Expression = refl
form_reserved word.Build = refl
form_reserved word.Label = refl
form_reserved word.Word = refl

-- no form's word is `eof`
pub form_isnt_end : (w : FormWord) → bytes_eq (codes "eof") (word_text w) ≡ false
form_isnt_end (word.OfClass of_class.Satisfy) = refl
form_isnt_end (word.OfClass of_class.NotFollowedBy) = refl
form_isnt_end (word.OfClass of_class.Declare) = refl
form_isnt_end word.String = refl
form_isnt_end word.Seq = refl
form_isnt_end (word.OfSome of_some.Choice) = refl
form_isnt_end (word.OfSome of_some.Try) = refl
form_isnt_end (word.OfSome of_some.Local) = refl
form_isnt_end (word.OfOne of_one.Many) = refl
form_isnt_end (word.OfOne of_one.Many1) = refl
form_isnt_end (word.OfOne of_one.Option) = refl
form_isnt_end (word.OfOne of_one.Text) = refl
form_isnt_end (word.OfOne of_one.Skip) = refl
form_isnt_end (word.OfTwo of_two.SepBy) = refl
form_isnt_end (word.OfTwo of_two.SepBy1) = refl
form_isnt_end (word.OfTwo of_two.EndBy) = refl
form_isnt_end word.Between = refl
form_isnt_end (word.Chain side.Left) = refl
form_isnt_end (word.Chain side.Right) = refl
form_isnt_end word.Expression = refl
form_isnt_end word.Build = refl
form_isnt_end word.Label = refl
form_isnt_end word.Word = refl

pub role_found : (r : Role) → role_named (role_word r) ≡ Some r
unfolding role_named
role_found role.InfixLeft = refl
role_found role.InfixRight = refl
role_found role.InfixNone = refl
role_found role.Prefix = refl
role_found role.Postfix = refl

-- a free name begins no form
pub free_no_form : (s : List ℕ) → IsFreeName s → form_word s ≡ None
free_no_form s h = go (form_word s) refl
  where
    go : (o : Option FormWord) → form_word s ≡ o → o ≡ None
    go None e = refl
    go (Some w) e =
        let q : is_reserved s ≡ is_reserved (word_text w) = ap is_reserved (form_word_is s w e) in
        let clash : true ≡ false = sym (form_reserved w) ∙ sym q ∙ h.free in
        absurd cc

-- reserved words that items and values begin with
pub end_reserved : is_reserved (codes "eof") ≡ true
unfolding is_reserved
end_reserved = refl
