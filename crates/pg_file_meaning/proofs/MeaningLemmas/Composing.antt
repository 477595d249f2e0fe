-- What is so of bodies, and of what forms of several bodies make of them.
use Rattle.std.proofs.Common.{◌≡◌, ℕ, suc, Bool, false, List, [], ◌∷◌, ◌++◌, length, map, refl, ◌∙◌}
use Rattle.std.proofs.lemmas.List.Folds.{list_any-append}
use Rattle.std.specs.List.{list_any, AllByRecursion}
use Rattle.pg_grammar_form.specs.Preorder.{SpellForms}
use Rattle.pg_grammar_form.specs.Forms.{BaseForm, part_count}
use Rattle.pg_grammar_form.specs.declared.form.Form.TheVariants as form
use Rattle.pg_grammar_form.specs.declared.form.Around.{Around}
use Rattle.pg_grammar_form.specs.declared.form.Around.TheVariants as around
use Rattle.pg_file_items.specs.declared.words.SomeForm.{SomeForm}
use Rattle.pg_file_items.specs.declared.words.SomeForm.TheVariants as some_form
use Rattle.pg_file_items.specs.declared.words.OneForm.{OneForm}
use Rattle.pg_file_items.specs.declared.words.OneForm.TheVariants as one_form
use Rattle.pg_file_items.specs.declared.words.TwoForm.{TwoForm}
use Rattle.pg_file_items.specs.declared.words.TwoForm.TheVariants as two_form
use Rattle.pg_file_items.specs.Joined.{joined}
use Rattle.pg_file_meaning.specs.Meaning.{Body, seq_of, choice_of, whole_of, some_of, skipped, repeated, optional, separated, one_of, two_of, between_of}
use Rattle.pg_file_items.proofs.ItemLemmas.Whole.{spell_first, spell_parts}

-- a form around a part in which no name and no text stands
abbrev pub IsBare : Around → Type 0
IsBare (around.Build used symbol) = ⊥
IsBare (around.Label message) = ⊥
IsBare _ = Unit {0}

-- a fact of bodies that holds of what base forms make of bodies
pub record Composes (P : Body → Type 0) : Type 0 where
  pub seq : (bodies : List Body) → AllByRecursion P bodies → P (seq_of bodies)
  pub choice : (body : Body) (bodies : List Body) → AllByRecursion P (body ∷ bodies) → P (choice_of (body ∷ bodies))
  pub many : (body : Body) → P body → P (form.Many (record {}) ∷ body)
  pub around : (k : Around) → IsBare k → (body : Body) → P body → P (form.Around k (record {}) ∷ body)

composes_whole : (P : Body → Type 0) → Composes P → (body : Body) (bodies : List Body) → AllByRecursion P (body ∷ bodies) → P (whole_of (body ∷ bodies))
composes_whole P k body [] h = h.0
composes_whole P k body (other ∷ bodies) h = k.seq (body ∷ other ∷ bodies) h

pub composes_some : (P : Body → Type 0) → Composes P → (form : SomeForm) (body : Body) (bodies : List Body) → AllByRecursion P (body ∷ bodies) → P (some_of form (body ∷ bodies))
composes_some P k some_form.Choice body bodies h = k.choice body bodies h
composes_some P k some_form.Try body bodies h = k.around around.Try tt _ (composes_whole P k body bodies h)
composes_some P k some_form.Local body bodies h = k.around around.Local tt _ (composes_whole P k body bodies h)

composes_optional : (P : Body → Type 0) → Composes P → (body : Body) → P body → P (optional body)
composes_optional P k body h = k.choice body (seq_of [] ∷ []) (h, (k.seq [] tt, tt))

composes_separated : (P : Body → Type 0) → Composes P → (body separator : Body) → P body → P separator → P (separated body separator)
composes_separated P k body separator h e =
    let round = k.seq (skipped separator ∷ body ∷ []) (k.around around.Skip tt separator e, (h, tt)) in
    k.seq (body ∷ repeated (seq_of (skipped separator ∷ body ∷ [])) ∷ []) (h, (k.many _ round, tt))

pub composes_one : (P : Body → Type 0) → Composes P → (form : OneForm) (body : Body) → P body → P (one_of form body)
composes_one P k one_form.Many body h = k.many body h
composes_one P k one_form.Many1 body h = k.seq (body ∷ repeated body ∷ []) (h, (k.many body h, tt))
composes_one P k one_form.Option body h = composes_optional P k body h
composes_one P k one_form.Text body h = k.around around.Text tt body h
composes_one P k one_form.Skip body h = k.around around.Skip tt body h

pub composes_two : (P : Body → Type 0) → Composes P → (form : TwoForm) (body separator : Body) → P body → P separator → P (two_of form body separator)
composes_two P k two_form.SepBy body separator h e = composes_optional P k (separated body separator) (composes_separated P k body separator h e)
composes_two P k two_form.SepBy1 body separator h e = composes_separated P k body separator h e
composes_two P k two_form.EndBy body separator h e = k.many _ (k.seq (body ∷ skipped separator ∷ []) (h, (k.around around.Skip tt separator e, tt)))

pub composes_between : (P : Body → Type 0) → Composes P → (before after inner : Body) → P before → P after → P inner → P (between_of before after inner)
composes_between P k before after inner h e f = k.seq (skipped before ∷ inner ∷ skipped after ∷ []) (k.around around.Skip tt before h, (f, (k.around around.Skip tt after e, tt)))

-- ---- one whole form

pub record IsWhole (body : Body) : Type 0 where
  pub whole : SpellForms 1 (map part_count body)

whole_joined : (bodies : List Body) → AllByRecursion IsWhole bodies → SpellForms (length bodies) (map part_count (joined bodies))
whole_joined [] h = refl
whole_joined (body ∷ bodies) h = spell_first part_count body (joined bodies) (length bodies) h.0.whole (whole_joined bodies h.1)

pub whole_composes : Composes IsWhole
whole_composes = record {
  seq = λ bodies h. record { whole = spell_parts part_count (length bodies) (joined bodies) (whole_joined bodies h) };
  choice = λ body bodies h. record { whole = spell_parts part_count (length (body ∷ bodies)) (joined (body ∷ bodies)) (whole_joined (body ∷ bodies) h) };
  many = λ body h. record { whole = h.whole };
  around = λ k bare body h. record { whole = h.whole };
}

-- two, one after the other
pub whole_two : (one other : Body) → IsWhole one → IsWhole other → SpellForms 2 (map part_count (one ++ other))
whole_two one other h e = spell_first part_count one other 1 h.whole e.whole

-- ---- no form of a kind

pub record IsFree (p : BaseForm → Bool) (body : Body) : Type 0 where
  pub free : list_any p body ≡ false

-- what is not so of the forms that short ones stand for
pub record IsFreeOfShort (p : BaseForm → Bool) : Type 0 where
  pub seq : (n : ℕ) → p (form.Seq n) ≡ false
  pub choice : (n : ℕ) → p (form.Choice (suc n)) ≡ false
  pub many : p (form.Many (record {})) ≡ false
  pub around : (k : Around) → IsBare k → p (form.Around k (record {})) ≡ false

pub free_front : (p : BaseForm → Bool) (form : BaseForm) (body : Body) → p form ≡ false → IsFree p body → IsFree p (form ∷ body)
free_front p form body h e = record { free = rw (h, e.free) refl }

pub free_none : (p : BaseForm → Bool) → IsFree p []
free_none p = record { free = refl }

pub free_append : (p : BaseForm → Bool) (one other : Body) → IsFree p one → IsFree p other → IsFree p (one ++ other)
free_append p one other h e = record { free = list_any-append p one other ∙ rw (h.free, e.free) refl }

free_joined : (p : BaseForm → Bool) (bodies : List Body) → AllByRecursion (IsFree p) bodies → IsFree p (joined bodies)
free_joined p [] h = free_none p
free_joined p (body ∷ bodies) h = free_append p body (joined bodies) h.0 (free_joined p bodies h.1)

pub free_composes : (p : BaseForm → Bool) → IsFreeOfShort p → Composes (IsFree p)
free_composes p k = record {
  seq = λ bodies h. free_front p _ (joined bodies) (k.seq (length bodies)) (free_joined p bodies h);
  choice = λ body bodies h. free_front p _ (joined (body ∷ bodies)) (k.choice (length bodies)) (free_joined p (body ∷ bodies) h);
  many = λ body h. free_front p _ body k.many h;
  around = λ a bare body h. free_front p _ body (k.around a bare) h;
}
