-- What a proper value stands for has no empty string and no range that descends, and no text in it is too long.
use Rattle.std.proofs.Common.{◌≡◌, ◌<◌, ◌≤◌, ℕ, false, ◌==◌, List, [], ◌∷◌, ◌++◌, length, refl, arith}
use Rattle.std.proofs.lemmas.Bool.{le-ltb}
use Rattle.std.proofs.lemmas.Bool.Decides.{nat_tests}
use Rattle.std.specs.List.{list_any, AllByRecursion}
use Rattle.std.specs.Str.{encode_utf8_all}
use Rattle.pg_pred.specs.Offer.{Offer}
use Rattle.pg_grammar_form.proofs.Each.{all-weaker}
use Rattle.pg_grammar_form.specs.Names as names
use Rattle.pg_grammar_form.specs.Classes.{descends, is_long}
use Rattle.pg_grammar_form.specs.Forms.{BaseForm, has_long_name, has_bad_literal, has_long_text}
use Rattle.pg_grammar_form.specs.declared.class.ClassPart.{ClassPart}
use Rattle.pg_grammar_form.specs.declared.form.Form.TheVariants as form
use Rattle.pg_grammar_form.specs.declared.form.Leaf.TheVariants as leaf
use Rattle.pg_grammar_form.specs.declared.form.Around.{Around}
use Rattle.pg_grammar_form.specs.declared.form.Around.TheVariants as around
use Rattle.pg_file_items.specs.declared.words.ClassForm.{ClassForm}
use Rattle.pg_file_items.specs.declared.words.ClassForm.TheVariants as class_form
use Rattle.pg_grammar_form.specs.declared.side.Side.{Side}
use Rattle.pg_file_items.specs.Tree.{Value, Of_class, String, Seq, Of_some, Of_one, Of_two, Between, Chain, Chain_symbol, Expression, Build, Build_symbol, Label, End_of_text, Word, Rule, Values, No_value, And}
use Rattle.pg_file_items.specs.Proper.{IsFilled, IsProper, AreProper}
use Rattle.pg_file_meaning.specs.Names.{builder_named, chain_builder_named}
use Rattle.pg_file_meaning.specs.Meaning.{Body, class_of, chain_of, builders_named, class_meant, meant, all_meant}
use Rattle.pg_file_meaning.proofs.MeaningLemmas.Composing.{IsBare, Composes, composes_some, composes_one, composes_two, composes_between, IsFree, free_front, free_none, free_append, free_composes}
use Rattle.pg_file_meaning.proofs.MeaningLemmas.ProperClasses.{ascending, short, short_name}

pub record IsFaultless (body : Body) : Type 0 where
  pub literals : IsFree has_bad_literal body
  pub short : IsFree has_long_text body

-- neither of one form
record IsFaultlessForm (form : BaseForm) : Type 0 where
  literals : has_bad_literal form ≡ false
  short : has_long_text form ≡ false

front : (form : BaseForm) (body : Body) → IsFaultlessForm form → IsFaultless body → IsFaultless (form ∷ body)
front form body h e = record {
  literals = free_front _ form body h.literals e.literals;
  short = free_front _ form body h.short e.short;
}

alone : (form : BaseForm) → IsFaultlessForm form → IsFaultless (form ∷ [])
alone form h = front form [] h (record { literals = free_none _; short = free_none _ })

two : (form : BaseForm) (one other : Body) → IsFaultlessForm form → IsFaultless one → IsFaultless other → IsFaultless (form ∷ (one ++ other))
two form one other h e f =
    front form (one ++ other) h (record { literals = free_append _ one other e.literals f.literals; short = free_append _ one other e.short f.short })

literals_compose : Composes (IsFree has_bad_literal)
literals_compose = free_composes has_bad_literal (record { seq = λ n. refl; choice = λ n. refl; many = refl; around = λ k bare. refl })

short_around : (k : Around) → IsBare k → has_long_text (form.Around k (record {})) ≡ false
short_around (around.Build used symbol) bare = absurd bare
short_around (around.Label message) bare = absurd bare
short_around _ bare = refl

short_composes : Composes (IsFree has_long_text)
short_composes = free_composes has_long_text (record { seq = λ n. refl; choice = λ n. refl; many = refl; around = short_around })

faultless_composes : Composes IsFaultless
faultless_composes = record {
  seq = λ bodies h. record {
    literals = literals_compose.seq bodies (all-weaker IsFaultless (IsFree has_bad_literal) (λ body e. e.literals) bodies h);
    short = short_composes.seq bodies (all-weaker IsFaultless (IsFree has_long_text) (λ body e. e.short) bodies h);
  };
  choice = λ body bodies h. record {
    literals = literals_compose.choice body bodies (all-weaker IsFaultless (IsFree has_bad_literal) (λ b e. e.literals) (body ∷ bodies) h);
    short = short_composes.choice body bodies (all-weaker IsFaultless (IsFree has_long_text) (λ b e. e.short) (body ∷ bodies) h);
  };
  many = λ body h. front (form.Many (record {})) body (record { literals = refl; short = refl }) h;
  around = λ k bare body h. front (form.Around k (record {})) body (record { literals = refl; short = short_around k bare }) h;
}

class_faultless : (form : ClassForm) (parts : List ClassPart) → list_any descends parts ≡ false → list_any is_long parts ≡ false → IsFaultlessForm (class_of form parts)
class_faultless class_form.Satisfy parts h e = record { literals = rw h refl; short = rw e refl }
class_faultless class_form.NotFollowedBy parts h e = record { literals = rw h refl; short = rw e refl }
class_faultless class_form.Declare parts h e = record { literals = rw h refl; short = rw e refl }

isnt_empty : (n : ℕ) → 0 < n → (n == 0) ≡ false
isnt_empty n h = grind (arith, nat_tests)

string_faultless : (s : List ℕ) → IsFilled s → IsFaultlessForm (form.Leaf (leaf.String s))
string_faultless s h = record { literals = isnt_empty (length s) h.0; short = rw (le-ltb 1024 (length s) h.1) refl }

-- a builder's name is short
builder_short : (offer : Offer) (builder : List ℕ) → length builder ≤ 64 → has_long_name (builder_named offer builder) ≡ false
builder_short offer builder h = short_name 64 builder h

chain_faultless : (offer : Offer) (side : Side) (builder symbol : List ℕ) → length builder ≤ 64 → length symbol ≤ 1024
    → IsFaultlessForm (chain_of side (chain_builder_named offer builder symbol))
chain_faultless offer side builder symbol h e = record { literals = refl; short = rw (short_name 64 builder h, short_name 1024 symbol e) refl }

expression_faultless : (offer : Offer) (infixes prefixes postfixes : List ℕ) → length infixes ≤ 64 → length prefixes ≤ 64 → length postfixes ≤ 64
    → IsFaultlessForm (form.Expression (builders_named offer infixes prefixes postfixes) (record {}))
expression_faultless offer infixes prefixes postfixes h e f =
    record { literals = refl; short = rw (builder_short offer infixes h, builder_short offer prefixes e, builder_short offer postfixes f) refl }

build_faultless : (offer : Offer) (builder symbol : List ℕ) → length builder ≤ 64 → length symbol ≤ 1024
    → IsFaultlessForm (form.Around (around.Build (builder_named offer builder) (encode_utf8_all symbol)) (record {}))
build_faultless offer builder symbol h e =
    record { literals = refl; short = rw (builder_short offer builder h, short_name 1024 symbol e) refl }

label_faultless : (message : List ℕ) → length message ≤ 1024 → IsFaultlessForm (form.Around (around.Label message) (record {}))
label_faultless message h = record { literals = refl; short = rw (le-ltb 1024 (length message) h) refl }

word_faultless : (s : List ℕ) → length s ≤ 64 → IsFaultlessForm (form.Leaf (leaf.Word s))
word_faultless s h = record { literals = refl; short = le-ltb 64 (length s) h }

rule_faultless : (s : List ℕ) → length s ≤ 64 → IsFaultlessForm (form.Rule s)
rule_faultless s h = record { literals = refl; short = le-ltb 64 (length s) h }

mutual
  pub faultless_value : (offer : Offer) (items : List names.Name) (v : Value) → IsProper v → IsFaultless (meant offer items v)
  faultless_value offer items (Of_class form c) h = alone _ (class_faultless form (class_meant offer items c) (ascending offer items c h) (short offer items c h))
  faultless_value offer items (String s) h = alone _ (string_faultless s h)
  faultless_value offer items (Seq vs) h = faultless_composes.seq _ (faultless_values offer items vs h)
  faultless_value offer items (Of_some form v vs) h = composes_some IsFaultless faultless_composes form _ _ (faultless_value offer items v h.0, faultless_values offer items vs h.1)
  faultless_value offer items (Of_one form v) h = composes_one IsFaultless faultless_composes form _ (faultless_value offer items v h)
  faultless_value offer items (Of_two form v separator) h = composes_two IsFaultless faultless_composes form _ _ (faultless_value offer items v h.0) (faultless_value offer items separator h.1)
  faultless_value offer items (Between before after inner) h =
      composes_between IsFaultless faultless_composes _ _ _ (faultless_value offer items before h.0) (faultless_value offer items after h.1) (faultless_value offer items inner h.2)
  faultless_value offer items (Chain form builder operand separator) h =
      two _ _ _ (chain_faultless offer form builder [] h.0 (omega arith)) (faultless_value offer items operand h.1) (faultless_value offer items separator h.2)
  faultless_value offer items (Chain_symbol form builder symbol operand separator) h =
      two _ _ _ (chain_faultless offer form builder symbol h.0 h.1) (faultless_value offer items operand h.2) (faultless_value offer items separator h.3)
  faultless_value offer items (Expression infixes prefixes postfixes term) h = front _ _ (expression_faultless offer infixes prefixes postfixes h.0 h.1 h.2) (faultless_value offer items term h.3)
  faultless_value offer items (Build builder v) h = front _ _ (build_faultless offer builder [] h.0 (omega arith)) (faultless_value offer items v h.1)
  faultless_value offer items (Build_symbol builder symbol v) h = front _ _ (build_faultless offer builder symbol h.0 h.1) (faultless_value offer items v h.2)
  faultless_value offer items (Label v message) h = front _ _ (label_faultless message h.1) (faultless_value offer items v h.0)
  faultless_value offer items End_of_text h = alone _ (record { literals = refl; short = refl })
  faultless_value offer items (Word s) h = alone _ (word_faultless s h.short)
  faultless_value offer items (Rule s) h = alone _ (rule_faultless s h.short)

  faultless_values : (offer : Offer) (items : List names.Name) (vs : Values) → AreProper vs → AllByRecursion IsFaultless (all_meant offer items vs)
  faultless_values offer items No_value h = tt
  faultless_values offer items (And v vs) h = (faultless_value offer items v h.0, faultless_values offer items vs h.1)
