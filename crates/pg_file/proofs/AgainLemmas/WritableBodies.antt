-- Bodies that a file may have: what the file's values mean is such, and what the names in it stand for.
use Rattle.std.proofs.Common.{◌≡◌, ℕ, true, List, [], ◌∷◌, ◌++◌, refl, sym, ◌∙◌, ap, subst, arith}
use Rattle.pg_file_items.proofs.ItemLemmas.Whole.{all_append}
use Rattle.std.specs.List.{AllByRecursion}
use Rattle.std.specs.Str.{chars, encode_utf8_all}
use Rattle.pg_pred.specs.Offer.{Offer}
use Rattle.pg_grammar_form.specs.Names as names
use Rattle.pg_grammar_form.specs.declared.class.ClassPart.{ClassPart}
use Rattle.pg_grammar_form.specs.Forms.{BaseForm}
use Rattle.pg_grammar_form.specs.declared.form.Form.TheVariants as form
use Rattle.pg_grammar_form.specs.declared.form.Leaf.TheVariants as leaf
use Rattle.pg_grammar_form.specs.declared.form.Around.{Around}
use Rattle.pg_grammar_form.specs.declared.form.Around.TheVariants as around
use Rattle.pg_grammar_form.specs.declared.used.BuilderUse.{BuilderUse}
use Rattle.pg_grammar_form.specs.declared.used.ChainBuilder.{ChainBuilder}
use Rattle.pg_file_items.specs.declared.words.ClassForm.{ClassForm}
use Rattle.pg_file_items.specs.declared.words.ClassForm.TheVariants as class_form
use Rattle.pg_grammar_form.specs.declared.side.Side.{Side}
use Rattle.pg_file_tokens.specs.declared.token.Mark.TheVariants.{Comma, Close}
use Rattle.pg_file_tokens.specs.Tokens.{Token, mark, literal}
use Rattle.pg_file_tokens.specs.Lexical.{passes, is_name, is_scalar}
use Rattle.pg_file_items.specs.Tree.{Value, Of_class, String, Seq, Of_some, Of_one, Of_two, Between, Chain, Chain_symbol, Expression, Build, Build_symbol, Label, End_of_text, Word, Rule, Values, No_value, And}
use Rattle.pg_file_items.specs.Syntax.{written, written_list, written_more}
use Rattle.pg_file_items.specs.Proper.{IsFreeName, IsBuilderName, IsLiteral, IsFilled, IsProper, AreProper}
use Rattle.pg_file_items.specs.Heads.{heads, all_heads}
use Rattle.pg_file_meaning.specs.Names.{builder_named, chain_builder_named, BuilderIsKnown, FormIsKnown}
use Rattle.pg_file_items.specs.Joined.{joined}
use Rattle.pg_file_meaning.specs.Meaning.{Body, class_of, chain_of, meant, all_meant}
use Rattle.pg_file.proofs.AgainLemmas.Printable.{ArePrintable}
use Rattle.pg_file.proofs.AgainLemmas.PrintedNames.{IsNamedBuilder, IsNamedChain, IsNamedForm}
use Rattle.pg_file_tokens.proofs.Encoded.{chars_encoded}
use Rattle.pg_file_meaning.proofs.MeaningLemmas.Composing.{IsBare, Composes, composes_some, composes_one, composes_two, composes_between}
use Rattle.pg_file.proofs.AgainLemmas.Found.{AreFoundAgain}
use Rattle.pg_file.proofs.AgainLemmas.WritableClasses.{each_first, each_second, IsWritableExpression, class_writable, class_is_named}

-- ---- names

-- a name that a file may have
pub record IsWritableName (s : names.Name) : Type 0 where
  pub free : IsFreeName s
  pub name : is_name s ≡ true

-- a builder that a file may name
pub record IsWritableBuilder (offer : Offer) (used : BuilderUse) : Type 0 where
  pub named : IsNamedBuilder offer used
  pub name : is_name (chars used.name) ≡ true
  pub short : IsBuilderName (chars used.name)
  pub known : BuilderIsKnown offer (chars used.name)

builder_writable : (offer : Offer) (s : names.Name) → is_name s ≡ true → IsBuilderName s → BuilderIsKnown offer s → IsWritableBuilder offer (builder_named offer s)
builder_writable offer s name short known =
    let same = chars_encoded s in
    record {
      named = ap (builder_named offer) same;
      name = subst (λ (t : names.Name). is_name t ≡ true) (sym same) name;
      short = subst (λ (t : names.Name). IsBuilderName t) (sym same) short;
      known = subst (λ (t : names.Name). BuilderIsKnown offer t) (sym same) known;
    }

-- a symbol that a file may have
pub record IsWritableSymbol (symbol : List ℕ) : Type 0 where
  pub encoded : encode_utf8_all (chars symbol) ≡ symbol
  pub short : IsLiteral (chars symbol)
  pub scalars : passes is_scalar (chars symbol) ≡ true

symbol_writable : (s : List ℕ) → IsLiteral s → passes is_scalar s ≡ true → IsWritableSymbol (encode_utf8_all s)
symbol_writable s short scalars =
    let same = chars_encoded s in
    record {
      encoded = ap encode_utf8_all same;
      short = subst (λ (t : List ℕ). IsLiteral t) (sym same) short;
      scalars = subst (λ (t : List ℕ). passes is_scalar t ≡ true) (sym same) scalars;
    }

no_symbol : IsWritableSymbol []
no_symbol = symbol_writable [] (omega arith) refl

-- a chain's builder with its symbol that a file may have
pub record IsWritableChain (offer : Offer) (used : ChainBuilder) : Type 0 where
  pub named : IsNamedChain offer used
  pub name : is_name (chars used.name) ≡ true
  pub short : IsBuilderName (chars used.name)
  pub known : BuilderIsKnown offer (chars used.name)
  pub symbol : IsWritableSymbol used.symbol

chain_builder_writable : (offer : Offer) (s symbol : List ℕ) → is_name s ≡ true → IsBuilderName s → BuilderIsKnown offer s → IsLiteral symbol → passes is_scalar symbol ≡ true
    → IsWritableChain offer (chain_builder_named offer s symbol)
chain_builder_writable offer s symbol name short known length_fits scalars =
    let builder = builder_writable offer s name short known in
    let written = symbol_writable symbol length_fits scalars in
    record {
      named = ap (λ (t : List ℕ). chain_builder_named offer t (chars (encode_utf8_all symbol))) (chars_encoded s) ∙ ap (chain_builder_named offer s) (chars_encoded symbol);
      name = builder.name;
      short = builder.short;
      known = builder.known;
      symbol = written;
    }

-- ---- forms

-- a base form that a file may have, where the class items have these names
abbrev pub IsWritableForm : Offer → (items : List names.Name) → BaseForm → Type 0
IsWritableForm offer items (form.Leaf (leaf.Satisfy class)) = IsWritableExpression offer items items class
IsWritableForm offer items (form.Leaf (leaf.String s)) = IsFilled s × (passes is_scalar s ≡ true)
IsWritableForm offer items (form.Leaf (leaf.Word s)) = IsWritableName s
IsWritableForm offer items (form.Leaf (leaf.NotFollowedBy class)) = IsWritableExpression offer items items class
IsWritableForm offer items (form.Leaf (leaf.Declare class)) = IsWritableExpression offer items items class
IsWritableForm offer items (form.Chain side used operand separator) = IsWritableChain offer used
IsWritableForm offer items (form.Rule s) = IsWritableName s
IsWritableForm offer items (form.Expression builders part) = IsWritableBuilder offer builders.«infix» × IsWritableBuilder offer builders.prefix × IsWritableBuilder offer builders.postfix
IsWritableForm offer items (form.Around (around.Build used symbol) part) = IsWritableBuilder offer used × IsWritableSymbol symbol
IsWritableForm offer items (form.Around (around.Label message) part) = IsLiteral message × (passes is_scalar message ≡ true)
IsWritableForm offer items _ = Unit {0}

abbrev pub IsWritableBody : Offer → (items : List names.Name) → Body → Type 0
IsWritableBody offer items body = AllByRecursion (IsWritableForm offer items) body

joined_writable : (offer : Offer) (items : List names.Name) (bodies : List Body) → AllByRecursion (IsWritableBody offer items) bodies → IsWritableBody offer items (joined bodies)
joined_writable offer items [] h = tt
joined_writable offer items (body ∷ bodies) h = all_append (IsWritableForm offer items) body (joined bodies) h.0 (joined_writable offer items bodies h.1)

bare_writable : (offer : Offer) (items : List names.Name) (k : Around) → IsBare k → IsWritableForm offer items (form.Around k (record {}))
bare_writable offer items (around.Build used symbol) bare = absurd bare
bare_writable offer items (around.Label message) bare = absurd bare
bare_writable offer items _ bare = tt

writable_kept : (offer : Offer) (items : List names.Name) → Composes (IsWritableBody offer items)
writable_kept offer items = record {
  seq = λ bodies h. (tt, joined_writable offer items bodies h);
  choice = λ body bodies h. (tt, joined_writable offer items (body ∷ bodies) h);
  many = λ body h. (tt, h);
  around = λ k bare body h. (bare_writable offer items k bare, h);
}

of_class_writable : (offer : Offer) (items : List names.Name) (form : ClassForm) (parts : List ClassPart) → IsWritableExpression offer items items parts → IsWritableForm offer items (class_of form parts)
of_class_writable offer items class_form.Satisfy parts h = h
of_class_writable offer items class_form.NotFollowedBy parts h = h
of_class_writable offer items class_form.Declare parts h = h

chain_writable : (offer : Offer) (items : List names.Name) (form : Side) (used : ChainBuilder) → IsWritableChain offer used → IsWritableForm offer items (chain_of form used)
chain_writable offer items form used h = h

-- ---- what a value means

mutual
  pub value_writable : (offer : Offer) (classes items : List names.Name) → AreFoundAgain offer classes items items → (v : Value) (rest : List Token) → IsProper v → ArePrintable (written v rest)
      → AllByRecursion (FormIsKnown offer classes) (heads v) → (IsWritableBody offer items (meant offer classes v)) × ArePrintable rest
  value_writable offer classes items found (Of_class form c) rest h p k =
      let q = class_writable offer classes items items found c (mark Close ∷ rest) h p.1.1 k.0 in ((of_class_writable offer items form _ q.0, tt), q.1.1)
  value_writable offer classes items found (String s) rest h p k = (((h, p.1.1.0), tt), p.1.1.1.1)
  value_writable offer classes items found (Seq vs) rest h p k =
      let q = list_writable offer classes items found vs rest h p.1.1 k.1 in ((writable_kept offer items).seq _ q.0, q.1)
  value_writable offer classes items found (Of_some form v vs) rest h p k =
      let first = value_writable offer classes items found v (written_more vs rest) h.0 p.1.1 (each_first (FormIsKnown offer classes) (heads v) (all_heads vs) k.1) in
      let others = more_writable offer classes items found vs rest h.1 first.1 (each_second (FormIsKnown offer classes) (heads v) (all_heads vs) k.1) in
      (composes_some (IsWritableBody offer items) (writable_kept offer items) form _ _ (first.0, others.0), others.1)
  value_writable offer classes items found (Of_one form v) rest h p k =
      let q = value_writable offer classes items found v (mark Close ∷ rest) h p.1.1 k.1 in
      (composes_one (IsWritableBody offer items) (writable_kept offer items) form _ q.0, q.1.1)
  value_writable offer classes items found (Of_two form v separator) rest h p k =
      let first = value_writable offer classes items found v (mark Comma ∷ written separator (mark Close ∷ rest)) h.0 p.1.1 (each_first (FormIsKnown offer classes) (heads v) (heads separator) k.1) in
      let second = value_writable offer classes items found separator (mark Close ∷ rest) h.1 first.1.1 (each_second (FormIsKnown offer classes) (heads v) (heads separator) k.1) in
      (composes_two (IsWritableBody offer items) (writable_kept offer items) form _ _ first.0 second.0, second.1.1)
  value_writable offer classes items found (Between before after inner) rest h p k =
      let known = each_second (FormIsKnown offer classes) (heads before) (heads after ++ heads inner) k.1 in
      let first = value_writable offer classes items found before (mark Comma ∷ written after (mark Comma ∷ written inner (mark Close ∷ rest))) h.0 p.1.1
      (each_first (FormIsKnown offer classes) (heads before) (heads after ++ heads inner) k.1) in
      let second = value_writable offer classes items found after (mark Comma ∷ written inner (mark Close ∷ rest)) h.1 first.1.1 (each_first (FormIsKnown offer classes) (heads after) (heads inner) known) in
      let third = value_writable offer classes items found inner (mark Close ∷ rest) h.2 second.1.1 (each_second (FormIsKnown offer classes) (heads after) (heads inner) known) in
      (composes_between (IsWritableBody offer items) (writable_kept offer items) _ _ _ first.0 second.0 third.0, third.1.1)
  value_writable offer classes items found (Chain form builder operand separator) rest h p k =
      let first = value_writable offer classes items found operand (mark Comma ∷ written separator (mark Close ∷ rest)) h.1 p.1.1.1.1 (each_first (FormIsKnown offer classes) (heads operand) (heads separator) k.1) in
      let second = value_writable offer classes items found separator (mark Close ∷ rest) h.2 first.1.1 (each_second (FormIsKnown offer classes) (heads operand) (heads separator) k.1) in
      let used = chain_writable offer items form _ (chain_builder_writable offer builder [] p.1.1.0 h.0 k.0 (omega arith) refl) in
      ((used, all_append (IsWritableForm offer items) (meant offer classes operand) (meant offer classes separator) first.0 second.0), second.1.1)
  value_writable offer classes items found (Chain_symbol form builder symbol operand separator) rest h p k =
      let first = value_writable offer classes items found operand (mark Comma ∷ written separator (mark Close ∷ rest)) h.2 p.1.1.1.1.1.1 (each_first (FormIsKnown offer classes) (heads operand) (heads separator) k.1) in
      let second = value_writable offer classes items found separator (mark Close ∷ rest) h.3 first.1.1 (each_second (FormIsKnown offer classes) (heads operand) (heads separator) k.1) in
      let used = chain_writable offer items form _ (chain_builder_writable offer builder symbol p.1.1.0 h.0 k.0 h.1 p.1.1.1.1.0) in
      ((used, all_append (IsWritableForm offer items) (meant offer classes operand) (meant offer classes separator) first.0 second.0), second.1.1)
  value_writable offer classes items found (Expression infixes prefixes postfixes term) rest h p k =
      let q = value_writable offer classes items found term (mark Close ∷ rest) h.3 p.1.1.1.1.1.1.1.1 k.1 in
      let one = builder_writable offer infixes p.1.1.0 h.0 k.0.0 in
      let two = builder_writable offer prefixes p.1.1.1.1.0 h.1 k.0.1 in
      let three = builder_writable offer postfixes p.1.1.1.1.1.1.0 h.2 k.0.2 in
      (((one, two, three), q.0), q.1.1)
  value_writable offer classes items found (Build builder v) rest h p k =
      let q = value_writable offer classes items found v (mark Close ∷ rest) h.1 p.1.1.1.1 k.1 in
      (((builder_writable offer builder p.1.1.0 h.0 k.0, no_symbol), q.0), q.1.1)
  value_writable offer classes items found (Build_symbol builder symbol v) rest h p k =
      let q = value_writable offer classes items found v (mark Close ∷ rest) h.2 p.1.1.1.1.1.1 k.1 in
      (((builder_writable offer builder p.1.1.0 h.0 k.0, symbol_writable symbol h.1 p.1.1.1.1.0), q.0), q.1.1)
  value_writable offer classes items found (Label v message) rest h p k =
      let q = value_writable offer classes items found v (mark Comma ∷ literal message ∷ mark Close ∷ rest) h.0 p.1.1 k.1 in
      (((h.1, q.1.1.0), q.0), q.1.1.1.1)
  value_writable offer classes items found End_of_text rest h p k = ((tt, tt), p.1)
  value_writable offer classes items found (Word s) rest h p k = ((record { free = h; name = p.1.1.0 }, tt), p.1.1.1.1)
  value_writable offer classes items found (Rule s) rest h p k = ((record { free = h; name = p.0 }, tt), p.1)

  list_writable : (offer : Offer) (classes items : List names.Name) → AreFoundAgain offer classes items items → (vs : Values) (rest : List Token) → AreProper vs → ArePrintable (written_list vs rest)
      → AllByRecursion (FormIsKnown offer classes) (all_heads vs) → (AllByRecursion (IsWritableBody offer items) (all_meant offer classes vs)) × ArePrintable rest
  list_writable offer classes items found No_value rest h p k = (tt, p.1)
  list_writable offer classes items found (And v vs) rest h p k =
      let first = value_writable offer classes items found v (written_more vs rest) h.0 p (each_first (FormIsKnown offer classes) (heads v) (all_heads vs) k) in
      let others = more_writable offer classes items found vs rest h.1 first.1 (each_second (FormIsKnown offer classes) (heads v) (all_heads vs) k) in
      ((first.0, others.0), others.1)

  more_writable : (offer : Offer) (classes items : List names.Name) → AreFoundAgain offer classes items items → (vs : Values) (rest : List Token) → AreProper vs → ArePrintable (written_more vs rest)
      → AllByRecursion (FormIsKnown offer classes) (all_heads vs) → (AllByRecursion (IsWritableBody offer items) (all_meant offer classes vs)) × ArePrintable rest
  more_writable offer classes items found No_value rest h p k = (tt, p.1)
  more_writable offer classes items found (And v vs) rest h p k =
      let first = value_writable offer classes items found v (written_more vs rest) h.0 p.1 (each_first (FormIsKnown offer classes) (heads v) (all_heads vs) k) in
      let others = more_writable offer classes items found vs rest h.1 first.1 (each_second (FormIsKnown offer classes) (heads v) (all_heads vs) k) in
      ((first.0, others.0), others.1)

-- ---- its names

form_named : (offer : Offer) (items : List names.Name) (form : BaseForm) → IsWritableForm offer items form → IsNamedForm offer items items form
form_named offer items (form.Leaf (leaf.Satisfy class)) h = class_is_named offer items items class h
form_named offer items (form.Leaf (leaf.NotFollowedBy class)) h = class_is_named offer items items class h
form_named offer items (form.Leaf (leaf.Declare class)) h = class_is_named offer items items class h
form_named offer items (form.Chain side used operand separator) h = h.named
form_named offer items (form.Expression builders part) h = (h.0.named, h.1.named, h.2.named)
form_named offer items (form.Around (around.Build used symbol) part) h = (h.0.named, h.1.encoded)
form_named offer items _ h = tt

pub forms_named : (offer : Offer) (items : List names.Name) (forms : List BaseForm) → IsWritableBody offer items forms → AllByRecursion (IsNamedForm offer items items) forms
forms_named offer items [] h = tt
forms_named offer items (form ∷ forms) h = (form_named offer items form h.0, forms_named offer items forms h.1)
