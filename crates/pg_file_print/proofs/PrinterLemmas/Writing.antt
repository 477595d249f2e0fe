-- What a tree is written with stands before any rest.
use Rattle.std.proofs.Common.{◌≡◌, List, [], ◌∷◌, ◌++◌, Option, Some, None, ℕ, codes, refl, sym, ap, ◌∙◌}
use Rattle.pg_file_tokens.specs.declared.token.Mark.TheVariants.{Close, Comma, Semicolon}
use Rattle.pg_file_tokens.specs.Tokens.{Token, name, literal, mark}
use Rattle.pg_file_items.specs.Tree.{Atom, Set, Range, Name, Not, Group, Class, Of, Atoms, No_atom, Or, Value, Of_class, String, Seq, Of_some, Of_one, Of_two, Between, Chain, Chain_symbol, Expression, Build, Build_symbol, Label, End_of_text, Word, Rule, Values, No_value, And, Item, Class_item, Word_item, Operators, Table, Start, Rule_item}
use Rattle.pg_file_items.specs.Syntax.{atom_written, class_written, atoms_written, written, written_list, written_more, literals_written, reserved_written, most_written, item_written, file_written}
use Rattle.pg_file_print.specs.Layout.{Laid, with_token, with_tokens}
use Rattle.pg_file_print.proofs.PrinterLemmas.Tokens.{laid_both}

-- a token before equal ones
one : (t : Token) {xs ys : List Token} → xs ≡ ys → t ∷ xs ≡ t ∷ ys
one t h = ap (λ (ts : List Token). t ∷ ts) h

mutual
  atom_front : (a : Atom) (xs ys : List Token) → atom_written a (xs ++ ys) ≡ atom_written a xs ++ ys
  atom_front (Set s) xs ys = refl
  atom_front (Range low high) xs ys = refl
  atom_front (Name s) xs ys = refl
  atom_front (Not a) xs ys = one _ (atom_front a xs ys)
  atom_front (Group c) xs ys = one _ (class_front c (mark Close ∷ xs) ys)

  pub class_front : (c : Class) (xs ys : List Token) → class_written c (xs ++ ys) ≡ class_written c xs ++ ys
  class_front (Of a others) xs ys = ap (atom_written a) (atoms_front others xs ys) ∙ atom_front a (atoms_written others xs) ys

  atoms_front : (others : Atoms) (xs ys : List Token) → atoms_written others (xs ++ ys) ≡ atoms_written others xs ++ ys
  atoms_front No_atom xs ys = refl
  atoms_front (Or a others) xs ys = one _ (ap (atom_written a) (atoms_front others xs ys) ∙ atom_front a (atoms_written others xs) ys)

mutual
  pub value_front : (v : Value) (xs ys : List Token) → written v (xs ++ ys) ≡ written v xs ++ ys
  value_front (Of_class form c) xs ys = one _ (one _ (class_front c (mark Close ∷ xs) ys))
  value_front (String s) xs ys = refl
  value_front (Seq vs) xs ys = one _ (one _ (list_front vs xs ys))
  value_front (Of_some form v vs) xs ys = one _ (one _ (ap (written v) (more_front vs xs ys) ∙ value_front v (written_more vs xs) ys))
  value_front (Of_one form v) xs ys = one _ (one _ (value_front v (mark Close ∷ xs) ys))
  value_front (Of_two form v separator) xs ys =
      one _ (one _ (ap (λ (ts : List Token). written v (mark Comma ∷ ts)) (value_front separator (mark Close ∷ xs) ys) ∙ value_front v (mark Comma ∷ written separator (mark Close ∷ xs)) ys))
  value_front (Between before following inner) xs ys =
      one _ (one _ (ap (λ (ts : List Token). written before (mark Comma ∷ written following (mark Comma ∷ ts))) (value_front inner (mark Close ∷ xs) ys)
      ∙ ap (λ (ts : List Token). written before (mark Comma ∷ ts)) (value_front following (mark Comma ∷ written inner (mark Close ∷ xs)) ys)
      ∙ value_front before (mark Comma ∷ written following (mark Comma ∷ written inner (mark Close ∷ xs))) ys))
  value_front (Chain form builder operand separator) xs ys =
      one _ (one _ (one _ (one _ (ap (λ (ts : List Token). written operand (mark Comma ∷ ts)) (value_front separator (mark Close ∷ xs) ys) ∙ value_front operand (mark Comma ∷ written separator (mark Close ∷ xs)) ys))))
  value_front (Chain_symbol form builder symbol operand separator) xs ys =
      one _ (one _ (one _ (one _ (one _ (one _ (ap (λ (ts : List Token). written operand (mark Comma ∷ ts)) (value_front separator (mark Close ∷ xs) ys) ∙ value_front operand (mark Comma ∷ written separator (mark Close ∷ xs)) ys))))))
  value_front (Expression infixes prefixes postfixes term) xs ys = one _ (one _ (one _ (one _ (one _ (one _ (one _ (one _ (value_front term (mark Close ∷ xs) ys))))))))
  value_front (Build builder v) xs ys = one _ (one _ (one _ (one _ (value_front v (mark Close ∷ xs) ys))))
  value_front (Build_symbol builder symbol v) xs ys = one _ (one _ (one _ (one _ (one _ (one _ (value_front v (mark Close ∷ xs) ys))))))
  value_front (Label v message) xs ys = one _ (one _ (value_front v (mark Comma ∷ literal message ∷ mark Close ∷ xs) ys))
  value_front End_of_text xs ys = refl
  value_front (Word s) xs ys = refl
  value_front (Rule s) xs ys = refl

  list_front : (vs : Values) (xs ys : List Token) → written_list vs (xs ++ ys) ≡ written_list vs xs ++ ys
  list_front No_value xs ys = refl
  list_front (And v vs) xs ys = ap (written v) (more_front vs xs ys) ∙ value_front v (written_more vs xs) ys

  more_front : (vs : Values) (xs ys : List Token) → written_more vs (xs ++ ys) ≡ written_more vs xs ++ ys
  more_front No_value xs ys = refl
  more_front (And v vs) xs ys = one _ (ap (written v) (more_front vs xs ys) ∙ value_front v (written_more vs xs) ys)

pub literals_front : (texts : List (List ℕ)) (xs ys : List Token) → literals_written texts (xs ++ ys) ≡ literals_written texts xs ++ ys
literals_front [] xs ys = refl
literals_front (s ∷ texts) xs ys = one _ (literals_front texts xs ys)

pub reserved_front : (texts : List (List ℕ)) (xs ys : List Token) → reserved_written texts (xs ++ ys) ≡ reserved_written texts xs ++ ys
reserved_front [] xs ys = refl
reserved_front (s ∷ texts) xs ys = one _ (literals_front (s ∷ texts) xs ys)

most_front : (most : Option (List ℕ)) (xs ys : List Token) → most_written most (xs ++ ys) ≡ most_written most xs ++ ys
most_front None xs ys = refl
most_front (Some digits) xs ys = refl

pub item_front : (item : Item) (xs ys : List Token) → item_written item (xs ++ ys) ≡ item_written item xs ++ ys
item_front (Class_item s c) xs ys = one _ (one _ (one _ (class_front c (mark Semicolon ∷ xs) ys)))
item_front (Word_item s head following reserved) xs ys =
    one _ (one _ (one _ (ap (λ (ts : List Token). class_written head (name (codes "rest") ∷ class_written following ts)) (reserved_front reserved (mark Semicolon ∷ xs) ys)
    ∙ ap (λ (ts : List Token). class_written head (name (codes "rest") ∷ ts)) (class_front following (reserved_written reserved (mark Semicolon ∷ xs)) ys)
    ∙ class_front head (name (codes "rest") ∷ class_written following (reserved_written reserved (mark Semicolon ∷ xs))) ys)))
item_front (Operators class gap reserved most) xs ys =
    one _ (ap (λ (ts : List Token). class_written class (name (codes "gap") ∷ class_written gap (reserved_written reserved ts))) (most_front most (mark Semicolon ∷ xs) ys)
    ∙ ap (λ (ts : List Token). class_written class (name (codes "gap") ∷ class_written gap ts)) (reserved_front reserved (most_written most (mark Semicolon ∷ xs)) ys)
    ∙ ap (λ (ts : List Token). class_written class (name (codes "gap") ∷ ts)) (class_front gap (reserved_written reserved (most_written most (mark Semicolon ∷ xs))) ys)
    ∙ class_front class (name (codes "gap") ∷ class_written gap (reserved_written reserved (most_written most (mark Semicolon ∷ xs)))) ys)
item_front (Table role precedence symbol) xs ys = refl
item_front (Start s) xs ys = refl
item_front (Rule_item s v) xs ys = one _ (one _ (value_front v (mark Semicolon ∷ xs) ys))

-- an item before others
pub item_then : (item : Item) (ts : List Token) → item_written item ts ≡ item_written item [] ++ ts
item_then item ts = item_front item [] ts

pub file_both : (items others : List Item) → file_written (items ++ others) ≡ file_written items ++ file_written others
file_both [] others = refl
file_both (item ∷ items) others = ap (item_written item) (file_both items others) ∙ item_front item (file_written items) (file_written others)

-- an item more is printed
pub item_step : (out after : Laid) (item : Item) (items : List Item) → after ≡ with_tokens out (item_written item [])
    → with_tokens after (file_written items) ≡ with_tokens out (file_written (item ∷ items))
item_step out after item items h =
    ap (λ (laid : Laid). with_tokens laid (file_written items)) h
    ∙ laid_both out (item_written item []) (file_written items)
    ∙ ap (with_tokens out) (sym (item_then item (file_written items)))

-- ---- what is printed, step by step

pub token_step : (before after : Laid) (t : Token) (ts : List Token) → after ≡ with_token before t → with_tokens after ts ≡ with_tokens before (t ∷ ts)
token_step before after t ts h = ap (λ (laid : Laid). with_tokens laid ts) h

pub class_step : (before after : Laid) (c : Class) (ts : List Token) → after ≡ with_tokens before (class_written c []) → with_tokens after ts ≡ with_tokens before (class_written c ts)
class_step before after c ts h =
    ap (λ (laid : Laid). with_tokens laid ts) h ∙ laid_both before (class_written c []) ts ∙ ap (with_tokens before) (sym (class_front c [] ts))

pub value_step : (before after : Laid) (v : Value) (ts : List Token) → after ≡ with_tokens before (written v []) → with_tokens after ts ≡ with_tokens before (written v ts)
value_step before after v ts h =
    ap (λ (laid : Laid). with_tokens laid ts) h ∙ laid_both before (written v []) ts ∙ ap (with_tokens before) (sym (value_front v [] ts))

pub reserved_step : (before after : Laid) (texts : List (List ℕ)) (ts : List Token) → after ≡ with_tokens before (reserved_written texts [])
    → with_tokens after ts ≡ with_tokens before (reserved_written texts ts)
reserved_step before after texts ts h =
    ap (λ (laid : Laid). with_tokens laid ts) h ∙ laid_both before (reserved_written texts []) ts ∙ ap (with_tokens before) (sym (reserved_front texts [] ts))

pub items_step : (before after : Laid) (items others : List Item) → after ≡ with_tokens before (file_written items)
    → with_tokens after (file_written others) ≡ with_tokens before (file_written (items ++ others))
items_step before after items others h =
    ap (λ (laid : Laid). with_tokens laid (file_written others)) h ∙ laid_both before (file_written items) (file_written others) ∙ ap (with_tokens before) (sym (file_both items others))
