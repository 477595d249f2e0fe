-- The heads of a value stand for the body that the tree stands for.
use Rattle.std.proofs.Common.{◌≡◌, suc, List, [], ◌∷◌, ◌++◌, length, take, drop, refl, sym, ap, subst, ◌∙◌, append_assoc}
use Rattle.std.proofs.lemmas.List.{append-nil}
use Rattle.pg_pred.specs.Offer.{Offer}
use Rattle.pg_grammar_form.specs.Names as names
use Rattle.pg_file_items.specs.declared.written.WrittenForm.{WrittenForm}
use Rattle.pg_file_items.specs.declared.written.WrittenForm.TheVariants as written
use Rattle.pg_file_items.specs.Tree.{Value, Of_class, String, Seq, Of_some, Of_one, Of_two, Between, Chain, Chain_symbol, Expression, Build, Build_symbol, Label, End_of_text, Word, Rule, Values, No_value, And}
use Rattle.pg_file_items.specs.Heads.{class_parts, value_count, heads, all_heads}
use Rattle.pg_file_meaning.specs.Meaning.{Body, meant, all_meant}
use Rattle.pg_file_items.specs.Sizes.{part_count}
use Rattle.pg_file_meaning.specs.Bodies.{body_at, body_of_form, bodies}
use Rattle.pg_file_items.proofs.ItemLemmas.Backwards.{take_front, drop_front}
use Rattle.pg_file_meaning.proofs.MeaningLemmas.Classes.{class_is}

pub values_counted : (offer : Offer) (classes : List names.Name) (vs : Values) → length (all_meant offer classes vs) ≡ value_count vs
values_counted offer classes No_value = refl
values_counted offer classes (And v vs) = ap suc (values_counted offer classes vs)

-- a form takes the bodies that stand first after it, as many as it has parts
taken : (offer : Offer) (classes : List names.Name) (form : WrittenForm) (forms : List WrittenForm) (parts others : List Body)
    → bodies offer classes forms ≡ parts ++ others → length parts ≡ part_count form
    → bodies offer classes (form ∷ forms) ≡ body_of_form offer classes form parts ∷ others
taken offer classes form forms parts others h e =
    let front : take (part_count form) (bodies offer classes forms) ≡ parts = rw h (take_front (part_count form) parts others e) in
    let rest : drop (part_count form) (bodies offer classes forms) ≡ others = rw h (drop_front (part_count form) parts others e) in
    cc

-- a value and others after it, before a rest
following : (offer : Offer) (classes : List names.Name) (xs ys rest : List WrittenForm) (body : Body) (parts : List Body)
    → bodies offer classes (xs ++ (ys ++ rest)) ≡ body ∷ bodies offer classes (ys ++ rest)
    → bodies offer classes (ys ++ rest) ≡ parts ++ bodies offer classes rest
    → bodies offer classes ((xs ++ ys) ++ rest) ≡ body ∷ (parts ++ bodies offer classes rest)
following offer classes xs ys rest body parts h e = rw append_assoc (h ∙ ap (λ (all : List Body). body ∷ all) e)

mutual
  pub value_in_front : (offer : Offer) (classes : List names.Name) (v : Value) (rest : List WrittenForm)
      → bodies offer classes (heads v ++ rest) ≡ meant offer classes v ∷ bodies offer classes rest
  value_in_front offer classes (Of_class form c) rest =
      rw (sym (class_is offer classes c)) (taken offer classes (written.OfClass form (class_parts c)) rest [] _ refl refl)
  value_in_front offer classes (String s) rest = taken offer classes (written.String s) rest [] _ refl refl
  value_in_front offer classes (Seq vs) rest =
      taken offer classes (written.Seq (value_count vs)) (all_heads vs ++ rest) (all_meant offer classes vs) _
      (values_in_front offer classes vs rest) (values_counted offer classes vs)
  value_in_front offer classes (Of_some form v vs) rest =
      taken offer classes (written.OfSome form (suc (value_count vs))) ((heads v ++ all_heads vs) ++ rest) (meant offer classes v ∷ all_meant offer classes vs) _
      (following offer classes (heads v) (all_heads vs) rest _ _ (value_in_front offer classes v (all_heads vs ++ rest)) (values_in_front offer classes vs rest))
      (ap suc (values_counted offer classes vs))
  value_in_front offer classes (Of_one form v) rest =
      taken offer classes (written.OfOne form) (heads v ++ rest) (meant offer classes v ∷ []) _ (value_in_front offer classes v rest) refl
  value_in_front offer classes (Of_two form v separator) rest =
      taken offer classes (written.OfTwo form) ((heads v ++ heads separator) ++ rest) (meant offer classes v ∷ meant offer classes separator ∷ []) _
      (following offer classes (heads v) (heads separator) rest _ (meant offer classes separator ∷ [])
      (value_in_front offer classes v (heads separator ++ rest)) (value_in_front offer classes separator rest)) refl
  value_in_front offer classes (Between before after inner) rest =
      taken offer classes written.Between ((heads before ++ (heads after ++ heads inner)) ++ rest)
      (meant offer classes before ∷ meant offer classes after ∷ meant offer classes inner ∷ []) _
      (following offer classes (heads before) (heads after ++ heads inner) rest _ (meant offer classes after ∷ meant offer classes inner ∷ [])
      (value_in_front offer classes before ((heads after ++ heads inner) ++ rest))
      (following offer classes (heads after) (heads inner) rest _ (meant offer classes inner ∷ [])
      (value_in_front offer classes after (heads inner ++ rest)) (value_in_front offer classes inner rest))) refl
  value_in_front offer classes (Chain form builder operand separator) rest =
      taken offer classes (written.Chain form builder []) ((heads operand ++ heads separator) ++ rest) (meant offer classes operand ∷ meant offer classes separator ∷ []) _
      (following offer classes (heads operand) (heads separator) rest _ (meant offer classes separator ∷ [])
      (value_in_front offer classes operand (heads separator ++ rest)) (value_in_front offer classes separator rest)) refl
  value_in_front offer classes (Chain_symbol form builder symbol operand separator) rest =
      taken offer classes (written.Chain form builder symbol) ((heads operand ++ heads separator) ++ rest) (meant offer classes operand ∷ meant offer classes separator ∷ []) _
      (following offer classes (heads operand) (heads separator) rest _ (meant offer classes separator ∷ [])
      (value_in_front offer classes operand (heads separator ++ rest)) (value_in_front offer classes separator rest)) refl
  value_in_front offer classes (Expression infixes prefixes postfixes term) rest =
      taken offer classes (written.Expression infixes prefixes postfixes) (heads term ++ rest) (meant offer classes term ∷ []) _ (value_in_front offer classes term rest) refl
  value_in_front offer classes (Build builder v) rest =
      taken offer classes (written.Build builder []) (heads v ++ rest) (meant offer classes v ∷ []) _ (value_in_front offer classes v rest) refl
  value_in_front offer classes (Build_symbol builder symbol v) rest =
      taken offer classes (written.Build builder symbol) (heads v ++ rest) (meant offer classes v ∷ []) _ (value_in_front offer classes v rest) refl
  value_in_front offer classes (Label v message) rest =
      taken offer classes (written.Label message) (heads v ++ rest) (meant offer classes v ∷ []) _ (value_in_front offer classes v rest) refl
  value_in_front offer classes End_of_text rest = taken offer classes written.EndOfText rest [] _ refl refl
  value_in_front offer classes (Word s) rest = taken offer classes (written.Word s) rest [] _ refl refl
  value_in_front offer classes (Rule s) rest = taken offer classes (written.Rule s) rest [] _ refl refl

  pub values_in_front : (offer : Offer) (classes : List names.Name) (vs : Values) (rest : List WrittenForm)
      → bodies offer classes (all_heads vs ++ rest) ≡ all_meant offer classes vs ++ bodies offer classes rest
  values_in_front offer classes No_value rest = refl
  values_in_front offer classes (And v vs) rest =
      following offer classes (heads v) (all_heads vs) rest _ _ (value_in_front offer classes v (all_heads vs ++ rest)) (values_in_front offer classes vs rest)

pub value_alone : (offer : Offer) (classes : List names.Name) (v : Value) → body_at 0 (bodies offer classes (heads v)) ≡ meant offer classes v
value_alone offer classes v =
    let all : bodies offer classes (heads v) ≡ meant offer classes v ∷ [] = subst (λ (l : List WrittenForm). bodies offer classes l ≡ meant offer classes v ∷ []) (append-nil (heads v)) (value_in_front offer classes v []) in
    rw all refl
