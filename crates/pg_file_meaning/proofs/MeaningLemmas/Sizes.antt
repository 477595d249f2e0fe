-- The sizes of the heads of a value are those of the bodies that the tree stands for.
use Rattle.std.proofs.Common.{◌≡◌, ℕ, suc, ◌+◌, ◌==◌, false, List, [], ◌∷◌, ◌++◌, length, map, take, drop, refl, sym, ap, subst, ◌∙◌, append_assoc, arith}
use Rattle.std.specs.Prelude.{if◌then◌else◌}
use Rattle.std.proofs.lemmas.Bool.Decides.{nat_tests}
use Rattle.std.proofs.lemmas.List.{append-nil, length-append, length-map}
use Rattle.pg_pred.specs.Offer.{Offer}
use Rattle.pg_grammar_form.specs.Names as names
use Rattle.pg_file_items.specs.declared.written.WrittenForm.{WrittenForm}
use Rattle.pg_file_items.specs.declared.written.WrittenForm.TheVariants as written
use Rattle.pg_file_items.specs.declared.words.SomeForm.{SomeForm}
use Rattle.pg_file_items.specs.declared.words.SomeForm.TheVariants as some_form
use Rattle.pg_file_items.specs.declared.words.OneForm.{OneForm}
use Rattle.pg_file_items.specs.declared.words.OneForm.TheVariants as one_form
use Rattle.pg_file_items.specs.declared.words.TwoForm.{TwoForm}
use Rattle.pg_file_items.specs.declared.words.TwoForm.TheVariants as two_form
use Rattle.pg_file_items.specs.Tree.{Value, Of_class, String, Seq, Of_some, Of_one, Of_two, Between, Chain, Chain_symbol, Expression, Build, Build_symbol, Label, End_of_text, Word, Rule, Values, No_value, And}
use Rattle.pg_file_items.specs.Heads.{class_parts, value_count, heads, all_heads}
use Rattle.pg_file_items.specs.Joined.{joined}
use Rattle.pg_file_meaning.specs.Meaning.{Body, seq_of, choice_of, optional, separated, skipped, repeated, whole_of, some_of, one_of, two_of, between_of, meant, all_meant}
use Rattle.pg_file_items.specs.Sizes.{part_count, sum_of, some_size, one_size, two_size, size_of_form, sizes, body_size}
use Rattle.pg_file_items.proofs.ItemLemmas.Backwards.{take_front, drop_front}
use Rattle.pg_file_meaning.proofs.MeaningLemmas.Bodies.{values_counted}

joined_length : (parts : List Body) → sum_of (map length parts) ≡ length (joined parts)
joined_length [] = refl
joined_length (body ∷ parts) = let others = joined_length parts in omega (arith, length-append body (joined parts))

seq_length : (parts : List Body) → 1 + sum_of (map length parts) ≡ length (seq_of parts)
seq_length parts = let all = joined_length parts in omega arith

choice_length : (parts : List Body) → 1 + sum_of (map length parts) ≡ length (choice_of parts)
choice_length parts = let all = joined_length parts in omega arith

optional_length : (body : Body) → 2 + length body ≡ length (optional body)
optional_length body = let whole = choice_length (body ∷ seq_of [] ∷ []) in omega arith

separated_length : (body separator : Body) → 4 + (length body + (length body + length separator)) ≡ length (separated body separator)
separated_length body separator =
    let round = seq_length (skipped separator ∷ body ∷ []) in
    let whole = seq_length (body ∷ repeated (seq_of (skipped separator ∷ body ∷ [])) ∷ []) in
    omega arith

several : (k : ℕ) → (suc (suc k) == 1) ≡ false
several k = grind (arith, nat_tests)

-- around one body, or around a sequence of several
whole_length : (body : Body) (parts : List Body)
    → (if suc (length parts) == 1 then 1 else 2) + sum_of (length body ∷ map length parts) ≡ suc (length (whole_of (body ∷ parts)))
whole_length body [] = omega arith
whole_length body (other ∷ parts) = let whole = seq_length (body ∷ other ∷ parts) in rw (several (length parts)) (omega arith)

some_length : (form : SomeForm) (body : Body) (parts : List Body)
    → some_size form (suc (length parts)) (length body ∷ map length parts) ≡ length (some_of form (body ∷ parts))
some_length some_form.Choice body parts = choice_length (body ∷ parts)
some_length some_form.Try body parts = whole_length body parts
some_length some_form.Local body parts = whole_length body parts

one_length : (form : OneForm) (body : Body) → one_size form (length body) ≡ length (one_of form body)
one_length one_form.Many body = omega arith
one_length one_form.Many1 body = let whole = seq_length (body ∷ repeated body ∷ []) in omega arith
one_length one_form.Option body = optional_length body
one_length one_form.Text body = omega arith
one_length one_form.Skip body = omega arith

two_length : (form : TwoForm) (body separator : Body) → two_size form (length body) (length separator) ≡ length (two_of form body separator)
two_length two_form.SepBy body separator =
    let once = separated_length body separator in let whole = optional_length (separated body separator) in omega arith
two_length two_form.SepBy1 body separator = separated_length body separator
two_length two_form.EndBy body separator = let round = seq_length (body ∷ skipped separator ∷ []) in omega arith

between_length : (before after inner : Body) → 3 + (length before + (length after + length inner)) ≡ length (between_of before after inner)
between_length before after inner = let whole = seq_length (skipped before ∷ inner ∷ skipped after ∷ []) in omega arith

more_length : (body : Body) → 1 + length body ≡ suc (length body)
more_length body = omega arith

chain_length : (operand separator : Body) → 1 + (length operand + length separator) ≡ suc (length (operand ++ separator))
chain_length operand separator = omega (arith, length-append operand separator)

-- a form takes the sizes that stand first after it, as many as it has parts
taken : (form : WrittenForm) (forms : List WrittenForm) (parts others : List ℕ) (n : ℕ)
    → sizes forms ≡ parts ++ others → length parts ≡ part_count form → size_of_form form parts ≡ n → sizes (form ∷ forms) ≡ n ∷ others
taken form forms parts others n h e q =
    let front : take (part_count form) (sizes forms) ≡ parts = rw h (take_front (part_count form) parts others e) in
    let rest : drop (part_count form) (sizes forms) ≡ others = rw h (drop_front (part_count form) parts others e) in
    cc

-- a value and others after it, before a rest
following : (xs ys rest : List WrittenForm) (n : ℕ) (parts : List ℕ)
    → sizes (xs ++ (ys ++ rest)) ≡ n ∷ sizes (ys ++ rest) → sizes (ys ++ rest) ≡ parts ++ sizes rest
    → sizes ((xs ++ ys) ++ rest) ≡ n ∷ (parts ++ sizes rest)
following xs ys rest n parts h e = rw append_assoc (h ∙ ap (λ (all : List ℕ). n ∷ all) e)

-- as many sizes as values
sizes_counted : (offer : Offer) (classes : List names.Name) (vs : Values) → length (map length (all_meant offer classes vs)) ≡ value_count vs
sizes_counted offer classes vs = length-map (all_meant offer classes vs) length ∙ values_counted offer classes vs

mutual
  pub value_sized : (offer : Offer) (classes : List names.Name) (v : Value) (rest : List WrittenForm)
      → sizes (heads v ++ rest) ≡ length (meant offer classes v) ∷ sizes rest
  value_sized offer classes (Of_class form c) rest = taken (written.OfClass form (class_parts c)) rest [] _ _ refl refl refl
  value_sized offer classes (String s) rest = taken (written.String s) rest [] _ _ refl refl refl
  value_sized offer classes (Seq vs) rest =
      taken (written.Seq (value_count vs)) (all_heads vs ++ rest) (map length (all_meant offer classes vs)) _ _
      (values_sized offer classes vs rest) (sizes_counted offer classes vs) (seq_length (all_meant offer classes vs))
  value_sized offer classes (Of_some form v vs) rest =
      let count = values_counted offer classes vs in
      taken (written.OfSome form (suc (value_count vs))) ((heads v ++ all_heads vs) ++ rest) (length (meant offer classes v) ∷ map length (all_meant offer classes vs)) _ _
      (following (heads v) (all_heads vs) rest _ _ (value_sized offer classes v (all_heads vs ++ rest)) (values_sized offer classes vs rest))
      (ap suc (sizes_counted offer classes vs))
      (rw (sym count) (some_length form (meant offer classes v) (all_meant offer classes vs)))
  value_sized offer classes (Of_one form v) rest =
      taken (written.OfOne form) (heads v ++ rest) (length (meant offer classes v) ∷ []) _ _ (value_sized offer classes v rest) refl (one_length form (meant offer classes v))
  value_sized offer classes (Of_two form v separator) rest =
      taken (written.OfTwo form) ((heads v ++ heads separator) ++ rest) (length (meant offer classes v) ∷ length (meant offer classes separator) ∷ []) _ _
      (following (heads v) (heads separator) rest _ (length (meant offer classes separator) ∷ [])
      (value_sized offer classes v (heads separator ++ rest)) (value_sized offer classes separator rest)) refl
      (two_length form (meant offer classes v) (meant offer classes separator))
  value_sized offer classes (Between before after inner) rest =
      taken written.Between ((heads before ++ (heads after ++ heads inner)) ++ rest)
      (length (meant offer classes before) ∷ length (meant offer classes after) ∷ length (meant offer classes inner) ∷ []) _ _
      (following (heads before) (heads after ++ heads inner) rest _ (length (meant offer classes after) ∷ length (meant offer classes inner) ∷ [])
      (value_sized offer classes before ((heads after ++ heads inner) ++ rest))
      (following (heads after) (heads inner) rest _ (length (meant offer classes inner) ∷ [])
      (value_sized offer classes after (heads inner ++ rest)) (value_sized offer classes inner rest))) refl
      (between_length (meant offer classes before) (meant offer classes after) (meant offer classes inner))
  value_sized offer classes (Chain form builder operand separator) rest =
      taken (written.Chain form builder []) ((heads operand ++ heads separator) ++ rest) (length (meant offer classes operand) ∷ length (meant offer classes separator) ∷ []) _ _
      (following (heads operand) (heads separator) rest _ (length (meant offer classes separator) ∷ [])
      (value_sized offer classes operand (heads separator ++ rest)) (value_sized offer classes separator rest)) refl
      (chain_length (meant offer classes operand) (meant offer classes separator))
  value_sized offer classes (Chain_symbol form builder symbol operand separator) rest =
      taken (written.Chain form builder symbol) ((heads operand ++ heads separator) ++ rest) (length (meant offer classes operand) ∷ length (meant offer classes separator) ∷ []) _ _
      (following (heads operand) (heads separator) rest _ (length (meant offer classes separator) ∷ [])
      (value_sized offer classes operand (heads separator ++ rest)) (value_sized offer classes separator rest)) refl
      (chain_length (meant offer classes operand) (meant offer classes separator))
  value_sized offer classes (Expression infixes prefixes postfixes term) rest =
      taken (written.Expression infixes prefixes postfixes) (heads term ++ rest) (length (meant offer classes term) ∷ []) _ _ (value_sized offer classes term rest) refl (more_length (meant offer classes term))
  value_sized offer classes (Build builder v) rest =
      taken (written.Build builder []) (heads v ++ rest) (length (meant offer classes v) ∷ []) _ _ (value_sized offer classes v rest) refl (more_length (meant offer classes v))
  value_sized offer classes (Build_symbol builder symbol v) rest =
      taken (written.Build builder symbol) (heads v ++ rest) (length (meant offer classes v) ∷ []) _ _ (value_sized offer classes v rest) refl (more_length (meant offer classes v))
  value_sized offer classes (Label v message) rest =
      taken (written.Label message) (heads v ++ rest) (length (meant offer classes v) ∷ []) _ _ (value_sized offer classes v rest) refl (more_length (meant offer classes v))
  value_sized offer classes End_of_text rest = taken written.EndOfText rest [] _ _ refl refl refl
  value_sized offer classes (Word s) rest = taken (written.Word s) rest [] _ _ refl refl refl
  value_sized offer classes (Rule s) rest = taken (written.Rule s) rest [] _ _ refl refl refl

  values_sized : (offer : Offer) (classes : List names.Name) (vs : Values) (rest : List WrittenForm)
      → sizes (all_heads vs ++ rest) ≡ map length (all_meant offer classes vs) ++ sizes rest
  values_sized offer classes No_value rest = refl
  values_sized offer classes (And v vs) rest =
      following (heads v) (all_heads vs) rest _ _ (value_sized offer classes v (all_heads vs ++ rest)) (values_sized offer classes vs rest)

pub value_size : (offer : Offer) (classes : List names.Name) (v : Value) → body_size (heads v) ≡ length (meant offer classes v)
value_size offer classes v =
    let all : sizes (heads v) ≡ length (meant offer classes v) ∷ [] =
    subst (λ (l : List WrittenForm). sizes l ≡ length (meant offer classes v) ∷ []) (append-nil (heads v)) (value_sized offer classes v []) in
    rw all refl
