-- A value that is written is read.
use Rattle.std.proofs.Common.{◌≡◌, ℕ, zero, suc, ◌≤◌, max, List, [], ◌∷◌, ◌++◌, length, map, Option, Some, None, refl, ap, ◌∙◌, arith}
use Rattle.std.proofs.Math.Nat.{le-max_left, le-max_right}
use Rattle.std.proofs.lemmas.List.{append-nil}
use Rattle.std.specs.Prelude.{codes}
use Rattle.pg_file_items.specs.declared.written.WrittenForm.{WrittenForm}
use Rattle.pg_file_items.specs.declared.written.WrittenForm.TheVariants as head
use Rattle.pg_file_tokens.specs.declared.token.Mark.TheVariants.{Close, Comma}
use Rattle.pg_file_items.specs.declared.words.FormWord.{FormWord}
use Rattle.pg_file_items.specs.declared.words.FormWord.TheVariants as word
use Rattle.pg_file_tokens.specs.Tokens.{Token, name, literal, mark}
use Rattle.pg_file_items.specs.Tree.{Value, Of_class, String, Seq, Of_some, Of_one, Of_two, Between, Chain, Chain_symbol, Expression, Build, Build_symbol, Label, End_of_text, Word, Rule, Values, No_value, And}
use Rattle.pg_file_items.specs.Syntax.{class_written, opened, written, written_list, written_more}
use Rattle.pg_file_items.specs.Proper.{IsProper, AreProper}
use Rattle.pg_file_items.specs.Depth.{class_depth, depth, depths}
use Rattle.pg_file_items.specs.Heads.{value_count, heads, all_heads}
use Rattle.pg_file_items.specs.Joined.{joined}
use Rattle.pg_file_parser.specs.Reading.{Body, ClassParts, Reader, mark_at, some_at, class_at, around_at, symbol_at, form_at, value_with, value_at}
use Rattle.pg_file_parser.proofs.ParserLemmas.Steps.{short_name_found, free_name_found, literal_text_found, filled_text_found, free_isnt}
use Rattle.pg_file_parser.proofs.ParserLemmas.Parts.{Complete, some_complete, some_long}
use Rattle.pg_file_parser.proofs.ParserLemmas.Classes.{classes, class_complete, longer_class}
use Rattle.pg_file_parser.proofs.ParserLemmas.Words.{word_text, form_word_found, form_isnt_end, free_no_form, end_reserved}
use Rattle.pg_file_parser.proofs.ParserLemmas.ValueLists.{values, list_of, same_more, same_count, same_heads, one_by_one}

-- ---- what is written takes tokens

mutual
  pub longer : (v : Value) (rest : List Token) → length rest ≤ length (written v rest)
  longer (Of_class form c) rest = omega (arith, longer_class c (mark Close ∷ rest))
  longer (String s) rest = omega arith
  longer (Seq vs) rest = omega (arith, longer_list vs rest)
  longer (Of_some form v vs) rest = omega (arith, longer v (written_more vs rest), longer_more vs rest)
  longer (Of_one form v) rest = omega (arith, longer v (mark Close ∷ rest))
  longer (Of_two form v w) rest = omega (arith, longer v (mark Comma ∷ written w (mark Close ∷ rest)), longer w (mark Close ∷ rest))
  longer (Between u v w) rest = omega (
    arith,
    longer u (mark Comma ∷ written v (mark Comma ∷ written w (mark Close ∷ rest))),
    longer v (mark Comma ∷ written w (mark Close ∷ rest)),
    longer w (mark Close ∷ rest),
  )
  longer (Chain form builder v w) rest = omega (arith, longer v (mark Comma ∷ written w (mark Close ∷ rest)), longer w (mark Close ∷ rest))
  longer (Chain_symbol form builder symbol v w) rest = omega (arith, longer v (mark Comma ∷ written w (mark Close ∷ rest)), longer w (mark Close ∷ rest))
  longer (Expression infixes prefixes postfixes v) rest = omega (arith, longer v (mark Close ∷ rest))
  longer (Build builder v) rest = omega (arith, longer v (mark Close ∷ rest))
  longer (Build_symbol builder symbol v) rest = omega (arith, longer v (mark Close ∷ rest))
  longer (Label v message) rest = omega (arith, longer v (mark Comma ∷ literal message ∷ mark Close ∷ rest))
  longer End_of_text rest = omega arith
  longer (Word s) rest = omega arith
  longer (Rule s) rest = omega arith

  longer_list : (vs : Values) (rest : List Token) → length rest ≤ length (written_list vs rest)
  longer_list No_value rest = omega arith
  longer_list (And v vs) rest = omega (arith, longer v (written_more vs rest), longer_more vs rest)

  longer_more : (vs : Values) (rest : List Token) → length rest ≤ length (written_more vs rest)
  longer_more No_value rest = omega arith
  longer_more (And v vs) rest = omega (arith, longer v (written_more vs rest), longer_more vs rest)

-- ---- every value begins with a name

not_closed : (v : Value) (rest : List Token) → mark_at Close (written v rest) ≡ None
not_closed (Of_class form c) rest = refl
not_closed (String s) rest = refl
not_closed (Seq vs) rest = refl
not_closed (Of_some form v vs) rest = refl
not_closed (Of_one form v) rest = refl
not_closed (Of_two form v w) rest = refl
not_closed (Between u v w) rest = refl
not_closed (Chain form builder v w) rest = refl
not_closed (Chain_symbol form builder symbol v w) rest = refl
not_closed (Expression infixes prefixes postfixes v) rest = refl
not_closed (Build builder v) rest = refl
not_closed (Build_symbol builder symbol v) rest = refl
not_closed (Label v message) rest = refl
not_closed End_of_text rest = refl
not_closed (Word s) rest = refl
not_closed (Rule s) rest = refl

no_symbol : (v : Value) (rest : List Token) → symbol_at (written v rest) ≡ Some ([], written v rest)
no_symbol (Of_class form c) rest = refl
no_symbol (String s) rest = refl
no_symbol (Seq vs) rest = refl
no_symbol (Of_some form v vs) rest = refl
no_symbol (Of_one form v) rest = refl
no_symbol (Of_two form v w) rest = refl
no_symbol (Between u v w) rest = refl
no_symbol (Chain form builder v w) rest = refl
no_symbol (Chain_symbol form builder symbol v w) rest = refl
no_symbol (Expression infixes prefixes postfixes v) rest = refl
no_symbol (Build builder v) rest = refl
no_symbol (Build_symbol builder symbol v) rest = refl
no_symbol (Label v message) rest = refl
no_symbol End_of_text rest = refl
no_symbol (Word s) rest = refl
no_symbol (Rule s) rest = refl

-- ---- values with commas between

some_read : (n : ℕ) (value : Reader Body) → Complete (values n) value → (m : ℕ) (v : Value) (vs : Values) (rest : List Token) → length (list_of vs) ≤ m
    → IsProper v → depth v ≤ n → AreProper vs → depths vs ≤ n
    → some_at Comma value m (written v (written_more vs rest)) ≡ Some (heads v ∷ map heads (list_of vs), mark Close ∷ rest)
some_read n value complete m v vs rest le p d ps ds =
    some_complete (values n) Comma value complete m (written v (written_more vs rest)) v (list_of vs) (mark Close ∷ rest) (ap (written v) (same_more n vs rest)) le ((λ us. tt), tt, refl) (p, d) (one_by_one n vs ps ds)

-- as many as there are
all_read : (n : ℕ) (value : Reader Body) → Complete (values n) value → (v : Value) (vs : Values) (rest : List Token)
    → IsProper v → depth v ≤ n → AreProper vs → depths vs ≤ n
    → some_at Comma value (length (written v (written_more vs rest))) (written v (written_more vs rest)) ≡ Some (heads v ∷ map heads (list_of vs), mark Close ∷ rest)
all_read n value complete v vs rest p d ps ds =
    let ts = written v (written_more vs rest) in
    some_read n value complete (length ts) v vs rest (some_long (values n) Comma longer ts v (list_of vs) (mark Close ∷ rest) (ap (written v) (same_more n vs rest))) p d ps ds

-- counted and joined
joined_same : (f : ℕ → WrittenForm) (v : Value) (vs : Values) → (f (suc (length (map heads (list_of vs)))) ∷ (heads v ++ joined (map heads (list_of vs)))) ≡ (f (suc (value_count vs)) ∷ (heads v ++ all_heads vs))
joined_same f v vs =
    ap (λ (k : ℕ). f (suc k) ∷ (heads v ++ joined (map heads (list_of vs)))) (same_count vs) ∙ ap (λ (b : Body). f (suc (value_count vs)) ∷ (heads v ++ b)) (same_heads vs)

abbrev found : Body → List Token → Option (Body × List Token)
found body rest = Some (body, rest)

one_read : (n : ℕ) (form : WrittenForm) (value : Reader Body) → Complete (values n) value → (v : Value) (rest : List Token) → IsProper v → depth v ≤ n
    → around_at form 1 value (written v (mark Close ∷ rest)) ≡ found (form ∷ heads v) (mark Close ∷ rest)
one_read n form value complete v rest p d =
    let zero_deep : 0 ≤ n = omega arith in
    let few : 0 ≤ 0 = omega arith in
    let read : some_at Comma value 0 (written v (mark Close ∷ rest)) ≡ Some (heads v ∷ [], mark Close ∷ rest) = some_read n value complete 0 v No_value rest few p d tt zero_deep in
    rw read (ap (λ (b : Body). found (form ∷ b) (mark Close ∷ rest)) (append-nil (heads v)))

two_read : (n : ℕ) (form : WrittenForm) (value : Reader Body) → Complete (values n) value → (v w : Value) (rest : List Token) → IsProper v → IsProper w → max (depth v) (depth w) ≤ n
    → around_at form 2 value (written v (mark Comma ∷ written w (mark Close ∷ rest))) ≡ found (form ∷ (heads v ++ heads w)) (mark Close ∷ rest)
two_read n form value complete v w rest p q d =
    let first : depth v ≤ n = omega (arith, d, le-max_left (depth v) (depth w)) in
    let second : max (depth w) 0 ≤ n = omega (arith, d, le-max_right (depth v) (depth w)) in
    let few : 1 ≤ 1 = omega arith in
    let read : some_at Comma value 1 (written v (mark Comma ∷ written w (mark Close ∷ rest))) ≡ Some (heads v ∷ heads w ∷ [], mark Close ∷ rest) = some_read n value complete 1 v (And w No_value) rest few p first (q, tt) second in
    rw read (ap (λ (b : Body). found (form ∷ (heads v ++ b)) (mark Close ∷ rest)) (append-nil (heads w)))

three_read : (n : ℕ) (form : WrittenForm) (value : Reader Body) → Complete (values n) value → (u v w : Value) (rest : List Token) → IsProper u → IsProper v → IsProper w → max (depth u) (max (depth v) (depth w)) ≤ n
    → around_at form 3 value (written u (mark Comma ∷ written v (mark Comma ∷ written w (mark Close ∷ rest)))) ≡ found (form ∷ (heads u ++ (heads v ++ heads w))) (mark Close ∷ rest)
three_read n form value complete u v w rest p q r d =
    let first : depth u ≤ n = omega (arith, d, le-max_left (depth u) (max (depth v) (depth w))) in
    let more : max (depth v) (depth w) ≤ n = omega (arith, d, le-max_right (depth u) (max (depth v) (depth w))) in
    let others : max (depth v) (max (depth w) 0) ≤ n = omega (arith, more) in
    let few : 2 ≤ 2 = omega arith in
    let read : some_at Comma value 2 (written u (mark Comma ∷ written v (mark Comma ∷ written w (mark Close ∷ rest)))) ≡ Some (heads u ∷ heads v ∷ heads w ∷ [], mark Close ∷ rest) = some_read n value complete 2 u (And v (And w No_value)) rest few p first (q, (r, tt)) others in
    rw read (ap (λ (b : Body). found (form ∷ (heads u ++ (heads v ++ b))) (mark Close ∷ rest)) (append-nil (heads w)))

-- ---- forms

-- a form's word, its parenthesis, what stands inside, and the parenthesis that closes
opened_read : (inside : FormWord → Reader Body) (w : FormWord) (ts rest : List Token) (body : Body) → inside w ts ≡ found body (mark Close ∷ rest)
    → value_with inside (opened (word_text w) ts) ≡ found body rest
opened_read inside w ts rest body h = rw (form_isnt_end w, form_word_found w, h) refl

-- one level less of parentheses
less : (d n : ℕ) → suc d ≤ suc n → d ≤ n
less d n h = omega (arith, h)

form_complete : (n : ℕ) (class : Reader ClassParts) → Complete (classes n) class → (value : Reader Body) → Complete (values n) value
    → (v : Value) (rest : List Token) → IsProper v → depth v ≤ suc n → value_with (form_at class value) (written v rest) ≡ found (heads v) rest
unfolding form_at
form_complete n class classed value complete (Of_class form c) rest p d =
    opened_read (form_at class value) (word.OfClass form) (class_written c (mark Close ∷ rest)) rest _ (rw (classed c (mark Close ∷ rest) (refl, refl) (p, less (class_depth c) n d)) refl)
form_complete n class classed value complete (String s) rest p d =
    opened_read (form_at class value) word.String (literal s ∷ mark Close ∷ rest) rest _ (rw (filled_text_found s p) refl)
form_complete n class classed value complete (Seq No_value) rest p d =
    opened_read (form_at class value) word.Seq (mark Close ∷ rest) rest _ refl
form_complete n class classed value complete (Seq (And v vs)) rest p d =
    let most : max (depth v) (depths vs) ≤ n = less (max (depth v) (depths vs)) n d in
    let first : depth v ≤ n = omega (arith, most, le-max_left (depth v) (depths vs)) in
    let others : depths vs ≤ n = omega (arith, most, le-max_right (depth v) (depths vs)) in
    opened_read (form_at class value) word.Seq (written v (written_more vs rest)) rest _
    (rw (not_closed v (written_more vs rest), all_read n value complete v vs rest p.0 first p.1 others) (ap (λ (b : Body). found b (mark Close ∷ rest)) (joined_same head.Seq v vs)))
form_complete n class classed value complete (Of_some form v vs) rest p d =
    let most : max (depth v) (depths vs) ≤ n = less (max (depth v) (depths vs)) n d in
    let first : depth v ≤ n = omega (arith, most, le-max_left (depth v) (depths vs)) in
    let others : depths vs ≤ n = omega (arith, most, le-max_right (depth v) (depths vs)) in
    opened_read (form_at class value) (word.OfSome form) (written v (written_more vs rest)) rest _
    (rw (all_read n value complete v vs rest p.0 first p.1 others) (ap (λ (b : Body). found b (mark Close ∷ rest)) (joined_same (head.OfSome form) v vs)))
form_complete n class classed value complete (Of_one form v) rest p d =
    opened_read (form_at class value) (word.OfOne form) (written v (mark Close ∷ rest)) rest _ (one_read n (head.OfOne form) value complete v rest p (less (depth v) n d))
form_complete n class classed value complete (Of_two form v w) rest p d =
    opened_read (form_at class value) (word.OfTwo form) (written v (mark Comma ∷ written w (mark Close ∷ rest))) rest _
    (two_read n (head.OfTwo form) value complete v w rest p.0 p.1 (less (max (depth v) (depth w)) n d))
form_complete n class classed value complete (Between u v w) rest p d =
    opened_read (form_at class value) word.Between (written u (mark Comma ∷ written v (mark Comma ∷ written w (mark Close ∷ rest)))) rest _
    (three_read n head.Between value complete u v w rest p.0 p.1 p.2 (less (max (depth u) (max (depth v) (depth w))) n d))
form_complete n class classed value complete (Chain form builder v w) rest p d =
    opened_read (form_at class value) (word.Chain form) (name builder ∷ mark Comma ∷ written v (mark Comma ∷ written w (mark Close ∷ rest))) rest _
    (rw (short_name_found builder p.0, no_symbol v (mark Comma ∷ written w (mark Close ∷ rest))) (two_read n (head.Chain form builder []) value complete v w rest p.1 p.2 (less (max (depth v) (depth w)) n d)))
form_complete n class classed value complete (Chain_symbol form builder symbol v w) rest p d =
    opened_read (form_at class value) (word.Chain form) (name builder ∷ mark Comma ∷ literal symbol ∷ mark Comma ∷ written v (mark Comma ∷ written w (mark Close ∷ rest))) rest _
    (rw (short_name_found builder p.0, literal_text_found symbol p.1) (two_read n (head.Chain form builder symbol) value complete v w rest p.2 p.3 (less (max (depth v) (depth w)) n d)))
form_complete n class classed value complete (Expression infixes prefixes postfixes v) rest p d =
    opened_read (form_at class value) word.Expression (name infixes ∷ mark Comma ∷ name prefixes ∷ mark Comma ∷ name postfixes ∷ mark Comma ∷ written v (mark Close ∷ rest)) rest _
    (rw (short_name_found infixes p.0, short_name_found prefixes p.1, short_name_found postfixes p.2) (one_read n (head.Expression infixes prefixes postfixes) value complete v rest p.3 (less (depth v) n d)))
form_complete n class classed value complete (Build builder v) rest p d =
    opened_read (form_at class value) word.Build (name builder ∷ mark Comma ∷ written v (mark Close ∷ rest)) rest _
    (rw (short_name_found builder p.0, no_symbol v (mark Close ∷ rest)) (one_read n (head.Build builder []) value complete v rest p.1 (less (depth v) n d)))
form_complete n class classed value complete (Build_symbol builder symbol v) rest p d =
    opened_read (form_at class value) word.Build (name builder ∷ mark Comma ∷ literal symbol ∷ mark Comma ∷ written v (mark Close ∷ rest)) rest _
    (rw (short_name_found builder p.0, literal_text_found symbol p.1) (one_read n (head.Build builder symbol) value complete v rest p.2 (less (depth v) n d)))
form_complete n class classed value complete (Label v message) rest p d =
    opened_read (form_at class value) word.Label (written v (mark Comma ∷ literal message ∷ mark Close ∷ rest)) rest _
    (rw (complete v (mark Comma ∷ literal message ∷ mark Close ∷ rest) tt (p.0, less (depth v) n d), literal_text_found message p.1) refl)
form_complete n class classed value complete End_of_text rest p d = refl
form_complete n class classed value complete (Word s) rest p d =
    opened_read (form_at class value) word.Word (name s ∷ mark Close ∷ rest) rest _ (rw (free_name_found s p) refl)
form_complete n class classed value complete (Rule s) rest p d = rw (free_isnt s (codes "eof") p end_reserved, free_no_form s p, free_name_found s p) refl

-- no parenthesis is left
none : (d : ℕ) → suc d ≤ 0 → ⊥
none d h = omega (arith, h)

pub value_complete : (n : ℕ) → Complete (values n) (value_at n)
unfolding value_at
value_complete zero (Of_class form c) rest e p = absurd (none (class_depth c) p.1)
value_complete zero (String s) rest e p = absurd (none 0 p.1)
value_complete zero (Seq vs) rest e p = absurd (none (depths vs) p.1)
value_complete zero (Of_some form v vs) rest e p = absurd (none (max (depth v) (depths vs)) p.1)
value_complete zero (Of_one form v) rest e p = absurd (none (depth v) p.1)
value_complete zero (Of_two form v w) rest e p = absurd (none (max (depth v) (depth w)) p.1)
value_complete zero (Between u v w) rest e p = absurd (none (max (depth u) (max (depth v) (depth w))) p.1)
value_complete zero (Chain form builder v w) rest e p = absurd (none (max (depth v) (depth w)) p.1)
value_complete zero (Chain_symbol form builder symbol v w) rest e p = absurd (none (max (depth v) (depth w)) p.1)
value_complete zero (Expression infixes prefixes postfixes v) rest e p = absurd (none (depth v) p.1)
value_complete zero (Build builder v) rest e p = absurd (none (depth v) p.1)
value_complete zero (Build_symbol builder symbol v) rest e p = absurd (none (depth v) p.1)
value_complete zero (Label v message) rest e p = absurd (none (depth v) p.1)
value_complete zero End_of_text rest e p = refl
value_complete zero (Word s) rest e p = absurd (none 0 p.1)
value_complete zero (Rule s) rest e p = rw (free_isnt s (codes "eof") p.0 end_reserved, free_no_form s p.0, free_name_found s p.0) refl
value_complete (suc n) v rest e p = form_complete n (class_at n) (class_complete n) (value_at n) (value_complete n) v rest p.0 p.1
