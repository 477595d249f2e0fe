-- A value that is read is written so, and one that is written is read.
use Rattle.std.proofs.Common.{◌≡◌, ℕ, zero, suc, ◌-◌, ◌≤◌, max, eqb, eqb-true, List, [], ◌∷◌, ◌++◌, length, Option, Some, None, refl, sym, ap, subst, ◌∙◌, inl, inr, arith}
use Rattle.std.proofs.Math.Nat.{le-max_left, le-max_right, max-le}
use Rattle.std.proofs.lemmas.List.{append-nil}
use Rattle.std.specs.Prelude.{codes}
use Rattle.std.specs.Str.{bytes_eq}
use Rattle.pg_file_items.specs.declared.written.WrittenForm.{WrittenForm}
use Rattle.pg_file_items.specs.declared.written.WrittenForm.TheVariants as head
use Rattle.pg_file_tokens.specs.declared.token.Mark.TheVariants.{Open, Close, Comma}
use Rattle.pg_file_items.specs.declared.words.ClassForm.{ClassForm}
use Rattle.pg_file_items.specs.declared.words.SomeForm.{SomeForm}
use Rattle.pg_file_items.specs.declared.words.OneForm.{OneForm}
use Rattle.pg_file_items.specs.declared.words.TwoForm.{TwoForm}
use Rattle.pg_grammar_form.specs.declared.side.Side.{Side}
use Rattle.pg_file_items.specs.declared.words.FormWord.{FormWord}
use Rattle.pg_file_items.specs.declared.words.FormWord.TheVariants as word
use Rattle.pg_file_tokens.specs.Tokens.{Token, name, number, literal, mark, wrong, bad}
use Rattle.pg_file_items.specs.Tree.{Value, Of_class, String, Seq, Of_some, Of_one, Of_two, Between, Chain, Chain_symbol, Expression, Build, Build_symbol, Label, End_of_text, Word, Rule, Values, No_value, And}
use Rattle.pg_file_items.specs.Syntax.{class_word, some_word, one_word, two_word, chain_word, class_written, opened, written, written_more}
use Rattle.pg_file_items.specs.Proper.{IsProper, AreProper}
use Rattle.pg_file_items.specs.Depth.{class_depth, depth, depths}
use Rattle.pg_file_items.specs.Heads.{value_count, heads, all_heads}
use Rattle.pg_file_items.specs.Words.{form_word}
use Rattle.pg_file_items.specs.Joined.{joined}
use Rattle.pg_file_parser.specs.Reading.{◌>>=◌, Body, ClassParts, Reader, mark_at, name_at, literal_at, literal_text, filled_text, short_name, free_name, some_at, closed_at, class_at, of_class_at, string_at, word_name_at, values_at, seq_with, of_some_at, counted, around_at, builder_at, chain_head_at, expression_head_at, symbol_at, build_head_at, message_at, label_at, form_at, value_of_word, value_of_name, value_with, value_at}
use Rattle.pg_file_parser.proofs.ParserLemmas.Steps.{bind_some, some_is, chosen, guard_some, mark_is, name_is, literal_is, literal_text_is, filled_text_is, short_name_is, free_name_is, word_is}
use Rattle.pg_file_parser.proofs.ParserLemmas.Parts.{Reads, Sound}
use Rattle.pg_file_parser.proofs.ParserLemmas.Classes.{classes, class_sound}
use Rattle.pg_file_parser.proofs.ParserLemmas.Words.{word_text, form_word_is}
use Rattle.pg_file_parser.proofs.ParserLemmas.ValueLists.{values, some_values, AreValues}

-- ---- forms: what was read before the parenthesis that closes

abbrev IsForm : ℕ → FormWord → List Token → Body × List Token → Type 0
IsForm n w ts x = (rest : List Token) → x.1 ≡ mark Close ∷ rest → Reads (values (suc n)) (opened (word_text w) ts) (x.0, rest)

of_class_sound : (n : ℕ) (class : Reader ClassParts) → Sound (classes n) class → (form : ClassForm) (ts : List Token) (x : Body × List Token) → of_class_at form class ts ≡ Some x → IsForm n (word.OfClass form) ts x
of_class_sound n class sound form ts x e =
    let a = bind_some (class ts) (λ c. Some (head.OfClass form c.0 ∷ [], c.1)) x e in
    let c = sound ts a.0 a.1 in
    let deep : suc (class_depth c.tree) ≤ suc n = omega (arith, c.proper.1) in
    subst (IsForm n (word.OfClass form) ts) (some_is (head.OfClass form a.0.0 ∷ [], a.0.1) x a.2) (λ rest closes. record {
      tree = Of_class form c.tree;
      text = ap (opened (class_word form)) (c.text ∙ ap (class_written c.tree) closes);
      means = ap (λ (parts : ClassParts). head.OfClass form parts ∷ []) c.means;
      proper = (c.proper.0, deep);
    })

string_sound : (n : ℕ) (ts : List Token) (x : Body × List Token) → string_at ts ≡ Some x → IsForm n word.String ts x
string_sound n ts x e =
    let a = bind_some (literal_at ts) (λ s. filled_text s.0 >>= λ text. Some (head.String text ∷ [], s.1)) x e in
    let b = bind_some (filled_text a.0.0) (λ text. Some (head.String text ∷ [], a.0.1)) x a.2 in
    let t = filled_text_is a.0.0 b.0 b.1 in
    let deep : 1 ≤ suc n = omega arith in
    subst (IsForm n word.String ts) (some_is (head.String b.0 ∷ [], a.0.1) x b.2) (λ rest closes. record {
      tree = String a.0.0;
      text = ap (opened (codes "string")) (literal_is ts a.0 a.1 ∙ ap (λ (u : List Token). literal a.0.0 ∷ u) closes);
      means = ap (λ (u : List ℕ). head.String u ∷ []) (sym t.0);
      proper = (t.1, deep);
    })

word_sound : (n : ℕ) (ts : List Token) (x : Body × List Token) → word_name_at ts ≡ Some x → IsForm n word.Word ts x
word_sound n ts x e =
    let a = bind_some (name_at ts) (λ s. free_name s.0 >>= λ n. Some (head.Word n ∷ [], s.1)) x e in
    let b = bind_some (free_name a.0.0) (λ n. Some (head.Word n ∷ [], a.0.1)) x a.2 in
    let t = free_name_is a.0.0 b.0 b.1 in
    let deep : 1 ≤ suc n = omega arith in
    subst (IsForm n word.Word ts) (some_is (head.Word b.0 ∷ [], a.0.1) x b.2) (λ rest closes. record {
      tree = Word a.0.0;
      text = ap (opened (codes "word")) (name_is ts a.0 a.1 ∙ ap (λ (u : List Token). name a.0.0 ∷ u) closes);
      means = ap (λ (u : List ℕ). head.Word u ∷ []) (sym t.0);
      proper = (t.1, deep);
    })

seq_sound : (n : ℕ) (value : Reader Body) → Sound (values n) value → (ts : List Token) (close : Option (List Token)) (x : Body × List Token) → mark_at Close ts ≡ close → seq_with value ts close ≡ Some x → IsForm n word.Seq ts x
seq_sound n value sound ts (Some after) x c e =
    let deep : 1 ≤ suc n = omega arith in
    subst (IsForm n word.Seq ts) (some_is (head.Seq 0 ∷ [], ts) x e) (λ rest closes. record {
      tree = Seq No_value;
      text = ap (opened (codes "seq")) closes;
      means = refl;
      proper = (tt, deep);
    })
seq_sound n value sound ts None x c e =
    let a = bind_some (values_at value ts) (λ vs. Some (head.Seq (length vs.0) ∷ joined vs.0, vs.1)) x e in
    let s = some_values n value sound (length ts) ts a.0 a.1 in
    let most : max (depth s.first) (depths s.others) ≤ n = max-le s.first_deep s.others_deep in
    let deep : suc (max (depth s.first) (depths s.others)) ≤ suc n = omega (arith, most) in
    subst (IsForm n word.Seq ts) (some_is (head.Seq (length a.0.0) ∷ joined a.0.0, a.0.1) x a.2) (λ rest closes. record {
      tree = Seq (And s.first s.others);
      text = ap (opened (codes "seq")) (s.text rest closes);
      means = ap (λ (k : ℕ). head.Seq k ∷ joined a.0.0) s.count ∙ ap (λ (b : Body). head.Seq (suc (value_count s.others)) ∷ b) s.means;
      proper = ((s.first_proper, s.others_proper), deep);
    })

of_some_sound : (n : ℕ) (value : Reader Body) → Sound (values n) value → (form : SomeForm) (ts : List Token) (x : Body × List Token) → of_some_at form value ts ≡ Some x → IsForm n (word.OfSome form) ts x
of_some_sound n value sound form ts x e =
    let a = bind_some (values_at value ts) (λ vs. Some (head.OfSome form (length vs.0) ∷ joined vs.0, vs.1)) x e in
    let s = some_values n value sound (length ts) ts a.0 a.1 in
    let most : max (depth s.first) (depths s.others) ≤ n = max-le s.first_deep s.others_deep in
    let deep : suc (max (depth s.first) (depths s.others)) ≤ suc n = omega (arith, most) in
    subst (IsForm n (word.OfSome form) ts) (some_is (head.OfSome form (length a.0.0) ∷ joined a.0.0, a.0.1) x a.2) (λ rest closes. record {
      tree = Of_some form s.first s.others;
      text = ap (opened (some_word form)) (s.text rest closes);
      means = ap (λ (k : ℕ). head.OfSome form k ∷ joined a.0.0) s.count ∙ ap (λ (b : Body). head.OfSome form (suc (value_count s.others)) ∷ b) s.means;
      proper = ((s.first_proper, s.others_proper), deep);
    })

-- ---- forms of one, two and three values

-- so many values after a form
record IsAround (n : ℕ) (form : WrittenForm) (m : ℕ) (ts : List Token) (x : Body × List Token) : Type 0 where
  values : List Body × List Token
  are : AreValues n ts values
  few : length values.0 ≡ m
  body : x.0 ≡ form ∷ joined values.0
  after : values.1 ≡ x.1

around_sound : (n : ℕ) (form : WrittenForm) (m : ℕ) (value : Reader Body) → Sound (values n) value → (ts : List Token) (x : Body × List Token) → around_at form m value ts ≡ Some x → IsAround n form m ts x
around_sound n form m value sound ts x e =
    let a = bind_some (some_at Comma value (m - 1) ts) (λ vs. counted m vs.0 vs.1 >>= λ parts. Some (form ∷ parts.0, parts.1)) x e in
    let b = bind_some (counted m a.0.0 a.0.1) (λ parts. Some (form ∷ parts.0, parts.1)) x a.2 in
    let g = guard_some (eqb (length a.0.0) m) (Some (joined a.0.0, a.0.1)) b.0 b.1 in
    let q = ap (λ (y : Body × List Token). (form ∷ y.0, y.1)) (some_is (joined a.0.0, a.0.1) b.0 g.1) ∙ some_is (form ∷ b.0.0, b.0.1) x b.2 in
    record {
      values = a.0;
      are = some_values n value sound (m - 1) ts a.0 a.1;
      few = eqb-true (length a.0.0) m g.0;
      body = sym (ap (λ (y : Body × List Token). y.0) q);
      after = ap (λ (y : Body × List Token). y.1) q;
    }

-- a value after a form
record IsOne (n : ℕ) (form : WrittenForm) (ts : List Token) (x : Body × List Token) : Type 0 where
  value : Value
  text : (rest : List Token) → x.1 ≡ mark Close ∷ rest → ts ≡ written value (mark Close ∷ rest)
  means : x.0 ≡ form ∷ heads value
  proper : IsProper value
  deep : depth value ≤ n

one_of : (n : ℕ) (form : WrittenForm) (ts : List Token) (x : Body × List Token) (bodies : List Body) (after : List Token) (first : Value) (others : Values)
    → suc (value_count others) ≡ 1
    → ((rest : List Token) → after ≡ mark Close ∷ rest → ts ≡ written first (written_more others rest)) → joined bodies ≡ heads first ++ all_heads others
    → IsProper first → depth first ≤ n → x.0 ≡ form ∷ joined bodies → after ≡ x.1 → IsOne n form ts x
one_of n form ts x bodies after first No_value count text means p d body same = record {
  value = first;
  text = λ rest c. text rest (same ∙ c);
  means = body ∙ ap (λ (b : Body). form ∷ b) (means ∙ append-nil (heads first));
  proper = p;
  deep = d;
}
one_of n form ts x bodies after first (And v vs) count text means p d body same = absurd (omega (arith, count))

one_sound : (n : ℕ) (form : WrittenForm) (value : Reader Body) → Sound (values n) value → (ts : List Token) (x : Body × List Token) → around_at form 1 value ts ≡ Some x → IsOne n form ts x
one_sound n form value sound ts x e =
    let a = around_sound n form 1 value sound ts x e in
    one_of n form ts x a.values.0 a.values.1 a.are.first a.are.others (sym a.are.count ∙ a.few) a.are.text a.are.means a.are.first_proper a.are.first_deep a.body a.after

-- two values after a form
record IsTwo (n : ℕ) (form : WrittenForm) (ts : List Token) (x : Body × List Token) : Type 0 where
  first : Value
  second : Value
  text : (rest : List Token) → x.1 ≡ mark Close ∷ rest → ts ≡ written first (mark Comma ∷ written second (mark Close ∷ rest))
  means : x.0 ≡ form ∷ (heads first ++ heads second)
  proper : IsProper first × IsProper second
  deep : max (depth first) (depth second) ≤ n

two_of : (n : ℕ) (form : WrittenForm) (ts : List Token) (x : Body × List Token) (bodies : List Body) (after : List Token) (first : Value) (others : Values)
    → suc (value_count others) ≡ 2
    → ((rest : List Token) → after ≡ mark Close ∷ rest → ts ≡ written first (written_more others rest)) → joined bodies ≡ heads first ++ all_heads others
    → IsProper first → AreProper others → depth first ≤ n → depths others ≤ n → x.0 ≡ form ∷ joined bodies → after ≡ x.1 → IsTwo n form ts x
two_of n form ts x bodies after first No_value count text means p ps d ds body same = absurd (omega (arith, count))
two_of n form ts x bodies after first (And v No_value) count text means p ps d ds body same =
    let second : depth v ≤ n = omega (arith, ds, le-max_left (depth v) 0) in
    record {
      first = first;
      second = v;
      text = λ rest c. text rest (same ∙ c);
      means = body ∙ ap (λ (b : Body). form ∷ b) (means ∙ ap (λ (b : Body). heads first ++ b) (append-nil (heads v)));
      proper = (p, ps.0);
      deep = max-le d second;
    }
two_of n form ts x bodies after first (And v (And w vs)) count text means p ps d ds body same = absurd (omega (arith, count))

two_sound : (n : ℕ) (form : WrittenForm) (value : Reader Body) → Sound (values n) value → (ts : List Token) (x : Body × List Token) → around_at form 2 value ts ≡ Some x → IsTwo n form ts x
two_sound n form value sound ts x e =
    let a = around_sound n form 2 value sound ts x e in
    two_of n form ts x a.values.0 a.values.1 a.are.first a.are.others (sym a.are.count ∙ a.few) a.are.text a.are.means a.are.first_proper a.are.others_proper a.are.first_deep a.are.others_deep a.body a.after

-- three values after a form
record IsThree (n : ℕ) (form : WrittenForm) (ts : List Token) (x : Body × List Token) : Type 0 where
  first : Value
  second : Value
  third : Value
  text : (rest : List Token) → x.1 ≡ mark Close ∷ rest → ts ≡ written first (mark Comma ∷ written second (mark Comma ∷ written third (mark Close ∷ rest)))
  means : x.0 ≡ form ∷ (heads first ++ (heads second ++ heads third))
  proper : IsProper first × IsProper second × IsProper third
  deep : max (depth first) (max (depth second) (depth third)) ≤ n

three_of : (n : ℕ) (form : WrittenForm) (ts : List Token) (x : Body × List Token) (bodies : List Body) (after : List Token) (first : Value) (others : Values)
    → suc (value_count others) ≡ 3
    → ((rest : List Token) → after ≡ mark Close ∷ rest → ts ≡ written first (written_more others rest)) → joined bodies ≡ heads first ++ all_heads others
    → IsProper first → AreProper others → depth first ≤ n → depths others ≤ n → x.0 ≡ form ∷ joined bodies → after ≡ x.1 → IsThree n form ts x
three_of n form ts x bodies after first No_value count text means p ps d ds body same = absurd (omega (arith, count))
three_of n form ts x bodies after first (And v No_value) count text means p ps d ds body same = absurd (omega (arith, count))
three_of n form ts x bodies after first (And v (And w No_value)) count text means p ps d ds body same =
    let second : depth v ≤ n = omega (arith, ds, le-max_left (depth v) (max (depth w) 0)) in
    let more : max (depth w) 0 ≤ n = omega (arith, ds, le-max_right (depth v) (max (depth w) 0)) in
    let third : depth w ≤ n = omega (arith, more, le-max_left (depth w) 0) in
    record {
      first = first;
      second = v;
      third = w;
      text = λ rest c. text rest (same ∙ c);
      means = body ∙ ap (λ (b : Body). form ∷ b) (means ∙ ap (λ (b : Body). heads first ++ (heads v ++ b)) (append-nil (heads w)));
      proper = (p, ps.0, ps.1.0);
      deep = max-le d (max-le second third);
    }
three_of n form ts x bodies after first (And v (And w (And u vs))) count text means p ps d ds body same = absurd (omega (arith, count))

three_sound : (n : ℕ) (form : WrittenForm) (value : Reader Body) → Sound (values n) value → (ts : List Token) (x : Body × List Token) → around_at form 3 value ts ≡ Some x → IsThree n form ts x
three_sound n form value sound ts x e =
    let a = around_sound n form 3 value sound ts x e in
    three_of n form ts x a.values.0 a.values.1 a.are.first a.are.others (sym a.are.count ∙ a.few) a.are.text a.are.means a.are.first_proper a.are.others_proper a.are.first_deep a.are.others_deep a.body a.after

of_one_sound : (n : ℕ) (form : OneForm) (ts : List Token) (x : Body × List Token) → IsOne n (head.OfOne form) ts x → IsForm n (word.OfOne form) ts x
of_one_sound n form ts x s rest closes =
    let deep : suc (depth s.value) ≤ suc n = omega (arith, s.deep) in
    record { tree = Of_one form s.value; text = ap (opened (one_word form)) (s.text rest closes); means = s.means; proper = (s.proper, deep) }

of_two_sound : (n : ℕ) (form : TwoForm) (ts : List Token) (x : Body × List Token) → IsTwo n (head.OfTwo form) ts x → IsForm n (word.OfTwo form) ts x
of_two_sound n form ts x s rest closes =
    let deep : suc (max (depth s.first) (depth s.second)) ≤ suc n = omega (arith, s.deep) in
    record { tree = Of_two form s.first s.second; text = ap (opened (two_word form)) (s.text rest closes); means = s.means; proper = (s.proper, deep) }

between_sound : (n : ℕ) (ts : List Token) (x : Body × List Token) → IsThree n head.Between ts x → IsForm n word.Between ts x
between_sound n ts x s rest closes =
    let deep : suc (max (depth s.first) (max (depth s.second) (depth s.third))) ≤ suc n = omega (arith, s.deep) in
    record { tree = Between s.first s.second s.third; text = ap (opened (codes "between")) (s.text rest closes); means = s.means; proper = (s.proper, deep) }

-- ---- forms with builders

-- a builder's name and its comma
builder_is : (ts : List Token) (x : List ℕ × List Token) → builder_at ts ≡ Some x → (ts ≡ name x.0 ∷ mark Comma ∷ x.1) × (length x.0 ≤ 64)
builder_is ts x e =
    let a = bind_some (name_at ts) (λ s. short_name s.0 >>= λ builder. mark_at Comma s.1 >>= λ rest. Some (builder, rest)) x e in
    let b = bind_some (short_name a.0.0) (λ builder. mark_at Comma a.0.1 >>= λ rest. Some (builder, rest)) x a.2 in
    let d = bind_some (mark_at Comma a.0.1) (λ rest. Some (b.0, rest)) x b.2 in
    let t = short_name_is a.0.0 b.0 b.1 in
    let whole : ts ≡ name b.0 ∷ mark Comma ∷ d.0 =
    name_is ts a.0 a.1 ∙ ap (λ (u : List ℕ). name u ∷ a.0.1) t.0 ∙ ap (λ (u : List Token). name b.0 ∷ u) (mark_is Comma a.0.1 d.0 d.1) in
    subst (λ (y : List ℕ × List Token). (ts ≡ name y.0 ∷ mark Comma ∷ y.1) × (length y.0 ≤ 64)) (some_is (b.0, d.0) x d.2) (whole, subst (λ (u : List ℕ). length u ≤ 64) t.0 t.1)

expression_sound : (n : ℕ) (value : Reader Body) → Sound (values n) value → (ts : List Token) (x : Body × List Token)
    → (expression_head_at ts >>= λ h. around_at h.0 1 value h.1) ≡ Some x → IsForm n word.Expression ts x
expression_sound n value sound ts x e rest closes =
    let a = bind_some (expression_head_at ts) (λ h. around_at h.0 1 value h.1) x e in
    let b = bind_some (builder_at ts) (λ b. builder_at b.1 >>= λ d. builder_at d.1 >>= λ f. Some (head.Expression b.0 d.0 f.0, f.1)) a.0 a.1 in
    let d = bind_some (builder_at b.0.1) (λ d. builder_at d.1 >>= λ f. Some (head.Expression b.0.0 d.0 f.0, f.1)) a.0 b.2 in
    let f = bind_some (builder_at d.0.1) (λ f. Some (head.Expression b.0.0 d.0.0 f.0, f.1)) a.0 d.2 in
    let tb = builder_is ts b.0 b.1 in
    let td = builder_is b.0.1 d.0 d.1 in
    let tf = builder_is d.0.1 f.0 f.1 in
    let form = head.Expression b.0.0 d.0.0 f.0.0 in
    let q : (form, f.0.1) ≡ a.0 = some_is (form, f.0.1) a.0 f.2 in
    let after : around_at form 1 value f.0.1 ≡ Some x = ap (λ (y : WrittenForm × List Token). around_at y.0 1 value y.1) q ∙ a.2 in
    let s = one_sound n form value sound f.0.1 x after in
    let deep : suc (depth s.value) ≤ suc n = omega (arith, s.deep) in
    record {
      tree = Expression b.0.0 d.0.0 f.0.0 s.value;
      text = ap (opened (codes "expr")) (tb.0 ∙ ap (λ (u : List Token). name b.0.0 ∷ mark Comma ∷ u) (td.0 ∙ ap (λ (u : List Token). name d.0.0 ∷ mark Comma ∷ u) (tf.0 ∙ ap (λ (u : List Token). name f.0.0 ∷ mark Comma ∷ u) (s.text rest closes))));
      means = s.means;
      proper = ((tb.1, td.1, tf.1, s.proper), deep);
    }

-- a symbol and its comma, or none
data IsSymbol : List Token → List ℕ × List Token → Type 0 where
  without : {ts : List Token} → IsSymbol ts ([], ts)
  with : {s : List ℕ} {ts : List Token} → length s ≤ 1024 → IsSymbol (literal s ∷ mark Comma ∷ ts) (s, ts)

symbol_sound : (ts : List Token) (x : List ℕ × List Token) → symbol_at ts ≡ Some x → IsSymbol ts x
symbol_sound [] x e = subst (IsSymbol []) (some_is ([], []) x e) without
symbol_sound (name s ∷ ts) x e = subst (IsSymbol (name s ∷ ts)) (some_is ([], name s ∷ ts) x e) without
symbol_sound (number s ∷ ts) x e = subst (IsSymbol (number s ∷ ts)) (some_is ([], number s ∷ ts) x e) without
symbol_sound (mark m ∷ ts) x e = subst (IsSymbol (mark m ∷ ts)) (some_is ([], mark m ∷ ts) x e) without
symbol_sound (wrong ∷ ts) x e = absurd cc
symbol_sound (bad ∷ ts) x e = subst (IsSymbol (bad ∷ ts)) (some_is ([], bad ∷ ts) x e) without
symbol_sound (literal s ∷ ts) x e =
    let a = bind_some (literal_text s) (λ text. mark_at Comma ts >>= λ rest. Some (text, rest)) x e in
    let b = bind_some (mark_at Comma ts) (λ rest. Some (a.0, rest)) x a.2 in
    let t = literal_text_is s a.0 a.1 in
    subst (IsSymbol (literal s ∷ ts)) (some_is (a.0, b.0) x b.2)
    (subst (λ (us : List Token). IsSymbol (literal s ∷ us) (a.0, b.0)) (sym (mark_is Comma ts b.0 b.1))
    (subst (λ (u : List ℕ). IsSymbol (literal s ∷ mark Comma ∷ b.0) (u, b.0)) t.0 (with t.1)))

-- a builder's name, its symbol, and the value
built_sound : (n : ℕ) (s : List ℕ) (ts : List Token) (y : List ℕ × List Token) (x : Body × List Token) → length s ≤ 64 → IsSymbol ts y
    → IsOne n (head.Build s y.0) y.1 x → (rest : List Token) → x.1 ≡ mark Close ∷ rest → Reads (values (suc n)) (opened (codes "build") (name s ∷ mark Comma ∷ ts)) (x.0, rest)
built_sound n s ts _ x short without v rest closes =
    let deep : suc (depth v.value) ≤ suc n = omega (arith, v.deep) in
    record {
      tree = Build s v.value;
      text = ap (λ (u : List Token). opened (codes "build") (name s ∷ mark Comma ∷ u)) (v.text rest closes);
      means = v.means;
      proper = ((short, v.proper), deep);
    }
built_sound n s ts _ x short (with {s = symbol} brief) v rest closes =
    let deep : suc (depth v.value) ≤ suc n = omega (arith, v.deep) in
    record {
      tree = Build_symbol s symbol v.value;
      text = ap (λ (u : List Token). opened (codes "build") (name s ∷ mark Comma ∷ literal symbol ∷ mark Comma ∷ u)) (v.text rest closes);
      means = v.means;
      proper = ((short, brief, v.proper), deep);
    }

build_sound : (n : ℕ) (value : Reader Body) → Sound (values n) value → (ts : List Token) (x : Body × List Token)
    → (build_head_at ts >>= λ h. around_at h.0 1 value h.1) ≡ Some x → IsForm n word.Build ts x
build_sound n value sound ts x e rest closes =
    let a = bind_some (build_head_at ts) (λ h. around_at h.0 1 value h.1) x e in
    let b = bind_some (builder_at ts) (λ b. symbol_at b.1 >>= λ d. Some (head.Build b.0 d.0, d.1)) a.0 a.1 in
    let d = bind_some (symbol_at b.0.1) (λ d. Some (head.Build b.0.0 d.0, d.1)) a.0 b.2 in
    let t = builder_is ts b.0 b.1 in
    let form = head.Build b.0.0 d.0.0 in
    let q : (form, d.0.1) ≡ a.0 = some_is (form, d.0.1) a.0 d.2 in
    let after : around_at form 1 value d.0.1 ≡ Some x = ap (λ (y : WrittenForm × List Token). around_at y.0 1 value y.1) q ∙ a.2 in
    let s = one_sound n form value sound d.0.1 x after in
    subst (λ (us : List Token). Reads (values (suc n)) (opened (codes "build") us) (x.0, rest)) (sym t.0) (built_sound n b.0.0 b.0.1 d.0 x t.1 (symbol_sound b.0.1 d.0 d.1) s rest closes)

-- the same of a chain, with its operand and separator
chained_sound : (n : ℕ) (side : Side) (s : List ℕ) (ts : List Token) (y : List ℕ × List Token) (x : Body × List Token) → length s ≤ 64 → IsSymbol ts y
    → IsTwo n (head.Chain side s y.0) y.1 x → (rest : List Token) → x.1 ≡ mark Close ∷ rest → Reads (values (suc n)) (opened (chain_word side) (name s ∷ mark Comma ∷ ts)) (x.0, rest)
chained_sound n side s ts _ x short without v rest closes =
    let deep : suc (max (depth v.first) (depth v.second)) ≤ suc n = omega (arith, v.deep) in
    record {
      tree = Chain side s v.first v.second;
      text = ap (λ (u : List Token). opened (chain_word side) (name s ∷ mark Comma ∷ u)) (v.text rest closes);
      means = v.means;
      proper = ((short, v.proper.0, v.proper.1), deep);
    }
chained_sound n side s ts _ x short (with {s = symbol} brief) v rest closes =
    let deep : suc (max (depth v.first) (depth v.second)) ≤ suc n = omega (arith, v.deep) in
    record {
      tree = Chain_symbol side s symbol v.first v.second;
      text = ap (λ (u : List Token). opened (chain_word side) (name s ∷ mark Comma ∷ literal symbol ∷ mark Comma ∷ u)) (v.text rest closes);
      means = v.means;
      proper = ((short, brief, v.proper.0, v.proper.1), deep);
    }

chain_sound : (n : ℕ) (value : Reader Body) → Sound (values n) value → (side : Side) (ts : List Token) (x : Body × List Token)
    → (chain_head_at side ts >>= λ h. around_at h.0 2 value h.1) ≡ Some x → IsForm n (word.Chain side) ts x
chain_sound n value sound side ts x e rest closes =
    let a = bind_some (chain_head_at side ts) (λ h. around_at h.0 2 value h.1) x e in
    let b = bind_some (builder_at ts) (λ b. symbol_at b.1 >>= λ d. Some (head.Chain side b.0 d.0, d.1)) a.0 a.1 in
    let d = bind_some (symbol_at b.0.1) (λ d. Some (head.Chain side b.0.0 d.0, d.1)) a.0 b.2 in
    let t = builder_is ts b.0 b.1 in
    let form = head.Chain side b.0.0 d.0.0 in
    let q : (form, d.0.1) ≡ a.0 = some_is (form, d.0.1) a.0 d.2 in
    let after : around_at form 2 value d.0.1 ≡ Some x = ap (λ (y : WrittenForm × List Token). around_at y.0 2 value y.1) q ∙ a.2 in
    let s = two_sound n form value sound d.0.1 x after in
    subst (λ (us : List Token). Reads (values (suc n)) (opened (chain_word side) us) (x.0, rest)) (sym t.0) (chained_sound n side b.0.0 b.0.1 d.0 x t.1 (symbol_sound b.0.1 d.0 d.1) s rest closes)

label_sound : (n : ℕ) (value : Reader Body) → Sound (values n) value → (ts : List Token) (x : Body × List Token) → label_at value ts ≡ Some x → IsForm n word.Label ts x
label_sound n value sound ts x e =
    let a = bind_some (value ts) (λ v. message_at v.1 >>= λ message. Some (head.Label message.0 ∷ v.0, message.1)) x e in
    let m = bind_some (message_at a.0.1) (λ message. Some (head.Label message.0 ∷ a.0.0, message.1)) x a.2 in
    let b = bind_some (mark_at Comma a.0.1) (λ after. literal_at after >>= λ s. literal_text s.0 >>= λ message. Some (message, s.1)) m.0 m.1 in
    let d = bind_some (literal_at b.0) (λ s. literal_text s.0 >>= λ message. Some (message, s.1)) m.0 b.2 in
    let f = bind_some (literal_text d.0.0) (λ message. Some (message, d.0.1)) m.0 d.2 in
    let read = ap (λ (m : List ℕ × List Token). (head.Label m.0 ∷ a.0.0, m.1)) (some_is (f.0, d.0.1) m.0 f.2) in
    let v = sound ts a.0 a.1 in
    let t = literal_text_is d.0.0 f.0 f.1 in
    let deep : suc (depth v.tree) ≤ suc n = omega (arith, v.proper.1) in
    let comma : a.0.1 ≡ mark Comma ∷ literal d.0.0 ∷ d.0.1 = mark_is Comma a.0.1 b.0 b.1 ∙ ap (λ (u : List Token). mark Comma ∷ u) (literal_is b.0 d.0 d.1) in
    subst (IsForm n word.Label ts) (read ∙ some_is (head.Label m.0.0 ∷ a.0.0, m.0.1) x m.2) (λ rest closes. record {
      tree = Label v.tree d.0.0;
      text = ap (opened (codes "label")) (v.text ∙ ap (written v.tree) (comma ∙ ap (λ (u : List Token). mark Comma ∷ literal d.0.0 ∷ u) closes));
      means = ap (λ (u : List ℕ). head.Label u ∷ a.0.0) (sym t.0) ∙ ap (λ (b : Body). head.Label d.0.0 ∷ b) v.means;
      proper = ((v.proper.0, t.1), deep);
    })

form_sound : (n : ℕ) (class : Reader ClassParts) → Sound (classes n) class → (value : Reader Body) → Sound (values n) value → (w : FormWord) (ts : List Token) (x : Body × List Token) → form_at class value w ts ≡ Some x → IsForm n w ts x
unfolding form_at
form_sound n class class_is value sound (word.OfClass form) ts x e = of_class_sound n class class_is form ts x e
form_sound n class class_is value sound word.String ts x e = string_sound n ts x e
form_sound n class class_is value sound word.Seq ts x e = seq_sound n value sound ts (mark_at Close ts) x refl e
form_sound n class class_is value sound (word.OfSome form) ts x e = of_some_sound n value sound form ts x e
form_sound n class class_is value sound (word.OfOne form) ts x e = of_one_sound n form ts x (one_sound n (head.OfOne form) value sound ts x e)
form_sound n class class_is value sound (word.OfTwo form) ts x e = of_two_sound n form ts x (two_sound n (head.OfTwo form) value sound ts x e)
form_sound n class class_is value sound word.Between ts x e = between_sound n ts x (three_sound n head.Between value sound ts x e)
form_sound n class class_is value sound (word.Chain form) ts x e = chain_sound n value sound form ts x e
form_sound n class class_is value sound word.Expression ts x e = expression_sound n value sound ts x e
form_sound n class class_is value sound word.Build ts x e = build_sound n value sound ts x e
form_sound n class class_is value sound word.Label ts x e = label_sound n value sound ts x e
form_sound n class class_is value sound word.Word ts x e = word_sound n ts x e

-- ---- values that are read

-- a form after its parenthesis, the one that closes included
abbrev FormsSound : ℕ → (FormWord → Reader Body) → Type 0
FormsSound n inside = (w : FormWord) (ts : List Token) (x : Body × List Token) → closed_at (inside w) ts ≡ Some x → Reads (values n) (opened (word_text w) ts) x

of_word_sound : (n : ℕ) (inside : FormWord → Reader Body) → FormsSound n inside → (s : List ℕ) (o : Option FormWord) (ts : List Token) (x : Body × List Token) → form_word s ≡ o → value_of_word inside s o ts ≡ Some x → Reads (values n) (name s ∷ ts) x
of_word_sound n inside sound s (Some w) ts x f e =
    let a = bind_some (mark_at Open ts) (closed_at (inside w)) x e in
    let whole : name s ∷ ts ≡ opened (word_text w) a.0 =
    ap (λ (u : List ℕ). name u ∷ ts) (form_word_is s w f) ∙ ap (λ (u : List Token). name (word_text w) ∷ u) (mark_is Open ts a.0 a.1) in
    subst (λ (us : List Token). Reads (values n) us x) (sym whole) (sound w a.0 x a.2)
of_word_sound n inside sound s None ts x f e =
    let a = bind_some (free_name s) (λ n. Some (head.Rule n ∷ [], ts)) x e in
    let t = free_name_is s a.0 a.1 in
    let deep : 0 ≤ n = omega arith in
    subst (Reads (values n) (name s ∷ ts)) (some_is (head.Rule a.0 ∷ [], ts) x a.2) (record {
      tree = Rule s;
      text = refl;
      means = ap (λ (u : List ℕ). head.Rule u ∷ []) (sym t.0);
      proper = (t.1, deep);
    })

of_name_sound : (n : ℕ) (inside : FormWord → Reader Body) → FormsSound n inside → (s : List ℕ) (ts : List Token) (x : Body × List Token) → value_of_name inside s ts ≡ Some x → Reads (values n) (name s ∷ ts) x
of_name_sound n inside sound s ts x e =
    elim (chosen (bytes_eq (codes "eof") s) (Some (head.EndOfText ∷ [], ts)) (value_of_word inside s (form_word s) ts) (Some x) e) [
      | inl h ↦
          let deep : 0 ≤ n = omega arith in
          subst (Reads (values n) (name s ∷ ts)) (some_is (head.EndOfText ∷ [], ts) x h.1) (record {
            tree = End_of_text;
            text = ap (λ (u : List ℕ). name u ∷ ts) (word_is (codes "eof") s h.0);
            means = refl;
            proper = (tt, deep);
          })
      | inr h ↦ of_word_sound n inside sound s (form_word s) ts x refl h.1
    ]

with_sound : (n : ℕ) (inside : FormWord → Reader Body) → FormsSound n inside → Sound (values n) (value_with inside)
with_sound n inside sound ts x e =
    let a = bind_some (name_at ts) (λ s. value_of_name inside s.0 s.1) x e in
    subst (λ (us : List Token). Reads (values n) us x) (sym (name_is ts a.0 a.1)) (of_name_sound n inside sound a.0.0 a.0.1 x a.2)

-- the parenthesis that closes
forms_closed : (n : ℕ) (inside : FormWord → Reader Body) → ((w : FormWord) (ts : List Token) (x : Body × List Token) → inside w ts ≡ Some x → IsForm n w ts x) → FormsSound (suc n) inside
forms_closed n inside sound w ts x e =
    let a = bind_some (inside w ts) (λ c. mark_at Close c.1 >>= λ rest. Some (c.0, rest)) x e in
    let b = bind_some (mark_at Close a.0.1) (λ rest. Some (a.0.0, rest)) x a.2 in
    subst (Reads (values (suc n)) (opened (word_text w) ts)) (some_is (a.0.0, b.0) x b.2) (sound w ts a.0 a.1 b.0 (mark_is Close a.0.1 b.0 b.1))

none_inside : FormsSound 0 (λ w ts. None)
none_inside w ts x e = absurd cc

pub value_sound : (n : ℕ) → Sound (values n) (value_at n)
unfolding value_at
value_sound zero = with_sound 0 (λ w ts. None) none_inside
value_sound (suc n) = with_sound (suc n) (form_at (class_at n) (value_at n)) (forms_closed n (form_at (class_at n) (value_at n)) (form_sound n (class_at n) (class_sound n) (value_at n) (value_sound n)))
