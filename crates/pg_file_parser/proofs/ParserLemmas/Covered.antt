-- The spans of forms that were read cover them.
use Rattle.std.proofs.Common.{◌≡◌, ℕ, zero, suc, ◌-◌, ◌<◌, false, true, List, [], ◌∷◌, ◌++◌, length, Some, None, Result, Ok, Err, IfOk, refl, sym, ap, subst, ◌∙◌, append_assoc, append-nil, length-append, arith}
use Rattle.std.specs.Prelude.{codes}
use Rattle.std.specs.Str.{bytes_eq}
use Rattle.std.specs.List.{AllByRecursion}
use Rattle.std.specs.Global.{Vec}
use Rattle.std.specs.Borrow.{Bor}
use Rattle.pg_file_items.specs.declared.written.WrittenForm.{WrittenForm}
use Rattle.pg_file_items.specs.declared.written.WrittenForm.TheVariants as written
use Rattle.pg_file_items.specs.declared.item.PlacedForm.{PlacedForm}
use Rattle.pg_file_items.specs.declared.item.Item as declared
use Rattle.pg_file_items.specs.declared.item.Item.TheVariants as item
use Rattle.pg_file_items.specs.declared.span.Span.{Span}
use Rattle.pg_file_items.specs.declared.words.FormWord.{FormWord}
use Rattle.pg_file_items.specs.Heads.{heads}
use Rattle.pg_file_items.specs.Entries.{forms_of}
use Rattle.pg_file_items.specs.Words.{form_word}
use Rattle.pg_file_items.specs.Joined.{joined}
use Rattle.pg_file_tokens.specs.declared.token.Lexeme.{Lexeme}
use Rattle.pg_file_tokens.specs.declared.token.Mark.TheVariants.{Open, Close}
use Rattle.pg_file_tokens.specs.Tokens.{Token, name, mark}
use Rattle.pg_file_tokens.specs.View.{token_of, tokens_of}
use Rattle.pg_file_parser.specs.declared.error.SyntaxError.{SyntaxError}
use Rattle.pg_file_parser.specs.Rests.{EndsWith}
use Rattle.pg_file_parser.specs.Given.{Gives, after_characters, after_mark_at, place_at, spans_of}
use Rattle.pg_file_parser.specs.Places.{width, end_at, Covers, AreCovered, AreInPlace, placed_of, AreAllInPlace, IsInPlace, AreItemsInPlace}
use Rattle.pg_file_parser.specs.Reading.{Body, mark_at, name_at, free_name, with_close, rule_named_at, class_at, form_at, value_at}
use Rattle.pg_file_parser.proofs.ParserLemmas.Steps.{bind_some, some_is, mark_is, name_is}
use Rattle.pg_file_parser.proofs.ParserLemmas.Loop.{tokens_len, forms_append, value_nested}
use Rattle.pg_file_parser.proofs.ParserLemmas.Rests.{ends_whole}
use Rattle.pg_file_parser.proofs.ParserLemmas.Values.{value_sound}

-- ---- among more tokens, and before more forms

covers_on : (ts us : List Lexeme) (span : Span) (forms : List WrittenForm) → EndsWith ts us → Covers us span forms → Covers ts span forms
covers_on ts us span forms a c = record {
  front = a.front ++ c.front;
  own = c.own;
  back = c.back;
  is = a.is ∙ ap (λ (ls : List Lexeme). a.front ++ ls) c.is ∙ sym (append_assoc a.front c.front (c.own ++ c.back));
  value = c.value;
  spells = c.spells;
  others = c.others;
  begins = c.begins;
  first = c.first;
  after = c.after;
}

covered_on : (ts us : List Lexeme) (spans : List Span) (forms : List WrittenForm) → EndsWith ts us → AreCovered us spans forms → AreCovered ts spans forms
covered_on ts us [] forms a c = tt
covered_on ts us (span ∷ spans) [] a c = c
covered_on ts us (span ∷ spans) (form ∷ forms) a c = (covers_on ts us span (form ∷ forms) a c.0, covered_on ts us spans forms a c.1)

-- among the tokens before them too
pub in_place_on : (ts us : List Lexeme) (forms : List PlacedForm) → EndsWith ts us → AreInPlace us forms → AreInPlace ts forms
in_place_on ts us forms a c = covered_on ts us (spans_of forms) (forms_of forms) a c

all_listed_on : (ts us : List Lexeme) (bodies : List (List PlacedForm)) → EndsWith ts us → AllByRecursion (AreInPlace us) bodies → AllByRecursion (AreInPlace ts) bodies
all_listed_on ts us [] a c = tt
all_listed_on ts us (body ∷ bodies) a c = (in_place_on ts us body a c.0, all_listed_on ts us bodies a c.1)

pub all_in_place_on : (ts us : List Lexeme) (bodies : List (Vec PlacedForm)) → EndsWith ts us → AreAllInPlace us bodies → AreAllInPlace ts bodies
all_in_place_on ts us bodies a c = all_listed_on ts us (placed_of bodies) a c

-- one body more
pub all_in_place_push : (ts : List Lexeme) (bodies : List (Vec PlacedForm)) (body : Vec PlacedForm) → AreAllInPlace ts bodies → AreInPlace ts body.items → AreAllInPlace ts (bodies ++ body ∷ [])
all_in_place_push ts [] body a b = (b, tt)
all_in_place_push ts (first ∷ bodies) body a b = (a.0, all_in_place_push ts bodies body a.1 b)

covers_before : (ts : List Lexeme) (span : Span) (forms more : List WrittenForm) → Covers ts span forms → Covers ts span (forms ++ more)
covers_before ts span forms more c = record {
  front = c.front;
  own = c.own;
  back = c.back;
  is = c.is;
  value = c.value;
  spells = c.spells;
  others = c.others ++ more;
  begins = ap (λ (fs : List WrittenForm). fs ++ more) c.begins ∙ append_assoc (heads c.value) c.others more;
  first = c.first;
  after = c.after;
}

in_place_append : (ts : List Lexeme) (xs ys : List PlacedForm) → AreInPlace ts xs → AreInPlace ts ys → AreInPlace ts (xs ++ ys)
in_place_append ts [] ys a b = b
in_place_append ts (x ∷ xs) ys a b = (
  subst (λ (fs : List WrittenForm). Covers ts x.span (x.form ∷ fs)) (sym (forms_append xs ys)) (covers_before ts x.span (x.form ∷ forms_of xs) (forms_of ys) a.0),
  in_place_append ts xs ys a.1 b,
)

joined_listed : (ts : List Lexeme) (bodies : List (List PlacedForm)) → AllByRecursion (AreInPlace ts) bodies → AreInPlace ts (joined bodies)
joined_listed ts [] a = tt
joined_listed ts (body ∷ bodies) a = in_place_append ts body (joined bodies) a.0 (joined_listed ts bodies a.1)

-- bodies one after another
pub joined_in_place : (ts : List Lexeme) (bodies : List (Vec PlacedForm)) (parts : List PlacedForm) → parts ≡ joined (placed_of bodies) → AreAllInPlace ts bodies → AreInPlace ts parts
joined_in_place ts bodies parts e a = subst (AreInPlace ts) (sym e) (joined_listed ts (placed_of bodies) a)

-- ---- one token

-- the tokens are this one and the others
record IsOne (ts us : List Lexeme) (t : Token) : Type 0 where
  pub lexeme : Lexeme
  pub is : ts ≡ lexeme ∷ us
  pub token : token_of lexeme.token ≡ t

same_first : (x y : Token) (xs ys : List Token) → x ∷ xs ≡ y ∷ ys → x ≡ y
same_first x y xs ys e = cc

one_token : (ts us : List Lexeme) (t : Token) → EndsWith ts us → tokens_of ts ≡ t ∷ tokens_of us → IsOne ts us t
one_token ts us t a e = go a.front a.is
  where
    long : length ts ≡ suc (length us)
    long = sym (tokens_len ts) ∙ ap length e ∙ ap suc (tokens_len us)

    go : (front : List Lexeme) → ts ≡ front ++ us → IsOne ts us t
    go [] i = absurd (omega (arith, long, ap length i))
    go (l ∷ []) i = record { lexeme = l; is = i; token = same_first (token_of l.token) t (tokens_of us) (tokens_of us) (ap tokens_of (sym i) ∙ e) }
    go (l ∷ m ∷ ls) i = absurd (omega (arith, long, ap length i, length-append ls us))

-- ---- values

end_last : (ls : List Lexeme) (l : Lexeme) → end_at (ls ++ l ∷ []) ≡ Some (after_characters l.place (width (token_of l.token)))
end_last [] l = refl
end_last (k ∷ []) l = refl
end_last (k ∷ m ∷ ls) l = end_last (m ∷ ls) l

place_front : (ls : List Lexeme) (l : Lexeme) (back : List Lexeme) → place_at (ls ++ l ∷ []) ≡ place_at (ls ++ l ∷ back)
place_front [] l back = refl
place_front (k ∷ ls) l back = refl

covers_value : (depth : ℕ) (ts ends rest : List Lexeme) (place after : ℕ) (body : Body) (t : Token)
    → value_at depth (tokens_of ts) ≡ Some (body, tokens_of rest) → Some place ≡ place_at ts → EndsWith ts ends → (o : IsOne ends rest t)
    → after ≡ after_characters o.lexeme.place (width t) → Covers ts (record { first = place; after = after }) body
covers_value depth ts ends rest place after body t read p a o q =
    let r = value_sound depth (tokens_of ts) (body, tokens_of rest) read in
    let l = o.lexeme in
    let whole : ts ≡ a.front ++ l ∷ rest = a.is ∙ ap (λ (ls : List Lexeme). a.front ++ ls) o.is in
    let split : ts ≡ (a.front ++ l ∷ []) ++ rest = whole ∙ sym (append_assoc a.front (l ∷ []) rest) in
    record {
      front = [];
      own = a.front ++ l ∷ [];
      back = rest;
      is = split;
      value = r.tree;
      spells = ap tokens_of (sym split) ∙ r.text;
      others = [];
      begins = r.means ∙ sym (append-nil (heads r.tree));
      first = place_front a.front l rest ∙ ap place_at (sym whole) ∙ sym p;
      after = end_last a.front l ∙ ap (λ (u : Token). Some (after_characters l.place (width u))) o.token ∙ ap (λ (n : ℕ). Some n) (sym q);
    }

-- a form before its parts
first_in_place : (ts : List Lexeme) (body parts : List PlacedForm) (form : WrittenForm) (span : Span)
    → forms_of body ≡ form ∷ forms_of parts → spans_of body ≡ span ∷ spans_of parts → Covers ts span (form ∷ forms_of parts) → AreInPlace ts parts → AreInPlace ts body
first_in_place ts body parts form span f s c a = rw (f, s) (c, a)

-- ---- what is read

-- a form in its parentheses
pub form_read : (depth : ℕ) (ts rest inside : List Token) (text : List ℕ) (w : FormWord) (x : Body × List Token) → 0 < depth → name_at ts ≡ Some (text, rest)
    → bytes_eq (codes "eof") text ≡ false → form_word text ≡ Some w → mark_at Open rest ≡ Some inside
    → form_at (class_at (depth - 1)) (value_at (depth - 1)) w inside ≡ Some x → value_at depth ts ≡ with_close x.0 x.1
form_read depth ts rest inside text w x d n e k m f = value_nested depth ts d ∙ rw (n, e, k, m, f) refl

-- the name of a rule
pub rule_read : (depth : ℕ) (ts rest : List Token) (text : List ℕ) → name_at ts ≡ Some (text, rest) → bytes_eq (codes "eof") text ≡ false → form_word text ≡ None
    → value_at depth ts ≡ rule_named_at text rest
unfolding value_at
rule_read zero ts rest text n e w = rw (n, e, w) refl
rule_read (suc depth) ts rest text n e w = rw (n, e, w) refl

-- the end of the text
pub end_read : (depth : ℕ) (ts rest : List Token) (text : List ℕ) → name_at ts ≡ Some (text, rest) → bytes_eq (codes "eof") text ≡ true
    → value_at depth ts ≡ Some (written.EndOfText ∷ [], rest)
unfolding value_at
end_read zero ts rest text n e = rw (n, e) refl
end_read (suc depth) ts rest text n e = rw (n, e) refl

-- a name alone has its own characters
pub name_in_place : (depth : ℕ) (ts rest : List Lexeme) (text : List ℕ) (place : ℕ) (form : WrittenForm) (body : List PlacedForm)
    → value_at depth (tokens_of ts) ≡ Some (form ∷ [], tokens_of rest) → name_at (tokens_of ts) ≡ Some (text, tokens_of rest) → Some place ≡ place_at ts → EndsWith ts rest
    → forms_of body ≡ form ∷ [] → spans_of body ≡ record { first = place; after = after_characters place (length text) } ∷ [] → AreInPlace ts body
name_in_place depth ts rest text place form body read n p a f s =
    let o = one_token ts rest (name text) a (name_is (tokens_of ts) (text, tokens_of rest) n) in
    let at : place ≡ o.lexeme.place = some_is place o.lexeme.place (p ∙ ap place_at o.is) in
    let q : after_characters place (length text) ≡ after_characters o.lexeme.place (width (name text)) = ap (λ (k : ℕ). after_characters k (length text)) at in
    first_in_place ts body [] form (record { first = place; after = after_characters place (length text) }) f s
    (covers_value depth ts ts rest place (after_characters place (length text)) (form ∷ []) (name text) read p (ends_whole ts) o q) tt

-- the parser's answer for a value: its forms and the tokens after it
abbrev Answer : Type 0
Answer = Result (Vec PlacedForm × Bor (List Lexeme)) SyntaxError

-- the name of a rule has its own characters
pub rule_in_place : (depth : ℕ) (ts rest : List Lexeme) (text : List ℕ) (place : ℕ) (answer : Answer)
    → value_at depth (tokens_of ts) ≡ rule_named_at text (tokens_of rest) → name_at (tokens_of ts) ≡ Some (text, tokens_of rest) → Some place ≡ place_at ts → EndsWith ts rest
    → Gives (λ (x : Vec PlacedForm × Bor (List Lexeme)). (forms_of x.0.items, tokens_of x.1.now)) answer (rule_named_at text (tokens_of rest))
    → IfOk answer (λ x. spans_of x.0.items ≡ record { first = place; after = after_characters place (length text) } ∷ [])
    → IfOk answer (λ x. AreInPlace ts x.0.items)
rule_in_place depth ts rest text place (Err e) read n p a g s = tt
rule_in_place depth ts rest text place (Ok x) read n p a g s =
    let b = bind_some (free_name text) (λ (n : List ℕ). Some (written.Rule n ∷ [], tokens_of rest)) (forms_of x.0.items, tokens_of x.1.now) g in
    let same = some_is (written.Rule b.0 ∷ [], tokens_of rest) (forms_of x.0.items, tokens_of x.1.now) b.2 in
    let forms : forms_of x.0.items ≡ written.Rule b.0 ∷ [] = ap (λ (y : Body × List Token). y.0) (sym same) in
    let whole : value_at depth (tokens_of ts) ≡ Some (written.Rule b.0 ∷ [], tokens_of rest) = read ∙ g ∙ ap (λ (y : Body × List Token). Some y) (sym same) in
    name_in_place depth ts rest text place (written.Rule b.0) x.0.items whole n p a forms s

-- a form has the characters from its word to its closing parenthesis, and its parts have theirs
pub form_in_place : (depth : ℕ) (ts ends : List Lexeme) (place : ℕ) (form : WrittenForm) (parts : List PlacedForm) (answer : Answer)
    → value_at depth (tokens_of ts) ≡ with_close (form ∷ forms_of parts) (tokens_of ends) → Some place ≡ place_at ts → EndsWith ts ends → AreInPlace ts parts
    → Gives (λ (x : Vec PlacedForm × Bor (List Lexeme)). (forms_of x.0.items, tokens_of x.1.now)) answer (with_close (form ∷ forms_of parts) (tokens_of ends))
    → IfOk answer (λ x. spans_of x.0.items ≡ record { first = place; after = after_mark_at ends } ∷ spans_of parts)
    → IfOk answer (λ x. EndsWith ends x.1.now)
    → IfOk answer (λ x. AreInPlace ts x.0.items)
form_in_place depth ts ends place form parts (Err e) read p a inner g s b = tt
form_in_place depth ts ends place form parts (Ok x) read p a inner g s b =
    let c = bind_some (mark_at Close (tokens_of ends)) (λ (rest : List Token). Some (form ∷ forms_of parts, rest)) (forms_of x.0.items, tokens_of x.1.now) g in
    let same = some_is (form ∷ forms_of parts, c.0) (forms_of x.0.items, tokens_of x.1.now) c.2 in
    let forms : forms_of x.0.items ≡ form ∷ forms_of parts = ap (λ (y : Body × List Token). y.0) (sym same) in
    let left : c.0 ≡ tokens_of x.1.now = ap (λ (y : Body × List Token). y.1) same in
    let closes : tokens_of ends ≡ mark Close ∷ tokens_of x.1.now = mark_is Close (tokens_of ends) c.0 c.1 ∙ ap (λ (us : List Token). mark Close ∷ us) left in
    let o = one_token ends x.1.now (mark Close) b closes in
    let q : after_mark_at ends ≡ after_characters o.lexeme.place (width (mark Close)) = ap after_mark_at o.is in
    let whole : value_at depth (tokens_of ts) ≡ Some (form ∷ forms_of parts, tokens_of x.1.now) = read ∙ g ∙ ap (λ (f : Body). Some (f, tokens_of x.1.now)) forms in
    first_in_place ts x.0.items parts form (record { first = place; after = after_mark_at ends }) forms s
    (covers_value depth ts ends x.1.now place (after_mark_at ends) (form ∷ forms_of parts) (mark Close) whole p a o q) inner

-- ---- items

pub item_on : (ts us : List Lexeme) (i : declared.Item) → EndsWith ts us → IsInPlace us i → IsInPlace ts i
item_on ts us (item.Class s place c) a p = tt
item_on ts us (item.Word s place head rest reserved) a p = tt
item_on ts us (item.Operators c gap reserved most place) a p = tt
item_on ts us (item.Table role precedence symbol place symbol_place) a p = tt
item_on ts us (item.Start s place name_place) a p = tt
item_on ts us (item.Rule s place body) a p = in_place_on ts us body.items a p

-- one item more
pub items_push : (ts : List Lexeme) (items : List declared.Item) (i : declared.Item) → AreItemsInPlace ts items → IsInPlace ts i → AreItemsInPlace ts (items ++ i ∷ [])
items_push ts [] i a p = (p, tt)
items_push ts (first ∷ items) i a p = (a.0, items_push ts items i a.1 p)

pub ruleset places = (in_place_on, all_in_place_on, joined_in_place, item_on)
