-- Verdicts on leaves.
use Rattle.std.proofs.Common.{◌≡◌, ◌∙◌, ◌+◌, ◌<◌, ◌==◌, ℕ, zero, suc, List, [], ◌∷◌, Bool, true, false, ◌||◌, ◌&&◌, refl, sym, ap, subst, Option, Some, None, length, drop, slice_get, cond, if◌then◌else◌, arith}
use Rattle.std.specs.Prelude.{nat_eq, nat_lt, codes}
use Rattle.std.specs.List.{common_prefix_len, list_any}
use Rattle.std.specs.Str.{bytes_eq}
use Rattle.std.proofs.lemmas.Bool.Decides.{nat_tests}
use Rattle.std.proofs.lemmas.Option.{slice_get_within}
use Rattle.pg_grammar_form.specs.ClassItems.{has_character}
use Rattle.pg_grammar_form.specs.declared.class.ClassPart.{ClassPart}
use Rattle.pg_grammar_form.specs.declared.form.Form.TheVariants as form
use Rattle.pg_grammar_form.specs.declared.form.Leaf.{Leaf}
use Rattle.pg_grammar_form.specs.declared.form.Leaf.TheVariants as leaf
use Rattle.pg_grammar_form.specs.declared.word_item.WordItem.{WordItem}
use Rattle.pg_text.specs.Texts.{is_among}
use Rattle.pg_language.specs.Answers as answers
use Rattle.pg_language.specs.Answers.{Given, AnswersForm}
use Rattle.pg_language.specs.Derives.{Spot}
use Rattle.pg_language.specs.Errors.{Error, seen_at, stopped_before, stopped_by, refused, refused_before, quote}
use Rattle.pg_language.specs.Leaves.{leaf_outcome, satisfy_next, not_followed_next, word_next, some_word_outcome, matched, taken}
use Rattle.pg_language.specs.Outcomes.{Outcome, failed}
use Rattle.pg_language.specs.Runs.{run_at}
use Rattle.pg_grammar_form.specs.Forms.{Node}
use Rattle.pg_machine_plan.specs.Facts.{Outcomes, FailsAtOnce, Consumes, TakesAtOnce}
use Rattle.pg_machine_plan.specs.Verdicts.{next_of, on_class, satisfy_verdict, first_verdict, not_followed_verdict, begins_with, on_head, word_verdict, end_verdict, leaf_verdict, Says}
use Rattle.pg_machine_plan.specs.declared.next.Next.TheVariants.{Ascii, Other}
use Rattle.pg_machine_plan.specs.declared.verdict.Verdict.TheVariants.{Unknown, Fails, Empty, Takes}

-- the outcomes of a form at a spot
abbrev pub of_form : Given → Node → Spot → Outcomes
of_form G n a = λ o m. AnswersForm G n a o m

-- the outcome of a leaf is the one that is worked out
abbrev Reads : Given → Leaf ℕ → Spot → Outcome → Type 0
Reads G l a o = leaf_outcome G.grammar G.text l a ≡ Some o

fails_so : {G : Given} {l : Leaf ℕ} {a : Spot} {e : Error} → Reads G l a (failed false e) → FailsAtOnce (of_form G (form.Leaf l) a) 0
fails_so {e = e} h = record { error = e; so = answers.leaf h }

takes_so : {G : Given} {l : Leaf ℕ} {a : Spot} {o : Outcome} → Reads G l a o → Consumes o → TakesAtOnce (of_form G (form.Leaf l) a)
takes_so {G = G} {l = l} {a = a} {o = o} h taken = λ q m d. of_leaf q m d
  where
    of_leaf : (q : Outcome) (m : ℕ) → AnswersForm G (form.Leaf l) a q m → Consumes q
    of_leaf q m (answers.leaf r) = let one : o ≡ q = cc in subst Consumes one taken

-- ---- characters of a class

satisfy_says : (G : Given) (class : List ClassPart) (a : Spot) (x : Option ℕ) → slice_get G.text a.place ≡ x →
    Says (of_form G (form.Leaf (leaf.Satisfy class)) a) a (satisfy_verdict G.grammar class (next_of x))
satisfy_says G class a None e = fails_so (ap (λ y. Some (satisfy_next G.grammar class a y)) e)
satisfy_says G class a (Some c) e = by_range (nat_lt c 128)
  where
    by_class : (b : Bool) → has_character G.grammar.classes class c ≡ b → Says (of_form G (form.Leaf (leaf.Satisfy class)) a) a (on_class b)
    by_class true h = takes_so {o = taken a (c ∷ [])} (ap (λ y. Some (satisfy_next G.grammar class a y)) e
        ∙ ap (λ b. Some (if b then taken a (c ∷ []) else failed false (stopped_by (quote (c ∷ [])) a.place))) h) refl
    by_class false h = fails_so (ap (λ y. Some (satisfy_next G.grammar class a y)) e
        ∙ ap (λ b. Some (if b then taken a (c ∷ []) else failed false (stopped_by (quote (c ∷ [])) a.place))) h)

    by_range : (b : Bool) → Says (of_form G (form.Leaf (leaf.Satisfy class)) a) a (satisfy_verdict G.grammar class (if b then Ascii c else Other))
    by_range true = by_class (has_character G.grammar.classes class c) refl
    by_range false = tt

not_followed_says : (G : Given) (class : List ClassPart) (a : Spot) (x : Option ℕ) → slice_get G.text a.place ≡ x →
    Says (of_form G (form.Leaf (leaf.NotFollowedBy class)) a) a (not_followed_verdict G.grammar class (next_of x))
not_followed_says G class a None e =
    record { forest = []; trail = []; error = stopped_by [] a.place; so = answers.leaf (ap (λ y. Some (not_followed_next G.grammar class a y)) e) }
not_followed_says G class a (Some c) e = by_range (nat_lt c 128)
  where
    here : Some (not_followed_next G.grammar class a (slice_get G.text a.place)) ≡ Some (not_followed_next G.grammar class a (Some c))
    here = ap (λ y. Some (not_followed_next G.grammar class a y)) e

    by_class : (b : Bool) → has_character G.grammar.classes class c ≡ b → Says (of_form G (form.Leaf (leaf.NotFollowedBy class)) a) a (if b then Fails 0 else Empty 0)
    by_class true h = fails_so {e = refused (quote (c ∷ [])) a.place} (here ∙ rw h refl)
    by_class false h = record { forest = []; trail = []; error = stopped_by (quote (c ∷ [])) a.place; so = answers.leaf (here ∙ rw h refl) }

    by_range : (b : Bool) → Says (of_form G (form.Leaf (leaf.NotFollowedBy class)) a) a (not_followed_verdict G.grammar class (if b then Ascii c else Other))
    by_range true = by_class (has_character G.grammar.classes class c) refl
    by_range false = tt

-- ---- words

both_false : (a b : Bool) → (a || b) ≡ false → (a ≡ false) × (b ≡ false)
both_false true b h = absurd (cc)
both_false false b h = (refl, h)

isnt_word : (c : ℕ) (w s : List ℕ) → begins_with c s ≡ false → bytes_eq s (c ∷ w) ≡ false
isnt_word c w [] h = refl
isnt_word c w (x ∷ s) h = ap (λ b. b && bytes_eq s w) h

-- a word isn't reserved, if no reserved text begins with its first character
not_reserved : (c : ℕ) (w : List ℕ) (ss : List (List ℕ)) → list_any (begins_with c) ss ≡ false → is_among ss (c ∷ w) ≡ false
not_reserved c w [] h = refl
not_reserved c w (s ∷ ss) h =
    let parts = both_false (begins_with c s) (list_any (begins_with c) ss) h in
    ap (λ b. b || is_among ss (c ∷ w)) (isnt_word c w s parts.0) ∙ not_reserved c w ss parts.1

word_says : (G : Given) (w : ℕ) (a : Spot) (item : Option WordItem) (x : Option ℕ) → slice_get G.grammar.words w ≡ item → slice_get G.text a.place ≡ x →
    Says (of_form G (form.Leaf (leaf.Word w)) a) a (word_verdict G.grammar item (next_of x))
word_says G w a None x h e = tt
word_says G w a (Some item) None h e =
    fails_so (ap (some_word_outcome G.grammar G.text a) h ∙ ap (λ y. Some (word_next G.grammar G.text item a y)) e)
word_says G w a (Some item) (Some c) h e = by_range (nat_lt c 128)
  where
    here : leaf_outcome G.grammar G.text (leaf.Word w) a ≡ Some (word_next G.grammar G.text item a (Some c))
    here = ap (some_word_outcome G.grammar G.text a) h ∙ ap (λ y. Some (word_next G.grammar G.text item a y)) e

    free_says : (b : Bool) → list_any (begins_with c) item.reserved ≡ b → has_character G.grammar.classes item.head c ≡ true →
        Says (of_form G (form.Leaf (leaf.Word w)) a) a (if b then Unknown else Takes)
    free_says false f b =
        let word : List ℕ = c ∷ run_at G.grammar G.text item.rest (suc a.place) in
        takes_so {o = taken a word} (here ∙ rw b (rw (not_reserved c (run_at G.grammar G.text item.rest (suc a.place)) item.reserved f) refl)) refl
    free_says true f b = tt

    by_head : (b : Bool) → has_character G.grammar.classes item.head c ≡ b →
        Says (of_form G (form.Leaf (leaf.Word w)) a) a (on_head b (list_any (begins_with c) item.reserved))
    by_head true b = free_says (list_any (begins_with c) item.reserved) refl b
    by_head false b = fails_so {e = stopped_by (quote (c ∷ [])) a.place} (here ∙ rw b refl)

    by_range : (b : Bool) → Says (of_form G (form.Leaf (leaf.Word w)) a) a (word_verdict G.grammar (Some item) (if b then Ascii c else Other))
    by_range true = by_head (has_character G.grammar.classes item.head c) refl
    by_range false = tt

-- ---- strings

-- what a string of which so many characters are there comes to
abbrev of_count : List ℕ → List ℕ → Spot → ℕ → Outcome
of_count text s a n = if n == length s then taken a s else failed (nat_lt 0 n) (stopped_before (quote s) (seen_at text (a.place + n)) a.place)

some_there : (text s : List ℕ) (a : Spot) (n : ℕ) → nat_lt 0 n ≡ true → Consumes (of_count text s a n)
some_there text s a n h = by_all (n == length s)
  where
    by_all : (b : Bool) → Consumes (if b then taken a s else failed (nat_lt 0 n) (stopped_before (quote s) (seen_at text (a.place + n)) a.place))
    by_all true = refl
    by_all false = h

unlike : (n : ℕ) → (0 == suc n) ≡ false
unlike n = grind (arith, nat_tests)

none_there : (G : Given) (x : ℕ) (s : List ℕ) (a : Spot) → matched G.text (x ∷ s) a.place ≡ 0 → FailsAtOnce (of_form G (form.Leaf (leaf.String (x ∷ s))) a) 0
none_there G x s a h =
    let longer : length (x ∷ s) ≡ suc (length s) = omega arith in
    let other : (0 == length (x ∷ s)) ≡ false = ap (λ n. 0 == n) longer ∙ unlike (length s) in
    fails_so (ap (λ n. Some (of_count G.text (x ∷ s) a n)) h
    ∙ ap (λ b. Some (if b then taken a (x ∷ s) else failed (nat_lt 0 0) (stopped_before (quote (x ∷ s)) (seen_at G.text (a.place + 0)) a.place))) other)

pub at_front : (text : List ℕ) (i : ℕ) → slice_get text i ≡ slice_get (drop i text) 0
at_front [] zero = refl
at_front (x ∷ xs) zero = refl
at_front [] (suc i) = refl
at_front (x ∷ xs) (suc i) = at_front xs i

below_above : (x c : ℕ) → nat_lt x 128 ≡ true → nat_lt c 128 ≡ false → nat_eq x c ≡ false
below_above x c h k = grind (arith, nat_tests)

positive : (n : ℕ) → nat_lt 0 (1 + n) ≡ true
positive n = grind (arith, nat_tests)

string_says : (G : Given) (x : ℕ) (s : List ℕ) (a : Spot) (cs : List ℕ) → drop a.place G.text ≡ cs →
    Says (of_form G (form.Leaf (leaf.String (x ∷ s))) a) a (first_verdict x (next_of (slice_get cs 0)))
string_says G x s a [] e = none_there G x s a (ap (λ z. common_prefix_len nat_eq (x ∷ s) z) e)
string_says G x s a (c ∷ cs) e = by_range (nat_lt c 128) refl
  where
    here : matched G.text (x ∷ s) a.place ≡ cond (nat_eq x c) (1 + common_prefix_len nat_eq s cs) 0
    here = ap (λ z. common_prefix_len nat_eq (x ∷ s) z) e

    by_equal : (b : Bool) → nat_eq x c ≡ b → Says (of_form G (form.Leaf (leaf.String (x ∷ s))) a) a (on_class b)
    by_equal true h = takes_so {o = of_count G.text (x ∷ s) a (matched G.text (x ∷ s) a.place)} refl
        (some_there G.text (x ∷ s) a (matched G.text (x ∷ s) a.place)
        (ap (nat_lt 0) (here ∙ ap (λ b. cond b (1 + common_prefix_len nat_eq s cs) 0) h) ∙ positive (common_prefix_len nat_eq s cs)))
    by_equal false h = none_there G x s a (here ∙ ap (λ b. cond b (1 + common_prefix_len nat_eq s cs) 0) h)

    other : (b : Bool) → nat_lt x 128 ≡ b → nat_lt c 128 ≡ false → Says (of_form G (form.Leaf (leaf.String (x ∷ s))) a) a (if b then Fails 0 else Unknown)
    other true h k = none_there G x s a (here ∙ ap (λ b. cond b (1 + common_prefix_len nat_eq s cs) 0) (below_above x c h k))
    other false h k = tt

    by_range : (b : Bool) → nat_lt c 128 ≡ b → Says (of_form G (form.Leaf (leaf.String (x ∷ s))) a) a (first_verdict x (if b then Ascii c else Other))
    by_range true k = by_equal (nat_eq x c) refl
    by_range false k = other (nat_lt x 128) refl k

-- ---- the end of the text

before_end : (text : List ℕ) (i c : ℕ) → slice_get text i ≡ Some c → (i == length text) ≡ false
before_end text i c h = let below : i < length text = slice_get_within text i c h in grind (arith, nat_tests)

end_says : (G : Given) (a : Spot) (x : Option ℕ) → slice_get G.text a.place ≡ x → Says (of_form G (form.Leaf leaf.EndOfText) a) a (end_verdict (next_of x))
end_says G a None e = tt
end_says G a (Some c) e = by_range (nat_lt c 128)
  where
    no : FailsAtOnce (of_form G (form.Leaf leaf.EndOfText) a) 0
    no = fails_so {e = refused_before (codes "end of input") (seen_at G.text a.place) a.place} (rw (before_end G.text a.place c e) refl)

    by_range : (b : Bool) → Says (of_form G (form.Leaf leaf.EndOfText) a) a (end_verdict (if b then Ascii c else Other))
    by_range true = no
    by_range false = no

-- ---- all leaves

pub leaf_says : (G : Given) (l : Leaf ℕ) (a : Spot) → Says (of_form G (form.Leaf l) a) a (leaf_verdict G.grammar l (next_of (slice_get G.text a.place)))
leaf_says G (leaf.Satisfy class) a = satisfy_says G class a (slice_get G.text a.place) refl
leaf_says G (leaf.String []) a = tt
leaf_says G (leaf.String (x ∷ s)) a =
    subst (λ n. Says (of_form G (form.Leaf (leaf.String (x ∷ s))) a) a (first_verdict x (next_of n))) (sym (at_front G.text a.place))
    (string_says G x s a (drop a.place G.text) refl)
leaf_says G (leaf.Word w) a = word_says G w a (slice_get G.grammar.words w) (slice_get G.text a.place) refl refl
leaf_says G (leaf.NotFollowedBy class) a = not_followed_says G class a (slice_get G.text a.place) refl
leaf_says G leaf.EndOfText a = end_says G a (slice_get G.text a.place) refl
leaf_says G (leaf.Declare class) a = tt
