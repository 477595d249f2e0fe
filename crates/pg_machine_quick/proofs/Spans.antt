-- A span takes what the rounds of its class would take.
use Rattle.std.proofs.Common.{◌≡◌, ◌∙◌, ◌+◌, ℕ, zero, suc, List, [], ◌∷◌, ◌++◌, Bool, true, false, refl, ap, subst, Some, length, take, drop, slice_get, cond, if◌then◌else◌, arith}
use Rattle.std.specs.List.{take_while, prefix_len}
use Rattle.pg_grammar_form.specs.ClassItems.{has_character}
use Rattle.pg_grammar_form.specs.declared.class.ClassPart.{ClassPart}
use Rattle.pg_grammar_form.specs.declared.form.Form.TheVariants as form
use Rattle.pg_grammar_form.specs.declared.form.Leaf.TheVariants as leaf
use Rattle.pg_grammar_value.specs.declared.trail.TrailItem.{TrailItem}
use Rattle.pg_language.specs.Answers as answers
use Rattle.pg_language.specs.Answers.{Given, entered, AnswersRounds, round, round_ended, round_ok}
use Rattle.pg_language.specs.Derives.{Spot, after}
use Rattle.pg_language.specs.Errors.{Error, stopped_by, quote}
use Rattle.pg_language.specs.Leaves.{satisfy_next, taken}
use Rattle.pg_language.specs.Outcomes.{ok, failed}
use Rattle.pg_language.specs.Runs.{run_at}
use Rattle.pg_machine_quick.specs.Turns.{is_some_character, leaves_of}
use Rattle.pg_machine_plan.proofs.LeafVerdicts.{at_front}

-- rounds take these characters and then end
pub record Spanned (G : Given) (p : ℕ) (a : Spot) (cs : List ℕ) : Type 0 where
  pub rounds : ℕ
  pub trail : List TrailItem
  pub error : Error
  pub so : AnswersRounds G p rounds a (ok (is_some_character cs) (after a (length cs)) (leaves_of cs) trail error) (1 + length cs)

-- the place after a character
pub past_front : (text : List ℕ) (i d : ℕ) (ds : List ℕ) → drop i text ≡ d ∷ ds → drop (suc i) text ≡ ds
past_front [] zero d ds h = absurd (cc)
past_front [] (suc i) d ds h = absurd (cc)
past_front (x ∷ xs) zero d ds h = cc
past_front (x ∷ xs) (suc i) d ds h = past_front xs i d ds h

-- nothing of the class comes next
unspanned : (G : Given) (p : ℕ) (class : List ClassPart) (a : Spot) (e : Error) → slice_get G.grammar.nodes p ≡ Some (form.Leaf (leaf.Satisfy class)) →
    satisfy_next G.grammar class a (slice_get G.text a.place) ≡ failed false e → Spanned G p a []
unspanned G p class a e is h =
    let same : a.place ≡ a.place + 0 = omega arith in
    record {
      rounds = zero;
      trail = [];
      error = e;
      so = subst (λ i. AnswersRounds G p zero a (ok false (record { place = i; table = a.table }) [] [] e) 1) same (round (entered is (answers.leaf (ap Some h))) round_ended);
    }

-- one character of the class, and then others
one_more : (G : Given) (p : ℕ) (class : List ClassPart) (a : Spot) (d : ℕ) (cs : List ℕ) → slice_get G.grammar.nodes p ≡ Some (form.Leaf (leaf.Satisfy class)) →
    satisfy_next G.grammar class a (slice_get G.text a.place) ≡ taken a (d ∷ []) → Spanned G p (after a 1) cs → Spanned G p a (d ∷ cs)
one_more G p class a d cs is h s =
    let further : a.place + 1 + length cs ≡ a.place + length (d ∷ cs) = omega arith in
    let counted : 1 + (1 + length cs) ≡ 1 + length (d ∷ cs) = omega arith in
    record {
      rounds = suc s.rounds;
      trail = [] ++ s.trail;
      error = s.error;
      so = subst (λ i. AnswersRounds G p (suc s.rounds) a (ok true (record { place = i; table = a.table }) (leaves_of (d ∷ cs)) s.trail s.error) (1 + length (d ∷ cs))) further
          (subst (AnswersRounds G p (suc s.rounds) a (ok true (after (after a 1) (length cs)) (leaves_of (d ∷ cs)) s.trail s.error)) counted
          (round (entered is (answers.leaf (ap Some h))) (round_ok s.so)));
    }

pub front_taken : (d n : ℕ) (ds : List ℕ) → d ∷ take n ds ≡ take (1 + n) (d ∷ ds)
front_taken d n ds = let next : suc n ≡ 1 + n = omega arith in ap (λ i. take i (d ∷ ds)) next

spanned : (G : Given) (p : ℕ) (class : List ClassPart) (a : Spot) (ds : List ℕ) → slice_get G.grammar.nodes p ≡ Some (form.Leaf (leaf.Satisfy class)) →
    drop a.place G.text ≡ ds → Spanned G p a (take_while (has_character G.grammar.classes class) ds)
spanned G p class a [] is e =
    unspanned G p class a (stopped_by [] a.place) is (ap (satisfy_next G.grammar class a) (at_front G.text a.place ∙ ap (λ z. slice_get z 0) e))
spanned G p class a (d ∷ ds) is e = by_class (spanned G p class (after a 1) ds is on) (has_character G.grammar.classes class d) refl
  where
    here : satisfy_next G.grammar class a (slice_get G.text a.place) ≡ satisfy_next G.grammar class a (Some d)
    here = ap (satisfy_next G.grammar class a) (at_front G.text a.place ∙ ap (λ z. slice_get z 0) e)

    on : drop (a.place + 1) G.text ≡ ds
    on = let next : suc a.place ≡ a.place + 1 = omega arith in subst (λ i. drop i G.text ≡ ds) next (past_front G.text a.place d ds e)

    by_class : Spanned G p (after a 1) (take_while (has_character G.grammar.classes class) ds) → (b : Bool) → has_character G.grammar.classes class d ≡ b →
        Spanned G p a (take (cond b (1 + prefix_len (has_character G.grammar.classes class) ds) 0) (d ∷ ds))
    by_class others true h =
        subst (λ cs. Spanned G p a cs) (front_taken d (prefix_len (has_character G.grammar.classes class) ds) ds)
        (one_more G p class a d (take_while (has_character G.grammar.classes class) ds) is
        (here ∙ ap (λ b. if b then taken a (d ∷ []) else failed false (stopped_by (quote (d ∷ [])) a.place)) h) others)
    by_class others false h = unspanned G p class a (stopped_by (quote (d ∷ [])) a.place) is
        (here ∙ ap (λ b. if b then taken a (d ∷ []) else failed false (stopped_by (quote (d ∷ [])) a.place)) h)

pub span_answers : (G : Given) (p : ℕ) (class : List ClassPart) (a : Spot) → slice_get G.grammar.nodes p ≡ Some (form.Leaf (leaf.Satisfy class)) →
    Spanned G p a (run_at G.grammar G.text class a.place)
span_answers G p class a is = spanned G p class a (drop a.place G.text) is refl
