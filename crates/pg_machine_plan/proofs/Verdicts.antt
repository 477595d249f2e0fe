-- Verdicts follow from one another: each case is a constructor of the relation, or takes an answer apart.
use Rattle.std.proofs.Common.{◌≡◌, ◌+◌, ℕ, zero, suc, List, [], ◌∷◌, ◌++◌, Bool, true, false, ◌||◌, refl, sym, ap, subst, Option, Some, None, slice_get, if◌then◌else◌, arith}
use Rattle.std.specs.Prelude.{nat_le}
use Rattle.pg_tree.specs.Trees.{Tree}
use Rattle.pg_tree.specs.declared.shape.Shape.{Shape}
use Rattle.pg_grammar_form.specs.Forms.{Node}
use Rattle.pg_grammar_form.specs.declared.form.Form.TheVariants as form
use Rattle.pg_grammar_form.specs.declared.form.Around.{Around}
use Rattle.pg_grammar_form.specs.declared.form.Around.TheVariants as kind
use Rattle.pg_grammar_form.specs.declared.side.Side.{Side}
use Rattle.pg_grammar_form.specs.declared.used.ChainBuilder.{ChainBuilder}
use Rattle.pg_grammar_value.specs.declared.grammar.Rule as declared
use Rattle.pg_grammar_value.specs.declared.trail.TrailItem.{TrailItem}
use Rattle.pg_grammar_value.specs.declared.trail.TrailItem.TheVariants.{Alt, Rounds}
use Rattle.pg_language.specs.Answers as answers
use Rattle.pg_language.specs.Answers.{Given, Answers, entered, AnswersForm, nothing, seq, choice, many, rule, AnswersParts, part, AfterPart, part_last, part_failed, part_stuck, part_ok, AnswersAlternatives, no_alternative, alternative, AfterAlternative, alternative_consumed, alternative_stands, alternative_waits, alternative_commits, alternative_failed, alternative_stuck, round, AfterRound, round_ended, round_failed, round_empty, round_stuck, round_ok, first_operand, AfterFirst, first_failed, first_stuck, first_ok, link, separator_failed}
use Rattle.pg_language.specs.Derives.{Spot, made_by}
use Rattle.pg_language.specs.Errors.{Error, merge, no_messages_at}
use Rattle.pg_language.specs.Outcomes.{Outcome, ok, failed, empty_round}
use Rattle.pg_language.specs.Reactions.{labelled_by, ok_kind, error_kind, counted_by, then_rest, then_round, noted, after_failure, surrounded}
use Rattle.pg_language.specs.declared.reading.Reading.TheVariants.{Library}
use Rattle.pg_language.proofs.Onward.{left_still}
use Rattle.pg_language.proofs.Unique.{same}
use Rattle.pg_machine_plan.specs.Facts.{Outcomes, outcomes_of, FailsAtOnce, IsEmptyAtOnce, Consumes, TakesAtOnce}
use Rattle.pg_machine_plan.specs.Verdicts.{next_of, if_counted, more, in_order, or_else, repeated, chained, enclosed, parts_verdict, alternatives_verdict, rule_verdict, form_verdict, node_verdict, Says, VerdictsFollow}
use Rattle.pg_machine_plan.specs.declared.verdict.TheConstants.{MOST_NODES}
use Rattle.pg_machine_plan.specs.declared.verdict.Verdict.{Verdict}
use Rattle.pg_machine_plan.specs.declared.verdict.Verdict.TheVariants.{Unknown, Fails, Empty, Takes}
use Rattle.pg_machine_plan.proofs.LeafVerdicts.{of_form, leaf_says}

pub alone : (m : ℕ) → m + zero ≡ m
alone m = omega arith

one_more : (m : ℕ) → suc m ≡ 1 + m
one_more m = omega arith

-- what is so stays so if it is told only where its nodes can be counted
counted_says : (Has : Outcomes) (a : Spot) (n : ℕ) (v : Verdict) → Says Has a v → Says Has a (if_counted n v)
counted_says Has a n v s = by_count (nat_le n MOST_NODES)
  where
    by_count : (b : Bool) → Says Has a (if b then v else Unknown)
    by_count true = s
    by_count false = tt

-- ---- what consumes goes on consuming

rest_consumes : (c : Bool) (v : List Tree) (t : List TrailItem) (e : Error) (o : Outcome) → c ≡ true → Consumes (then_rest c v t e o)
rest_consumes c v t e (ok d b w u f) h = ap (λ x. x || d) h
rest_consumes c v t e (failed d f) h = ap (λ x. x || d) h
rest_consumes c v t e empty_round h = tt

later_consumes : (v : List Tree) (t : List TrailItem) (e : Error) (o : Outcome) → Consumes o → Consumes (then_rest false v t e o)
later_consumes v t e (ok d b w u f) h = h
later_consumes v t e (failed d f) h = h
later_consumes v t e empty_round h = tt

round_consumes : (v : List Tree) (t : List TrailItem) (o : Outcome) → Consumes (then_round v t o)
round_consumes v t (ok d b w u f) = refl
round_consumes v t (failed d f) = refl
round_consumes v t empty_round = tt

noted_consumes : (x : TrailItem) (o : Outcome) → Consumes o → Consumes (noted x o)
noted_consumes x (ok d b w u f) h = h
noted_consumes x (failed d f) h = h
noted_consumes x empty_round h = tt

failure_consumes : (e : Error) (o : Outcome) → Consumes o → Consumes (after_failure e o)
failure_consumes e (ok d b w u f) h = h
failure_consumes e (failed d f) h = h
failure_consumes e empty_round h = tt

around_consumes : (k : Around) (text : List ℕ) (a : Spot) (o : Outcome) → counted_by k true ≡ true → Consumes o → Consumes (surrounded k text a o)
around_consumes k text a (ok d b w u f) counts h = h
around_consumes k text a (failed d f) counts h = subst (λ c. counted_by k c ≡ true) (sym h) counts
around_consumes k text a empty_round counts h = tt

-- ---- nodes

node_takes : (G : Given) (p : ℕ) (n : Node) (a : Spot) → slice_get G.grammar.nodes p ≡ Some n → TakesAtOnce (of_form G n a) → (o : Outcome) (m : ℕ) →
    Answers G p a o m → Consumes o
node_takes G p n a h takes o m (entered {m = j} {n = f} r d) =
    let one : f ≡ n = cc in takes o j (subst (λ (f : Node). AnswersForm G f a o j) one d)

node_says : (G : Given) (p : ℕ) (n : Node) (a : Spot) (v : Verdict) → slice_get G.grammar.nodes p ≡ Some n → Says (of_form G n a) a v →
    Says (outcomes_of G p a) a (more 1 v)
node_says G p n a Unknown h s = tt
node_says G p n a (Fails m) h s =
    counted_says (outcomes_of G p a) a (1 + m) (Fails (1 + m))
    (record { error = s.error; so = subst (Answers G p a (failed false s.error)) (one_more m) (entered h s.so) })
node_says G p n a (Empty m) h s =
    counted_says (outcomes_of G p a) a (1 + m) (Empty (1 + m))
    (record { forest = s.forest; trail = s.trail; error = s.error; so = subst (Answers G p a (ok false a s.forest s.trail s.error)) (one_more m) (entered h s.so) })
node_says G p n a Takes h s = node_takes G p n a h s

-- ---- sequences

pub parts_in : {G : Given} {q m : ℕ} {qs : List ℕ} {a : Spot} {o : Outcome} → AnswersForm G (form.Seq (q ∷ qs)) a o m → AnswersParts G q qs a o m
parts_in (seq d) = d

failed_first : (G : Given) (p m : ℕ) (ps : List ℕ) (a : Spot) (e : Error) → Answers G p a (failed false e) m → AnswersParts G p ps a (failed false e) (m + zero)
failed_first G p m [] a e d = part d part_last
failed_first G p m (q ∷ qs) a e d = part d part_failed

part_consumes : {G : Given} {ps : List ℕ} {x o : Outcome} {n : ℕ} → AfterPart G ps x o n → Consumes x → Consumes o
part_consumes part_last h = h
part_consumes part_failed h = h
part_consumes part_stuck h = tt
part_consumes (part_ok {c = c} {v = v} {t = t} {e = e} {o = o} d) h = rest_consumes c v t e o h

pub first_takes : (G : Given) (p : ℕ) (ps : List ℕ) (a : Spot) → TakesAtOnce (outcomes_of G p a) → (o : Outcome) (m : ℕ) →
    AnswersForm G (form.Seq (p ∷ ps)) a o m → Consumes o
first_takes G p ps a takes o m (seq (part {m = j} {x = x} d r)) = part_consumes r (takes x j d)

-- after an empty part, the others consume
after_empty : {G : Given} {q : ℕ} {qs : List ℕ} {a : Spot} {v : List Tree} {t : List TrailItem} {e : Error} {o : Outcome} {n : ℕ} →
    TakesAtOnce (of_form G (form.Seq (q ∷ qs)) a) → AfterPart G (q ∷ qs) (ok false a v t e) o n → Consumes o
after_empty takes (part_ok {m = j} {v = v} {t = t} {e = e} {o = o} d) = later_consumes v t e o (takes o j (seq d))

rest_takes : (G : Given) (p q m : ℕ) (qs : List ℕ) (a : Spot) → IsEmptyAtOnce (outcomes_of G p a) a m → TakesAtOnce (of_form G (form.Seq (q ∷ qs)) a) →
    (o : Outcome) (n : ℕ) → AnswersForm G (form.Seq (p ∷ q ∷ qs)) a o n → Consumes o
rest_takes G p q m qs a s takes o n (seq (part {n = j} {x = x} d r)) =
    let one = same d s.so in
    after_empty {v = s.forest} {t = s.trail} {e = s.error} takes (subst (λ x. AfterPart G (q ∷ qs) x o j) one.outcome r)

pub seq_fails : (G : Given) (p m : ℕ) (ps : List ℕ) (a : Spot) → FailsAtOnce (outcomes_of G p a) m → FailsAtOnce (of_form G (form.Seq (p ∷ ps)) a) m
seq_fails G p m ps a s =
    record { error = s.error; so = subst (AnswersForm G (form.Seq (p ∷ ps)) a (failed false s.error)) (alone m) (seq (failed_first G p m ps a s.error s.so)) }

-- one part
one_part : (G : Given) (p : ℕ) (a : Spot) (v : Verdict) → Says (outcomes_of G p a) a v → Says (of_form G (form.Seq (p ∷ [])) a) a (in_order v (Empty 0))
one_part G p a Unknown s = tt
one_part G p a (Fails m) s = seq_fails G p m [] a s
one_part G p a (Empty m) s =
    counted_says (of_form G (form.Seq (p ∷ [])) a) a (m + 0) (Empty (m + 0))
    (record { forest = s.forest; trail = s.trail; error = s.error; so = seq (part s.so part_last) })
one_part G p a Takes s = first_takes G p [] a s

-- an empty part before others
after_one : (G : Given) (p q m : ℕ) (qs : List ℕ) (a : Spot) (w : Verdict) → IsEmptyAtOnce (outcomes_of G p a) a m → Says (of_form G (form.Seq (q ∷ qs)) a) a w →
    Says (of_form G (form.Seq (p ∷ q ∷ qs)) a) a (more m w)
after_one G p q m qs a Unknown s r = tt
after_one G p q m qs a (Fails n) s r =
    counted_says (of_form G (form.Seq (p ∷ q ∷ qs)) a) a (m + n) (Fails (m + n))
    (record { error = merge s.error r.error; so = seq (part s.so (part_ok (parts_in r.so))) })
after_one G p q m qs a (Empty n) s r =
    counted_says (of_form G (form.Seq (p ∷ q ∷ qs)) a) a (m + n) (Empty (m + n))
    (record { forest = s.forest ++ r.forest; trail = s.trail ++ r.trail; error = merge s.error r.error; so = seq (part s.so (part_ok (parts_in r.so))) })
after_one G p q m qs a Takes s r = rest_takes G p q m qs a s r

more_parts : (G : Given) (p q : ℕ) (qs : List ℕ) (a : Spot) (v w : Verdict) → Says (outcomes_of G p a) a v → Says (of_form G (form.Seq (q ∷ qs)) a) a w →
    Says (of_form G (form.Seq (p ∷ q ∷ qs)) a) a (in_order v w)
more_parts G p q qs a Unknown w s r = tt
more_parts G p q qs a (Fails m) w s r = seq_fails G p m (q ∷ qs) a s
more_parts G p q qs a (Empty m) w s r = after_one G p q m qs a w s r
more_parts G p q qs a Takes w s r = first_takes G p (q ∷ qs) a s

-- the verdicts on all nodes are so at the spot
abbrev AllSay : Given → Spot → (ℕ → Verdict) → Type 0
AllSay G a on = (p : ℕ) → Says (outcomes_of G p a) a (on p)

parts_say : (G : Given) (a : Spot) (on : ℕ → Verdict) → AllSay G a on → (ps : List ℕ) → Says (of_form G (form.Seq ps) a) a (parts_verdict on ps)
parts_say G a on all [] = record { forest = []; trail = []; error = no_messages_at a.place; so = nothing }
parts_say G a on all (p ∷ []) = one_part G p a (on p) (all p)
parts_say G a on all (p ∷ q ∷ qs) = more_parts G p q qs a (on p) (parts_verdict on (q ∷ qs)) (all p) (parts_say G a on all (q ∷ qs))

-- ---- choices

-- the outcomes of alternatives, numbered from k
abbrev pub of_all : Given → ℕ → List ℕ → Spot → Outcomes
of_all G k ps a = λ o m. AnswersAlternatives G k ps a o m

alternative_consumes : {G : Given} {k : ℕ} {ps : List ℕ} {a : Spot} {x o : Outcome} {n : ℕ} → AfterAlternative G k ps a x o n → Consumes x → Consumes o
alternative_consumes alternative_consumed h = refl
alternative_consumes (alternative_stands l) h = absurd (cc)
alternative_consumes (alternative_waits l d) h = absurd (cc)
alternative_consumes alternative_commits h = refl
alternative_consumes (alternative_failed d) h = absurd (cc)
alternative_consumes alternative_stuck h = tt

this_takes : (G : Given) (k p : ℕ) (ps : List ℕ) (a : Spot) → TakesAtOnce (outcomes_of G p a) → (o : Outcome) (m : ℕ) →
    AnswersAlternatives G k (p ∷ ps) a o m → Consumes o
this_takes G k p ps a takes o m (alternative {m = j} {x = x} d r) = alternative_consumes r (takes x j d)

after_failed : {G : Given} {k : ℕ} {ps : List ℕ} {a : Spot} {e : Error} {o : Outcome} {n : ℕ} → TakesAtOnce (of_all G (suc k) ps a) →
    AfterAlternative G k ps a (failed false e) o n → Consumes o
after_failed takes (alternative_failed {m = j} {e = e} {o = o} d) = failure_consumes e o (takes o j d)

later_takes : (G : Given) (k p m : ℕ) (ps : List ℕ) (a : Spot) → FailsAtOnce (outcomes_of G p a) m → TakesAtOnce (of_all G (suc k) ps a) → (o : Outcome) (n : ℕ) →
    AnswersAlternatives G k (p ∷ ps) a o n → Consumes o
later_takes G k p m ps a s takes o n (alternative {n = j} {x = x} d r) =
    let one = same d s.so in
    after_failed {e = s.error} takes (subst (λ x. AfterAlternative G k ps a x o j) one.outcome r)

after_one_failed : (G : Given) (k p m : ℕ) (ps : List ℕ) (a : Spot) (w : Verdict) → FailsAtOnce (outcomes_of G p a) m → Says (of_all G (suc k) ps a) a w →
    Says (of_all G k (p ∷ ps) a) a (more m w)
after_one_failed G k p m ps a Unknown s r = tt
after_one_failed G k p m ps a (Fails n) s r =
    counted_says (of_all G k (p ∷ ps) a) a (m + n) (Fails (m + n)) (record { error = merge s.error r.error; so = alternative s.so (alternative_failed r.so) })
after_one_failed G k p m ps a (Empty n) s r =
    counted_says (of_all G k (p ∷ ps) a) a (m + n) (Empty (m + n))
    (record { forest = r.forest; trail = r.trail; error = merge s.error r.error; so = alternative s.so (alternative_failed r.so) })
after_one_failed G k p m ps a Takes s r = later_takes G k p m ps a s r

one_or_else : (G : Given) → G.reading ≡ Library → (k p : ℕ) (ps : List ℕ) (a : Spot) (v w : Verdict) → Says (outcomes_of G p a) a v → Says (of_all G (suc k) ps a) a w →
    Says (of_all G k (p ∷ ps) a) a (or_else v w)
one_or_else G l k p ps a Unknown w s r = tt
one_or_else G l k p ps a (Fails m) w s r = after_one_failed G k p m ps a w s r
one_or_else G l k p ps a (Empty m) w s r = record {
  forest = s.forest;
  trail = Alt k ∷ s.trail;
  error = s.error;
  so = subst (AnswersAlternatives G k (p ∷ ps) a (ok false a s.forest (Alt k ∷ s.trail) s.error)) (alone m) (alternative s.so (alternative_stands l));
}
one_or_else G l k p ps a Takes w s r = this_takes G k p ps a s

alternatives_say : (G : Given) → G.reading ≡ Library → (a : Spot) (on : ℕ → Verdict) → AllSay G a on → (k : ℕ) (ps : List ℕ) →
    Says (of_all G k ps a) a (alternatives_verdict on ps)
alternatives_say G l a on all k [] = record { error = no_messages_at a.place; so = no_alternative }
alternatives_say G l a on all k (p ∷ ps) =
    one_or_else G l k p ps a (on p) (alternatives_verdict on ps) (all p) (alternatives_say G l a on all (suc k) ps)

chosen_takes : (G : Given) (ps : List ℕ) (a : Spot) → TakesAtOnce (of_all G 1 ps a) → (o : Outcome) (m : ℕ) → AnswersForm G (form.Choice ps) a o m → Consumes o
chosen_takes G ps a takes o m (choice d) = takes o m d

choice_says : (G : Given) (ps : List ℕ) (a : Spot) (v : Verdict) → Says (of_all G 1 ps a) a v → Says (of_form G (form.Choice ps) a) a v
choice_says G ps a Unknown s = tt
choice_says G ps a (Fails m) s = record { error = s.error; so = choice s.so }
choice_says G ps a (Empty m) s = record { forest = s.forest; trail = s.trail; error = s.error; so = choice s.so }
choice_says G ps a Takes s = chosen_takes G ps a s

-- ---- repetitions and chains

of_round : {G : Given} {p k n : ℕ} {a : Spot} {x o : Outcome} → AfterRound G p k a x o n → Consumes x → Consumes o
of_round round_ended h = absurd (cc)
of_round round_failed h = refl
of_round round_empty h = absurd (cc)
of_round round_stuck h = tt
of_round (round_ok {v = v} {t = t} {o = o} d) h = round_consumes v t o

rounds_take : (G : Given) (p : ℕ) (a : Spot) → TakesAtOnce (outcomes_of G p a) → (o : Outcome) (m : ℕ) → AnswersForm G (form.Many p) a o m → Consumes o
rounds_take G p a takes o m (many {k = k} (round {m = j} {x = x} {o = q} d r)) = noted_consumes (Rounds k) q (of_round r (takes x j d))

many_says : (G : Given) (p : ℕ) (a : Spot) (v : Verdict) → Says (outcomes_of G p a) a v → Says (of_form G (form.Many p) a) a (repeated v)
many_says G p a Unknown s = tt
many_says G p a (Fails m) s = record {
  forest = [];
  trail = Rounds zero ∷ [];
  error = s.error;
  so = subst (AnswersForm G (form.Many p) a (ok false a [] (Rounds zero ∷ []) s.error)) (alone m) (many (round s.so round_ended));
}
many_says G p a (Empty m) s = tt
many_says G p a Takes s = rounds_take G p a s

of_first : {G : Given} {side : Side} {shape : Shape} {p s k n : ℕ} {x o : Outcome} → AfterFirst G side shape p s k x o n → Consumes x → Consumes o
of_first first_failed h = h
of_first first_stuck h = tt
of_first (first_ok {c = c} {t = t} {e = e} {o = o} d) h = rest_consumes c [] t e o h

chain_takes : (G : Given) (side : Side) (used : ChainBuilder) (p s : ℕ) (a : Spot) → TakesAtOnce (outcomes_of G p a) → (o : Outcome) (m : ℕ) →
    AnswersForm G (form.Chain side used p s) a o m → Consumes o
chain_takes G side used p s a takes o m (answers.chain {k = k} {o = q} (first_operand {m = j} {x = x} d r)) =
    noted_consumes (Rounds k) q (of_first r (takes x j d))

no_link : (G : Given) (side : Side) (used : ChainBuilder) (p q m n : ℕ) (a : Spot) → IsEmptyAtOnce (outcomes_of G p a) a m → FailsAtOnce (outcomes_of G q a) n →
    IsEmptyAtOnce (of_form G (form.Chain side used p q) a) a (m + n)
no_link G side used p q m n a s r =
    let trail : List TrailItem = Rounds zero ∷ (s.trail ++ []) in
    let error : Error = merge s.error (merge r.error (no_messages_at a.place)) in
    record {
      forest = s.forest;
      trail = trail;
      error = error;
      so = subst (λ j. AnswersForm G (form.Chain side used p q) a (ok false a s.forest trail error) (m + j)) (alone n)
          (answers.chain (first_operand s.so (first_ok (link r.so separator_failed))));
    }

chain_says : (G : Given) (side : Side) (used : ChainBuilder) (p q : ℕ) (a : Spot) (v w : Verdict) → Says (outcomes_of G p a) a v → Says (outcomes_of G q a) a w →
    Says (of_form G (form.Chain side used p q) a) a (chained v w)
chain_says G side used p q a Unknown w s r = tt
chain_says G side used p q a (Fails m) w s r =
    record { error = s.error; so = subst (AnswersForm G (form.Chain side used p q) a (failed false s.error)) (alone m) (answers.chain (first_operand s.so first_failed)) }
chain_says G side used p q a (Empty m) (Fails n) s r =
    counted_says (of_form G (form.Chain side used p q) a) a (m + n) (Empty (m + n)) (no_link G side used p q m n a s r)
chain_says G side used p q a (Empty m) Unknown s r = tt
chain_says G side used p q a (Empty m) (Empty n) s r = tt
chain_says G side used p q a (Empty m) Takes s r = tt
chain_says G side used p q a Takes w s r = chain_takes G side used p q a s

-- ---- rules, and forms around a part

body_takes : (G : Given) (r : ℕ) (named : declared.Rule) (a : Spot) → slice_get G.grammar.rules r ≡ Some named → TakesAtOnce (outcomes_of G named.body a) →
    (o : Outcome) (m : ℕ) → AnswersForm G (form.Rule r) a o m → Consumes o
body_takes G r named a h takes o m (rule {named = other} e d) =
    let one : other ≡ named = cc in takes o m (subst (λ (named : declared.Rule). Answers G named.body a o m) one d)

body_says : (G : Given) (r : ℕ) (named : declared.Rule) (a : Spot) (v : Verdict) → slice_get G.grammar.rules r ≡ Some named → Says (outcomes_of G named.body a) a v →
    Says (of_form G (form.Rule r) a) a v
body_says G r named a Unknown h s = tt
body_says G r named a (Fails m) h s = record { error = s.error; so = rule h s.so }
body_says G r named a (Empty m) h s = record { forest = s.forest; trail = s.trail; error = s.error; so = rule h s.so }
body_says G r named a Takes h s = body_takes G r named a h s

rule_says : (G : Given) (r : ℕ) (named : Option declared.Rule) (a : Spot) (on : ℕ → Verdict) → AllSay G a on → slice_get G.grammar.rules r ≡ named →
    Says (of_form G (form.Rule r) a) a (rule_verdict on named)
rule_says G r None a on all h = tt
rule_says G r (Some named) a on all h = body_says G r named a (on named.body) h (all named.body)

-- a failure without consumption stays one
unconsumed : (k : Around) → counted_by k false ≡ false
unconsumed kind.Try = refl
unconsumed kind.Text = refl
unconsumed kind.Skip = refl
unconsumed (kind.Build used symbol) = refl
unconsumed (kind.Label message) = refl
unconsumed kind.Local = refl

part_takes : (G : Given) (k : Around) (p : ℕ) (a : Spot) → counted_by k true ≡ true → TakesAtOnce (outcomes_of G p a) → (o : Outcome) (m : ℕ) →
    AnswersForm G (form.Around k p) a o m → Consumes o
part_takes G k p a counts takes o m (answers.around {o = q} d) = around_consumes k G.text a q counts (takes q m d)

around_says : (G : Given) (k : Around) (p : ℕ) (a : Spot) (v : Verdict) (b : Bool) → counted_by k true ≡ b → Says (outcomes_of G p a) a v →
    Says (of_form G (form.Around k p) a) a (enclosed b v)
around_says G k p a Unknown b h s = tt
around_says G k p a (Fails m) b h s =
    let e : Error = labelled_by k (error_kind false) s.error in
    record { error = e; so = subst (λ c. AnswersForm G (form.Around k p) a (failed c e) m) (unconsumed k) (answers.around s.so) }
around_says G k p a (Empty m) b h s =
    let v : List Tree = made_by k G.text a.place a.place s.forest in
    let e : Error = labelled_by k (ok_kind false) s.error in
    record {
      forest = v;
      trail = s.trail;
      error = e;
      so = subst (λ (b : Spot). AnswersForm G (form.Around k p) a (ok false b v s.trail e) m) (left_still k a a refl) (answers.around s.so);
    }
around_says G k p a Takes true h s = part_takes G k p a h s
around_says G k p a Takes false h s = tt

-- ---- all forms

form_says : (G : Given) → G.reading ≡ Library → (a : Spot) (on : ℕ → Verdict) → AllSay G a on → (n : Node) →
    Says (of_form G n a) a (form_verdict G.grammar on (next_of (slice_get G.text a.place)) n)
form_says G l a on all (form.Leaf x) = leaf_says G x a
form_says G l a on all (form.Seq ps) = parts_say G a on all ps
form_says G l a on all (form.Choice ps) = choice_says G ps a (alternatives_verdict on ps) (alternatives_say G l a on all 1 ps)
form_says G l a on all (form.Many p) = many_says G p a (on p) (all p)
form_says G l a on all (form.Chain side used p q) = chain_says G side used p q a (on p) (on q) (all p) (all q)
form_says G l a on all (form.Rule r) = rule_says G r (slice_get G.grammar.rules r) a on all refl
form_says G l a on all (form.Expression builders p) = tt
form_says G l a on all (form.Around k p) = around_says G k p a (on p) (counted_by k true) refl (all p)

some_node_says : (G : Given) → G.reading ≡ Library → (a : Spot) (on : ℕ → Verdict) → AllSay G a on → (p : ℕ) (n : Option Node) → slice_get G.grammar.nodes p ≡ n →
    Says (outcomes_of G p a) a (node_verdict G.grammar on (next_of (slice_get G.text a.place)) n)
some_node_says G l a on all p None h = tt
some_node_says G l a on all p (Some n) h =
    node_says G p n a (form_verdict G.grammar on (next_of (slice_get G.text a.place)) n) h (form_says G l a on all n)

pub verdicts_follow : VerdictsFollow
verdicts_follow = λ G l next on all p a e.
    subst (λ n. Says (outcomes_of G p a) a (node_verdict G.grammar on n (slice_get G.grammar.nodes p))) e
    (some_node_says G l a on (λ q. all q a e) p (slice_get G.grammar.nodes p) refl)
