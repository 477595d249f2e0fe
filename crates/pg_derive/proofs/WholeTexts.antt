-- What runs of the start rule with the end of the text after it say of a whole text.
use Rattle.std.proofs.Common.{◌≡◌, ◌<◌, ◌⊎◌, inl, inr, ℕ, suc, List, [], ◌++◌, Bool, refl, sym, ap, subst, length, Some, slice_get, arith, append-nil}
use Rattle.std.proofs.Math.Bool.{or-false}
use Rattle.pg_tree.specs.Trees.{Tree}
use Rattle.pg_grammar_form.specs.declared.form.Form.TheVariants as form
use Rattle.pg_grammar_form.specs.declared.form.Leaf.TheVariants as leaf
use Rattle.pg_grammar_value.specs.declared.grammar.Rule as declared
use Rattle.pg_grammar_value.specs.declared.trail.TrailItem.{TrailItem}
use Rattle.pg_language.specs.Derives as derives
use Rattle.pg_language.specs.Derives.{Spot, Derives, DerivesText, DerivesForm, end_of_text}
use Rattle.pg_table.specs.Tables.{Table}
use Rattle.pg_language.specs.Answers.{Given, Answers}
use Rattle.pg_derive.specs.ClosedSets.{SomeMatches}
use Rattle.pg_language.specs.Errors.{Error, merge}
use Rattle.pg_language.specs.Leaves.{end_outcome}
use Rattle.pg_language.specs.Outcomes.{Outcome, ok, failed, empty_round}
use Rattle.pg_derive.specs.PredictiveLaws.{HasAnswer, is_ok, has_failed}
use Rattle.pg_language.specs.Reactions.{then_rest}
use Rattle.pg_language.specs.WholeTexts.{beginning, AnswersText, from_start, at_end}
use Rattle.pg_derive.specs.WholeTextLaws.{AnsweredTextsAreDerived, TextIsAnswered, answered_ok, answered_failed, TextsAreAnswered, DerivedTextsAreAnswered, RefusedTextsAreNotDerived, TextsHaveOneDerivation}
use Rattle.pg_language.proofs.Derived.{WhereOk, ok_rest}
use Rattle.pg_language.proofs.LeavesDerived.{end_derived}
use Rattle.pg_derive.proofs.LeavesAnswered.{FailsEmpty, StaysOk, end_ok, end_decided}
use Rattle.pg_derive.proofs.Predicted.{answered, exist, ok_ends}
use Rattle.pg_language.proofs.Sound.{sound}
use Rattle.pg_language.proofs.Unique.{same}
use Rattle.pg_derive.proofs.Whole.{start_found}

-- ---- on any grammar

-- a text that is derived from a table, to this spot
abbrev Spans : Given → Table → Spot → List Tree → List TrailItem → Type 0
Spans G table b v t = (b.place ≡ length G.text) × DerivesText G.grammar G.text table b.table v t

with_end : (G : Given) (table : Table) (start : declared.Rule) → slice_get G.grammar.rules G.grammar.start ≡ Some start → (b : Spot) (v : List Tree) (t : List TrailItem) →
    Derives G.grammar G.text start.body (beginning table) b v t → (z : Spot) (w : List Tree) (u : List TrailItem) → DerivesForm G.grammar G.text (form.Leaf leaf.EndOfText) b z w u →
    Spans G table z (v ++ w) (t ++ u)
with_end G table start x b v t d z w u (derives.leaf (end_of_text h)) =
    let there : record { place = length G.text; table = b.table } ≡ b = ap (λ i. record { place = i; table = b.table }) (sym h) in
    let body = subst (λ (c : Spot). Derives G.grammar G.text start.body (beginning table) c v t) (sym there) d in
    let forest = subst (λ f. Derives G.grammar G.text start.body (beginning table) (record { place = length G.text; table = b.table }) f t) (sym (append-nil v)) body in
    let all = subst (λ i. Derives G.grammar G.text start.body (beginning table) (record { place = length G.text; table = b.table }) (v ++ []) i) (sym (append-nil t)) forest in
    (h, record { start = start; is_start = x; body = all })

at_end_derived : (G : Given) (table : Table) (start : declared.Rule) → slice_get G.grammar.rules G.grammar.start ≡ Some start → (o : Outcome) →
    WhereOk (Derives G.grammar G.text start.body (beginning table)) o → WhereOk (Spans G table) (at_end G.text o)
at_end_derived G table start x (ok c b v t e) d =
    ok_rest (DerivesForm G.grammar G.text (form.Leaf leaf.EndOfText) b) (Spans G table) c v t e _ (λ z w u h. with_end G table start x b v t d z w u h) (end_derived G.grammar G.text b)
at_end_derived G table start x (failed c e) d = tt
at_end_derived G table start x empty_round d = tt

derived_where_ok : (G : Given) (table : Table) {o : Outcome} {m : ℕ} → AnswersText G table o m → WhereOk (Spans G table) o
derived_where_ok G table (from_start {start = start} {o = o} x d) = at_end_derived G table start x o (sound d)

pub answered_derived : AnsweredTextsAreDerived
answered_derived G table c b forest trail e m d = derived_where_ok G table d

-- ---- on a predictive grammar

same_text : (G : Given) (table : Table) {o q : Outcome} {m n : ℕ} → AnswersText G table o m → AnswersText G table q n → o ≡ q
same_text G table (from_start {start = one} {o = o} x d) (from_start {start = other} {o = q} {m = n} y e) =
    let start : other ≡ one = cc in
    let there = subst (λ (r : declared.Rule). Answers G r.body (beginning table) q n) start e in
    ap (at_end G.text) (same d there).outcome

ends : (G : Given) (table : Table) (c : Bool) (b : Spot) (v : List Tree) (t : List TrailItem) (e : Error) (m : ℕ) → AnswersText G table (then_rest c v t e (end_outcome G.text b)) m →
    FailsEmpty (end_outcome G.text b) ⊎ StaysOk b (end_outcome G.text b) → TextIsAnswered G table
ends G table c b v t e m d (inl f) = answered_failed _ _ m (subst (λ o. AnswersText G table (then_rest c v t e o) m) f.is d)
ends G table c b v t e m d (inr f) = answered_ok _ _ _ _ _ m (subst (λ o. AnswersText G table (then_rest c v t e o) m) f.is d)

pub all_answered : TextsAreAnswered
all_answered G sets h table from = go (exist G sets h start.0.body start.2 (beginning table) from (omega arith))
  where
    start : (named : declared.Rule) × (slice_get G.grammar.rules G.grammar.start ≡ Some named) × (named.body < length G.grammar.nodes)
    start = start_found G.grammar h.grammar

    go : HasAnswer G start.0.body (beginning table) → TextIsAnswered G table
    go (is_ok c b v t e m d) = ends G table c b v t e (suc m) (from_start start.1 d) (end_decided G.text b)
    go (has_failed c e m d) = answered_failed c e m (from_start start.1 d)

-- the end of the text adds nothing to what was answered before it
ended : (G : Given) (table : Table) (c : Bool) (b : Spot) (v : List Tree) (t : List TrailItem) (e : Error) (m : ℕ) → StaysOk b (end_outcome G.text b) →
    AnswersText G table (then_rest c v t e (end_outcome G.text b)) m → (f : Error) × AnswersText G table (ok c b v t f) m
ended G table c b v t e m s d =
    let f : Error = merge e s.error in
    let first = subst (λ o. AnswersText G table (then_rest c v t e o) m) s.is d in
    let flag = subst (λ x. AnswersText G table (ok x b (v ++ []) (t ++ []) f) m) (or-false c) first in
    let forest = subst (λ x. AnswersText G table (ok c b x (t ++ []) f) m) (append-nil v) flag in
    (f, subst (λ x. AnswersText G table (ok c b v x f) m) (append-nil t) forest)

pub derived_answered : DerivedTextsAreAnswered
derived_answered G sets h before after forest trail from d =
    let a : Spot = beginning before in
    let b : Spot = record { place = length G.text; table = after } in
    let m : SomeMatches G.text (sets.follow d.start.body) (length G.text) = h.predictive.end d.start d.is_start G.text h.text (length G.text) refl in
    let r = answered G sets h d.start.body a b forest trail from d.body m in
    let whole = ended G before _ b forest trail r.error (suc r.count) (end_ok G.text b refl) (from_start d.is_start r.answers) in
    (whole.0, suc r.count, whole.1)

pub refused_not_derived : RefusedTextsAreNotDerived
refused_not_derived G sets h before c e m from d after forest trail derived =
    let r = derived_answered G sets h before after forest trail from derived in
    let both = same_text G before d r.2 in
    apart both
  where
    apart : {x : Bool} {b : Spot} {v : List Tree} {t : List TrailItem} {f : Error} → failed c e ≡ ok x b v t f → ⊥
    apart h = cc

pub one_derivation : TextsHaveOneDerivation
one_derivation G sets h before after other forest others trail items from d k =
    let one = derived_answered G sets h before after forest trail from d in
    let two = derived_answered G sets h before other others items from k in
    let same = ok_ends (same_text G before one.2 two.2) in
    (ap (λ (z : Spot). z.table) same.0, same.1, same.2)
