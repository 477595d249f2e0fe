-- Columns of verdicts: a verdict that follows from the others may take its place.
use Rattle.std.proofs.Common.{◌≡◌, ◌≢◌, ◌<◌, ◌==◌, ◌∙◌, ℕ, zero, suc, List, [], ◌∷◌, ◌++◌, Bool, true, false, refl, sym, ap, subst, Option, Some, None, length, slice_get, arith}
use Rattle.std.specs.Prelude.{slice_set}
use Rattle.std.proofs.lemmas.Bool.Decides.{nat_tests}
use Rattle.std.proofs.lemmas.List.{get_or-set_same, get_or-set_other}
use Rattle.pg_grammar_form.specs.Contents.{leaf_in}
use Rattle.pg_grammar_form.specs.Forms.{Node}
use Rattle.pg_grammar_form.specs.declared.form.Form.TheVariants as form
use Rattle.pg_grammar_form.specs.declared.form.Leaf.{Leaf}
use Rattle.pg_grammar_value.specs.Grammar.{Grammar}
use Rattle.pg_language.specs.Answers.{given}
use Rattle.pg_language.specs.declared.reading.Reading.TheVariants.{Library}
use Rattle.pg_machine_plan.specs.Columns.{verdict_at, IsColumn, Follows, untold, told, AreAlike}
use Rattle.pg_machine_plan.specs.Verdicts.{more, leaf_verdict, form_verdict, node_verdict, IsSoAt}
use Rattle.pg_machine_plan.specs.declared.next.Next.{Next}
use Rattle.pg_machine_plan.specs.declared.verdict.Verdict.{Verdict}
use Rattle.pg_machine_plan.specs.declared.verdict.Verdict.TheVariants.{Unknown}
use Rattle.pg_machine_plan.proofs.Verdicts.{verdicts_follow}

one_untold : (column : List Verdict) (p : ℕ) → verdict_at (column ++ Unknown ∷ []) p ≡ verdict_at column p
one_untold [] zero = refl
one_untold [] (suc p) = refl
one_untold (v ∷ vs) zero = refl
one_untold (v ∷ vs) (suc p) = one_untold vs p

-- one more entry that tells nothing
pub untold_too : (column : List Verdict) → ((p : ℕ) → verdict_at column p ≡ Unknown) → (p : ℕ) → verdict_at (column ++ Unknown ∷ []) p ≡ Unknown
untold_too column none p = one_untold column p ∙ none p

-- the verdict on a node that follows from those of the column
told_too : (g : Grammar) (next : Next) (column : List Verdict) (i : ℕ) (v : Verdict) → i < length column →
    v ≡ node_verdict g (verdict_at column) next (slice_get g.nodes i) → IsColumn g next column → IsColumn g next (slice_set column i v)
told_too g next column i v below is so = λ text p. by_place text p (p == i) refl
  where
    by_place : (text : List ℕ) (p : ℕ) (b : Bool) → (p == i) ≡ b → IsSoAt (given Library g text) next p (verdict_at (slice_set column i v) p)
    by_place text p true e =
        let same : p ≡ i = grind (arith, nat_tests) in
        let own : IsSoAt (given Library g text) next i v =
        subst (IsSoAt (given Library g text) next i) (sym is) (verdicts_follow (given Library g text) refl next (verdict_at column) (so text) i) in
        let here : verdict_at (slice_set column i v) i ≡ v = get_or-set_same column i v Unknown below in
        subst (λ q. IsSoAt (given Library g text) next q (verdict_at (slice_set column i v) q)) (sym same)
        (subst (IsSoAt (given Library g text) next i) (sym here) own)
    by_place text p false e =
        let other : p ≢ i = grind (arith, nat_tests) in
        subst (IsSoAt (given Library g text) next p) (sym (get_or-set_other column i p v Unknown other)) (so text p)

-- a column that follows is so
pub is_column : (g : Grammar) (next : Next) (column : List Verdict) → Follows g next column → IsColumn g next column
is_column g next column (untold none) = λ text p. subst (IsSoAt (given Library g text) next p) (sym (none p)) (λ a h. tt)
is_column g next _ (told {column = column} i v follows below is) = told_too g next column i v below is (is_column g next column follows)

-- ---- what no leaf tells apart

alike_at : (g : Grammar) (one other : Next) (on : ℕ → Verdict) (p : ℕ) (o : Option Node) → slice_get g.nodes p ≡ o → AreAlike g one other → node_verdict g on one o ≡ node_verdict g on other o
alike_at g one other on p None at alike = refl
alike_at g one other on p (Some n) at alike = ap (more 1) (alike p n at on)

-- a column that follows for one follows for the other
pub follows_too : (g : Grammar) (one other : Next) (column : List Verdict) → AreAlike g one other → Follows g one column → Follows g other column
follows_too g one other column alike (untold none) = untold none
follows_too g one other _ alike (told {column = column} i v follows below is) =
    told i v (follows_too g one other column alike follows) below (is ∙ alike_at g one other (verdict_at column) i (slice_get g.nodes i) refl alike)

-- a form that isn't a leaf asks its parts alone
pub alike_parts : (g : Grammar) (one other : Next) (n : Node) → None ≡ leaf_in n → (on : ℕ → Verdict) → form_verdict g on one n ≡ form_verdict g on other n
alike_parts g one other (form.Leaf l) h on = absurd (cc)
alike_parts g one other (form.Seq ps) h on = refl
alike_parts g one other (form.Choice ps) h on = refl
alike_parts g one other (form.Many p) h on = refl
alike_parts g one other (form.Chain side used p q) h on = refl
alike_parts g one other (form.Rule r) h on = refl
alike_parts g one other (form.Expression builders p) h on = refl
alike_parts g one other (form.Around k p) h on = refl

pub alike_leaf : (g : Grammar) (one other : Next) (n : Node) (l : Leaf ℕ) → form.Leaf l ≡ n → leaf_verdict g l one ≡ leaf_verdict g l other → (on : ℕ → Verdict) →
    form_verdict g on one n ≡ form_verdict g on other n
alike_leaf g one other n l is same on = subst (λ (k : Node). form_verdict g on one k ≡ form_verdict g on other k) is same
