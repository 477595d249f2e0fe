-- The laws of predictive grammars.
use Rattle.std.proofs.Common.{◌≡◌, ◌<◌, ◌⊎◌, inl, inr, ℕ, zero, suc, List, [], ◌∷◌, Bool, true, false, subst, length, Some, slice_get, arith}
use Rattle.pg_tree.specs.Trees.{Tree}
use Rattle.pg_grammar_form.specs.declared.form.Form.TheVariants as form
use Rattle.pg_grammar_form.specs.declared.form.Leaf.TheVariants as leaf
use Rattle.pg_grammar_form.specs.declared.side.Side.TheVariants as side
use Rattle.pg_grammar_value.specs.declared.trail.TrailItem.{TrailItem}
use Rattle.pg_language.specs.Derives.{Spot}
use Rattle.pg_language.specs.Answers.{Given, Answers}
use Rattle.pg_language.specs.Errors.{Error}
use Rattle.pg_language.specs.Outcomes.{ok, failed}
use Rattle.pg_language.proofs.Unique.{same}
use Rattle.pg_derive.specs.PredictiveLaws.{Predicts, DerivationsAreAnswers, DerivationsAreUnique, HasAnswer, is_ok, has_failed, AnswersExist, NoAlternativeIsLost, RoundsConsume, LinksConsume}
use Rattle.pg_derive.specs.Predictive.{StringIsPredictive, AlternativesArePredictive, ComesBefore, ManyIsPredictive, ChainIsPredictive}
use Rattle.pg_derive.specs.ClosedSets.{NodeSets}
use Rattle.pg_derive.proofs.Begins.{consumes}
use Rattle.pg_derive.proofs.Complete.{complete, begun, passes, alternative_refused, link_moves, contains_got, all_got}
use Rattle.pg_derive.proofs.Exists.{Settles, settles_ok, settles_failed, settle}
use Rattle.pg_derive.proofs.Inverted.{forward}
use Rattle.pg_derive.proofs.Whole.{is_whole}

pub answered : DerivationsAreAnswers
answered G sets h p a b forest trail from d m =
    let r = complete G h.text (is_whole G.grammar h.grammar) sets h.predictive.nodes d from m in
    record { error = r.error; count = r.count; answers = r.run }

pub ok_ends : {c d : Bool} {b z : Spot} {v w : List Tree} {t u : List TrailItem} {e f : Error} → ok c b v t e ≡ ok d z w u f → (b ≡ z) × (v ≡ w) × (t ≡ u)
ok_ends e = (cc, cc, cc)

pub unique : DerivationsAreUnique
unique G sets h p a b c forest others trail items from d m e n =
    let first = answered G sets h p a b forest trail from d m in
    let second = answered G sets h p a c others items from e n in
    ok_ends (same first.answers second.answers).outcome

pub spelled : (G : Given) (sets : NodeSets) → Predicts G sets → (p : ℕ) (s : List ℕ) → slice_get G.grammar.nodes p ≡ Some (form.Leaf (leaf.String s)) → 0 < length s
spelled G sets h p s e = let f : StringIsPredictive sets p s = h.predictive.nodes p (form.Leaf (leaf.String s)) e in f.spelled

pub exist : AnswersExist
exist G sets h p there a from within = go (settle G h.text (is_whole G.grammar h.grammar) sets h.predictive.nodes (spelled G sets h) p there a (within, from))
  where
    go : Settles (Answers G p a) → HasAnswer G p a
    go (settles_ok c b v t e m run) = is_ok c b v t e m run
    go (settles_failed c e m run) = has_failed c e m run

-- of two alternatives
before_at : (sets : NodeSets) (p : ℕ) (ps : List ℕ) → AlternativesArePredictive sets p ps → (j k q r : ℕ) → j < k → slice_get ps j ≡ Some q → slice_get ps k ≡ Some r → ComesBefore sets p q r
before_at sets p [] f j k q r l d e = absurd (cc)
before_at sets p (x ∷ ps) f zero zero q r l d e = absurd (omega arith)
before_at sets p (x ∷ ps) f zero (suc k) q r l d e = let same : x ≡ q = cc in subst (λ y. ComesBefore sets p y r) same (f.1 r (contains_got ps k r e))
before_at sets p (x ∷ ps) f (suc j) zero q r l d e = absurd (omega arith)
before_at sets p (x ∷ ps) f (suc j) (suc k) q r l d e = before_at sets p ps f.2 j k q r (omega arith) d e

pub no_both : {e f : Error} → failed true e ≡ failed false f → ⊥
no_both e = cc

pub not_lost : NoAlternativeIsLost
not_lost G sets h p parts x j k q r l first second a b e m forest trail from fails d n =
    let whole = is_whole G.grammar h.grammar in
    let before = before_at sets p parts (h.predictive.nodes p (form.Choice parts) x) j k q r l first second in
    let there = all_got (λ q. q < length G.grammar.nodes) parts (whole.parts p (form.Choice parts) x) j q first in
    let start = begun G h.text whole sets h.predictive.nodes d in
    let bare = alternative_refused G h.text whole sets h.predictive.nodes p q r a b from before start n in
    let passed = passes G h.text whole sets h.predictive.nodes q a from there before.full bare in
    no_both (same fails passed.2).outcome

pub rounds_consume : RoundsConsume
rounds_consume G sets h p q x a b forest trail d =
    let f : ManyIsPredictive sets p q = h.predictive.nodes p (form.Many q) x in
    consumes G.grammar sets G.text q f.full (begun G h.text (is_whole G.grammar h.grammar) sets h.predictive.nodes d)

pub links_consume : LinksConsume
links_consume G sets h p q r used x a b c forest others trail items d e = go (fits x)
  where
    fits : (slice_get G.grammar.nodes p ≡ Some (form.Chain side.Left used q r)) ⊎ (slice_get G.grammar.nodes p ≡ Some (form.Chain side.Right used q r)) → ChainIsPredictive sets p q r
    fits (inl x) = h.predictive.nodes p (form.Chain side.Left used q r) x
    fits (inr x) = h.predictive.nodes p (form.Chain side.Right used q r) x

    go : ChainIsPredictive sets p q r → a.place < c.place
    go f =
        let whole = is_whole G.grammar h.grammar in
        link_moves G h.text whole sets h.predictive.nodes p q r a b c f (forward e) (begun G h.text whole sets h.predictive.nodes d) (begun G h.text whole sets h.predictive.nodes e)
