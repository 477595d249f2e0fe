use Rattle.std.proofs.Common.{◌≡◌, ◌<◌, ◌⊎◌, ℕ, true, ◌∷◌, [], length, get_or, refl, sym, ap, subst, ◌∙◌, arith}
use Rattle.std.specs.Prelude.{◌↔◌}
use Rattle.std.proofs.lemmas.Option.{slice_get_read}
use Rattle.pg_grammar_form.specs.declared.form.Form.TheVariants as form
use Rattle.pg_grammar_form.specs.declared.form.Leaf.TheVariants as leaf
use Rattle.pg_graph.specs.Graphs.{has}
use Rattle.pg_sets_own.specs.Own.{AreOwn}
use Rattle.pg_sets_own.specs.declared.listed.ListedStart.{ListedStart}
use Rattle.pg_sets.specs.Origins.{HoldsIt}
use Rattle.pg_sets.proofs.Mixed.{one_item_more}
use Rattle.pg_sets.proofs.origins.origins_of_items.Goals as goal

pub loop-item-preserved : goal.loop-item-preserved
loop-item-preserved c =
    let g = c.args.grammar.now in
    let k = c.loop-item.item in
    let starts = c.args.words.now.items.items in
    let item : ListedStart = c.listed-item.result in
    let added : ListedStart = c.in_ok-listed.listed in
    let before = c.loop-item.origins in
    let after = c.add_readers.new.origins in
    let counted = ap length c.deref-listed-items.ensures.value in
    let long = c.requires.words.items.long in
    let within : k < length starts = omega arith in
    let inside : k < length g.words = omega arith in
    let at = slice_get_read starts (length starts) k item refl within (c.listed-item.is ∙ ap (λ is. get_or is k item) c.deref-listed-items.ensures.value) in
    let own : AreOwn g (form.Leaf (leaf.Word k)) (added ∷ []) = subst (λ s. AreOwn g (form.Leaf (leaf.Word k)) (s ∷ [])) (sym c.in_ok-listed.ensures) (c.requires.words.items.each k item at) in
    one_item_more g k c.args.readers.now added before after inside c.requires.readers own c.loop-item.invariant
    (λ other v. subst (λ ns. HoldsIt after other v ↔ (HoldsIt before other v ⊎ ((added ≡ other) × (has ns v ≡ true)))) c.numbers_at.ensures (c.in_ok-add_readers.ensures.held other v))
    c.in_ok-add_readers.ensures.there
