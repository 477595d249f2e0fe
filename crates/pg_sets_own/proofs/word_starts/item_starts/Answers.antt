use Rattle.std.proofs.Common.{rules, ◌≡◌, ◌<◌, length, [], ◌∷◌, ◌++◌, inl, inr, slice_get, get_or, refl, sym, ap, subst, ◌∙◌, arith}
use Rattle.std.proofs.lemmas.Option.{slice_get_read}
use Rattle.pg_grammar_form.specs.declared.form.Form.TheVariants as form
use Rattle.pg_grammar_form.specs.declared.form.Leaf.TheVariants as leaf
use Rattle.pg_sets_own.specs.Own.{AreOwn}
use Rattle.pg_sets_own.specs.declared.listed.ListedStart.{ListedStart}
use Rattle.pg_graph.proofs.Lists.{at_before}
use Rattle.pg_sets_own.proofs.Owned.{word_own}
use Rattle.pg_sets_own.proofs.word_starts.item_starts.Goals as goal

pub loop-number-preserved : goal.loop-number-preserved
loop-number-preserved c =
    let g = c.args.grammar.now in
    let k = c.loop-number.number in
    let item = c.index-items-number.result in
    let word = c.index-words-number.result in
    let starts = c.loop-number.starts.items in
    let added : ListedStart = c.in_ok-listed.listed in
    let items = c.word_items-items.ensures.all in
    let counted = ap length items in
    let inside : k < length g.words = omega arith in
    let long = c.requires.long in
    let within : k < length c.args.words.now = omega arith in
    let at = slice_get_read g.words (length g.words) k item refl inside (c.index-items-number.is ∙ ap (λ is. get_or is k item) items) in
    let there = slice_get_read c.args.words.now (length c.args.words.now) k word refl within c.index-words-number.is in
    let pushed : c.push.new.self.items ≡ starts ++ added ∷ [] = c.in_ok-push.ensures.items in
    let before = c.loop-number.invariant in
    let own = word_own item word.head word.rest added at (c.requires.heads k item word at there) (c.requires.rests k item word at there) c.in_ok-listed.ensures in
    record {
      long = search rules;
      bound = omega arith;
      each = λ w listed known.
          elim (at_before starts added w listed (ap (λ ss. slice_get ss w) (sym pushed) ∙ known)) [
            | inl old ↦ before.each w listed old
            | inr new ↦
                subst (λ n. AreOwn g (form.Leaf (leaf.Word n)) (listed ∷ [])) (sym (new.0 ∙ before.long))
                (subst (λ x. AreOwn g (form.Leaf (leaf.Word k)) (x ∷ [])) new.1 own)
          ];
    }

pub returns : goal.returns
returns c =
    let counted = ap length c.word_items-items.ensures.all in
    let long = c.loop-number.invariant.long in
    let bound = c.loop-number.invariant.bound in
    record { long = omega arith; each = c.loop-number.invariant.each }
