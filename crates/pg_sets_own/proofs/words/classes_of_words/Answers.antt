use Rattle.std.proofs.Common.{rules, ◌≡◌, ◌<◌, length, [], ◌∷◌, ◌++◌, inl, inr, slice_get, get_or, refl, sym, ap, subst, ◌∙◌, arith}
use Rattle.std.proofs.lemmas.Option.{slice_get_read, same_Some}
use Rattle.pg_sets_own.specs.OwnStarts.{IsClassOf}
use Rattle.pg_sets_own.specs.declared.words.WordClasses.{WordClasses}
use Rattle.pg_graph.proofs.Lists.{at_before}
use Rattle.pg_sets_own.proofs.words.classes_of_words.Goals as goal

pub loop-item-preserved : goal.loop-item-preserved
loop-item-preserved c =
    let g = c.args.grammar.now in
    let k = c.loop-item.item-index in
    let item = c.item-item.result in
    let words = c.loop-item.words.items in
    let added : WordClasses = c.in_ok-word.word in
    let items = c.word_items-item-items.ensures.all in
    let counted = ap length items in
    let inside : k < length g.words = omega arith in
    let at = slice_get_read g.words (length g.words) k item refl inside (c.item-item.is ∙ ap (λ is. get_or is k item) items) in
    let pushed : c.push.new.self.items ≡ words ++ added ∷ [] = c.in_ok-push.ensures.items in
    let before = c.loop-item.invariant in
    record {
      long = search rules;
      heads = λ w other word known there.
          elim (at_before words added w word (ap (λ ws. slice_get ws w) (sym pushed) ∙ there)) [
            | inl old ↦ before.heads w other word known old
            | inr new ↦
                let one : other ≡ item = same_Some other item (sym known ∙ (ap (slice_get g.words) (new.0 ∙ before.long) ∙ at)) in
                subst (λ i. IsClassOf g i.head word.head) (sym one) (subst (λ x. IsClassOf g item.head x.head) new.1 c.in_ok-word.ensures.0)
          ];
      rests = λ w other word known there.
          elim (at_before words added w word (ap (λ ws. slice_get ws w) (sym pushed) ∙ there)) [
            | inl old ↦ before.rests w other word known old
            | inr new ↦
                let one : other ≡ item = same_Some other item (sym known ∙ (ap (slice_get g.words) (new.0 ∙ before.long) ∙ at)) in
                subst (λ i. IsClassOf g i.rest word.rest) (sym one) (subst (λ x. IsClassOf g item.rest x.rest) new.1 c.in_ok-word.ensures.1)
          ];
    }
