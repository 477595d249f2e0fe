use Rattle.std.proofs.Common.{◌≡◌, ◌<◌, length, inl, inr, slice_get, get_or, refl, sym, ap, subst, ◌∙◌, arith}
use Rattle.std.proofs.lemmas.Bool.{cases_eq, both_ways}
use Rattle.std.proofs.lemmas.Option.{slice_get_read, same_Some}
use Rattle.pg_sets_own.specs.OwnStarts.{IsClassOf, SameTexts}
use Rattle.pg_sets_own.proofs.Reading.{one_class}
use Rattle.pg_sets_own.proofs.words.first_reader.Goals as goal

pub loop-word-preserved : goal.loop-word-preserved
loop-word-preserved c =
    let g = c.args.grammar.now in
    let k = c.loop-word.word in
    let item = c.index-items-word.result in
    let word = c.index-words-word.result in
    let items = c.word_items-items.ensures.all in
    let counted = ap length items in
    let inside : k < length g.words = omega arith in
    let long = c.requires.long in
    let within : k < length c.args.words.now = omega arith in
    let at = slice_get_read g.words (length g.words) k item refl inside (c.index-items-word.is ∙ ap (λ is. get_or is k item) items) in
    let there = slice_get_read c.args.words.now (length c.args.words.now) k word refl within c.index-words-word.is in
    record {
      none_before = λ v below reads.
          elim (cases_eq v k) [
            | inr ne ↦ c.loop-word.invariant.none_before v (omega arith) reads
            | inl same ↦
                let one : reads.item ≡ item = same_Some reads.item item (sym reads.there ∙ (ap (slice_get g.words) same ∙ at)) in
                let heads = one_class (c.requires.heads k item word at there) (subst (λ i. IsClassOf g i.head c.args.head.now) one reads.first_characters) in
                let rests = one_class (c.requires.rests k item word at there) (subst (λ i. IsClassOf g i.rest c.args.rest.now) one reads.other_characters) in
                let texts = subst (λ i. SameTexts i.reserved c.args.reserved.now) one reads.texts in
                both_ways c.reads_same.result c.if-reads_same.false (c.reads_same.ensures.1 (heads, rests, texts))
          ];
      bound = omega arith;
    }

pub returns-then-reads_same : goal.returns-then-reads_same
returns-then-reads_same c =
    let g = c.args.grammar.now in
    let k = c.loop-word.word in
    let item = c.index-items-word.result in
    let word = c.index-words-word.result in
    let items = c.word_items-items.ensures.all in
    let counted = ap length items in
    let inside : k < length g.words = omega arith in
    let long = c.requires.long in
    let within : k < length c.args.words.now = omega arith in
    let at = slice_get_read g.words (length g.words) k item refl inside (c.index-items-word.is ∙ ap (λ is. get_or is k item) items) in
    let there = slice_get_read c.args.words.now (length c.args.words.now) k word refl within c.index-words-word.is in
    let same = c.reads_same.ensures.0 c.if-reads_same.true in
    record {
      none_before = c.loop-word.invariant.none_before;
      bound = omega arith;
      reads = λ below. record {
        item = item;
        there = at;
        first_characters = subst (IsClassOf g item.head) same.0 (c.requires.heads k item word at there);
        other_characters = subst (IsClassOf g item.rest) same.1 (c.requires.rests k item word at there);
        texts = same.2;
      };
    }
