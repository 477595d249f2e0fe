use Rattle.std.proofs.Common.{◌≡◌, sym, ap, ◌∙◌}
use Rattle.std.proofs.lemmas.Bool.{both_ways}
use Rattle.pg_text.specs.Texts.{is_among}
use Rattle.pg_sets_own.proofs.Ordered.{equal_is, same_texts}
use Rattle.pg_sets_own.proofs.Reading.{same_from_both, both_from_same}
use Rattle.pg_sets_own.proofs.words.are_same.Goals as goal

pub returns-then-is_eq : goal.returns-then-is_eq
returns-then-is_eq c =
    let texts = c.args.texts.now in
    let others = c.args.others.now in
    let equal = equal_is c.texts_order.result (sym c.is_eq.ensures ∙ c.if-is_eq.true) in
    let lists = same_texts c.as_slice.result.now c.as_slice-2.result.now (sym c.texts_order.ensures ∙ equal) in
    let same : texts ≡ others = sym c.as_slice.ensures ∙ (lists ∙ c.as_slice-2.ensures) in
    (λ e text. ap (λ ts. is_among ts text) same, λ is. c.if-is_eq.true)

pub returns-then-all_among : goal.returns-then-all_among
returns-then-all_among c =
    let texts = c.args.texts.now in
    let others = c.args.others.now in (
      λ e. same_from_both texts others (sym c.all_among.ensures ∙ c.if-all_among.true) (sym c.all_among-then-all_among.ensures ∙ e),
      λ is. c.all_among-then-all_among.ensures ∙ both_from_same others texts (λ text. sym (is text)),
    )

pub returns-else-all_among : goal.returns-else-all_among
returns-else-all_among c =
    let texts = c.args.texts.now in
    let others = c.args.others.now in (
      λ e. absurd (both_ways c.all_among.result c.if-all_among.false e),
      λ is. c.all_among.ensures ∙ both_from_same texts others is,
    )
