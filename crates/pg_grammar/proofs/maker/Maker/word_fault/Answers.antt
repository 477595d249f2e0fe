use Rattle.std.proofs.Common.{◌≡◌, length, rules, refl, sym, ◌∙◌}
use Rattle.pg_grammar.proofs.maker.Maker.word_fault.Goals as goal

pub returns-then-has_word : goal.returns-then-has_word
returns-then-has_word c =
    let count : c.len.result ≡ length c.self.inside.classes.items = search rules in
    let known = rw count at (sym c.lacks_item.ensures ∙ c.if-lacks_item.false) in
    let twice = rw (c.as_slice.ensures.value, c.as_slice-2.ensures) at (sym c.has_word.ensures ∙ c.if-has_word.true) in
    rw (← c.self.view_is, known, twice) refl

pub returns-then-has_bad_literal : goal.returns-then-has_bad_literal
returns-then-has_bad_literal c =
    let count : c.len.result ≡ length c.self.inside.classes.items = search rules in
    let known = rw count at (sym c.lacks_item.ensures ∙ c.if-lacks_item.false) in
    let new = rw (c.as_slice.ensures.value, c.as_slice-2.ensures) at (sym c.has_word.ensures ∙ c.if-has_word.false) in
    let bad = sym c.has_bad_literal.ensures ∙ c.if-has_bad_literal.true in
    rw (← c.self.view_is, known, new, bad) refl

pub returns-then-word_passes_limit : goal.returns-then-word_passes_limit
returns-then-word_passes_limit c =
    let count : c.len.result ≡ length c.self.inside.classes.items = search rules in
    let known = rw count at (sym c.lacks_item.ensures ∙ c.if-lacks_item.false) in
    let new = rw (c.as_slice.ensures.value, c.as_slice-2.ensures) at (sym c.has_word.ensures ∙ c.if-has_word.false) in
    let good = sym c.has_bad_literal.ensures ∙ c.if-has_bad_literal.false in
    let passes = rw (← c.self.view_is) at (sym c.word_passes_limit.ensures ∙ c.if-word_passes_limit.true) in
    rw (← c.self.view_is, known, new, good, passes) refl
