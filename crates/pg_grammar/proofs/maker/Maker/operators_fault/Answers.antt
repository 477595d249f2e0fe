use Rattle.std.proofs.Common.{◌≡◌, length, rules, refl, sym, ◌∙◌}
use Rattle.pg_grammar.proofs.maker.Maker.operators_fault.Goals as goal

pub returns-then-is_some : goal.returns-then-is_some
returns-then-is_some c =
    let count : c.len.result ≡ length c.self.inside.classes.items = search rules in
    let known = rw count at (sym c.lacks_item.ensures ∙ c.if-lacks_item.false) in
    let twice = sym c.is_some.ensures ∙ c.if-is_some.true in
    rw (← c.self.view_is, known, twice) refl

pub returns-then-has_bad_literal : goal.returns-then-has_bad_literal
returns-then-has_bad_literal c =
    let count : c.len.result ≡ length c.self.inside.classes.items = search rules in
    let known = rw count at (sym c.lacks_item.ensures ∙ c.if-lacks_item.false) in
    let new = sym c.is_some.ensures ∙ c.if-is_some.false in
    let bad = sym c.has_bad_literal.ensures ∙ c.if-has_bad_literal.true in
    rw (← c.self.view_is, known, new, bad) refl
