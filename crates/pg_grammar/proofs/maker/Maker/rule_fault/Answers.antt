use Rattle.std.proofs.Common.{◌≡◌, length, rules, refl, sym, ◌∙◌}
use Rattle.pg_grammar.proofs.maker.Maker.rule_fault.Goals as goal

pub returns-then-lacks_class : goal.returns-then-lacks_class
returns-then-lacks_class c =
    let count : c.len.result ≡ length c.self.inside.classes.items = search rules in
    let lacks = rw count at (sym c.lacks_class.ensures ∙ c.if-lacks_class.true) in
    rw (← c.self.view_is, lacks) refl

pub returns-then-has_name : goal.returns-then-has_name
returns-then-has_name c =
    let count : c.len.result ≡ length c.self.inside.classes.items = search rules in
    let known = rw count at (sym c.lacks_class.ensures ∙ c.if-lacks_class.false) in
    let twice = rw (c.as_slice.ensures.value, c.as_slice-2.ensures) at (sym c.has_name.ensures ∙ c.if-has_name.true) in
    rw (← c.self.view_is, known, twice) refl

pub returns-then-has_bad_literals : goal.returns-then-has_bad_literals
returns-then-has_bad_literals c =
    let count : c.len.result ≡ length c.self.inside.classes.items = search rules in
    let known = rw count at (sym c.lacks_class.ensures ∙ c.if-lacks_class.false) in
    let new = rw (c.as_slice.ensures.value, c.as_slice-2.ensures) at (sym c.has_name.ensures ∙ c.if-has_name.false) in
    let bad = sym c.has_bad_literals.ensures ∙ c.if-has_bad_literals.true in
    rw (← c.self.view_is, known, new, bad) refl

pub returns-then-passes_limit : goal.returns-then-passes_limit
returns-then-passes_limit c =
    let count : c.len.result ≡ length c.self.inside.classes.items = search rules in
    let known = rw count at (sym c.lacks_class.ensures ∙ c.if-lacks_class.false) in
    let new = rw (c.as_slice.ensures.value, c.as_slice-2.ensures) at (sym c.has_name.ensures ∙ c.if-has_name.false) in
    let good = sym c.has_bad_literals.ensures ∙ c.if-has_bad_literals.false in
    let passes = rw (← c.self.view_is) at (sym c.passes_limit.ensures ∙ c.if-passes_limit.true) in
    rw (← c.self.view_is, known, new, good, passes) refl
