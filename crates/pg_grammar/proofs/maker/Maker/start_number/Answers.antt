use Rattle.std.proofs.Common.{sym, refl, ◌∙◌}
use Rattle.pg_grammar.specs.Made.{Made}
use Rattle.pg_grammar.proofs.Making.{is_ready, ready_fault, no_start_fault}
use Rattle.pg_grammar.proofs.maker.Maker.start_number.Goals as goal

pub returns-in-Some-clause-ok : goal.returns-in-Some-clause-ok
returns-in-Some-clause-ok c =
    let names = c.as_slice-names.ensures.value in
    let found = rw names at (sym c.place_of_start.ensures ∙ c.in-Some.is) in
    let known = rw (← c.self.view_is) at (sym c.is_incomplete.ensures ∙ c.if-is_incomplete.false) in
    rw (c.new.ensures, ← c.self.view_is) (is_ready _ _ known found)

pub returns-in-Some-clause-refused : goal.returns-in-Some-clause-refused
returns-in-Some-clause-refused c =
    let names = c.as_slice-names.ensures.value in
    let found = rw names at (sym c.place_of_start.ensures ∙ c.in-Some.is) in
    let known = rw (← c.self.view_is) at (sym c.is_incomplete.ensures ∙ c.if-is_incomplete.false) in
    let made : Made = record { start = c.self.inside.start; classes = c.self.inside.classes.items; words = c.self.inside.words.items; operators = c.self.inside.operators; initials = c.self.inside.initials.items; names = c.self.inside.names.items; forms = c.self.inside.forms.items } in
    rw (← c.self.view_is, ready_fault made _ known found) refl

pub returns-in-None-clause-refused : goal.returns-in-None-clause-refused
returns-in-None-clause-refused c =
    let names = c.as_slice-names.ensures.value in
    let found = rw names at (sym c.place_of_start.ensures ∙ c.in-None.is) in
    let known = rw (← c.self.view_is) at (sym c.is_incomplete.ensures ∙ c.if-is_incomplete.false) in
    let made : Made = record { start = c.self.inside.start; classes = c.self.inside.classes.items; words = c.self.inside.words.items; operators = c.self.inside.operators; initials = c.self.inside.initials.items; names = c.self.inside.names.items; forms = c.self.inside.forms.items } in
    rw (← c.self.view_is, no_start_fault made known found) refl
