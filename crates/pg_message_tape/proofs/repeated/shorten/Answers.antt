use Rattle.std.proofs.Common.{◌≡◌, ◌<◌, ◌-◌, ◌∷◌, ◌++◌, [], List, take, rules, refl, ap, ◌∙◌, arith}
use Rattle.pg_message_tape.specs.Repeats.{said}
use Rattle.pg_message_tape.specs.declared.repeated.Repeated.{Repeated}
use Rattle.pg_message_tape.proofs.Repeats.{first_without_last, shorter_last, first_last}
use Rattle.pg_message_tape.proofs.repeated.shorten.Goals as goal

pub returns-then-more-most-clause-first : goal.returns-then-more-most-clause-first
returns-then-more-most-clause-first c = λ n h.
    let e : c.args.entries.now.items ≡ c.in-Some.rest.now ++ c.in-Some.last.now ∷ [] = search rules in
    ap (λ (xs : List Repeated). take n (said xs)) c.truncate.ensures.items ∙ first_without_last c.args.entries.now.items c.in-Some.rest.now c.in-Some.last.now e n c.args.most c.if-more-most.true h

pub returns-else-more-most-clause-shorter : goal.returns-else-more-most-clause-shorter
returns-else-more-most-clause-shorter c =
    let e : c.args.entries.now.items ≡ c.in-Some.rest.now ++ c.in-Some.last.now ∷ [] = search rules in
    let fewer : c.in-Some.last.now.more - c.args.most < c.in-Some.last.now.more = omega (arith, c.requires.some, c.if-more-most.false) in
    shorter_last c.args.entries.now.items c.in-Some.rest.now c.in-Some.last.now (record { message = c.in-Some.last.now.message; more = c.in-Some.last.now.more - c.args.most; nameless_first = c.in-Some.last.now.nameless_first; nameless_second = c.in-Some.last.now.nameless_second }) e fewer

pub returns-else-more-most-clause-first : goal.returns-else-more-most-clause-first
returns-else-more-most-clause-first c = λ n h.
    let e : c.args.entries.now.items ≡ c.in-Some.rest.now ++ c.in-Some.last.now ∷ [] = search rules in
    first_last c.args.entries.now.items c.in-Some.rest.now c.in-Some.last.now (c.in-Some.last.now.more - c.args.most) n c.args.most e c.if-more-most.false refl h
