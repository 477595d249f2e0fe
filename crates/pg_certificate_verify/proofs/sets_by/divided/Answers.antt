use Rattle.std.proofs.Common.{rules, refl, ◌≡◌, length, ap, arith}
use Rattle.std.proofs.lemmas.List.{length-drop}
use Rattle.pg_certificate_verify.proofs.sets_by.divided.Goals as goal

pub prove-unreachable-requires : goal.prove-unreachable-requires
prove-unreachable-requires c =
    let few = c.if-prove.true in
    let enough = c.requires in
    let length_is : c.len.result ≡ length c.args.sets.items = search rules in
    absurd (omega arith)

pub prove-unreachable-requires-2 : goal.prove-unreachable-requires-2
prove-unreachable-requires-2 c =
    let few = c.if-prove-2.true in
    let enough = c.requires in
    let rest = ap length c.in_ok-follows.ensures.tail in
    let dropped = length-drop c.args.count c.args.sets.items in
    let length_is : c.len-2.result ≡ length c.in_ok-follows.follows.items = search rules in
    absurd (omega arith)

pub returns : goal.returns
returns c = rw (c.in_ok-of_rules.ensures.items, c.in_ok-of_rules.ensures.tail, c.in_ok-follows.ensures.items, c.in_ok-follows.ensures.tail) refl
