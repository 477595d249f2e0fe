use Rattle.std.proofs.Common.{◌-◌, refl, arith, List, length, take, subst}
use Rattle.pg_tree.specs.Kept.{Kept}
use Rattle.pg_tree.specs.Stored.{shown}
use Rattle.pg_tree.specs.Entries.{Opens}
use Rattle.pg_tree.proofs.Opening.{opens_read}
use Rattle.pg_tree.proofs.entries.Entries.next.Goals as goal

pub invariant_of-self : goal.invariant_of-self
invariant_of-self c =
    (opens_read _ _ _ _ _ _ _ _ _ _ _ _ _ _ _ _ _ c.self.invariant (omega arith) refl refl c.own_text.ensures c.before_last-self-inside.ensures
    c.own_label.ensures c.before_last-self-inside-2.ensures c.own_text-2.ensures c.last.ensures c.own_label-2.ensures c.last-2.ensures c.seen_of.ensures).1

pub returns-clause-last : goal.returns-clause-last
returns-clause-last c =
    let new = shown (take (length c.self.inside.entries.now - 1) c.self.inside.entries.now) c.before_last-self-inside.result.now c.before_last-self-inside-2.result.now in
    subst (λ (ts : List Kept). Opens ts c.seen_of.result new) c.self.view_is
    (opens_read _ _ _ _ _ _ _ _ _ _ _ _ _ _ _ _ _ c.self.invariant (omega arith) refl refl c.own_text.ensures c.before_last-self-inside.ensures
    c.own_label.ensures c.before_last-self-inside-2.ensures c.own_text-2.ensures c.last.ensures c.own_label-2.ensures c.last-2.ensures c.seen_of.ensures).0
