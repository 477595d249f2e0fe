use Rattle.std.proofs.Common.{arith, ◌∙◌, ◌+◌, ◌-◌}
use Rattle.pg_tree_placed.specs.Made.{made}
use Rattle.pg_tree_placed.proofs.Making.{Uncovered, uncovered, cut_down}
use Rattle.pg_tree_placed.proofs.store.Store.cut.Goals as goal

pub overflow_add-self : goal.overflow_add-self
overflow_add-self c =
    let s = c.loop-self.self in
    let one = uncovered s.text.now s.labels.items s.entries.items c.pop.new.self.items c.in-Some.entry c.args.count s.roots c.in-Some.ensures.items
    c.loop-self.invariant.whole.all_fit c.loop-self.invariant.whole.counted c.loop-self-test.true in
    omega (arith, one.short, c.kids.ensures, c.pop.new.self.ok.0, c.pop.new.self.ok.1, c.pop.new.self.small)

pub loop-self-preserved : goal.loop-self-preserved
loop-self-preserved c =
    let s = c.loop-self.self in
    let one : Uncovered s.text.now s.labels.items s.entries.items c.pop.new.self.items c.args.count (s.roots - 1 + c.kids.result) =
    rw c.kids.ensures (uncovered s.text.now s.labels.items s.entries.items c.pop.new.self.items c.in-Some.entry c.args.count s.roots c.in-Some.ensures.items
    c.loop-self.invariant.whole.all_fit c.loop-self.invariant.whole.counted c.loop-self-test.true) in
    record {
      whole = record { counted = one.counted; all_fit = one.all_fit };
      within = one.within;
      same = one.same ∙ c.loop-self.invariant.same;
    }

pub returns-clause-cut : goal.returns-clause-cut
returns-clause-cut c =
    cut_down (made c.loop-self.self) (made c.args.self.now) c.args.count
    (omega (arith, c.loop-self.invariant.whole.counted, c.loop-self.invariant.within, c.loop-self-test.false)) c.requires.within c.loop-self.invariant.same
