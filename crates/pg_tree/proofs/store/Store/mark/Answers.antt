use Rattle.std.proofs.Common.{◌≡◌, ◌+◌, ◌-◌, ◌≤◌, arith, sym, ◌∙◌}
use Rattle.pg_tree.specs.Stored.{kept_in}
use Rattle.pg_tree.proofs.Stored.{stored-shown, shown-stored}
use Rattle.pg_tree.proofs.Ends.{end_as}
use Rattle.pg_tree.proofs.Marking.{marked_after, marked_none, marking-ends, marking-begins, stored-more}
use Rattle.pg_tree.proofs.store.Store.mark.Goals as goal

pub begin_of-begin-requires-clause-kept : goal.begin_of-begin-requires-clause-kept
begin_of-begin-requires-clause-kept c = stored-shown _ _ _ _ _ c.loop-left.invariant.done

pub begin_of-begin-requires-clause-ends : goal.begin_of-begin-requires-clause-ends
begin_of-begin-requires-clause-ends c =
    marking-ends c.args.label.now c.loop-left.left (c.loop-left.left - 1) (kept_in c.args.self.now) _ _ (shown-stored _ _ _ _ _ c.loop-left.invariant.done)
    c.loop-left.invariant.within (omega arith) c.loop-left.invariant.ends

pub mark_one-requires-clause-kept : goal.mark_one-requires-clause-kept
mark_one-requires-clause-kept c = stored-shown _ _ _ _ _ c.loop-left.invariant.done

pub mark_one-requires-clause-ends : goal.mark_one-requires-clause-ends
mark_one-requires-clause-ends c =
    marking-ends c.args.label.now c.loop-left.left (c.loop-left.left - 1) (kept_in c.args.self.now) _ _ (shown-stored _ _ _ _ _ c.loop-left.invariant.done)
    c.loop-left.invariant.within (omega arith) c.loop-left.invariant.ends

pub loop-left-preserved : goal.loop-left-preserved
loop-left-preserved c =
    let us = shown-stored _ _ _ _ _ c.loop-left.invariant.done in
    let more : c.loop-left.left ≡ c.loop-left.left - 1 + 1 = omega arith in
    record {
      above = omega arith;
      within = omega (arith, c.loop-left.invariant.within);
      done = stored-more _ _ _ c.args.label.now _ c.loop-left.left (c.loop-left.left - 1) (kept_in c.args.self.now) _ more c.loop-left.invariant.within us c.mark_one.ensures;
      ends = marking-begins c.args.label.now c.loop-left.left (c.loop-left.left - 1) (kept_in c.args.self.now) _ _ us c.loop-left.invariant.within more c.begin_of-begin.ensures;
    }
