use Rattle.std.proofs.Common.{◌≡◌, ◌∷◌, ◌-◌, ◌+◌, suc, ◌∙◌, arith}
use Rattle.pg_file_items.proofs.ItemLemmas.Counted.{counted_small, counted_sum}
use Rattle.pg_file_items.proofs.size.next_sum.Goals as goal

pub loop-preserved : goal.loop-preserved
loop-preserved c =
    let left : c.args.count - c.loop.counter ≡ suc (c.args.count - (c.loop.counter + 1)) = omega arith in
    let items : c.loop.waiting.items ≡ c.in-Some.size ∷ c.pop_front.new.self.items = c.in-Some.ensures.items in
    let sum = rw (left, items) at c.loop.invariant.sum in
    record {
      small = rw c.sum-total.ensures (counted_small (c.loop.total + c.in-Some.size));
      sum = rw c.sum-total.ensures (counted_sum c.loop.total c.in-Some.size _ ∙ sum);
      rest = rw (left, items) at c.loop.invariant.rest;
    }
