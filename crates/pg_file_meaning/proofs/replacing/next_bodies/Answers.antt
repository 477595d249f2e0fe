use Rattle.std.proofs.Common.{◌≡◌, ◌∷◌, ◌-◌, ◌+◌, suc, arith, append_assoc}
use Rattle.pg_file_meaning.proofs.replacing.next_bodies.Goals as goal

pub loop-preserved : goal.loop-preserved
loop-preserved c =
    let left : c.args.count - c.loop.counter ≡ suc (c.args.count - (c.loop.counter + 1)) = omega arith in
    let items : c.loop.waiting.items ≡ c.in-Some.body ∷ c.pop_front.new.self.items = c.in-Some.ensures.items in
    let bodies = rw (left, items) at c.loop.invariant.bodies in
    record {
      bodies = rw (c.in_ok-push.ensures.items, append_assoc) bodies;
      rest = rw (left, items) at c.loop.invariant.rest;
    }
