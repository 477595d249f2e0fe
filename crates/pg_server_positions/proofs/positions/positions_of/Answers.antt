use Rattle.std.proofs.Common.{◌≡◌, ◌<◌, ◌+◌, ◌++◌, ◌∷◌, [], ℕ, ap, subst, sym, arith, length, length-append, slice_get, Some, List}
use Rattle.pg_server_positions.specs.declared.position.Position.{Position}
use Rattle.pg_server_positions.specs.Positions.{position_at}
use Rattle.pg_server_positions.proofs.Stepping.{pushed, stepped}
use Rattle.pg_server_positions.proofs.positions.positions_of.Goals as goal

pub loop-c-preserved : goal.loop-c-preserved
loop-c-preserved c =
    let n = c.loop-c.c-index in
    let items : c.push.new.self.items ≡ c.loop-c.found.items ++ c.position.result ∷ [] = c.in_ok-push.ensures.items in
    record {
      line = omega arith;
      unit = omega arith;
      so_far = stepped c.args.encoding c.args.text.now n c.c-item.result c.loop-c.cursor c.behind-cursor.result c.loop-c-test.true c.c-item.is c.loop-c.invariant.so_far c.behind-cursor.ensures.value;
      all = omega (arith, ap length items, length-append c.loop-c.found.items (c.position.result ∷ []), c.loop-c.invariant.all);
      each = subst (λ (xs : List Position). (place : ℕ) → place < n + 1 → slice_get xs place ≡ Some (position_at c.args.encoding c.args.text.now place)) (sym items)
          (pushed c.args.encoding c.args.text.now c.loop-c.found.items n c.position.result c.loop-c.cursor c.loop-c.invariant.all c.position.ensures c.loop-c.invariant.so_far c.loop-c.invariant.each);
    }
