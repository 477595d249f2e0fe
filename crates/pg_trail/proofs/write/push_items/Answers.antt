use Rattle.std.proofs.Common.{arith, rules}
use Rattle.std.proofs.lemmas.Grind.{common_steps}
use Rattle.pg_trail.proofs.Again.{items_more}
use Rattle.pg_trail.proofs.write.push_items.Goals as goal

pub loop-item-preserved : goal.loop-item-preserved
loop-item-preserved c = record {
  text = first_of (search rules, grind (arith, common_steps));
  storable = items_more _ c.loop-item.item-index c.item-item.result c.loop-item-test.true c.item-item.is c.loop-item.invariant.storable c.in_ok-push_item-2.ensures.storable;
}
