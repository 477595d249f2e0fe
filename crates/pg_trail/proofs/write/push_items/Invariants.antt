use Rattle.std.proofs.Common.{◌≡◌, true, ◌++◌, map, drop, take}
use Rattle.serde_json.specs.Written.{items_text}
use Rattle.serde_json.specs.View.{items_of}
use Rattle.pg_trail.specs.Storable.{AreStorable}
use Rattle.pg_trail.specs.TrailJson.{item_value}
use Rattle.pg_trail.proofs.write.push_items.Given as goal

abbrev pub invariant-loop-item : goal.invariant-loop-item
invariant-loop-item l = record {
  text : l.text.items ++ items_text true (items_of (map item_value (drop l.item-index l.rest))) ≡ l.initial.text.items ++ items_text true (items_of (map item_value l.rest));
  storable : AreStorable (take l.item-index l.rest);
}
