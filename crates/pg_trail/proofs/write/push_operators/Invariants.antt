use Rattle.std.proofs.Common.{◌≡◌, true, ◌++◌, map, drop, take}
use Rattle.serde_json.specs.Written.{items_text}
use Rattle.serde_json.specs.View.{items_of}
use Rattle.pg_trail.specs.Storable.{AreSymbolsText}
use Rattle.pg_trail.specs.TrailJson.{operator_value}
use Rattle.pg_trail.proofs.write.push_operators.Given as goal

abbrev pub invariant-loop-operator : goal.invariant-loop-operator
invariant-loop-operator l = record {
  text : l.text.items ++ items_text true (items_of (map operator_value (drop l.operator-index l.rest))) ≡ l.initial.text.items ++ items_text true (items_of (map operator_value l.rest));
  storable : AreSymbolsText (take l.operator-index l.rest);
}
