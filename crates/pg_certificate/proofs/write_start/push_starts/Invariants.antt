use Rattle.std.proofs.Common.{◌≡◌, true, ◌++◌, map, drop, take}
use Rattle.std.specs.List.{AllByRecursion}
use Rattle.serde_json.specs.Written.{items_text}
use Rattle.serde_json.specs.View.{items_of}
use Rattle.pg_certificate.specs.Fitting.{IsStorableStart}
use Rattle.pg_certificate.specs.Values.{start_value}
use Rattle.pg_certificate.proofs.write_start.push_starts.Given as goal

abbrev pub invariant-loop-start : goal.invariant-loop-start
invariant-loop-start l = record {
  text : l.text.items ++ items_text true (items_of (map (start_value l.grammar) (drop l.start-index l.rest))) ≡ l.initial.text.items ++ items_text true (items_of (map (start_value l.grammar) l.rest));
  storable : AllByRecursion (IsStorableStart l.grammar) (take l.start-index l.rest);
}
