use Rattle.std.proofs.Common.{◌≡◌, true, ◌++◌, map, drop, take}
use Rattle.std.specs.List.{AllByRecursion}
use Rattle.serde_json.specs.Written.{items_text}
use Rattle.serde_json.specs.View.{items_of}
use Rattle.pg_certificate.specs.Fitting.{IsStorableClaim}
use Rattle.pg_certificate.specs.Values.{claim_value}
use Rattle.pg_certificate.proofs.write.push_claims.Given as goal

abbrev pub invariant-loop-claim : goal.invariant-loop-claim
invariant-loop-claim l = record {
  text : l.text.items ++ items_text true (items_of (map (claim_value l.grammar) (drop l.claim-index l.rest))) ≡ l.initial.text.items ++ items_text true (items_of (map (claim_value l.grammar) l.rest));
  storable : AllByRecursion (IsStorableClaim l.grammar) (take l.claim-index l.rest);
}
