use Rattle.std.proofs.Common.{rules, arith}
use Rattle.std.proofs.lemmas.Grind.{common_steps}
use Rattle.pg_tree.proofs.Growth.{Appends-take}
use Rattle.pg_tree.proofs.write.write_bytes.Goals as goal

pub loop-written-preserved : goal.loop-written-preserved
loop-written-preserved g c = record {
  within = search rules;
  well = search rules;
  counted = search rules;
  appended = Appends-take _ _ _ _ _ _ _ c.loop-written.invariant.appended (grind (arith, common_steps)) c.in-Ok.ensures.appends;
}
