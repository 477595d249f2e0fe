use Rattle.std.proofs.Common.{rules, arith, ◌++◌, ◌<◌, length, take}
use Rattle.std.proofs.lemmas.Grind.{common_steps}
use Rattle.pg_tree.proofs.Growth.{Consumes-Consumes}
use Rattle.pg_tree.proofs.read.read_bytes.Goals as goal

pub returns-then-given-limit-clause-long : goal.returns-then-given-limit-clause-long
returns-then-given-limit-clause-long g c = λ _.
    let all = c.loop.read.items ++ take c.in-Ok.given c.read.new.buf in
    let past : c.args.limit < length all = grind (arith, common_steps) in
    (all, past, Consumes-Consumes _ _ _ _ _ c.loop.invariant.taken c.in-Ok.ensures.consumes.0)

pub loop-preserved : goal.loop-preserved
loop-preserved g c = record {
  turns = grind (arith, common_steps);
  short = grind (arith, common_steps);
  well = search rules;
  asked = grind (arith, common_steps);
  counted = grind (arith, common_steps);
  taken = grind (arith, common_steps);
}
