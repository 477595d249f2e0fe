use Rattle.std.proofs.Common.{arith}
use Rattle.std.proofs.lemmas.Grind.{common_steps}
use Rattle.pg_text.proofs.texts.spelled.Goals as goal

pub returns : goal.returns
returns c = λ text. grind (arith, common_steps, c.loop-text.invariant text, c.loop-text.auto)
