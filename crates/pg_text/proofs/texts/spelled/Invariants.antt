use Rattle.std.proofs.Common.{take}
use Rattle.pg_text.specs.Texts.{Spell}
use Rattle.pg_text.proofs.texts.spelled.Given as goal

abbrev pub invariant-loop-text : goal.invariant-loop-text
invariant-loop-text l = Spell l.set.keys (take l.text-index l.texts)
