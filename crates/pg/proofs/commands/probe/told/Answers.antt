use Rattle.std.proofs.Common.{refl, inl, inr}
use Rattle.pg.proofs.commands.probe.told.Goals as goal

pub returns-then-is_told : goal.returns-then-is_told
returns-then-is_told c = inl refl

pub returns-else-is_told : goal.returns-else-is_told
returns-else-is_told c = inr refl
