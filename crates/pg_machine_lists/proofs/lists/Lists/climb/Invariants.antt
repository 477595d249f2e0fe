use Rattle.std.proofs.Common.{◌≡◌, length}
use Rattle.pg_machine_lists.specs.TapeLevels.{on_climb}
use Rattle.pg_machine_lists.specs.ViewLevels.{given_of, setting_of, stretch_of, IsLook}
use Rattle.pg_machine_lists.proofs.lists.Lists.climb.Given as goal

abbrev pub invariant-loop-level : goal.invariant-loop-level
invariant-loop-level g l = record {
  left : on_climb (given_of l.context.given) (setting_of l.setting) l.levels (stretch_of l.stretch l.self)
      ≡ on_climb (given_of l.context.given) (setting_of l.setting) l.fn.levels (stretch_of l.fn.stretch l.fn.self);
  look : IsLook l.look;
  context : l.look.context ≡ l.context;
  setting : l.look.setting.now ≡ l.setting;
}

abbrev pub decreases-loop-level : goal.decreases-loop-level
decreases-loop-level g l = length l.levels
