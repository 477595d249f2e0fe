use Rattle.std.proofs.Common.{◌≡◌}
use Rattle.pg_machine_lists.specs.TapeLevels.{down}
use Rattle.pg_machine_lists.specs.ViewLevels.{given_of, lists_of, setting_of, IsLook}
use Rattle.pg_machine_lists.proofs.lists.Lists.down.Given as goal

abbrev pub invariant-loop-row : goal.invariant-loop-row
invariant-loop-row g l = record {
  left : down (given_of l.context.given) (setting_of l.fn.setting) l.row l.place l.levels (lists_of l.self)
      ≡ down (given_of l.context.given) (setting_of l.fn.setting) l.fn.rows l.fn.place l.fn.levels (lists_of l.fn.self);
  look : IsLook l.look;
  context : l.look.context ≡ l.context;
  setting : l.look.setting.now ≡ l.fn.setting;
}

abbrev pub decreases-loop-row : goal.decreases-loop-row
decreases-loop-row g l = l.row
