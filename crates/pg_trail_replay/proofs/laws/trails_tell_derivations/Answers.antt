use Rattle.pg_trail_replay.proofs.OneForest.{only_forest, never_stops}
use Rattle.pg_trail_replay.proofs.ProperTables.{proper_table}
use Rattle.pg_trail_replay.proofs.laws.trails_tell_derivations.Goals as goal

pub returns : goal.returns
returns c = λ g text table after forest trail comes is d. (
  record { derived = record { after = after; derived = d }; only = λ other x. only_forest g text table trail (proper_table g table comes is) other forest x (record { after = after; derived = d }) },
  λ s h. never_stops g text table trail (proper_table g table comes is) forest s (record { after = after; derived = d }) h,
)
