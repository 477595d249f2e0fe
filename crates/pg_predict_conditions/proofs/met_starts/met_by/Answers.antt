use Rattle.std.proofs.Common.{sym, subst}
use Rattle.pg_predict_conditions.specs.Bounds.{AreBounds}
use Rattle.pg_predict_conditions.proofs.met_starts.met_by.Goals as goal

pub met_within-requires : goal.met_within-requires
met_within-requires c = subst (AreBounds c.args.starts.now) (sym c.as_slice.ensures.value) c.in_ok-bounds.ensures

pub returns : goal.returns
returns c = c.met_within.ensures
