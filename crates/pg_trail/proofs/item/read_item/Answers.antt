use Rattle.std.proofs.Common.{sym, subst}
use Rattle.pg_trail.specs.Ahead.{data_at}
use Rattle.pg_trail.specs.Readings.{Takes}
use Rattle.pg_trail.specs.TrailJson.{item_value}
use Rattle.pg_trail.proofs.item.read_item.Goals as goal

pub returns-then-opens_object : goal.returns-then-opens_object
returns-then-opens_object c = subst (λ ts. Takes item_value (data_at 126 ts) c.read_members.new.reader c.read_members.result) (sym c.if-opens_object.ensures) c.read_members.ensures
