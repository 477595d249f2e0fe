use Rattle.std.proofs.Common.{arith}
use Rattle.pg_trail.specs.TrailJson.{item_value}
use Rattle.pg_trail.proofs.Turns.{list_taken, no_array}
use Rattle.pg_trail.proofs.read.read_list.Goals as goal

pub returns-then-opens_array : goal.returns-then-opens_array
returns-then-opens_array c =
    list_taken item_value 127 c.args.reader.now c.opens_array.new.reader c.read_each_item.new.reader c.read_each_item.result (omega arith) c.if-opens_array.ensures c.read_each_item.ensures

pub returns-else-opens_array : goal.returns-else-opens_array
returns-else-opens_array c = λ t rest e. no_array 127 c.args.reader.now c.if-opens_array.ensures _ rest e
