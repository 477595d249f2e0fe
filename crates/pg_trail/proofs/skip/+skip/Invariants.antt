use Rattle.std.proofs.Common.{◌≡◌, ◌+◌, ◌*◌, length}
use Rattle.serde_json.specs.Data.{Members}
use Rattle.pg_trail.specs.Ahead.{after, items_at, members_at}
use Rattle.pg_trail.proofs.skip.+skip.Given as goal

abbrev pub decreases-skip_array : goal.decreases-skip_array
decreases-skip_array l = 4 * l.depth

abbrev pub decreases-skip_object : goal.decreases-skip_object
decreases-skip_object l = 4 * l.depth

abbrev pub decreases-skip_rest : goal.decreases-skip_rest
decreases-skip_rest l = 4 * l.depth + 1

abbrev pub decreases-skip_value : goal.decreases-skip_value
decreases-skip_value l = 4 * l.depth + 2

abbrev pub decreases-skip_items : goal.decreases-skip_items
decreases-skip_items l = 4 * l.depth + 3

abbrev pub decreases-skip_members : goal.decreases-skip_members
decreases-skip_members l = 4 * l.depth + 3

abbrev pub invariant-skip_items-loop-reader : goal.invariant-skip_items-loop-reader
invariant-skip_items-loop-reader l = after (items_at l.depth l.initial.reader) ≡ after (items_at l.depth l.reader)

abbrev pub decreases-skip_items-loop-reader : goal.decreases-skip_items-loop-reader
decreases-skip_items-loop-reader l = length l.reader

abbrev pub invariant-skip_members-loop-reader : goal.invariant-skip_members-loop-reader
invariant-skip_members-loop-reader l = (old : Members) → (now : Members) × (after (members_at l.depth old l.initial.reader) ≡ after (members_at l.depth now l.reader))

abbrev pub decreases-skip_members-loop-reader : goal.decreases-skip_members-loop-reader
decreases-skip_members-loop-reader l = length l.reader
