use Rattle.std.proofs.Common.{rules, nat_lt}
use Rattle.std.proofs.lemmas.List.Sorted.{IsPartitionPoint-from_clause, IsPartitionedBy-ltb}
use Rattle.pg_class.proofs.Search.{has_at_point, last_of, lasts_rise}
use Rattle.pg_class.proofs.class.place_of.Goals as goal

pub returns : goal.returns
returns c =
    let ranges = c.args.ranges.now in
    let parted = IsPartitionedBy-ltb last_of ranges c.args.c (lasts_rise ranges c.requires) in
    let point = IsPartitionPoint-from_clause (λ r. nat_lt (last_of r) c.args.c) _ _ c.partition_point.ensures.partitioned parted (λ a r q k. search rules) in
    has_at_point ranges c.partition_point.result c.args.c c.requires point
