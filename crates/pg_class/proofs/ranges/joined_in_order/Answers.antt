use Rattle.std.proofs.Common.{rules, ◌<◌, ◌||◌, ◌+◌, List, length, slice_index_or, ap, subst, sym, ◌∙◌}
use Rattle.pg_class.specs.Ranges.{Range, in_range}
use Rattle.pg_class.proofs.Joins.{BeginBy, begin_by_next, has-take_more}
use Rattle.pg_class.proofs.ranges.joined_in_order.Goals as goal

pub loop-range-preserved : goal.loop-range-preserved
loop-range-preserved c =
    let ranges = c.args.ranges.now in
    let i = c.loop-range.range-index in
    let class = c.loop-range.class.items in
    let r = slice_index_or ranges i (0, 0) in
    let held = c.loop-range.invariant in
    let within : i < length ranges = search rules in
    record {
      class = c.in_ok-join.ensures.class;
      begin = subst (λ (xs : List Range). BeginBy xs ranges (i + 1)) (sym c.in_ok-join.ensures.joined)
          (begin_by_next class ranges i (0, 0) c.requires.rise within held.begin);
      members = λ k scalar. c.in_ok-join.ensures.members k scalar
          ∙ (ap (λ b. in_range k r || b) (held.members k scalar) ∙ has-take_more ranges i (0, 0) k within);
    }
