use Rattle.std.proofs.Common.{◌≡◌, ◌≤◌, ◌++◌, ◌∙◌, List, ap}
use Rattle.std.proofs.lemmas.List.Elements.{All-same}
use Rattle.pg_class.specs.Ranges.{Range}
use Rattle.pg_class.proofs.Joins.{both_ascend}
use Rattle.pg_class.proofs.ranges.united.Goals as goal

pub joined-requires : goal.joined-requires
joined-requires c =
    let class : List Range = c.args.class.now in
    let other : List Range = c.args.other.now in
    let joined : c.extend_from_slice.new.self.items ≡ class ++ other =
    c.in_ok-extend_from_slice.ensures.items ∙ ap (λ (xs : List Range). xs ++ other) c.in_ok-ranges.ensures.items in
    All-same (λ (r : Range). r.0 ≤ r.1) _ (class ++ other) joined (both_ascend class other c.requires.class c.requires.other)
