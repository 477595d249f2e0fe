use Rattle.std.proofs.Common.{◌≡◌, [], Option, sym, ap, subst, ◌∙◌}
use Rattle.std.specs.Prelude.{unwrap_or}
use Rattle.std.specs.Option.{option_map}
use Rattle.std.specs.Global.{Vec}
use Rattle.pg_expand.specs.declared.lookup.RowOperator.{RowOperator}
use Rattle.pg_expand.specs.Lookups.{Groups, IsAdded}
use Rattle.pg_expand.proofs.Groups.{operators_of, shown_groups, group_added}
use Rattle.pg_expand.proofs.lookup.Lookup.add.Goals as goal
use Rattle.pg_expand.proofs.lookup.Lookup.add.Goals.{in-Some, in-None+in_ok-group-in-None}

pub returns : goal.returns
returns c =
    let before : c.match-swap_remove.group.items ≡ unwrap_or (option_map operators_of c.swap_remove.result) [] = elim c.match-swap_remove.branch [
      | in-Some w ↦ (ap (λ (v : Vec RowOperator). v.items) w.group-is ∙ sym (ap (λ (x : Option (Vec RowOperator)). unwrap_or (option_map operators_of x) []) w.in-Some.is))
      | in-None+in_ok-group-in-None w ↦ (ap (λ (v : Vec RowOperator). v.items) w.group-is ∙ (w.in_ok-group-in-None.ensures.items ∙ sym (ap (λ (x : Option (Vec RowOperator)). unwrap_or (option_map operators_of x) []) w.in-None.is)))
    ] in
    subst (λ (g : Groups). IsAdded g c.args.added (shown_groups c.insert.new.self.entries)) c.self.view_is
    (group_added c.as_slice.result.now c.in_ok-symbol.symbol.items c.args.added c.self.inside.groups.entries c.swap_remove.new.self.entries c.insert.new.self.entries
    c.swap_remove.result c.match-swap_remove.group c.push.new.self c.as_slice.ensures.value (c.in_ok-symbol.ensures.items ∙ c.symbol.ensures.same) c.swap_remove.ensures.updates.3 c.in_ok-insert.ensures.updates.3
    c.in_ok-insert.ensures.updates.1 c.swap_remove.ensures.value before c.in_ok-push.ensures.items)
