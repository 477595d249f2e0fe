use Rattle.std.proofs.Common.{[], Option, sym, ap, ◌∙◌}
use Rattle.std.specs.Prelude.{unwrap_or}
use Rattle.std.specs.Option.{option_map}
use Rattle.std.specs.Global.{Vec}
use Rattle.pg_expand.specs.declared.lookup.RowOperator.{RowOperator}
use Rattle.pg_expand.specs.Lookups.{Groups, found}
use Rattle.pg_expand.proofs.Groups.{found_group}
use Rattle.pg_expand.proofs.lookup.Lookup.find.Goals as goal

pub returns-in-Some : goal.returns-in-Some
returns-in-Some c =
    c.as_slice.ensures.value
    ∙ (ap (λ (x : Option (Vec RowOperator)). unwrap_or (option_map (λ (v : Vec RowOperator). v.items) x) []) c.in-Some.ensures.value
    ∙ (sym (found_group c.args.symbol.now c.self.inside.groups.entries) ∙ ap (λ (g : Groups). found g c.args.symbol.now) c.self.view_is))

pub returns-in-None : goal.returns-in-None
returns-in-None c =
    ap (λ (x : Option (Vec RowOperator)). unwrap_or (option_map (λ (v : Vec RowOperator). v.items) x) []) c.in-None.ensures.value
    ∙ (sym (found_group c.args.symbol.now c.self.inside.groups.entries) ∙ ap (λ (g : Groups). found g c.args.symbol.now) c.self.view_is)
