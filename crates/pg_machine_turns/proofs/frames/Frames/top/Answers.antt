use Rattle.std.proofs.Common.{◌≡◌, ◌-◌, length, ap, sym, ◌∙◌}
use Rattle.std.specs.Prelude.{Some, slice_get, option_copied}
use Rattle.pg_machine_turns.specs.ViewFrames.{by_kind}
use Rattle.pg_machine_turns.proofs.KindLists.{top_lies}
use Rattle.pg_machine_turns.proofs.frames.Frames.top.Goals as goal

pub returns-in-Some-clause-some : goal.returns-in-Some-clause-some
returns-in-Some-clause-some c =
    let f = c.self.inside in
    let is : slice_get f.kinds.items (length f.kinds.items - 1) ≡ Some c.in-Some.kind.now =
    ap (λ ks. slice_get ks (length ks - 1)) (sym c.deref.ensures.value) ∙ sym c.last.ensures.value ∙ ap option_copied c.in-Some.is in
    ap (λ fs. slice_get fs 0) (sym c.self.view_is) ∙ top_lies f.kinds.items c.in-Some.kind.now (by_kind f.lists) is ∙ ap Some (sym c.newest.ensures)
