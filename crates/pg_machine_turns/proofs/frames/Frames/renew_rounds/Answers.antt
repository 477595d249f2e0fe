use Rattle.std.proofs.Common.{◌≡◌, ◌-◌, length, ap, sym, ◌∙◌}
use Rattle.std.specs.Prelude.{Some, slice_get, option_copied}
use Rattle.pg_machine_turns.specs.ViewFrames.{by_kind}
use Rattle.pg_machine_turns.specs.declared.frame_lists.FrameKind.TheVariants as kind
use Rattle.pg_machine_turns.proofs.KindLists.{renewed, top_newest}
use Rattle.pg_machine_turns.proofs.frames.Frames.renew_rounds.Goals as goal

pub renew_rounds-requires : goal.renew_rounds-requires
renew_rounds-requires c =
    let f = c.self.inside in
    let is : slice_get f.kinds.items (length f.kinds.items - 1) ≡ Some kind.Rounds =
    ap (λ ks. slice_get ks (length ks - 1)) (sym c.deref.ensures.value) ∙ sym c.last.ensures.value ∙ ap option_copied c.in-Some-Rounds.is ∙ ap Some c.in-Some-Rounds.field-0-is in
    λ rounds top. c.requires rounds (top_newest f.kinds.items kind.Rounds (by_kind f.lists) c.args.self.now is c.self.view_is ∙ top)

pub returns-in-Some-clause-before : goal.returns-in-Some-clause-before
returns-in-Some-clause-before c =
    let f = c.self.inside in
    let is : slice_get f.kinds.items (length f.kinds.items - 1) ≡ Some kind.Rounds =
    ap (λ ks. slice_get ks (length ks - 1)) (sym c.deref.ensures.value) ∙ sym c.last.ensures.value ∙ ap option_copied c.in-Some-Rounds.is ∙ ap Some c.in-Some-Rounds.field-0-is in
    let frames = renewed f.kinds.items kind.Rounds (by_kind f.lists) (by_kind c.renew_rounds.new.self) _ _ c.args.self.now is c.self.view_is c.in-Some.ensures.before c.in-Some.ensures.after c.in-Some.ensures.others in
    frames.0

pub returns-in-Some-clause-after : goal.returns-in-Some-clause-after
returns-in-Some-clause-after c =
    let f = c.self.inside in
    let is : slice_get f.kinds.items (length f.kinds.items - 1) ≡ Some kind.Rounds =
    ap (λ ks. slice_get ks (length ks - 1)) (sym c.deref.ensures.value) ∙ sym c.last.ensures.value ∙ ap option_copied c.in-Some-Rounds.is ∙ ap Some c.in-Some-Rounds.field-0-is in
    let frames = renewed f.kinds.items kind.Rounds (by_kind f.lists) (by_kind c.renew_rounds.new.self) _ _ c.args.self.now is c.self.view_is c.in-Some.ensures.before c.in-Some.ensures.after c.in-Some.ensures.others in
    frames.1
