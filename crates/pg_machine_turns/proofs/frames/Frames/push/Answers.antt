use Rattle.std.proofs.Common.{◌≡◌, [], ◌∷◌, ◌++◌, ap, ◌∙◌}
use Rattle.pg_machine_turns.specs.ViewFrames.{by_kind, frame_of}
use Rattle.pg_machine_turns.proofs.KindLists.{topmost}
use Rattle.pg_machine_turns.proofs.frames.Frames.push.Goals as goal

pub returns : goal.returns
returns c =
    let f = c.self.inside in
    topmost c.push_reserved.new.self.items f.kinds.items c.in_ok-kind.kind (by_kind c.put.new.self) (by_kind f.lists) (frame_of c.args.frame)
    (c.push_reserved.ensures.items ∙ ap (λ ks. ks ++ c.in_ok-kind.kind ∷ []) c.reserve.ensures.items) c.in_ok-kind.ensures.newest c.in_ok-kind.ensures.others ∙ ap (λ fs. frame_of c.args.frame ∷ fs) c.self.view_is
