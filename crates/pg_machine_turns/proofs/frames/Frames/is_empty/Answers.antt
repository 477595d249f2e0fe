use Rattle.std.proofs.Common.{◌≡◌, length, ap, sym, ◌∙◌}
use Rattle.std.specs.Prelude.{◌==◌}
use Rattle.pg_machine_turns.specs.ViewFrames.{by_kind}
use Rattle.pg_machine_turns.proofs.KindLists.{as_many}
use Rattle.pg_machine_turns.proofs.frames.Frames.is_empty.Goals as goal

pub returns : goal.returns
returns c =
    let f = c.self.inside in
    c.is_empty.ensures ∙ ap (λ n. n == 0) (f.kinds.ok.0 ∙ sym (as_many f.kinds.items (by_kind f.lists)) ∙ ap length c.self.view_is)
