use Rattle.std.proofs.Common.{rules, ◌≡◌, ◌<◌, ◌+◌, ◌-◌, ◌^◌, length, Fits, w64, ap, sym, ◌∙◌}
use Rattle.std.specs.Prelude.{Some, slice_get, option_copied}
use Rattle.pg_machine_turns.specs.ViewFrames.{frame_of}
use Rattle.pg_machine_turns.specs.declared.frame.Frame.TheVariants as frame
use Rattle.pg_machine_turns.proofs.KindLists.{last_newest}
use Rattle.pg_machine_turns.proofs.frame_lists.FrameLists.renew_rounds.Goals as goal

pub overflow_add-before : goal.overflow_add-before
overflow_add-before c =
    let xs = c.args.self.now.rounds.items in
    let before = c.in_ok-before.field-0.now in
    let is : slice_get xs (length xs - 1) ≡ Some before = search rules in
    let room = c.requires before (last_newest (λ f. frame_of (frame.Rounds f)) xs before is) in
    search (rules, room)
