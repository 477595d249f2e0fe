-- The newest that waits stands last.
use Rattle.std.proofs.Common.{◌-◌, List, length, sym, ap, ◌∙◌}
use Rattle.std.specs.Prelude.{option_copied, slice_get}
use Rattle.pg_expand_fitting.specs.declared.known.Known.{Known}
use Rattle.pg_expand_fitting.specs.Judge.{known_of}
use Rattle.pg_expand_fitting.proofs.Stack.{newest_takes}
use Rattle.pg_expand_fitting.proofs.judge.Judge.top_takes.Goals as goal

pub returns-in-Some : goal.returns-in-Some
returns-in-Some c =
    c.goes_under.ensures
    ∙ sym (newest_takes c.args.self.now.waiting.items c.in-Some.newest.now (known_of c.args.operator)
    (sym (ap (λ (xs : List Known). slice_get xs (length xs - 1)) c.deref.ensures.value) ∙ sym c.last.ensures.value ∙ ap option_copied c.in-Some.is))
