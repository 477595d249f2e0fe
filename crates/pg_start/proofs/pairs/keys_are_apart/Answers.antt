use Rattle.std.proofs.Common.{length, ap, sym, ◌∙◌}
use Rattle.pg_start.specs.Prefixes.{begins_in, IsPrefix}
use Rattle.pg_start.proofs.Keys.{KeysApart-swap, goes_on_from_begins, begins_from_goes_on}
use Rattle.pg_start.proofs.Tested.{from_place}
use Rattle.pg_start.proofs.pairs.keys_are_apart.Goals as goal

pub returns-then-begins_with : goal.returns-then-begins_with
returns-then-begins_with c =
    let prefix : IsPrefix c.args.key.now c.args.other.now = c.begins_with.ensures.0 c.if-begins_with.true in
    let after = from_place c.args.other.now (length c.args.key.now) in
    let is = c.begins_in.ensures ∙ ap (begins_in c.args.excluded.now) after in
    (λ e. goes_on_from_begins _ _ _ _ prefix (sym is ∙ e), λ h. is ∙ begins_from_goes_on _ _ _ _ prefix h)

pub returns-then-begins_with-2 : goal.returns-then-begins_with-2
returns-then-begins_with-2 c =
    let prefix : IsPrefix c.args.other.now c.args.key.now = c.begins_with-else-begins_with.ensures.0 c.if-begins_with-2.true in
    let after = from_place c.args.key.now (length c.args.other.now) in
    let is = c.begins_in-then-begins_with-2.ensures ∙ ap (begins_in c.args.other_excluded.now) after in (
      λ e. KeysApart-swap _ _ _ _ (goes_on_from_begins _ _ _ _ prefix (sym is ∙ e)),
      λ h. is ∙ begins_from_goes_on _ _ _ _ prefix (KeysApart-swap _ _ _ _ h),
    )
