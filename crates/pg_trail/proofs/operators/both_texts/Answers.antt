use Rattle.std.proofs.Common.{◌≡◌, ℕ, List, Bor, Option, Some, None, option_map, Ok, Err, sym, subst, arith}
use Rattle.std.proofs.lemmas.Result.{err_from_is_err_and}
use Rattle.json.specs.Json.{after_end_array}
use Rattle.serde_json.specs.Data.{string}
use Rattle.pg_trail.specs.Ahead.{after, data_at, items_at}
use Rattle.pg_trail.specs.Readings.{Reads, Skips}
use Rattle.pg_trail.specs.TrailJson.{two_items}
use Rattle.pg_trail.proofs.Texts.{no_texts, no_first, one_text, no_second, both_texts, more_texts, more_fault}
use Rattle.pg_trail.proofs.operators.both_texts.Goals as goal

abbrev now : Option (Bor (List ℕ)) → Option (List ℕ)
now text = option_map (λ t. t.now) text

pub returns-then-take_end_array : goal.returns-then-take_end_array
returns-then-take_end_array c = no_texts 123 c.args.reader.now c.take_end_array.new.self c.if-take_end_array.ensures

pub returns-in_err-first : goal.returns-in_err-first
returns-in_err-first c =
    let off = c.if-take_end_array.ensures in
    let e = c.in_err-first.field-0.0 in
    let left = c.read_text.new.reader in
    let p = err_from_is_err_and c.from_residual.result c.from_residual.ensures.1 in
    rw (p.1, p.2) (no_first 123 c.args.reader.now left e off.0 (subst (λ ts. Reads string (data_at 123 ts) left (Err e)) off.1 c.in_err-first.ensures))

pub returns-then-take_end_array-2 : goal.returns-then-take_end_array-2
returns-then-take_end_array-2 c =
    let off = c.if-take_end_array.ensures in
    let first = now c.in_ok-first.first in
    let r = c.read_text.new.reader in
    let one = subst (λ ts. Reads string (data_at 123 ts) r (Ok first)) off.1 c.in_ok-first.ensures in
    one_text 123 c.args.reader.now r first off.0 one c.take_end_array-2.new.self c.if-take_end_array-2.ensures

pub returns-in_err-second : goal.returns-in_err-second
returns-in_err-second c =
    let off = c.if-take_end_array.ensures in
    let first = now c.in_ok-first.first in
    let r = c.read_text.new.reader in
    let one = subst (λ ts. Reads string (data_at 123 ts) r (Ok first)) off.1 c.in_ok-first.ensures in
    let on = c.if-take_end_array-2.ensures in
    let e = c.in_err-second.field-0.0 in
    let left = c.read_text-2.new.reader in
    let p = err_from_is_err_and c.from_residual-in_err-second.result c.from_residual-in_err-second.ensures.1 in
    rw (p.1, p.2) (no_second 123 c.args.reader.now r first off.0 one left e on.0 (subst (λ ts. Reads string (data_at 123 ts) left (Err e)) on.1 c.in_err-second.ensures))

pub returns-in_err-skip_items : goal.returns-in_err-skip_items
returns-in_err-skip_items c =
    let off = c.if-take_end_array.ensures in
    let first = now c.in_ok-first.first in
    let r = c.read_text.new.reader in
    let one = subst (λ ts. Reads string (data_at 123 ts) r (Ok first)) off.1 c.in_ok-first.ensures in
    let on = c.if-take_end_array-2.ensures in
    let second = now c.in_ok-second.second in
    let s = c.read_text-2.new.reader in
    let two = subst (λ ts. Reads string (data_at 123 ts) s (Ok second)) on.1 c.in_ok-second.ensures in
    let further : (after_end_array s ≡ None) × (c.take_end_array-3.new.self ≡ s) = grind arith in
    let e = c.in_err-skip_items.field-0.0 in
    let left = c.skip_items.new.reader in
    let p = err_from_is_err_and c.from_residual-in_err-skip_items.result c.from_residual-in_err-skip_items.ensures.1 in
    rw (p.1, p.2) (more_fault 123 c.args.reader.now r first off.0 one s second on.0 two left e (subst (λ ts. Skips {U = Unit {0}} (after (items_at 123 ts)) left (Err e)) further.1 c.in_err-skip_items.ensures))

pub returns-then-not-take_end_array : goal.returns-then-not-take_end_array
returns-then-not-take_end_array c =
    let off = c.if-take_end_array.ensures in
    let first = now c.in_ok-first.first in
    let r = c.read_text.new.reader in
    let one = subst (λ ts. Reads string (data_at 123 ts) r (Ok first)) off.1 c.in_ok-first.ensures in
    let on = c.if-take_end_array-2.ensures in
    let second = now c.in_ok-second.second in
    let s = c.read_text-2.new.reader in
    let two = subst (λ ts. Reads string (data_at 123 ts) s (Ok second)) on.1 c.in_ok-second.ensures in
    let further : (after_end_array s ≡ None) × (c.take_end_array-3.new.self ≡ s) = grind arith in
    let left = c.skip_items.new.reader in
    more_texts 123 c.args.reader.now r first off.0 one s second on.0 two left further.0 (subst (λ ts. after (items_at 123 ts) ≡ Some left) further.1 c.in_ok-skip_items.ensures)

pub returns : goal.returns
returns c =
    let off = c.if-take_end_array.ensures in
    let first = now c.in_ok-first.first in
    let r = c.read_text.new.reader in
    let one = subst (λ ts. Reads string (data_at 123 ts) r (Ok first)) off.1 c.in_ok-first.ensures in
    let on = c.if-take_end_array-2.ensures in
    let second = now c.in_ok-second.second in
    let s = c.read_text-2.new.reader in
    let two = subst (λ ts. Reads string (data_at 123 ts) s (Ok second)) on.1 c.in_ok-second.ensures in
    let left = c.take_end_array-3.new.self in
    let over : after_end_array s ≡ Some left = grind arith in
    subst (λ o. Reads two_items (items_at 123 c.args.reader.now) left (Ok o)) (sym c.both.ensures) (both_texts 123 c.args.reader.now r first off.0 one s second on.0 two left over)
