use Rattle.std.proofs.Common.{◌≡◌, ◌<◌, length, Some, None, Err, sym, subst, arith}
use Rattle.std.proofs.lemmas.Result.{err_from_is_err_and}
use Rattle.json.specs.Json.{after_end_array}
use Rattle.pg_trail.specs.Ahead.{data_at}
use Rattle.pg_trail.specs.Readings.{IsOnly, Takes}
use Rattle.pg_trail.specs.TrailJson.{item_value}
use Rattle.pg_trail.proofs.Ahead.{data_shorter}
use Rattle.pg_trail.proofs.Turns.{SoFar, more, all, refused}
use Rattle.pg_trail.proofs.read.read_each_item.Goals as goal

pub returns-in_err-read_item : goal.returns-in_err-read_item
returns-in_err-read_item c =
    let l = c.items in
    let going : (after_end_array l.reader ≡ None) × (c.take_end_array.new.self ≡ l.reader) = grind arith in
    let e = c.in_err-read_item.field-0.0 in
    let left = c.read_item.new.reader in
    let p = err_from_is_err_and c.from_residual.result c.from_residual.ensures.1 in
    rw (p.1, p.2) (refused item_value 126 c.args.reader.now l.reader l.trail l.invariant going.0 e left (subst (λ ts. Takes item_value (data_at 126 ts) left (Err e)) going.1 c.in_err-read_item.ensures))

pub items-preserved : goal.items-preserved
items-preserved c =
    let l = c.items in
    let going : (after_end_array l.reader ≡ None) × (c.take_end_array.new.self ≡ l.reader) = grind arith in
    let i = c.in_ok-read_item.field-0 in
    let left = c.read_item.new.reader in
    let this = subst (λ ts. (data_at 126 ts ≡ Some (item_value i, left)) × IsOnly item_value i) going.1 c.in_ok-read_item.ensures in
    subst (λ found. SoFar item_value 126 c.args.reader.now left found) (sym c.in_ok-push.ensures.ok) (more item_value 126 c.args.reader.now l.reader l.trail l.invariant left i going.0 this)

pub items-smaller : goal.items-smaller
items-smaller c =
    let l = c.items in
    let going : (after_end_array l.reader ≡ None) × (c.take_end_array.new.self ≡ l.reader) = grind arith in
    let i = c.in_ok-read_item.field-0 in
    let left = c.read_item.new.reader in
    let this = subst (λ ts. (data_at 126 ts ≡ Some (item_value i, left)) × IsOnly item_value i) going.1 c.in_ok-read_item.ensures in
    let less : length left < length l.reader = data_shorter 126 l.reader left (item_value i) this.0 in
    less

pub returns : goal.returns
returns c =
    let l = c.items in
    let over : after_end_array l.reader ≡ Some c.take_end_array.new.self = grind arith in
    all item_value 126 c.args.reader.now l.reader l.trail l.invariant c.take_end_array.new.self over
