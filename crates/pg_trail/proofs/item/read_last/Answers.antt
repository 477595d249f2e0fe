use Rattle.std.proofs.Common.{◌≡◌, ◌<◌, ◌∷◌, length, Some, None, Ok, Err, sym, subst, arith}
use Rattle.std.proofs.lemmas.Result.{err_from_is_err_and}
use Rattle.json.specs.Token.{begin_object, key}
use Rattle.json.specs.Json.{read_key}
use Rattle.json.proofs.Grammar.{read_key-shorter}
use Rattle.pg_trail.specs.Ahead.{data_at}
use Rattle.pg_trail.specs.Choices.{key_of}
use Rattle.pg_trail.specs.Readings.{Repeats, Takes}
use Rattle.pg_trail.specs.TrailJson.{item_value}
use Rattle.pg_trail.proofs.Members.{again_if, over_if, chosen_shorter, latest_first, latest_again, the_last, first_fault, again_fault, key_fault}
use Rattle.pg_trail.proofs.item.read_last.Goals as goal

pub returns-in_err-item : goal.returns-in_err-item
returns-in_err-item c =
    let p = err_from_is_err_and c.from_residual.result c.from_residual.ensures.1 in
    rw (p.1, p.2) (first_fault (key_of c.args.choice) c.args.reader.now c.read_chosen.new.reader c.in_err-item.field-0.0 c.in_err-item.ensures)

pub again-init : goal.again-init
again-init c = latest_first (key_of c.args.choice) c.args.reader.now c.read_chosen.new.reader c.in_ok-item.item c.in_ok-item.ensures

pub returns-in_err-comes_again : goal.returns-in_err-comes_again
returns-in_err-comes_again c =
    let l = c.again in
    let k = key_of c.args.choice in
    let e = c.in_err-comes_again.field-0.0 in
    let left = c.comes_again.new.reader in
    let bad = subst (λ q. Repeats q (read_key l.reader) left (Err e)) c.requires c.in_err-comes_again.ensures in
    let p = err_from_is_err_and c.from_residual-in_err-comes_again.result c.from_residual-in_err-comes_again.ensures.1 in
    rw (p.1, p.2) (key_fault k (key k ∷ c.args.reader.now) l.reader left l.item e l.invariant bad)

pub returns-in_err-item-2 : goal.returns-in_err-item-2
returns-in_err-item-2 c =
    let l = c.again in
    let k = key_of c.args.choice in
    let s = c.comes_again.new.reader in
    let b = c.in_ok-comes_again.field-0 in
    let again : read_key l.reader ≡ Some (Some k, s) = again_if k (read_key l.reader) s b c.if-branch.true (subst (λ q. Repeats q (read_key l.reader) s (Ok b)) c.requires c.in_ok-comes_again.ensures) in
    let p = err_from_is_err_and c.from_residual-in_err-item-2.result c.from_residual-in_err-item-2.ensures.1 in
    rw (p.1, p.2) (again_fault k (key k ∷ c.args.reader.now) l.reader s c.read_chosen-in-again.new.reader l.item c.in_err-item-2.field-0.0 l.invariant again c.in_err-item-2.ensures)

pub again-smaller : goal.again-smaller
again-smaller c =
    let l = c.again in
    let k = key_of c.args.choice in
    let s = c.comes_again.new.reader in
    let b = c.in_ok-comes_again.field-0 in
    let again : read_key l.reader ≡ Some (Some k, s) = again_if k (read_key l.reader) s b c.if-branch.true (subst (λ q. Repeats q (read_key l.reader) s (Ok b)) c.requires c.in_ok-comes_again.ensures) in
    let first : length s < length l.reader = read_key-shorter l.reader (Some k) s again in
    let second : length c.read_chosen-in-again.new.reader < length s = chosen_shorter k s c.read_chosen-in-again.new.reader c.in_ok-item-2.item c.in_ok-item-2.ensures in
    let less : length c.read_chosen-in-again.new.reader < length l.reader = omega (arith, first, second) in
    less

pub again-preserved : goal.again-preserved
again-preserved c =
    let l = c.again in
    let k = key_of c.args.choice in
    let s = c.comes_again.new.reader in
    let b = c.in_ok-comes_again.field-0 in
    let again : read_key l.reader ≡ Some (Some k, s) = again_if k (read_key l.reader) s b c.if-branch.true (subst (λ q. Repeats q (read_key l.reader) s (Ok b)) c.requires c.in_ok-comes_again.ensures) in
    latest_again k (key k ∷ c.args.reader.now) l.reader l.item l.invariant s c.read_chosen-in-again.new.reader c.in_ok-item-2.item again c.in_ok-item-2.ensures

pub returns : goal.returns
returns c =
    let l = c.again in
    let k = key_of c.args.choice in
    let s = c.comes_again.new.reader in
    let b = c.in_ok-comes_again.field-0 in
    let over : read_key l.reader ≡ Some (None, s) = over_if k (read_key l.reader) s b c.if-branch.false (subst (λ q. Repeats q (read_key l.reader) s (Ok b)) c.requires c.in_ok-comes_again.ensures) in
    subst (λ r. Takes item_value (data_at 126 (begin_object ∷ key k ∷ c.args.reader.now)) s r) (sym c.ok_or.ensures.value) (the_last k (key k ∷ c.args.reader.now) l.reader s l.item l.invariant over)
