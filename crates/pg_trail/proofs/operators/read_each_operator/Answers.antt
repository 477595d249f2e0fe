use Rattle.std.proofs.Common.{◌≡◌, ◌<◌, length, Some, None, Ok, Err, sym, subst, arith}
use Rattle.std.proofs.lemmas.Result.{err_from_is_err_and}
use Rattle.json.specs.Json.{after_end_array}
use Rattle.pg_trail.specs.Ahead.{data_at}
use Rattle.pg_trail.specs.Readings.{IsOnly, Reads}
use Rattle.pg_trail.specs.TrailJson.{operator_value}
use Rattle.pg_trail.proofs.Ahead.{data_shorter}
use Rattle.pg_trail.proofs.Turns.{SoFar, more, all, no_more, none_passed}
use Rattle.pg_trail.proofs.operators.read_each_operator.Goals as goal

pub returns-in_err-operator : goal.returns-in_err-operator
returns-in_err-operator c =
    let l = c.operators in
    let going : (after_end_array l.reader ≡ None) × (c.take_end_array.new.self ≡ l.reader) = grind arith in
    let e = c.in_err-operator.field-0.0 in
    let left = c.read_operator.new.reader in
    let p = err_from_is_err_and c.from_residual-in_err-operator.result c.from_residual-in_err-operator.ensures.1 in
    rw (p.1, p.2) (no_more operator_value 124 c.args.reader.now l.reader l.operators l.invariant going.0 e left (subst (λ ts. Reads operator_value (data_at 124 ts) left (Err e)) going.1 c.in_err-operator.ensures))

pub operators-preserved : goal.operators-preserved
operators-preserved c =
    let l = c.operators in
    let going : (after_end_array l.reader ≡ None) × (c.take_end_array.new.self ≡ l.reader) = grind arith in
    let o = c.in-Some.operator in
    let left = c.read_operator.new.reader in
    let this = subst (λ ts. (data_at 124 ts ≡ Some (operator_value o, left)) × IsOnly operator_value o) going.1 (rw c.in-Some.is at c.in_ok-operator.ensures) in
    subst (λ found. SoFar operator_value 124 c.args.reader.now left found) (sym c.in_ok-push-in-Some.ensures.ok) (more operator_value 124 c.args.reader.now l.reader l.operators l.invariant left o going.0 this)

pub operators-smaller : goal.operators-smaller
operators-smaller c =
    let l = c.operators in
    let going : (after_end_array l.reader ≡ None) × (c.take_end_array.new.self ≡ l.reader) = grind arith in
    let o = c.in-Some.operator in
    let left = c.read_operator.new.reader in
    let this = subst (λ ts. (data_at 124 ts ≡ Some (operator_value o, left)) × IsOnly operator_value o) going.1 (rw c.in-Some.is at c.in_ok-operator.ensures) in
    let less : length left < length l.reader = data_shorter 124 l.reader left (operator_value o) this.0 in
    less

pub returns-in-None : goal.returns-in-None
returns-in-None c =
    let l = c.operators in
    let going : (after_end_array l.reader ≡ None) × (c.take_end_array.new.self ≡ l.reader) = grind arith in
    let left = c.read_operator.new.reader in
    none_passed operator_value 124 c.args.reader.now l.reader l.operators l.invariant going.0 left c.none_of_items.new.reader (subst (λ ts. Reads operator_value (data_at 124 ts) left (Ok None)) going.1 (rw c.in-None.is at c.in_ok-operator.ensures))
    c.none_of_items.result c.none_of_items.ensures.passed c.none_of_items.ensures.none

pub returns : goal.returns
returns c =
    let l = c.operators in
    let over : after_end_array l.reader ≡ Some c.take_end_array.new.self = grind arith in
    all operator_value 124 c.args.reader.now l.reader l.operators l.invariant c.take_end_array.new.self over
