use Rattle.std.proofs.Common.{◌≡◌, ◌<◌, ◌∷◌, length, Some, None, Err, refl, ap, sym, ◌∙◌, subst, arith}
use Rattle.std.proofs.lemmas.Result.{err_from_is_err_and}
use Rattle.json.specs.Token.{begin_array, begin_object}
use Rattle.json.specs.Json.{after_end_array, read_key}
use Rattle.json.specs.Reads.{token_of}
use Rattle.json.proofs.Grammar.{read_key-shorter}
use Rattle.serde_json.specs.Data.{no_members}
use Rattle.pg_trail.specs.Ahead.{after, data_at}
use Rattle.pg_trail.specs.Readings.{Skips}
use Rattle.pg_trail.proofs.Ahead.{too_deep_array, too_deep_object}
use Rattle.pg_trail.proofs.Skipping.{left_array, left_object, left_number, number_skipped, left_item, left_shorter, left_items_over, left_member, item_fault, no_members_left, member_fault, members_left}
use Rattle.pg_trail.proofs.skip.+skip.Goals as goal

pub skip_value-returns-in-Some : goal.skip_value-returns-in-Some
skip_value-returns-in-Some t c =
    let first : c.args.reader.now ≡ token_of c.in-Some.token ∷ c.next.new.self = grind arith in
    subst (λ ts. Skips (after (data_at c.args.depth ts)) c.skip_rest.new.reader c.skip_rest.result) (sym first) c.skip_rest.ensures

pub skip_items-loop-reader-preserved : goal.skip_items-loop-reader-preserved
skip_items-loop-reader-preserved t c =
    let l = c.loop-reader in
    let going : (after_end_array l.reader ≡ None) × (c.take_end_array.new.self ≡ l.reader) = grind arith in
    let skipped : after (data_at c.args.depth l.reader) ≡ Some c.skip_value.new.reader = rw (← going.1) c.in_ok-skip_value.ensures in
    l.invariant ∙ left_item c.args.depth l.reader c.skip_value.new.reader going.0 skipped

pub skip_items-loop-reader-smaller : goal.skip_items-loop-reader-smaller
skip_items-loop-reader-smaller t c =
    let l = c.loop-reader in
    let going : (after_end_array l.reader ≡ None) × (c.take_end_array.new.self ≡ l.reader) = grind arith in
    let skipped : after (data_at c.args.depth l.reader) ≡ Some c.skip_value.new.reader = rw (← going.1) c.in_ok-skip_value.ensures in
    left_shorter c.args.depth l.reader c.skip_value.new.reader skipped

pub skip_items-returns : goal.skip_items-returns
skip_items-returns t c =
    let l = c.loop-reader in
    let over : after_end_array l.reader ≡ Some c.take_end_array.new.self = grind arith in
    l.invariant ∙ left_items_over c.args.depth l.reader c.take_end_array.new.self over

pub skip_items-returns-in_err-skip_value : goal.skip_items-returns-in_err-skip_value
skip_items-returns-in_err-skip_value t c =
    let l = c.loop-reader in
    let going : (after_end_array l.reader ≡ None) × (c.take_end_array.new.self ≡ l.reader) = grind arith in
    let p = err_from_is_err_and c.from_residual.result c.from_residual.ensures.1 in
    rw (p.1, p.2) (item_fault c.args.depth c.args.reader.now l.reader c.skip_value.new.reader c.skip_value.new.reader c.in_err-skip_value.field-0.0 l.invariant going.0
    (subst (λ ts. Skips {U = Unit {0}} (after (data_at c.args.depth ts)) c.skip_value.new.reader (Err c.in_err-skip_value.field-0.0)) going.1 c.in_err-skip_value.ensures))

pub skip_members-loop-reader-init : goal.skip_members-loop-reader-init
skip_members-loop-reader-init t c = λ old. (old, refl)

pub skip_members-loop-reader-preserved : goal.skip_members-loop-reader-preserved
skip_members-loop-reader-preserved t c = λ old.
    let l = c.loop-reader in
    let w = l.invariant old in
    let key : read_key l.reader ≡ Some (Some c.in-Some.field-0.now, c.next_key.new.self) = grind arith in
    let step = left_member c.args.depth w.0 c.in-Some.field-0.now l.reader c.next_key.new.self c.skip_value.new.reader key c.in_ok-skip_value.ensures in
    (step.0, w.1 ∙ step.1)

pub skip_members-loop-reader-smaller : goal.skip_members-loop-reader-smaller
skip_members-loop-reader-smaller t c =
    let l = c.loop-reader in
    let key : read_key l.reader ≡ Some (Some c.in-Some.field-0.now, c.next_key.new.self) = grind arith in
    let less : length c.skip_value.new.reader < length l.reader =
    omega (arith, read_key-shorter l.reader (Some c.in-Some.field-0.now) c.next_key.new.self key, left_shorter c.args.depth c.next_key.new.self c.skip_value.new.reader c.in_ok-skip_value.ensures) in
    less

pub skip_members-returns-in_err-next_key : goal.skip_members-returns-in_err-next_key
skip_members-returns-in_err-next_key t c = λ found.
    let l = c.loop-reader in
    let w = l.invariant found in
    let p = err_from_is_err_and c.from_residual.result c.from_residual.ensures.1 in
    rw (p.1, p.2) (w.1 ∙ no_members_left c.args.depth w.0 l.reader c.in_err-next_key.ensures.value)

pub skip_members-returns-in_err-skip_value : goal.skip_members-returns-in_err-skip_value
skip_members-returns-in_err-skip_value t c = λ found.
    let l = c.loop-reader in
    let w = l.invariant found in
    let key : read_key l.reader ≡ Some (Some c.in-Some.field-0.now, c.next_key.new.self) = grind arith in
    let p = err_from_is_err_and c.from_residual-in_err-skip_value.result c.from_residual-in_err-skip_value.ensures.1 in
    rw (p.1, p.2) (member_fault c.args.depth found w.0 c.args.reader.now c.in-Some.field-0.now l.reader c.next_key.new.self c.skip_value.new.reader c.skip_value.new.reader c.in_err-skip_value.field-0.0 w.1 key c.in_err-skip_value.ensures)

pub skip_members-returns : goal.skip_members-returns
skip_members-returns t c = λ found.
    let l = c.loop-reader in
    let w = l.invariant found in
    let over : read_key l.reader ≡ Some (None, c.next_key.new.self) = grind arith in
    w.1 ∙ members_left c.args.depth w.0 l.reader c.next_key.new.self over

pub skip_array-returns-then-depth-eq0 : goal.skip_array-returns-then-depth-eq0
skip_array-returns-then-depth-eq0 t c =
    let none : c.args.depth ≡ 0 = omega arith in
    subst (λ d. after (data_at d (begin_array ∷ c.args.reader.now)) ≡ None) (sym none) (ap after (too_deep_array c.args.reader.now))

pub skip_array-returns : goal.skip_array-returns
skip_array-returns t c =
    subst (λ o. Skips o c.skip_items.new.reader c.skip_items.result) (sym (left_array c.args.depth c.args.reader.now (omega arith))) c.skip_items.ensures

pub skip_object-returns-then-depth-eq0 : goal.skip_object-returns-then-depth-eq0
skip_object-returns-then-depth-eq0 t c =
    let none : c.args.depth ≡ 0 = omega arith in
    subst (λ d. after (data_at d (begin_object ∷ c.args.reader.now)) ≡ None) (sym none) (ap after (too_deep_object c.args.reader.now))

pub skip_object-returns : goal.skip_object-returns
skip_object-returns t c =
    subst (λ o. Skips o c.skip_members.new.reader c.skip_members.result) (sym (left_object c.args.depth c.args.reader.now (omega arith))) (c.skip_members.ensures no_members)

pub skip_rest-returns-in-Number : goal.skip_rest-returns-in-Number
skip_rest-returns-in-Number t c =
    let rest = c.args.reader.now in
    let is = ap (λ k. after (data_at c.args.depth (token_of k ∷ rest))) c.in-Number.is ∙ left_number c.args.depth c.in-Number.text.now rest in
    subst (λ o. Skips o rest c.has_value.result) (sym is) (number_skipped _ rest c.has_value.result c.has_value.ensures)
