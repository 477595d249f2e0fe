use Rattle.std.proofs.Common.{◌≡◌, suc, length, arith, refl}
use Rattle.pg_grammar.proofs.After.{drop-last, take-last}
use Rattle.pg_grammar.proofs.numbering.parts_and_roots.Goals as goal

pub loop-form-preserved : goal.loop-form-preserved
loop-form-preserved c =
    let last = c.in-Some.ensures.cases in
    let invariant = c.loop-form.invariant in
    let after = drop-last c.args.forms.now c.loop-form.rest.now c.in-Some.before.now c.in-Some.form.now invariant.front last.0 in
    let next : length c.loop-form.rest.now ≡ suc (length c.in-Some.before.now) = omega (arith, last.1) in
    let count = c.part_count.ensures in
    let here = rw (count, invariant.roots, next) at c.in_ok-taken.ensures.parts in
    let others = rw (count, invariant.roots, next) at c.in_ok-taken.ensures.rest in
    record {
      within = omega (arith, last.1, invariant.within);
      front = take-last c.args.forms.now c.loop-form.rest.now c.in-Some.before.now c.in-Some.form.now invariant.front last.0;
      parts = rw (c.in_ok-push_front.ensures.items, after, next, here, rw next at invariant.parts) refl;
      roots = rw (c.in_ok-push_front-2.ensures.items, after, next, c.new.ensures, others) refl;
    }
