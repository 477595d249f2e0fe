use Rattle.std.proofs.Common.{◌≡◌, ◌∙◌, ◌+◌, ◌-◌, ◌<◌, length, get_or, arith, ap, refl}
use Rattle.pg_tree_placed.specs.declared.entry.Entry.TheVariants.{Leaf}
use Rattle.pg_tree_placed.specs.Made.{kids_taken}
use Rattle.pg_tree_placed.proofs.Noted.{joined_more}
use Rattle.pg_tree_placed.proofs.noting.first_joined.Goals as goal

pub loop-left-preserved : goal.loop-left-preserved
loop-left-preserved c =
    let es = c.args.entries.now in
    let last = c.args.last in
    let first = c.loop-left.first in
    let left = c.loop-left.left in
    let e = get_or es (first - 1) (Leaf 0 0) in
    let step : first ≡ first - 1 + 1 = omega (arith, c.if-first-eq0.false) in
    let before : first - 1 < last = omega (arith, c.if-first-eq0.false, c.loop-left.invariant.fewer) in
    let inside : first - 1 < length es = omega (arith, before, c.requires) in
    let next : c.in_ok-left.left ≡ kids_taken e + (left - 1) = c.in_ok-left.ensures ∙ ap (λ n. n + (left - 1)) c.kids.ensures in
    record {
      fewer = omega (arith, c.loop-left.invariant.fewer);
      so = λ text labels cs ns so.
          joined_more text labels es first (first - 1) last left c.in_ok-left.left cs e ns step before inside refl c.loop-left-test.true next
          (c.loop-left.invariant.so text labels cs ns so);
    }
