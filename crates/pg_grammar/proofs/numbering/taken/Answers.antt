use Rattle.std.proofs.Common.{◌≡◌, ◌∷◌, ◌-◌, ◌+◌, suc, refl, arith, append_assoc}
use Rattle.std.proofs.lemmas.Grind.{common_steps}
use Rattle.pg_grammar.proofs.numbering.taken.Goals as goal

pub loop-preserved : goal.loop-preserved
loop-preserved c =
    let left : c.args.count - c.loop.counter ≡ suc (c.args.count - (c.loop.counter + 1)) = omega arith in
    let items : c.loop.roots.items ≡ c.in-Some.root ∷ c.pop_front.new.self.items = c.in-Some.ensures.items in
    let parts = rw (left, items) at c.loop.invariant.parts in
    record {
      parts = rw (c.in_ok-push.ensures.items, append_assoc) parts;
      rest = rw (left, items) at c.loop.invariant.rest;
    }

pub loop-init : goal.loop-init
loop-init c =
    let whole : c.args.count - 0 ≡ c.args.count = omega arith in
    rw (c.new-numbers.ensures.items, whole) (record { parts = refl; rest = refl })

pub returns : goal.returns
returns c = grind (arith, common_steps)
