use Rattle.std.proofs.Common.{◌≡◌, ◌+◌, ◌<◌, nat_eq, length, arith, sym, ap, refl, ◌∙◌}
use Rattle.std.specs.Prelude.{Some, slice_get}
use Rattle.std.specs.Option.{option_eq}
use Rattle.std.proofs.lemmas.Option.{slice_get_within, slice_get_read}
use Rattle.pg_machine_turns.proofs.Characters.{matched_more, matched_less, option_same, not_false, not_true}
use Rattle.pg_machine_turns.proofs.leaves.matched.Goals as goal

pub loop-wanted-preserved : goal.loop-wanted-preserved
loop-wanted-preserved c =
    let read = c.loop-wanted.invariant.read in
    let below : c.loop-wanted.wanted-index < length c.args.characters.now = c.loop-wanted-test.true in
    let wanted : slice_get c.args.characters.now c.loop-wanted.count ≡ Some c.wanted-item.result =
    rw read (slice_get_read c.args.characters.now (length c.args.characters.now) c.loop-wanted.wanted-index c.wanted-item.result refl below c.wanted-item.is) in
    let same = not_false (option_eq nat_eq c.character_at.result (Some c.wanted-item.result)) c.ne.result c.ne.ensures c.if-ne.false in
    let found : slice_get c.args.rest.now c.loop-wanted.count ≡ Some c.wanted-item.result =
    sym c.character_at.ensures ∙ option_same c.character_at.result c.wanted-item.result same in
    let inside = slice_get_within c.args.rest.now c.loop-wanted.count c.wanted-item.result found in
    record {
      read = ap (λ n. n + 1) read;
      within = omega arith;
      left = matched_more c.args.characters.now c.args.rest.now c.loop-wanted.count c.wanted-item.result _ wanted found c.loop-wanted.invariant.left;
    }

pub returns-then-ne-clause-value : goal.returns-then-ne-clause-value
returns-then-ne-clause-value c =
    let read = c.loop-wanted.invariant.read in
    let below : c.loop-wanted.wanted-index < length c.args.characters.now = c.loop-wanted-test.true in
    let wanted : slice_get c.args.characters.now c.loop-wanted.count ≡ Some c.wanted-item.result =
    rw read (slice_get_read c.args.characters.now (length c.args.characters.now) c.loop-wanted.wanted-index c.wanted-item.result refl below c.wanted-item.is) in
    let other = not_true (option_eq nat_eq c.character_at.result (Some c.wanted-item.result)) c.ne.result c.ne.ensures c.if-ne.true in
    let less = matched_less c.args.characters.now c.args.rest.now c.loop-wanted.count c.wanted-item.result c.character_at.result wanted (sym c.character_at.ensures) other in
    let left = c.loop-wanted.invariant.left in
    omega arith
