use Rattle.std.proofs.Common.{◌≡◌, ◌+◌, ◌<◌, length, sym, ap, refl, ◌∙◌}
use Rattle.std.specs.Prelude.{Some, slice_get}
use Rattle.std.proofs.lemmas.Option.{slice_get_read}
use Rattle.pg_grammar_form.specs.ClassItems.{has_character}
use Rattle.pg_machine_turns.proofs.Characters.{counted_more, counted_less}
use Rattle.pg_machine_turns.proofs.leaves.run_len.Goals as goal

pub loop-c-preserved : goal.loop-c-preserved
loop-c-preserved c =
    let read = c.loop-c.invariant.read in
    let below : c.loop-c.c-index < length c.args.characters.now = c.loop-c-test.true in
    let there : slice_get c.args.characters.now c.loop-c.count ≡ Some c.c-item.result =
    rw read (slice_get_read c.args.characters.now (length c.args.characters.now) c.loop-c.c-index c.c-item.result refl below c.c-item.is) in
    record {
      read = ap (λ n. n + 1) read;
      left = counted_more (has_character c.args.grammar.now.classes c.args.item.now.rest) c.args.characters.now c.loop-c.count c.c-item.result _ there
          (sym c.goes_on.ensures ∙ c.if-not-goes_on.false) c.loop-c.invariant.left;
    }

pub returns-then-not-goes_on-clause-value : goal.returns-then-not-goes_on-clause-value
returns-then-not-goes_on-clause-value c =
    let read = c.loop-c.invariant.read in
    let below : c.loop-c.c-index < length c.args.characters.now = c.loop-c-test.true in
    let there : slice_get c.args.characters.now c.loop-c.count ≡ Some c.c-item.result =
    rw read (slice_get_read c.args.characters.now (length c.args.characters.now) c.loop-c.c-index c.c-item.result refl below c.c-item.is) in
    counted_less (has_character c.args.grammar.now.classes c.args.item.now.rest) c.args.characters.now c.loop-c.count c.c-item.result _ there
    (sym c.goes_on.ensures ∙ c.if-not-goes_on.true) c.loop-c.invariant.left
