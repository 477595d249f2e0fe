use Rattle.std.proofs.Common.{◌≡◌, ◌+◌, ◌-◌, ◌∷◌, ◌∙◌, List, true, false, take, get_or, ap, arith, rules, subst, sym}
use Rattle.std.specs.Prelude.{reverse}
use Rattle.pg_tree_placed.specs.Forward.{forward, step_text}
use Rattle.pg_tree_placed.specs.Writing.{Puts, is_next, left_from}
use Rattle.pg_tree_placed.specs.declared.entry.Entry.TheVariants.{Leaf}
use Rattle.pg_tree_placed.specs.declared.note.Note.{Note}
use Rattle.pg_tree_placed.specs.declared.note.Way.TheVariants.{Shown}
use Rattle.pg_tree_placed.proofs.Forwarding.{next_note, shown_from, some_left, step_of}
use Rattle.pg_tree_placed.proofs.Putting.{puts_both, next_put, next_stops, puts_stopped, stopped_put}
use Rattle.pg_tree_placed.proofs.source.Source.push_steps.Goals as goal

pub returns-in_err-push_shown-clause-so : goal.returns-in_err-push_shown-clause-so
returns-in_err-push_shown-clause-so g c =
    let contents = g.W.Write.contents in
    let start = contents c.args.writer.now.inner in
    let held = c.args.block.now in
    let text = c.args.self.now.text.now in
    let labels = c.args.self.now.labels.now in
    let es = c.args.entries.now in
    let notes = c.args.notes.now in
    let left = c.loop-step.left in
    let step = c.loop-step.step in
    let ended = c.loop-step.ended in
    let ns = reverse (take left notes) in
    let all = forward text labels false 0 0 es (reverse notes) in
    let now = left_from text labels es ended step ns in
    let own = step_text text labels ended 0 Shown (get_or es step (Leaf 0 0)) in
    let rest = left_from text labels es true (step + 1) ns in
    let whole = shown_from text labels es ended step ns (Leaf 0 0) c.loop-step-test.true (sym c.is_noted.ensures ∙ c.if-is_noted.false) in
    next_stops c.from_residual-in_err-push_shown.result start (contents c.loop-step.writer.inner) (contents c.push_shown.new.writer.inner) held c.loop-step.block c.push_shown.new.block now own rest all (search rules) c.loop-step.invariant.so
    whole c.in_err-push_shown.ensures.so

pub loop-step-preserved : goal.loop-step-preserved
loop-step-preserved g c =
    let contents = g.W.Write.contents in
    let start = contents c.args.writer.now.inner in
    let held = c.args.block.now in
    let text = c.args.self.now.text.now in
    let labels = c.args.self.now.labels.now in
    let es = c.args.entries.now in
    let notes = c.args.notes.now in
    let left = c.loop-step.left in
    let step = c.loop-step.step in
    let ended = c.loop-step.ended in
    let ns = reverse (take left notes) in
    let all = forward text labels false 0 0 es (reverse notes) in
    let now = left_from text labels es ended step ns in
    let own = step_text text labels ended 0 Shown (get_or es step (Leaf 0 0)) in
    let rest = left_from text labels es true (step + 1) ns in
    let whole = shown_from text labels es ended step ns (Leaf 0 0) c.loop-step-test.true (sym c.is_noted.ensures ∙ c.if-is_noted.false) in
    record {
      well = c.in_ok-push_shown.ensures.failed;
      within = c.loop-step.invariant.within;
      so = next_put start (contents c.loop-step.writer.inner) (contents c.push_shown.new.writer.inner) held c.loop-step.block c.push_shown.new.block now own rest all c.loop-step.invariant.so whole c.in_ok-push_shown.ensures.so;
    }

pub returns-in_err-next-clause-so : goal.returns-in_err-next-clause-so
returns-in_err-next-clause-so g c =
    let contents = g.W.Write.contents in
    let start = contents c.args.writer.now.inner in
    let held = c.args.block.now in
    let text = c.args.self.now.text.now in
    let labels = c.args.self.now.labels.now in
    let es = c.args.entries.now in
    let notes = c.args.notes.now in
    let left = c.loop-step.left in
    let step = c.loop-step.step in
    let ended = c.loop-step.ended in
    let ns = reverse (take left notes) in
    let all = forward text labels false 0 0 es (reverse notes) in
    let now = left_from text labels es ended step ns in
    let fewer = reverse (take (left - 1) notes) in
    let note = get_or notes (left - 1) (record { step = 0; begins = 0; way = Shown }) in
    let here : is_next ns step ≡ true = sym c.is_noted.ensures ∙ c.if-is_noted.true in
    let some = some_left notes left step here in
    let split : ns ≡ note ∷ fewer = next_note notes left (record { step = 0; begins = 0; way = Shown }) some c.loop-step.invariant.within in
    let is : note.step ≡ step = step_of note fewer step (sym (ap (λ (xs : List Note). is_next xs step) split) ∙ here) in
    let next = left_from text labels es ended step (note ∷ fewer) in
    let base : Puts start held (contents c.loop-step.writer.inner) c.loop-step.block next all =
    subst (λ (xs : List Note). Puts start held (contents c.loop-step.writer.inner) c.loop-step.block (left_from text labels es ended step xs) all) split c.loop-step.invariant.so in
    stopped_put c.from_residual.result start (contents c.push_noted.new.writer.inner) held c.push_noted.new.block all (search rules)
    (puts_stopped start (contents c.loop-step.writer.inner) (contents c.push_noted.new.writer.inner) held c.loop-step.block next all base (c.in_err-next.ensures.so fewer is))

pub loop-step-preserved-then-is_noted : goal.loop-step-preserved-then-is_noted
loop-step-preserved-then-is_noted g c =
    let contents = g.W.Write.contents in
    let start = contents c.args.writer.now.inner in
    let held = c.args.block.now in
    let text = c.args.self.now.text.now in
    let labels = c.args.self.now.labels.now in
    let es = c.args.entries.now in
    let notes = c.args.notes.now in
    let left = c.loop-step.left in
    let step = c.loop-step.step in
    let ended = c.loop-step.ended in
    let ns = reverse (take left notes) in
    let all = forward text labels false 0 0 es (reverse notes) in
    let now = left_from text labels es ended step ns in
    let fewer = reverse (take (left - 1) notes) in
    let note = get_or notes (left - 1) (record { step = 0; begins = 0; way = Shown }) in
    let here : is_next ns step ≡ true = sym c.is_noted.ensures ∙ c.if-is_noted.true in
    let some = some_left notes left step here in
    let split : ns ≡ note ∷ fewer = next_note notes left (record { step = 0; begins = 0; way = Shown }) some c.loop-step.invariant.within in
    let is : note.step ≡ step = step_of note fewer step (sym (ap (λ (xs : List Note). is_next xs step) split) ∙ here) in
    let next = left_from text labels es ended step (note ∷ fewer) in
    let base : Puts start held (contents c.loop-step.writer.inner) c.loop-step.block next all =
    subst (λ (xs : List Note). Puts start held (contents c.loop-step.writer.inner) c.loop-step.block (left_from text labels es ended step xs) all) split c.loop-step.invariant.so in
    record {
      well = c.in_ok-next.ensures.failed;
      within = omega (arith, c.loop-step.invariant.within);
      so = puts_both start (contents c.loop-step.writer.inner) (contents c.push_noted.new.writer.inner) held c.loop-step.block c.push_noted.new.block next (left_from text labels es c.in_ok-next.has_ended c.in_ok-next.next fewer) all
          base (c.in_ok-next.ensures.so fewer is);
    }
