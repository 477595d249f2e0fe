use Rattle.std.proofs.Common.{◌+◌, ◌-◌, ℕ, List, true, codes, get_or, arith, rules, subst}
use Rattle.json.specs.Print.{escape}
use Rattle.pg_tree_placed.specs.Written.{added_text}
use Rattle.pg_tree_placed.specs.Writing.{Puts, joined_from, left_from}
use Rattle.pg_tree_placed.specs.declared.entry.Entry.TheVariants.{Leaf}
use Rattle.pg_tree_placed.proofs.Forwarding.{joined_cut, joined_last, joined_next}
use Rattle.pg_tree_placed.proofs.Putting.{next_put, next_stops_to}
use Rattle.pg_tree_placed.proofs.source.Source.push_rest.Goals as goal

pub returns-then-step-entries-clause-so : goal.returns-then-step-entries-clause-so
returns-then-step-entries-clause-so g c = λ ns.
    let contents = g.W.Write.contents in
    let start = contents c.args.writer.now.inner in
    let held = c.args.block.now in
    let text = c.args.self.now.text.now in
    let labels = c.args.self.now.labels.now in
    let es = c.args.entries.now in
    let left = c.loop-left.left in
    let step = c.loop-left.step in
    let all = joined_from text labels es c.args.count c.args.from ns in
    let now = joined_from text labels es left step ns in
    let own = escape (added_text text (get_or es step (Leaf 0 0))) in
    let more = joined_from text labels es (left - 1) (step + 1) ns in
    let quote = codes "\"" in
    let after = left_from text labels es true step ns in
    subst (λ (xs : List ℕ). Puts start held (contents c.loop-left.writer.inner) c.loop-left.block xs all)
    (joined_cut text labels es left step ns (omega (arith, c.loop-left-test.true)) (omega (arith, c.if-step-entries.true))) (c.loop-left.invariant.so ns)

pub returns-in_err-push_added-clause-so : goal.returns-in_err-push_added-clause-so
returns-in_err-push_added-clause-so g c = λ ns.
    let contents = g.W.Write.contents in
    let start = contents c.args.writer.now.inner in
    let held = c.args.block.now in
    let text = c.args.self.now.text.now in
    let labels = c.args.self.now.labels.now in
    let es = c.args.entries.now in
    let left = c.loop-left.left in
    let step = c.loop-left.step in
    let all = joined_from text labels es c.args.count c.args.from ns in
    let now = joined_from text labels es left step ns in
    let own = escape (added_text text (get_or es step (Leaf 0 0))) in
    let more = joined_from text labels es (left - 1) (step + 1) ns in
    let quote = codes "\"" in
    let after = left_from text labels es true step ns in
    next_stops_to c.from_residual.result start (contents c.loop-left.writer.inner) (contents c.push_added.new.writer.inner) held c.loop-left.block c.push_added.new.block (λ (next : ℕ). left_from text labels es true next ns)
    now own more all (search rules) (c.loop-left.invariant.so ns) (joined_next text labels es left step ns (Leaf 0 0) (omega (arith, c.loop-left-test.true)) (omega (arith, c.if-step-entries.false))) c.in_err-push_added.ensures.so

pub loop-left-preserved : goal.loop-left-preserved
loop-left-preserved g c = record {
  well = c.in_ok-push_added.ensures.failed;
  further = omega (arith, c.loop-left.invariant.further);
  so = λ ns.
      let contents = g.W.Write.contents in
      let start = contents c.args.writer.now.inner in
      let held = c.args.block.now in
      let text = c.args.self.now.text.now in
      let labels = c.args.self.now.labels.now in
      let es = c.args.entries.now in
      let left = c.loop-left.left in
      let step = c.loop-left.step in
      let all = joined_from text labels es c.args.count c.args.from ns in
      let now = joined_from text labels es left step ns in
      let own = escape (added_text text (get_or es step (Leaf 0 0))) in
      let more = joined_from text labels es (left - 1) (step + 1) ns in
      let quote = codes "\"" in
      let after = left_from text labels es true step ns in
      next_put start (contents c.loop-left.writer.inner) (contents c.push_added.new.writer.inner) held c.loop-left.block c.push_added.new.block now own more all (c.loop-left.invariant.so ns)
      (joined_next text labels es left step ns (Leaf 0 0) (omega (arith, c.loop-left-test.true)) (omega (arith, c.if-step-entries.false))) c.in_ok-push_added.ensures.so;
}

pub returns-in_err-push-clause-so : goal.returns-in_err-push-clause-so
returns-in_err-push-clause-so g c = λ ns.
    let contents = g.W.Write.contents in
    let start = contents c.args.writer.now.inner in
    let held = c.args.block.now in
    let text = c.args.self.now.text.now in
    let labels = c.args.self.now.labels.now in
    let es = c.args.entries.now in
    let left = c.loop-left.left in
    let step = c.loop-left.step in
    let all = joined_from text labels es c.args.count c.args.from ns in
    let now = joined_from text labels es left step ns in
    let own = escape (added_text text (get_or es step (Leaf 0 0))) in
    let more = joined_from text labels es (left - 1) (step + 1) ns in
    let quote = codes "\"" in
    let after = left_from text labels es true step ns in
    next_stops_to c.from_residual-in_err-push.result start (contents c.loop-left.writer.inner) (contents c.push.new.writer.inner) held c.loop-left.block c.push.new.self (λ (next : ℕ). left_from text labels es true next ns)
    now quote after all (search rules) (c.loop-left.invariant.so ns) (joined_last text labels es left step ns (omega (arith, c.loop-left-test.false))) c.in_err-push.ensures.so

pub returns-clause-so : goal.returns-clause-so
returns-clause-so g c = λ ns.
    let contents = g.W.Write.contents in
    let start = contents c.args.writer.now.inner in
    let held = c.args.block.now in
    let text = c.args.self.now.text.now in
    let labels = c.args.self.now.labels.now in
    let es = c.args.entries.now in
    let left = c.loop-left.left in
    let step = c.loop-left.step in
    let all = joined_from text labels es c.args.count c.args.from ns in
    let now = joined_from text labels es left step ns in
    let own = escape (added_text text (get_or es step (Leaf 0 0))) in
    let more = joined_from text labels es (left - 1) (step + 1) ns in
    let quote = codes "\"" in
    let after = left_from text labels es true step ns in
    next_put start (contents c.loop-left.writer.inner) (contents c.push.new.writer.inner) held c.loop-left.block c.push.new.self now quote after all (c.loop-left.invariant.so ns) (joined_last text labels es left step ns (omega (arith, c.loop-left-test.false))) c.in_ok-push.ensures.so
