use Rattle.std.proofs.Common.{◌≡◌, ◌++◌, ◌+◌, ℕ, true, codes, drop, get_or, ap, refl, rules}
use Rattle.json.specs.Print.{escape}
use Rattle.pg_tree_placed.specs.Written.{added_text, less}
use Rattle.pg_tree_placed.specs.Forward.{forward, way_text}
use Rattle.pg_tree_placed.specs.Writing.{joined_from, left_from}
use Rattle.pg_tree_placed.specs.declared.entry.Entry.TheVariants.{Leaf}
use Rattle.pg_tree_placed.specs.declared.note.Way.TheVariants.{Joined}
use Rattle.pg_tree_placed.proofs.Forwarding.{joined_first, less_one}
use Rattle.pg_tree_placed.proofs.Putting.{puts_none, next_put, next_stops_to, last_to}
use Rattle.pg_tree_placed.proofs.source.Source.push_joined.Goals as goal

pub returns-in_err-push-clause-so : goal.returns-in_err-push-clause-so
returns-in_err-push-clause-so g c = λ ns.
    let contents = g.W.Write.contents in
    let start = contents c.args.writer.now.inner in
    let held = c.args.block.now in
    let text = c.args.self.now.text.now in
    let labels = c.args.self.now.labels.now in
    let es = c.args.entries.now in
    let step = c.args.step in
    let e = get_or es step (Leaf 0 0) in
    let quote = codes "\"" in
    let own = escape (added_text text e) in
    let more = joined_from text labels es (less c.args.count) (step + 1) ns in
    let all = way_text text labels (Joined c.args.count) e ++ forward text labels true (less c.args.count) (step + 1) (drop (step + 1) es) ns in
    let whole = joined_first text labels es step ns e c.args.count in
    next_stops_to c.from_residual.result start start (contents c.push.new.writer.inner) held held c.push.new.self (λ (next : ℕ). left_from text labels es true next ns) all quote (own ++ more) all (search rules) (puts_none start held all) whole
    c.in_err-push.ensures.so

pub returns-in_err-push_added-clause-so : goal.returns-in_err-push_added-clause-so
returns-in_err-push_added-clause-so g c = λ ns.
    let contents = g.W.Write.contents in
    let start = contents c.args.writer.now.inner in
    let held = c.args.block.now in
    let text = c.args.self.now.text.now in
    let labels = c.args.self.now.labels.now in
    let es = c.args.entries.now in
    let step = c.args.step in
    let e = get_or es step (Leaf 0 0) in
    let quote = codes "\"" in
    let own = escape (added_text text e) in
    let more = joined_from text labels es (less c.args.count) (step + 1) ns in
    let all = way_text text labels (Joined c.args.count) e ++ forward text labels true (less c.args.count) (step + 1) (drop (step + 1) es) ns in
    let whole = joined_first text labels es step ns e c.args.count in
    let one = next_put start start (contents c.push.new.writer.inner) held held c.push.new.self all quote (own ++ more) all (puts_none start held all) whole c.in_ok-push.ensures.so in
    next_stops_to c.from_residual-in_err-push_added.result start (contents c.push.new.writer.inner) (contents c.push_added.new.writer.inner) held c.push.new.self c.push_added.new.block (λ (next : ℕ). left_from text labels es true next ns) (own ++ more) own more all
    (search rules) one refl c.in_err-push_added.ensures.so

pub returns-clause-so : goal.returns-clause-so
returns-clause-so g c = λ ns.
    let contents = g.W.Write.contents in
    let start = contents c.args.writer.now.inner in
    let held = c.args.block.now in
    let text = c.args.self.now.text.now in
    let labels = c.args.self.now.labels.now in
    let es = c.args.entries.now in
    let step = c.args.step in
    let e = get_or es step (Leaf 0 0) in
    let quote = codes "\"" in
    let own = escape (added_text text e) in
    let more = joined_from text labels es (less c.args.count) (step + 1) ns in
    let all = way_text text labels (Joined c.args.count) e ++ forward text labels true (less c.args.count) (step + 1) (drop (step + 1) es) ns in
    let whole = joined_first text labels es step ns e c.args.count in
    let one = next_put start start (contents c.push.new.writer.inner) held held c.push.new.self all quote (own ++ more) all (puts_none start held all) whole c.in_ok-push.ensures.so in
    let two = next_put start (contents c.push.new.writer.inner) (contents c.push_added.new.writer.inner) held c.push.new.self c.push_added.new.block (own ++ more) own more all one refl c.in_ok-push_added.ensures.so in
    let n = c.saturating_sub.result in
    let same : less c.args.count ≡ n = less_one c.args.count n c.saturating_sub.ensures in
    last_to c.push_rest.result start (contents c.push_added.new.writer.inner) (contents c.push_rest.new.writer.inner) held c.push_added.new.block c.push_rest.new.block (λ (next : ℕ). left_from text labels es true next ns) more (joined_from text labels es n (step + 1) ns) all
    two (ap (λ m. joined_from text labels es m (step + 1) ns) same) (c.push_rest.ensures.so ns)
