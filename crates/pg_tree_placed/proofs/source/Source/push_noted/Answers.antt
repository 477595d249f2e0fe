use Rattle.std.proofs.Common.{◌++◌, ◌+◌, ◌∷◌, ℕ, List, Bool, true, drop, get_or, rules, subst, sym}
use Rattle.pg_tree.specs.Written.{braces}
use Rattle.pg_tree_placed.specs.Written.{comma, less}
use Rattle.pg_tree_placed.specs.Forward.{forward, has_ended, step_text, way_text}
use Rattle.pg_tree_placed.specs.Writing.{Puts, left_from}
use Rattle.pg_tree_placed.specs.declared.entry.Entry.TheVariants.{Leaf}
use Rattle.pg_tree_placed.specs.declared.note.Way.TheVariants.{Shown, Lifted, Joined}
use Rattle.pg_tree_placed.proofs.Forwarding.{shown_noted, lifted_noted, joined_noted}
use Rattle.pg_tree_placed.proofs.Putting.{puts_none, puts_both, next_put, next_stops_to, puts_stopped, stopped_to}
use Rattle.pg_tree_placed.proofs.source.Source.push_noted.Goals as goal

pub returns-in_err-push_begun-in-Shown-clause-so : goal.returns-in_err-push_begun-in-Shown-clause-so
returns-in_err-push_begun-in-Shown-clause-so g c = λ ns is.
    let contents = g.W.Write.contents in
    let start = contents c.args.writer.now.inner in
    let held = c.args.block.now in
    let text = c.args.self.now.text.now in
    let labels = c.args.self.now.labels.now in
    let es = c.args.entries.now in
    let step = c.args.step in
    let note = c.args.note in
    let e = get_or es step (Leaf 0 0) in
    let ended = c.args.ended in
    let all = left_from text labels es ended step (note ∷ ns) in
    let left : ℕ × Bool → List ℕ = λ z. left_from text labels es z.1 z.0 ns in
    let own = step_text text labels ended note.begins Shown e in
    let rest = left_from text labels es true (step + 1) ns in
    let whole = shown_noted text labels es ended step note ns (Leaf 0 0) c.requires.within is c.in-Shown.is in
    next_stops_to c.from_residual.result start start (contents c.push_begun.new.writer.inner) held held c.push_begun.new.block left all own rest all (search rules) (puts_none start held all) whole
    c.in_err-push_begun-in-Shown.ensures.so

pub returns-in_ok-push_begun-in-Shown-clause-so : goal.returns-in_ok-push_begun-in-Shown-clause-so
returns-in_ok-push_begun-in-Shown-clause-so g c = λ ns is.
    let contents = g.W.Write.contents in
    let start = contents c.args.writer.now.inner in
    let held = c.args.block.now in
    let text = c.args.self.now.text.now in
    let labels = c.args.self.now.labels.now in
    let es = c.args.entries.now in
    let step = c.args.step in
    let note = c.args.note in
    let e = get_or es step (Leaf 0 0) in
    let ended = c.args.ended in
    let all = left_from text labels es ended step (note ∷ ns) in
    let left : ℕ × Bool → List ℕ = λ z. left_from text labels es z.1 z.0 ns in
    let own = step_text text labels ended note.begins Shown e in
    let rest = left_from text labels es true (step + 1) ns in
    let whole = shown_noted text labels es ended step note ns (Leaf 0 0) c.requires.within is c.in-Shown.is in
    next_put start start (contents c.push_begun.new.writer.inner) held held c.push_begun.new.block all own rest all (puts_none start held all) whole c.in_ok-push_begun-in-Shown.ensures.so

pub returns-in_err-push_begun-in-Lifted-clause-so : goal.returns-in_err-push_begun-in-Lifted-clause-so
returns-in_err-push_begun-in-Lifted-clause-so g c = λ ns is.
    let contents = g.W.Write.contents in
    let start = contents c.args.writer.now.inner in
    let held = c.args.block.now in
    let text = c.args.self.now.text.now in
    let labels = c.args.self.now.labels.now in
    let es = c.args.entries.now in
    let step = c.args.step in
    let note = c.args.note in
    let e = get_or es step (Leaf 0 0) in
    let ended = c.args.ended in
    let all = left_from text labels es ended step (note ∷ ns) in
    let left : ℕ × Bool → List ℕ = λ z. left_from text labels es z.1 z.0 ns in
    let own = step_text text labels ended note.begins Lifted e in
    let rest = left_from text labels es (has_ended ended note.begins Lifted e) (step + 1) ns in
    let whole = lifted_noted text labels es ended step note ns (Leaf 0 0) c.requires.within is c.in-Lifted.is in
    next_stops_to c.from_residual-in_err-push_begun-in-Lifted.result start start (contents c.push_begun-in-Lifted.new.writer.inner) held held c.push_begun-in-Lifted.new.block left all own rest all (search rules) (puts_none start held all) whole
    c.in_err-push_begun-in-Lifted.ensures.so

pub returns-in_ok-push_begun-in-Lifted-clause-so : goal.returns-in_ok-push_begun-in-Lifted-clause-so
returns-in_ok-push_begun-in-Lifted-clause-so g c = λ ns is.
    let contents = g.W.Write.contents in
    let start = contents c.args.writer.now.inner in
    let held = c.args.block.now in
    let text = c.args.self.now.text.now in
    let labels = c.args.self.now.labels.now in
    let es = c.args.entries.now in
    let step = c.args.step in
    let note = c.args.note in
    let e = get_or es step (Leaf 0 0) in
    let ended = c.args.ended in
    let all = left_from text labels es ended step (note ∷ ns) in
    let left : ℕ × Bool → List ℕ = λ z. left_from text labels es z.1 z.0 ns in
    let own = step_text text labels ended note.begins Lifted e in
    let rest = left_from text labels es (has_ended ended note.begins Lifted e) (step + 1) ns in
    let whole = lifted_noted text labels es ended step note ns (Leaf 0 0) c.requires.within is c.in-Lifted.is in
    subst (λ (b : Bool). Puts start held (contents c.push_begun-in-Lifted.new.writer.inner) c.push_begun-in-Lifted.new.block (left_from text labels es b (step + 1) ns) all) (sym c.still_ended.ensures)
    (next_put start start (contents c.push_begun-in-Lifted.new.writer.inner) held held c.push_begun-in-Lifted.new.block all own rest all (puts_none start held all) whole c.in_ok-push_begun-in-Lifted.ensures.so)

pub returns-in_err-push_openings-in-Joined-clause-so : goal.returns-in_err-push_openings-in-Joined-clause-so
returns-in_err-push_openings-in-Joined-clause-so g c = λ ns is.
    let contents = g.W.Write.contents in
    let start = contents c.args.writer.now.inner in
    let held = c.args.block.now in
    let text = c.args.self.now.text.now in
    let labels = c.args.self.now.labels.now in
    let es = c.args.entries.now in
    let step = c.args.step in
    let note = c.args.note in
    let e = get_or es step (Leaf 0 0) in
    let ended = c.args.ended in
    let all = left_from text labels es ended step (note ∷ ns) in
    let left : ℕ × Bool → List ℕ = λ z. left_from text labels es z.1 z.0 ns in
    let count = c.in-Joined.count in
    let own = comma ended ++ braces note.begins in
    let rest = way_text text labels (Joined count) e ++ forward text labels true (less count) (step + 1) (drop (step + 1) es) ns in
    let whole = joined_noted text labels es ended step note ns (Leaf 0 0) count c.requires.within is c.in-Joined.is in
    next_stops_to c.from_residual-in_err-push_openings-in-Joined.result start start (contents c.push_openings.new.writer.inner) held held c.push_openings.new.block left all own rest all (search rules) (puts_none start held all) whole
    c.in_err-push_openings-in-Joined.ensures.so

pub returns-in_err-next-in-Joined-clause-so : goal.returns-in_err-next-in-Joined-clause-so
returns-in_err-next-in-Joined-clause-so g c = λ ns is.
    let contents = g.W.Write.contents in
    let start = contents c.args.writer.now.inner in
    let held = c.args.block.now in
    let text = c.args.self.now.text.now in
    let labels = c.args.self.now.labels.now in
    let es = c.args.entries.now in
    let step = c.args.step in
    let note = c.args.note in
    let e = get_or es step (Leaf 0 0) in
    let ended = c.args.ended in
    let all = left_from text labels es ended step (note ∷ ns) in
    let left : ℕ × Bool → List ℕ = λ z. left_from text labels es z.1 z.0 ns in
    let count = c.in-Joined.count in
    let own = comma ended ++ braces note.begins in
    let rest = way_text text labels (Joined count) e ++ forward text labels true (less count) (step + 1) (drop (step + 1) es) ns in
    let whole = joined_noted text labels es ended step note ns (Leaf 0 0) count c.requires.within is c.in-Joined.is in
    let one = next_put start start (contents c.push_openings.new.writer.inner) held held c.push_openings.new.block all own rest all (puts_none start held all) whole c.in_ok-push_openings-in-Joined.ensures.so in
    stopped_to c.from_residual-in_err-next-in-Joined.result start (contents c.push_joined.new.writer.inner) held c.push_joined.new.block left all (search rules)
    (puts_stopped start (contents c.push_openings.new.writer.inner) (contents c.push_joined.new.writer.inner) held c.push_openings.new.block rest all one (c.in_err-next-in-Joined.ensures.so ns))

pub returns-in_ok-next-in-Joined-clause-so : goal.returns-in_ok-next-in-Joined-clause-so
returns-in_ok-next-in-Joined-clause-so g c = λ ns is.
    let contents = g.W.Write.contents in
    let start = contents c.args.writer.now.inner in
    let held = c.args.block.now in
    let text = c.args.self.now.text.now in
    let labels = c.args.self.now.labels.now in
    let es = c.args.entries.now in
    let step = c.args.step in
    let note = c.args.note in
    let e = get_or es step (Leaf 0 0) in
    let ended = c.args.ended in
    let all = left_from text labels es ended step (note ∷ ns) in
    let left : ℕ × Bool → List ℕ = λ z. left_from text labels es z.1 z.0 ns in
    let count = c.in-Joined.count in
    let own = comma ended ++ braces note.begins in
    let rest = way_text text labels (Joined count) e ++ forward text labels true (less count) (step + 1) (drop (step + 1) es) ns in
    let whole = joined_noted text labels es ended step note ns (Leaf 0 0) count c.requires.within is c.in-Joined.is in
    let one = next_put start start (contents c.push_openings.new.writer.inner) held held c.push_openings.new.block all own rest all (puts_none start held all) whole c.in_ok-push_openings-in-Joined.ensures.so in
    puts_both start (contents c.push_openings.new.writer.inner) (contents c.push_joined.new.writer.inner) held c.push_openings.new.block c.push_joined.new.block rest (left_from text labels es true c.in_ok-next-in-Joined.next ns) all
    one (c.in_ok-next-in-Joined.ensures.so ns)
