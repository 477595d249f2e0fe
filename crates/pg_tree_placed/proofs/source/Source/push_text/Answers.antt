use Rattle.std.proofs.Common.{◌++◌, [], false, codes, refl}
use Rattle.std.specs.Prelude.{reverse}
use Rattle.std.proofs.lemmas.Result.{on_ok_weaker, on_err_weaker}
use Rattle.pg_tree_placed.specs.Forward.{forward, noted_text}
use Rattle.pg_tree_placed.proofs.Putting.{puts_none, next_put, next_stopped, none_held, all_sent, part_sent, on_err}
use Rattle.pg_tree_placed.proofs.source.Source.push_text.Goals as goal

pub returns-in_err-push-clause-prefix : goal.returns-in_err-push-clause-prefix
returns-in_err-push-clause-prefix g c =
    let contents = g.W.Write.contents in
    let start = contents c.args.writer.now.inner in
    let held = c.args.block.now in
    let text = c.args.self.now.text.now in
    let labels = c.args.self.now.labels.now in
    let es = c.args.entries.now in
    let notes = c.args.notes.now in
    let inner = forward text labels false 0 0 es (reverse notes) in
    let all = noted_text text labels es notes in
    on_err c.from_residual.result _ (none_held start (contents c.push.new.writer.inner) held all c.requires.empty
    (next_stopped start start (contents c.push.new.writer.inner) held held all (codes "[") (inner ++ codes "]") all (puts_none start held all) refl c.in_err-push.ensures.so))

pub returns-in_err-push_steps-clause-prefix : goal.returns-in_err-push_steps-clause-prefix
returns-in_err-push_steps-clause-prefix g c =
    let contents = g.W.Write.contents in
    let start = contents c.args.writer.now.inner in
    let held = c.args.block.now in
    let text = c.args.self.now.text.now in
    let labels = c.args.self.now.labels.now in
    let es = c.args.entries.now in
    let notes = c.args.notes.now in
    let inner = forward text labels false 0 0 es (reverse notes) in
    let all = noted_text text labels es notes in
    let one = next_put start start (contents c.push.new.writer.inner) held held c.push.new.self all (codes "[") (inner ++ codes "]") all (puts_none start held all) refl c.in_ok-push.ensures.so in
    on_err c.from_residual-in_err-push_steps.result _ (none_held start (contents c.push_steps.new.writer.inner) held all c.requires.empty
    (next_stopped start (contents c.push.new.writer.inner) (contents c.push_steps.new.writer.inner) held c.push.new.self (inner ++ codes "]") inner (codes "]") all one refl c.in_err-push_steps.ensures.so))

pub returns-in_err-push-2-clause-prefix : goal.returns-in_err-push-2-clause-prefix
returns-in_err-push-2-clause-prefix g c =
    let contents = g.W.Write.contents in
    let start = contents c.args.writer.now.inner in
    let held = c.args.block.now in
    let text = c.args.self.now.text.now in
    let labels = c.args.self.now.labels.now in
    let es = c.args.entries.now in
    let notes = c.args.notes.now in
    let inner = forward text labels false 0 0 es (reverse notes) in
    let all = noted_text text labels es notes in
    let one = next_put start start (contents c.push.new.writer.inner) held held c.push.new.self all (codes "[") (inner ++ codes "]") all (puts_none start held all) refl c.in_ok-push.ensures.so in
    let two = next_put start (contents c.push.new.writer.inner) (contents c.push_steps.new.writer.inner) held c.push.new.self c.push_steps.new.block (inner ++ codes "]") inner (codes "]") all one refl c.in_ok-push_steps.ensures.so in
    on_err c.from_residual-in_err-push-2.result _ (none_held start (contents c.push-2.new.writer.inner) held all c.requires.empty
    (next_stopped start (contents c.push_steps.new.writer.inner) (contents c.push-2.new.writer.inner) held c.push_steps.new.block (codes "]") (codes "]") [] all two refl c.in_err-push-2.ensures.so))

pub returns-clause-ok : goal.returns-clause-ok
returns-clause-ok g c =
    let contents = g.W.Write.contents in
    let start = contents c.args.writer.now.inner in
    let held = c.args.block.now in
    let text = c.args.self.now.text.now in
    let labels = c.args.self.now.labels.now in
    let es = c.args.entries.now in
    let notes = c.args.notes.now in
    let inner = forward text labels false 0 0 es (reverse notes) in
    let all = noted_text text labels es notes in
    let one = next_put start start (contents c.push.new.writer.inner) held held c.push.new.self all (codes "[") (inner ++ codes "]") all (puts_none start held all) refl c.in_ok-push.ensures.so in
    let two = next_put start (contents c.push.new.writer.inner) (contents c.push_steps.new.writer.inner) held c.push.new.self c.push_steps.new.block (inner ++ codes "]") inner (codes "]") all one refl c.in_ok-push_steps.ensures.so in
    let three = next_put start (contents c.push_steps.new.writer.inner) (contents c.push-2.new.writer.inner) held c.push_steps.new.block c.push-2.new.self (codes "]") (codes "]") [] all two refl c.in_ok-push-2.ensures.so in
    on_ok_weaker c.flush.result (all_sent start (contents c.push-2.new.writer.inner) (contents c.flush.new.writer.inner) held c.push-2.new.self all c.requires.empty three) c.flush.ensures.ok

pub returns-clause-prefix : goal.returns-clause-prefix
returns-clause-prefix g c =
    let contents = g.W.Write.contents in
    let start = contents c.args.writer.now.inner in
    let held = c.args.block.now in
    let text = c.args.self.now.text.now in
    let labels = c.args.self.now.labels.now in
    let es = c.args.entries.now in
    let notes = c.args.notes.now in
    let inner = forward text labels false 0 0 es (reverse notes) in
    let all = noted_text text labels es notes in
    let one = next_put start start (contents c.push.new.writer.inner) held held c.push.new.self all (codes "[") (inner ++ codes "]") all (puts_none start held all) refl c.in_ok-push.ensures.so in
    let two = next_put start (contents c.push.new.writer.inner) (contents c.push_steps.new.writer.inner) held c.push.new.self c.push_steps.new.block (inner ++ codes "]") inner (codes "]") all one refl c.in_ok-push_steps.ensures.so in
    let three = next_put start (contents c.push_steps.new.writer.inner) (contents c.push-2.new.writer.inner) held c.push_steps.new.block c.push-2.new.self (codes "]") (codes "]") [] all two refl c.in_ok-push-2.ensures.so in
    on_err_weaker c.flush.result (part_sent start (contents c.push-2.new.writer.inner) (contents c.flush.new.writer.inner) held c.push-2.new.self all c.requires.empty three) c.flush.ensures.prefix
