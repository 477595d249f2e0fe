use Rattle.std.proofs.Common.{◌≡◌, ◌∷◌, [], ◌<◌, ◌+◌, get_or, length, refl, sym, ap, subst, ◌∙◌, arith}
use Rattle.std.proofs.lemmas.Option.{slice_get_read}
use Rattle.std.proofs.lemmas.Grind.{common_steps}
use Rattle.pg_graph.specs.Graphs.{joined}
use Rattle.pg_graph.proofs.Joining.{each_length}
use Rattle.pg_sets.specs.Origins.{AreReaders}
use Rattle.pg_sets.proofs.Mixed.{no_reader, reader_joined}
use Rattle.pg_sets.proofs.readers.readers_of_words.Goals as goal
use Rattle.pg_sets.proofs.readers.readers_of_words.Goals.{in-Some+in_ok-join, in_default}

pub loop-number-preserved : goal.loop-number-preserved
loop-number-preserved c =
    let g = c.args.grammar.now in
    let k = c.loop-number.number in
    let nodes = c.nodes-node-items.ensures.all in
    let node = c.node-item.result in
    let counted = ap length nodes in
    let inside : k < length g.nodes = omega arith in
    let at = slice_get_read g.nodes (length g.nodes) k node refl inside (c.node-item.is ∙ ap (λ ns. get_or ns k node) nodes) in
    let lists = c.loop-number.readers.items in
    elim c.match-item_read.branch [
      | in-Some+in_ok-join w ↦
          let more : w.join.new.lists ≡ joined lists w.in-Some.item k = w.in_ok-join.ensures ∙ ap (λ ls. joined ls w.in-Some.item k) w.deref_mut.ensures.value in
          let long : length w.join.new.lists ≡ length lists = ap length more ∙ each_length lists (w.in-Some.item ∷ []) k in
          let all : c.match-item_read.readers.items ≡ w.join.new.lists = grind (arith, common_steps, w.readers-is, long) in
          subst (AreReaders g (k + 1)) (sym all) (subst (AreReaders g (k + 1)) (sym more) (reader_joined g k node w.in-Some.item lists at (sym c.item_read.ensures ∙ w.in-Some.is) c.loop-number.invariant))
      | in_default w ↦
          subst (λ r. AreReaders g (k + 1) r.items) (sym w.readers-is) (no_reader g k node lists at (λ item is. w.in_default.not-Some item (c.item_read.ensures ∙ is)) c.loop-number.invariant)
    ]
