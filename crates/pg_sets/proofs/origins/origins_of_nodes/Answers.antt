use Rattle.std.proofs.Common.{◌≡◌, ◌<◌, ◌+◌, get_or, is_some, not, length, refl, sym, ap, subst, ◌∙◌, arith}
use Rattle.std.proofs.lemmas.Option.{slice_get_read}
use Rattle.pg_sets.specs.Origins.{AreMixedOrigins}
use Rattle.pg_sets.proofs.Mixed.{other_node_more, word_node_more, all_nodes}
use Rattle.pg_sets.proofs.origins.origins_of_nodes.Goals as goal
use Rattle.pg_sets.proofs.origins.origins_of_nodes.Goals.{then-is_none+in_ok-add_node, else-is_none}

pub loop-number-preserved : goal.loop-number-preserved
loop-number-preserved c =
    let g = c.args.grammar.now in
    let k = c.loop-number.number in
    let nodes = c.nodes-node-items.ensures.all in
    let node = c.node-item.result in
    let counted = ap length nodes in
    let inside : k < length g.nodes = omega arith in
    let at = slice_get_read g.nodes (length g.nodes) k node refl inside (c.node-item.is ∙ ap (λ ns. get_or ns k node) nodes) in
    elim c.if-is_none.branch [
      | then-is_none+in_ok-add_node w ↦
          let added = w.in_ok-add_node.ensures in
          subst (AreMixedOrigins g (k + 1)) (sym w.origins-is) (other_node_more g k node c.loop-number.origins w.add_node.new.origins at c.loop-number.invariant added.held added.there added.plain)
      | else-is_none w ↦
          subst (AreMixedOrigins g (k + 1)) (sym w.origins-is)
          (word_node_more g k node c.loop-number.origins c.args.words.now at (ap is_some (sym c.item_read.ensures) ∙ (c.is_none.ensures ∙ ap not w.if-is_none.false)) c.requires.words c.loop-number.invariant)
    ]

pub returns : goal.returns
returns c =
    let g = c.args.grammar.now in
    let counted = ap length c.nodes-node-items.ensures.all in
    let ended : c.loop-number.number ≡ length g.nodes = omega arith in
    all_nodes g c.loop-number.origins (subst (λ n. AreMixedOrigins g n c.loop-number.origins) ended c.loop-number.invariant)
