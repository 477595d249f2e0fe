use Rattle.std.proofs.Common.{◌∙◌, ◌++◌, ℕ, List, ap, map, string_bytes, arith, append_assoc}
use Rattle.pg_sets_page.specs.SetsPage.{place_text, sets_text, node_line}
use Rattle.pg_sets_page.proofs.Ranges.{range_pushed}
use Rattle.pg_sets_page.proofs.page.push_node_lines.Goals as goal

pub loop-node-preserved : goal.loop-node-preserved
loop-node-preserved c =
    let g = c.args.content.now.grammar.now in
    let starts = map string_bytes c.args.content.now.starts.now in
    let sets = c.args.content.now.sets.now in
    let node = c.loop-node.node in
    let page = c.loop-node.page.items in
    let placed = c.in_ok-push_place.ensures in
    let given = c.in_ok-push_sets.ensures in
    let here = ap (λ (n : ℕ). c.push_place.new.page.items ++ sets_text starts sets n) c.new.ensures in
    let after = ap (λ (p : List ℕ). p ++ sets_text starts sets node) placed in
    let joined = append_assoc page (place_text g c.args.body node) (sets_text starts sets node) in (
      omega arith,
      range_pushed (node_line g starts sets c.args.body) page c.push_sets.new.page.items _ node c.args.end c.loop-node-test.true
          (given ∙ here ∙ after ∙ joined) c.loop-node.invariant.1,
    )
