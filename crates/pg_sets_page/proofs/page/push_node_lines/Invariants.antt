use Rattle.std.proofs.Common.{◌≡◌, ◌++◌, ◌-◌, ◌≤◌, map, string_bytes}
use Rattle.std.specs.List.{flat_map, range_with_len}
use Rattle.pg_sets_page.specs.SetsPage.{node_line, node_lines}
use Rattle.pg_sets_page.proofs.page.push_node_lines.Given as goal

abbrev pub invariant-loop-node : goal.invariant-loop-node
invariant-loop-node l =
    (l.body ≤ l.node) ×
    (l.page.items ++ flat_map (node_line l.content.grammar.now (map string_bytes l.content.starts.now) l.content.sets.now l.body) (range_with_len l.node (l.end - l.node))
    ≡ l.fn.page.items ++ node_lines l.content.grammar.now (map string_bytes l.content.starts.now) l.content.sets.now l.body l.end)
