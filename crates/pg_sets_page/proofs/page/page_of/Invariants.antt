use Rattle.std.proofs.Common.{◌≡◌, ◌++◌, ◌-◌, ◌≤◌, length, map, string_bytes}
use Rattle.std.specs.List.{flat_map, range_with_len}
use Rattle.pg_sets_page.specs.SetsPage.{rule_text, page_text}
use Rattle.pg_sets_page.proofs.page.page_of.Given as goal

abbrev pub invariant-loop-rule : goal.invariant-loop-rule
invariant-loop-rule l =
    (l.rule ≤ length l.content.grammar.now.rules) ×
    (l.page.items ++ flat_map (rule_text l.content.grammar.now (map string_bytes l.content.names.now) (map string_bytes l.content.starts.now) l.content.sets.now) (range_with_len l.rule (length l.content.grammar.now.rules - l.rule))
    ≡ page_text l.content.grammar.now (map string_bytes l.content.names.now) (map string_bytes l.content.starts.now) l.content.sets.now)
