use Rattle.std.proofs.Common.{◌≡◌, ◌++◌, codes, drop, map, string_bytes}
use Rattle.std.specs.List.{flat_map, join_by}
use Rattle.pg_sets_page.specs.SetsPage.{text_at}
use Rattle.pg_sets_page.proofs.page.push_joined.Given as goal

abbrev pub invariant-loop-number : goal.invariant-loop-number
invariant-loop-number l =
    l.page.items ++ flat_map (λ k. codes "; " ++ text_at (map string_bytes l.texts) k) (drop l.number-index l.rest)
    ≡ l.fn.page.items ++ join_by (text_at (map string_bytes l.texts)) (codes "; ") l.numbers
