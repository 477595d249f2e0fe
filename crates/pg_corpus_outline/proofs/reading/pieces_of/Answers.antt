use Rattle.std.proofs.Common.{◌≡◌, false, rules}
use Rattle.pg_corpus_outline.proofs.Steps.{all_read}
use Rattle.pg_corpus_outline.proofs.reading.pieces_of.Goals as goal

pub returns : goal.returns
returns c =
    let off : c.in_ok-go_on.field-0 ≡ false = search rules in
    let ended = c.in_ok-go_on.ensures.ends off in
    all_read (record { entries = c.entries-2.result; pieces = c.new.result; opened = c.new-2.result }) c.go_on.new.self c.args.forest.now c.reverse.new.self.items
    c.entries-2.ensures c.new-2.ensures.items c.new.ensures.items (λ all h. c.in_ok-go_on.ensures.reads all (c.entries.invariant all h)) ended.0 ended.1 c.reverse.ensures.items
