use Rattle.std.proofs.Common.{◌≡◌, true, List, ℕ, ap, ◌∙◌, subst, rules}
use Rattle.std.specs.Str.{IsTrimAscii}
use Rattle.pg_corpus.specs.Lines.{begins_case, without_feed}
use Rattle.pg_corpus.proofs.heading.read_heading.Goals as goal

pub returns-in-Ok : goal.returns-in-Ok
returns-in-Ok c =
    let marked : begins_case c.args.line.now ≡ true = search rules in
    record {
      label = c.trim_ascii-label.result.now;
      marked = marked;
      sized = c.equals-size.ensures.value;
      labelled = subst (λ (l : List ℕ). IsTrimAscii l c.trim_ascii-label.result.now) (c.without_feed.ensures ∙ ap without_feed c.behind.ensures) c.trim_ascii-label.ensures.value;
      reads = c.in-Ok.ensures.reads;
      has_name = c.in-Ok.ensures.named;
    }
