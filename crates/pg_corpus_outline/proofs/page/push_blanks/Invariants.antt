use Rattle.std.proofs.Common.{◌≡◌, ◌≤◌, ◌*◌, ◌-◌, ◌++◌}
use Rattle.std.specs.Prelude.{replicate}
use Rattle.pg_corpus_outline.proofs.page.push_blanks.Given as goal

abbrev pub invariant-loop-level : goal.invariant-loop-level
invariant-loop-level l = record {
  within : l.level ≤ l.levels;
  so_far : l.page.items ≡ l.initial.page.items ++ replicate (2 * l.level) 32;
}

abbrev pub decreases-loop-level : goal.decreases-loop-level
decreases-loop-level l = l.levels - l.level
