use Rattle.std.proofs.Common.{◌<◌, ◌≤◌, ◌-◌, ℕ, length}
use Rattle.pg_sets_own.specs.OwnStarts.{ReadsWords}
use Rattle.pg_sets_own.proofs.words.first_reader.Given as goal

abbrev pub invariant-loop-word : goal.invariant-loop-word
invariant-loop-word l = record {
  none_before : (v : ℕ) → v < l.word → ReadsWords l.grammar l.head l.rest l.reserved v → ⊥;
  bound : l.word ≤ length l.grammar.words;
}

abbrev pub decreases-loop-word : goal.decreases-loop-word
decreases-loop-word l = length l.items - l.word
