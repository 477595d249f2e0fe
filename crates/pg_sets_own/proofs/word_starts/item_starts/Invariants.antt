use Rattle.std.proofs.Common.{◌≡◌, ◌≤◌, ◌-◌, ◌∷◌, [], ℕ, Some, slice_get, length}
use Rattle.pg_grammar_form.specs.declared.form.Form.TheVariants as form
use Rattle.pg_grammar_form.specs.declared.form.Leaf.TheVariants as leaf
use Rattle.pg_sets_own.specs.Own.{AreOwn}
use Rattle.pg_sets_own.specs.declared.listed.ListedStart.{ListedStart}
use Rattle.pg_sets_own.proofs.word_starts.item_starts.Given as goal

abbrev pub invariant-loop-number : goal.invariant-loop-number
invariant-loop-number l = record {
  long : length l.starts.items ≡ l.number;
  bound : l.number ≤ length l.grammar.words;
  each : (w : ℕ) (listed : ListedStart) → slice_get l.starts.items w ≡ Some listed → AreOwn l.grammar (form.Leaf (leaf.Word w)) (listed ∷ []);
}

abbrev pub decreases-loop-number : goal.decreases-loop-number
decreases-loop-number l = length l.items - l.number
