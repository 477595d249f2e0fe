use Rattle.std.proofs.Common.{◌≡◌, ℕ, Some, slice_get, length}
use Rattle.pg_grammar_form.specs.declared.word_item.WordItem.{WordItem}
use Rattle.pg_sets_own.specs.OwnStarts.{IsClassOf}
use Rattle.pg_sets_own.specs.declared.words.WordClasses.{WordClasses}
use Rattle.pg_sets_own.proofs.words.classes_of_words.Given as goal

abbrev pub invariant-loop-item : goal.invariant-loop-item
invariant-loop-item l = record {
  long : length l.words.items ≡ l.item-index;
  heads : (w : ℕ) (item : WordItem) (word : WordClasses) → slice_get l.grammar.words w ≡ Some item → slice_get l.words.items w ≡ Some word → IsClassOf l.grammar item.head word.head;
  rests : (w : ℕ) (item : WordItem) (word : WordClasses) → slice_get l.grammar.words w ≡ Some item → slice_get l.words.items w ≡ Some word → IsClassOf l.grammar item.rest word.rest;
}
