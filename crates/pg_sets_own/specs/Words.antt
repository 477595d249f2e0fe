-- Which word item's number a word start has.
use Rattle.std.specs.Prelude.{◌≡◌, ◌<◌, ℕ, List, Some, slice_get, length}
use Rattle.pg_class.specs.Ranges.{Range}
use Rattle.pg_grammar_classes.specs.Sets.{AreItemSets}
use Rattle.pg_grammar_value.specs.Grammar.{Grammar}
use Rattle.pg_grammar_form.specs.declared.word_item.WordItem.{WordItem}
use Rattle.pg_start.specs.declared.kind.StartKind.TheVariants.{Word}
use Rattle.pg_sets_own.specs.OwnStarts.{IsClassOf, ReadsWords}
use Rattle.pg_sets_own.specs.declared.listed.ListedStart.{ListedStart}
use Rattle.pg_sets_own.specs.declared.words.WordClasses.{WordClasses}

-- these are the classes of the class items
abbrev pub AreClassesOf : Grammar → List (List Range) → Type 0
AreClassesOf g classes = AreItemSets g.classes classes

-- these are the classes of the word items
pub record AreWordClasses (g : Grammar) (words : List WordClasses) : Type 0 where
  pub long : length words ≡ length g.words
  pub heads : (w : ℕ) (item : WordItem) (word : WordClasses) → slice_get g.words w ≡ Some item → slice_get words w ≡ Some word → IsClassOf g item.head word.head
  pub rests : (w : ℕ) (item : WordItem) (word : WordClasses) → slice_get g.words w ≡ Some item → slice_get words w ≡ Some word → IsClassOf g item.rest word.rest

-- the start of these words, listed under the first word item that reads them
pub data ListsWords (g : Grammar) (heads rest : List Range) (texts : List (List ℕ)) : ListedStart → Type 0 where
  item : {w : ℕ} (reads : ReadsWords g heads rest texts w) → ((v : ℕ) → v < w → ReadsWords g heads rest texts v → ⊥)
      → ListsWords g heads rest texts (record { start = Word heads rest reads.item.reserved; word = w })
  no_item : ((v : ℕ) → ReadsWords g heads rest texts v → ⊥) → ListsWords g heads rest texts (record { start = Word heads rest texts; word = length g.words })
