-- A loaded grammar file: the text and its parts, its grammar, and the result of the check.
use Rattle.std.specs.Prelude.{◌≡◌, ℕ, List, length}
use Rattle.std.specs.Str.{chars}
use Rattle.pg_pred.specs.Offer.{Offer}
use Rattle.pg_grammar_value.specs.Fits.{Fits}
use Rattle.pg_grammar_value.specs.Grammar.{Grammar}
use Rattle.pg_table.specs.Tables.{initial, whole}
use Rattle.pg_file_making.specs.Spells.{SpellsWithinLimits}
use Rattle.pg_predict.specs.Checked.{IsChecked}
use Rattle.pg_predict.specs.Refusals.{IsRefused}
use Rattle.pg_file.specs.Syntax.{IsSyntaxOf}
use Rattle.pg_bench_grammar.specs.declared.loaded.Judgement.{Judgement}
use Rattle.pg_bench_grammar.specs.declared.loaded.Judgement.TheVariants.{Accepted, Refused}
use Rattle.pg_bench_grammar.specs.declared.loaded.LoadedFile.{LoadedFile}

-- the grammar that was judged
abbrev pub judged_grammar : Judgement → Grammar
judged_grammar (Accepted checked) = checked.grammar
judged_grammar (Refused refused) = refused.grammar

-- the grammar has no findings, or all its findings are known
abbrev pub IsJudgement : Judgement → Type 0
IsJudgement (Accepted checked) = IsChecked checked
IsJudgement (Refused refused) = IsRefused refused.grammar refused

-- the file spells the grammar that was judged, the offer fits that grammar, and the other fields belong to the file or the grammar
pub record IsLoadedFrom (offer : Offer) (file : List ℕ) (loaded : LoadedFile) : Type 0 where
  pub spelled : SpellsWithinLimits offer file (judged_grammar loaded.judgement)
  pub fits : Fits offer (judged_grammar loaded.judgement)
  pub judged : IsJudgement loaded.judgement
  pub characters_are : loaded.characters.items ≡ chars file
  pub syntax_is : IsSyntaxOf (chars file) loaded.syntax.lexemes.items loaded.syntax.items.items
  pub spans_are : length loaded.spans.items ≡ length (judged_grammar loaded.judgement).nodes
  pub table_is : initial (judged_grammar loaded.judgement) ≡ whole loaded.table
