-- What the lines of findings are made from, and the places in them.
use Rattle.std.specs.Prelude.{◌≡◌, ℕ, List, [], ◌∷◌, ◌++◌, map, slice_get, string_bytes}
use Rattle.std.specs.List.{flat_map}
use Rattle.std.specs.Option.{option_map_or}
use Rattle.pg_grammar_value.specs.Grammar.{Grammar, IsGrammar}
use Rattle.pg_grammar_value.specs.declared.grammar.Rule.{Rule}
use Rattle.pg_sets_own.specs.PrintedStarts.{start_text}
use Rattle.pg_predict_conditions.specs.Violations.{Violation}
use Rattle.pg_predict_conditions.specs.WithStarts.{Starts}
use Rattle.pg_predict.specs.Findings.{rule_of, number_in_rule, name_text, placed_text, kind_text}
use Rattle.pg_predict_conditions.specs.Judged.{all_starts}
use Rattle.pg_predict_conditions.specs.Conditions.{least_facts}
use Rattle.pg_predict_conditions.specs.Shown.{AreFacts}
use Rattle.pg_predict.specs.declared.places.Place.{Place}
use Rattle.pg_predict.specs.declared.texts.Texts.{Texts}
use Rattle.pg_predict.specs.declared.source.Source.{Source}

-- a node and where it stands
abbrev pub place_at : List Rule → ℕ → Place
place_at rules p = record { node = p; rule = rule_of rules p; number = number_in_rule rules p }

-- ---- the texts

-- the name of a rule, and the text of the start with this number
abbrev pub name_at : Texts → ℕ → List ℕ
name_at texts r = option_map_or string_bytes (slice_get texts.names.items r) []

abbrev pub start_text_at : Texts → ℕ → List ℕ
start_text_at texts s = option_map_or string_bytes (slice_get texts.listed.items s) (string_bytes texts.own)

-- the texts are the names of a grammar's rules and the printed forms of its starts
pub record AreTexts (g : Grammar) (starts : Starts) (texts : Texts) : Type 0 where
  pub names : map string_bytes texts.names.items ≡ map name_text g.rules
  pub listed : map string_bytes texts.listed.items ≡ map (start_text g) starts.listed
  pub own : string_bytes texts.own ≡ start_text g starts.own

-- ---- the lines

-- a grammar with its facts and texts
pub record IsSource (source : Source) : Type 0 where
  pub grammar : IsGrammar source.grammar
  pub facts : AreFacts source.grammar (least_facts source.grammar) source.judge
  pub texts : AreTexts source.grammar (all_starts source.judge) source.texts
