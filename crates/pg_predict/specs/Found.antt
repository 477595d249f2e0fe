-- Findings as values.
use Rattle.std.specs.Prelude.{◌≡◌, ℕ, List, map}
use Rattle.std.specs.List.{flat_map}
use Rattle.pg_grammar_form.specs.Forms.{Node}
use Rattle.pg_predict_conditions.specs.Judged.{all_starts}
use Rattle.pg_predict_conditions.specs.Violations.{Violation}
use Rattle.pg_predict_conditions.specs.WithStarts.{with_starts}
use Rattle.pg_predict_conditions.specs.declared.violation.ViolationKind.{ViolationKind}
use Rattle.pg_predict.specs.Findings.{Finding, finding_of, line_of}
use Rattle.pg_predict.specs.Rest.{rest_at, rest_of}
use Rattle.pg_predict.specs.Texts.{IsSource, place_at}
use Rattle.pg_predict.specs.declared.asking.Asking.{Asking}
use Rattle.pg_predict.specs.declared.places.Place.{Place}
use Rattle.pg_predict.specs.declared.source.Source.{Source}
use Rattle.pg_predict.specs.declared.way.Way.{Way}

-- what is wrong at a node, with starts by their numbers, and its finding
pub record Found : Type 0 where
  pub violation : Violation ℕ
  pub finding : Finding

-- the value of a violation
abbrev pub found_by : Source → Violation ℕ → Found
found_by source v = record { violation = v; finding = finding_of source.grammar (with_starts (all_starts source.judge) v) }

-- the value of a kind at a place
abbrev pub found_there : Source → Place → ViolationKind ℕ → Found
found_there source place kind = found_by source (record { node = place.node; kind = kind })

-- the place is one of the grammar's, and the texts are its own
pub record IsThere (source : Source) (place : Place) : Type 0 where
  pub is_source : IsSource source
  pub stands : place ≡ place_at source.grammar.rules place.node

-- everything that is still to come on a way through the findings
abbrev pub coming : Source → Way → List Found
coming source way = map (found_by source) (rest_of source.grammar source.judge way)

-- everything that is still to come at a node with this form, from a question on
abbrev pub coming_at : Source → ℕ → Node → Asking → List Found
coming_at source p n asking = map (found_by source) (rest_at source.judge p n asking)

-- the violations, the findings and the lines of such values
abbrev pub violations_of : List Found → List (Violation ℕ)
violations_of = map (λ found. found.violation)

abbrev pub findings_of : List Found → List Finding
findings_of = map (λ found. found.finding)

abbrev pub lines_found : List Found → List ℕ
lines_found = flat_map (λ found. line_of found.finding)
