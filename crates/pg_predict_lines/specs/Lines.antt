-- The lines of findings, each with its front.
use Rattle.std.specs.Prelude.{◌≡◌, ℕ, List, [], ◌++◌, Option, codes, map, slice_get, string_bytes}
use Rattle.std.specs.Fmt.{decimal}
use Rattle.std.specs.Io.KnownBytes.{Appends}
use Rattle.std.specs.List.{flat_map}
use Rattle.std.specs.Option.{option_map_or}
use Rattle.pg_tree.specs.Bytes.{AppendsPrefix}
use Rattle.pg_text.specs.declared.position.Pos.{Pos}
use Rattle.pg_file_items.specs.declared.span.Span.{Span}
use Rattle.pg_sets_own.specs.PrintedStarts.{start_text}
use Rattle.pg_predict.specs.Findings.{name_text, line_of}
use Rattle.pg_predict.specs.Found.{Found, violations_of, findings_of}
use Rattle.pg_predict.specs.Refusals.{RefusedGrammar}
use Rattle.pg_predict.specs.declared.texts.Texts.{Texts}
use Rattle.pg_predict_lines.specs.declared.fronts.Front.{Front}
use Rattle.pg_predict_lines.specs.declared.fronts.Front.TheVariants.{Nothing, File, Place}
use Rattle.pg_predict_lines.specs.declared.fronts.Fronts.{Fronts}

-- ---- fronts

-- nothing, a file's name, or a place in it
abbrev pub front_text : Front → List ℕ
front_text Nothing = []
front_text (File name) = name.now ++ codes ": "
front_text (Place name position) = name.now ++ (codes ":" ++ (decimal position.line ++ (codes ":" ++ (decimal position.column ++ codes ": "))))

-- the front of a node's findings is its place, if it has one
abbrev pub front_at : Fronts → ℕ → Front
front_at fronts p =
    option_map_or (λ (span : Span). option_map_or (λ (position : Pos). Place fronts.name position) (slice_get fronts.positions.items span.first) fronts.otherwise)
    (slice_get fronts.spans.now p) fronts.otherwise

-- ---- texts

-- the texts are the names of a grammar's rules, and the printed forms of its starts
pub record AreTextsOf (refused : RefusedGrammar) (texts : Texts) : Type 0 where
  pub names : map string_bytes texts.names.items ≡ map name_text refused.grammar.rules
  pub listed : map string_bytes texts.listed.items ≡ map (start_text refused.grammar) refused.sets.starts

-- ---- the lines

-- the line of a finding, with its front
abbrev pub fronted_line : (ℕ → Front) → Found → List ℕ
fronted_line front found = front_text (front found.violation.node) ++ line_of found.finding

-- the lines of all findings, each with its front
abbrev pub fronted_lines : (ℕ → Front) → List Found → List ℕ
fronted_lines front = flat_map (fronted_line front)

-- ---- what is written

-- a line for each finding of a refused grammar, in order
pub record IsFronted (refused : RefusedGrammar) (front : ℕ → Front) (page : List ℕ) : Type 0 where
  pub found : List Found
  pub violations : violations_of found ≡ refused.violations
  pub findings : findings_of found ≡ refused.findings
  pub lines : page ≡ fronted_lines front found

-- the lines were written
pub record WritesFronted (refused : RefusedGrammar) (front : ℕ → Front) (writer held : Option (List ℕ)) : Type 0 where
  pub page : List ℕ
  pub fronted : IsFronted refused front page
  pub written : Appends writer held page

-- a prefix of the lines was written
pub record WritesPartOfFronted (refused : RefusedGrammar) (front : ℕ → Front) (writer held : Option (List ℕ)) : Type 0 where
  pub page : List ℕ
  pub fronted : IsFronted refused front page
  pub written : AppendsPrefix writer held page
