-- What a run from bytes to bytes reads and writes, with a registry that offers predicates and builders.
use Rattle.std.specs.Prelude.{◌≡◌, ◌≤◌, ℕ, List, [], ◌++◌, Bool, true, false, length, Option, codes}
use Rattle.std.specs.Str.{chars, IsUtf8}
use Rattle.std.specs.Io.KnownBytes.{Appends, Consumes, IsAtEnd}
use Rattle.pg_text.specs.declared.text.TheConstants.{LIMIT}
use Rattle.pg_message.specs.declared.error.ParseError as message
use Rattle.pg_tree.specs.Trees.{Tree}
use Rattle.pg_tree.specs.Json.{json, quoted}
use Rattle.pg_tree.specs.Bytes.{AppendsPrefix}
use Rattle.pg_pred.specs.Offer.{Offer}
use Rattle.pg_grammar_value.specs.Grammar.{Grammar}
use Rattle.pg_grammar_value.specs.declared.trail.TrailItem.{TrailItem}
use Rattle.pg_trail.specs.TrailJson.{trail_json, IsTrailText}
use Rattle.pg_file_making.specs.Spells.{SpellsWithinLimits}
use Rattle.pg_bench.specs.declared.done.Done.{Done}
use Rattle.pg_bench.specs.Promise.{IsAccepted, IsForestOfText, IsErrorOfText}

-- the bytes spell the text, which isn't too long
pub record IsSpelledBy (bytes text : List ℕ) : Type 0 where
  pub utf8 : IsUtf8 bytes
  pub within : length (chars bytes) ≤ LIMIT
  pub same : text ≡ chars bytes

-- the bytes are a text, not too long, and this is its forest by the grammar, derived along this trail, at this cost
pub record IsForestOfBytes (g : Grammar) (bytes : List ℕ) (forest : List Tree) (trail : List TrailItem) (done : Done) : Type 0 where
  pub utf8 : IsUtf8 bytes
  pub within : length (chars bytes) ≤ LIMIT
  pub text : IsForestOfText g (chars bytes) forest trail done

-- the bytes are a text, not too long, and this is its error
pub record IsErrorOfBytes (g : Grammar) (bytes : List ℕ) (e : message.ParseError) : Type 0 where
  pub utf8 : IsUtf8 bytes
  pub within : length (chars bytes) ≤ LIMIT
  pub text : IsErrorOfText g (chars bytes) e

-- the file spells an accepted grammar, which has this property together with the reader's whole bytes
pub record ParsesReader (offer : Offer) (file : List ℕ) (reader left : Option (List ℕ)) (Is : Grammar → List ℕ → Type 0) : Type 0 where
  pub grammar : Grammar
  pub spelled : SpellsWithinLimits offer file grammar
  pub accepted : IsAccepted grammar
  pub bytes : List ℕ
  pub read : Consumes reader left bytes
  pub end : IsAtEnd left
  pub is : Is grammar bytes

-- this is the forest of the reader's whole bytes by the grammar that the file spells, derived along this trail, at this cost
abbrev pub IsForestOf : Offer → List ℕ → Option (List ℕ) → Option (List ℕ) → List Tree → List TrailItem → Done → Type 0
IsForestOf offer file reader left forest trail done = ParsesReader offer file reader left (λ g bytes. IsForestOfBytes g bytes forest trail done)

-- this is the error of the reader's whole bytes by the grammar that the file spells
abbrev pub IsErrorOf : Offer → List ℕ → Option (List ℕ) → Option (List ℕ) → message.ParseError → Type 0
IsErrorOf offer file reader left e = ParsesReader offer file reader left (λ g bytes. IsErrorOfBytes g bytes e)

-- the reader's whole bytes have this property
abbrev pub ReadsText : Option (List ℕ) → Option (List ℕ) → (List ℕ → Type 0) → Type 0
ReadsText reader left Is = (bytes : List ℕ) × Consumes reader left bytes × IsAtEnd left × Is bytes

-- the reader's whole bytes spell the text
pub record IsTextOf (reader left : Option (List ℕ)) (text : List ℕ) : Type 0 where
  pub bytes : List ℕ
  pub read : Consumes reader left bytes
  pub end : IsAtEnd left
  pub spelled : IsSpelledBy bytes text

-- this is the forest of the reader's whole bytes by the grammar, derived along this trail, at this cost
abbrev pub IsForestBy : Grammar → Option (List ℕ) → Option (List ℕ) → List Tree → List TrailItem → Done → Type 0
IsForestBy g reader left forest trail done = ReadsText reader left (λ bytes. IsForestOfBytes g bytes forest trail done)

-- the grammar derives the reader's whole bytes at this cost, to some forest along some trail
abbrev pub HasForestBy : Grammar → Option (List ℕ) → Option (List ℕ) → Done → Type 0
HasForestBy g reader left done = (forest : List Tree) × (trail : List TrailItem) × IsForestBy g reader left forest trail done

-- this is the error of the reader's whole bytes by the grammar
abbrev pub IsErrorBy : Grammar → Option (List ℕ) → Option (List ℕ) → message.ParseError → Type 0
IsErrorBy g reader left e = ReadsText reader left (λ bytes. IsErrorOfBytes g bytes e)

-- what is written after the forest's JSON: a line feed, and the trail's JSON on a line of its own if it is wanted
abbrev pub after_forest : Bool → List TrailItem → List ℕ
after_forest false trail = codes "\n"
after_forest true trail = codes "\n" ++ (trail_json trail ++ codes "\n")

-- what is written of a parse
abbrev pub parse_text : Bool → List Tree → List TrailItem → List ℕ
parse_text with_trail forest trail = json forest ++ after_forest with_trail trail

-- if the trail is wanted, what is written of it is the JSON of this trail, and of no other
abbrev pub IfRead : Bool → List TrailItem → Type 0
IfRead false trail = Unit {0}
IfRead true trail = IsTrailText (trail_json trail) trail

-- a forest and what is written after its JSON, at this cost: for some trail of which this holds with them
pub record ArePieces (Is : List Tree → List TrailItem → Done → Type 0) (with_trail : Bool) (forest : List Tree) (rest : List ℕ) (done : Done) : Type 0 where
  pub trail : List TrailItem
  pub is : Is forest trail done
  pub rest_is : rest ≡ after_forest with_trail trail
  pub read : IfRead with_trail trail

-- the JSON of a forest, if it is wanted
abbrev pub json_if : Bool → List Tree → List ℕ
json_if true forest = json forest
json_if false forest = []

-- that, and what is written after it, at this cost
pub record AreJsonPieces (Is : List Tree → List TrailItem → Done → Type 0) (with_json with_trail : Bool) (page rest : List ℕ) (done : Done) : Type 0 where
  pub forest : List Tree
  pub pieces : ArePieces Is with_trail forest rest done
  pub page_is : page ≡ json_if with_json forest

-- this is the forest, with this trail and at this cost, and it was written, with the trail if that is wanted
pub record IsParsed (offer : Offer) (file : List ℕ) (reader left : Option (List ℕ)) (with_trail : Bool) (writer held : Option (List ℕ)) (done : Done) : Type 0 where
  pub forest : List Tree
  pub trail : List TrailItem
  pub parsed : IsForestOf offer file reader left forest trail done
  pub written : Appends writer held (parse_text with_trail forest trail)
  pub read : IfRead with_trail trail

-- a prefix of that was written
pub record IsPartlyWritten (offer : Offer) (file : List ℕ) (reader left : Option (List ℕ)) (with_trail : Bool) (writer held : Option (List ℕ)) : Type 0 where
  pub forest : List Tree
  pub trail : List TrailItem
  pub done : Done
  pub parsed : IsForestOf offer file reader left forest trail done
  pub written : AppendsPrefix writer held (parse_text with_trail forest trail)

-- this is the forest by a grammar, with this trail and at this cost, and it was written, with the trail if that is wanted
pub record IsParsedBy (g : Grammar) (reader left : Option (List ℕ)) (with_trail : Bool) (writer held : Option (List ℕ)) (done : Done) : Type 0 where
  pub forest : List Tree
  pub trail : List TrailItem
  pub parsed : IsForestBy g reader left forest trail done
  pub written : Appends writer held (parse_text with_trail forest trail)
  pub read : IfRead with_trail trail

-- a prefix of that was written
pub record IsPartlyParsedBy (g : Grammar) (reader left : Option (List ℕ)) (with_trail : Bool) (writer held : Option (List ℕ)) : Type 0 where
  pub forest : List Tree
  pub trail : List TrailItem
  pub done : Done
  pub parsed : IsForestBy g reader left forest trail done
  pub written : AppendsPrefix writer held (parse_text with_trail forest trail)

-- ---- a line of JSON for each text

-- the part before the trees, with the text's name
abbrev pub line_front : List ℕ → List ℕ
line_front name = codes "{\"file\":" ++ (quoted name ++ codes ",\"trees\":")

-- the line of a text that has trees
abbrev pub line_text : List ℕ → List Tree → List ℕ
line_text name forest = line_front name ++ (json forest ++ codes "}\n")

-- the line of a text that has none, with the reason
abbrev pub error_line_text : List ℕ → List ℕ → List ℕ
error_line_text name said = codes "{\"file\":" ++ (quoted name ++ (codes ",\"error\":" ++ (quoted said ++ codes "}\n")))

-- this is the forest by a grammar, with this trail and at this cost, and its line was written
pub record IsLineBy (g : Grammar) (reader left : Option (List ℕ)) (name : List ℕ) (writer held : Option (List ℕ)) (done : Done) : Type 0 where
  pub forest : List Tree
  pub trail : List TrailItem
  pub parsed : IsForestBy g reader left forest trail done
  pub written : Appends writer held (line_text name forest)

-- a prefix of that was written
pub record IsPartlyLineBy (g : Grammar) (reader left : Option (List ℕ)) (name : List ℕ) (writer held : Option (List ℕ)) : Type 0 where
  pub forest : List Tree
  pub trail : List TrailItem
  pub done : Done
  pub parsed : IsForestBy g reader left forest trail done
  pub written : AppendsPrefix writer held (line_text name forest)
