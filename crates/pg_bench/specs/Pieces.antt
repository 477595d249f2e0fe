-- The pieces that are written of a text, and what a text's parse costs and writes.
use Rattle.std.specs.Prelude.{ℕ, List, ◌++◌, Bool, Option}
use Rattle.std.specs.Io.KnownBytes.{Appends}
use Rattle.pg_tree.specs.Trees.{Tree}
use Rattle.pg_tree.specs.Bytes.{AppendsPrefix}
use Rattle.pg_grammar_value.specs.Grammar.{Grammar}
use Rattle.pg_grammar_value.specs.declared.trail.TrailItem.{TrailItem}
use Rattle.pg_bench.specs.declared.done.Done.{Done}
use Rattle.pg_bench.specs.declared.json.Json.{Json}
use Rattle.pg_bench.specs.declared.json.Json.TheVariants.{Whole, Placed}
use Rattle.pg_bench.specs.Promise.{IsForestOfText}
use Rattle.pg_bench.specs.Parsed.{IfRead, line_text, parse_text}

-- the bytes of a forest's JSON
abbrev pub json_bytes : Json → List ℕ
json_bytes (Whole bytes) = bytes.items
json_bytes (Placed text) = text

-- the grammar derives the text at this cost, to some forest along some trail
pub record IsCostOfText (g : Grammar) (text : List ℕ) (done : Done) : Type 0 where
  pub forest : List Tree
  pub trail : List TrailItem
  pub is : IsForestOfText g text forest trail done

-- this is the text's forest by the grammar, with this trail and at this cost, and it was written, with the trail if that is wanted
pub record IsParsedText (g : Grammar) (text : List ℕ) (with_trail : Bool) (writer held : Option (List ℕ)) (done : Done) : Type 0 where
  pub forest : List Tree
  pub trail : List TrailItem
  pub parsed : IsForestOfText g text forest trail done
  pub written : Appends writer held (parse_text with_trail forest trail)
  pub read : IfRead with_trail trail

-- a prefix of that was written
pub record IsPartlyParsedText (g : Grammar) (text : List ℕ) (with_trail : Bool) (writer held : Option (List ℕ)) : Type 0 where
  pub forest : List Tree
  pub trail : List TrailItem
  pub done : Done
  pub parsed : IsForestOfText g text forest trail done
  pub written : AppendsPrefix writer held (parse_text with_trail forest trail)

-- this is the text's forest by the grammar, with this trail and at this cost, and its line was written
pub record IsLineOfText (g : Grammar) (text name : List ℕ) (writer held : Option (List ℕ)) (done : Done) : Type 0 where
  pub forest : List Tree
  pub trail : List TrailItem
  pub parsed : IsForestOfText g text forest trail done
  pub written : Appends writer held (line_text name forest)

-- a prefix of that was written
pub record IsPartlyLineOfText (g : Grammar) (text name : List ℕ) (writer held : Option (List ℕ)) : Type 0 where
  pub forest : List Tree
  pub trail : List TrailItem
  pub done : Done
  pub parsed : IsForestOfText g text forest trail done
  pub written : AppendsPrefix writer held (line_text name forest)
