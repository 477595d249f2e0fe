-- What was written of a text that was read before.
use Rattle.std.proofs.Common.{ℕ, List, Bool, Option}
use Rattle.std.specs.Io.KnownBytes.{Appends}
use Rattle.pg_tree.specs.Bytes.{AppendsPrefix}
use Rattle.pg_grammar_value.specs.Grammar.{Grammar}
use Rattle.pg_language.specs.declared.reading.Reading.{Reading}
use Rattle.pg_bench.specs.Probing.{IsShownOfText, IsTextProbed, IsTextPartlyProbed}

module _ (g : Grammar) (text name : List ℕ) (most : ℕ) (reading : Reading) (writer held : Option (List ℕ)) (accepted : Bool) (said : List ℕ)
    (shown : IsShownOfText g name most reading text accepted said) where
  pub written_text : Appends writer held said → IsTextProbed g text name most reading writer held accepted
  written_text written = record { said = said; shown = shown; written = written }

  pub partly_written_text : AppendsPrefix writer held said → IsTextPartlyProbed g text name most reading writer held
  partly_written_text written = record { accepted = accepted; said = said; shown = shown; written = written }
