-- What is shown of a text with a grammar, from bytes to bytes: a page, and whether the answer is yes. Probing and replaying differ in what they show.
use Rattle.std.specs.Prelude.{◌≤◌, ℕ, List, Bool, length, Option}
use Rattle.std.specs.Io.KnownBytes.{Appends, Consumes, IsAtEnd}
use Rattle.std.specs.Str.{chars, IsUtf8}
use Rattle.pg_text.specs.declared.text.TheConstants.{LIMIT}
use Rattle.pg_tree.specs.Bytes.{AppendsPrefix}
use Rattle.pg_pred.specs.Offer.{Offer}
use Rattle.pg_grammar_value.specs.Grammar.{Grammar}
use Rattle.pg_file_making.specs.Spells.{SpellsWithinLimits}
use Rattle.pg_bench.specs.Parsed.{ReadsText}

-- the bytes spell a text, not too long, and this is shown of it
pub record IsShownOf (Shows : List ℕ → Bool → List ℕ → Type 0) (bytes : List ℕ) (accepted : Bool) (said : List ℕ) : Type 0 where
  pub utf8 : IsUtf8 bytes
  pub within : length (chars bytes) ≤ LIMIT
  pub shows : Shows (chars bytes) accepted said

-- the file spells a grammar, and this is shown of the reader's whole bytes with it
pub record IsShownBy (Shows : Grammar → List ℕ → Bool → List ℕ → Type 0) (offer : Offer) (file : List ℕ) (reader left : Option (List ℕ)) (accepted : Bool)
    (said : List ℕ) : Type 0 where
  pub grammar : Grammar
  pub spelled : SpellsWithinLimits offer file grammar
  pub bytes : List ℕ
  pub read : Consumes reader left bytes
  pub end : IsAtEnd left
  pub shown : IsShownOf (Shows grammar) bytes accepted said

-- that was written
pub record IsWrittenBy (Shows : Grammar → List ℕ → Bool → List ℕ → Type 0) (offer : Offer) (file : List ℕ) (reader left writer held : Option (List ℕ))
    (accepted : Bool) : Type 0 where
  pub said : List ℕ
  pub shown : IsShownBy Shows offer file reader left accepted said
  pub written : Appends writer held said

-- a prefix of that was written
pub record IsPartlyWrittenBy (Shows : Grammar → List ℕ → Bool → List ℕ → Type 0) (offer : Offer) (file : List ℕ)
    (reader left writer held : Option (List ℕ)) : Type 0 where
  pub accepted : Bool
  pub said : List ℕ
  pub shown : IsShownBy Shows offer file reader left accepted said
  pub written : AppendsPrefix writer held said

-- ---- with a grammar that is read already

-- this is shown of the reader's whole bytes
abbrev pub IsShownTo : (List ℕ → Bool → List ℕ → Type 0) → Option (List ℕ) → Option (List ℕ) → Bool → List ℕ → Type 0
IsShownTo Shows reader left accepted said = ReadsText reader left (λ bytes. IsShownOf Shows bytes accepted said)

-- that was written
pub record IsWrittenTo (Shows : List ℕ → Bool → List ℕ → Type 0) (reader left writer held : Option (List ℕ)) (accepted : Bool) : Type 0 where
  pub said : List ℕ
  pub shown : IsShownTo Shows reader left accepted said
  pub written : Appends writer held said

-- a prefix of that was written
pub record IsPartlyWrittenTo (Shows : List ℕ → Bool → List ℕ → Type 0) (reader left writer held : Option (List ℕ)) : Type 0 where
  pub accepted : Bool
  pub said : List ℕ
  pub shown : IsShownTo Shows reader left accepted said
  pub written : AppendsPrefix writer held said
