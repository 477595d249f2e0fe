-- What a grammar file spells, with a registry that offers predicates and builders.
use Rattle.std.specs.Prelude.{◌<◌, ℕ, List, length}
use Rattle.pg_pred.specs.Offer.{Offer}
use Rattle.pg_grammar_value.specs.Grammar.{Grammar}
use Rattle.pg_file_making.specs.Spells.{SpellsWithinLimits}
use Rattle.pg_predict.specs.Findings.{Finding, AreFindings}
use Rattle.pg_file.specs.Refusals.{IsRefusalOf}
use Rattle.pg_file.specs.declared.file_fault.FileFault.{FileFault}
use Rattle.pg_file.specs.declared.file_fault.FileError.TheVariants.{Fault}

-- the file spells no grammar, or not within the limits
pub record SpellsNone (offer : Offer) (file : List ℕ) : Type 0 where
  pub none : (g : Grammar) → SpellsWithinLimits offer file g → ⊥

-- the file spells no grammar, and reading it answers this fault
pub record IsFaultOfFile (offer : Offer) (file : List ℕ) (fault : FileFault) : Type 0 where
  pub spells : SpellsNone offer file
  pub answered : IsRefusalOf file (Fault fault)

-- the file spells some grammar of this kind
abbrev pub SpellsSome : (Grammar → Type 0) → Offer → List ℕ → Type 0
SpellsSome Is offer file = (g : Grammar) × SpellsWithinLimits offer file g × Is g

-- the file spells some grammar, whatever its kind
abbrev pub SpellsAny : Offer → List ℕ → Type 0
SpellsAny = SpellsSome (λ g. Unit {0})

-- the file spells a grammar, and these are all its findings, at least one
pub record AreFindingsOf (offer : Offer) (file : List ℕ) (findings : List Finding) : Type 0 where
  pub grammar : Grammar
  pub spelled : SpellsWithinLimits offer file grammar
  pub all : AreFindings grammar findings
  pub some : 0 < length findings
