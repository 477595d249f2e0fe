-- The starts, as sets list them, for which claimed ones stand.
use Rattle.std.specs.Prelude.{◌↔◌, ◌⊎◌, List, [], ◌∷◌}
use Rattle.pg_certificate.specs.Fitting.{FitsStart}
use Rattle.pg_certificate.specs.declared.certificate.ClaimedStart.{ClaimedStart}
use Rattle.pg_certificate_own.specs.Claimed.{StandsFor}
use Rattle.pg_sets_own.specs.Listed.{IsListed}
use Rattle.pg_sets_own.specs.Own.{IsAmong}
use Rattle.pg_sets_own.specs.declared.listed.ListedStart.{ListedStart}
use Rattle.pg_grammar_value.specs.Grammar.{Grammar}

-- the grammar can have the claimed start, and it stands for this one, under its number
pub record StandsAs (g : Grammar) (claimed : ClaimedStart) (listed : ListedStart) : Type 0 where
  pub fits : FitsStart g claimed
  pub stands : StandsFor g claimed listed.start
  pub named : IsListed g listed

-- one of the claimed starts stands for it
abbrev pub IsClaimedAs : Grammar → List ClaimedStart → ListedStart → Type 0
IsClaimedAs g [] listed = ⊥
IsClaimedAs g (one ∷ others) listed = StandsAs g one listed ⊎ IsClaimedAs g others listed

-- these are the starts for which the claimed ones stand
abbrev pub ListsClaims : Grammar → List ClaimedStart → List ListedStart → Type 0
ListsClaims g claimed starts = (listed : ListedStart) → IsAmong starts listed ↔ IsClaimedAs g claimed listed
