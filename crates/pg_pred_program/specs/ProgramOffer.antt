-- What the program's registry offers.
use Rattle.std.specs.Prelude.{◌≡◌}
use Rattle.pg_pred.specs.Offer.{Offer}
use Rattle.pg_pred_program.specs.Builders.{builder_shapes}
use Rattle.pg_pred_program.specs.Kinds.{AreOfAllKinds}

-- a predicate for each kind of characters, the builders, and nothing else
pub record IsProgramOffer (offer : Offer) : Type 0 where
  pub classes : AreOfAllKinds offer.classes
  pub shapes : offer.shapes ≡ builder_shapes

-- an answer that was given with the offer of the program's registry
abbrev pub IsGiven : {A : Type 0} → (Offer → A → Type 0) → A → Type 0
IsGiven Gives answer = (offer : Offer) × IsProgramOffer offer × Gives offer answer
