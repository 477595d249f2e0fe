-- What a writer holds after a write and a flush.
use Rattle.std.proofs.Common.{◌∙◌, ℕ, List, Option, Some, None}
use Rattle.std.specs.Io.KnownBytes.{Appends, Keeps}

-- bytes that were appended stay where a flush keeps all
pub appends_kept : (before between after : Option (List ℕ)) (bytes : List ℕ) → Appends before between bytes → Keeps between after → Appends before after bytes
appends_kept None between after bytes written kept = tt
appends_kept (Some xs) None after bytes written kept = absurd written
appends_kept (Some xs) (Some ys) None bytes written kept = absurd kept
appends_kept (Some xs) (Some ys) (Some zs) bytes written kept = kept ∙ written
