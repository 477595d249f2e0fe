-- Results of the readers of values.
use Rattle.std.specs.Prelude.{◌≡◌, List, [], ◌∷◌, Vec, Result, Ok, Err}
use Rattle.std.specs.declared.alloc.Global.{Global}
use Rattle.pg_certificate.specs.declared.certificate_fault.CertificateFault.{CertificateFault}
use Rattle.pg_certificate.specs.declared.certificate_fault.CertificateFault.TheVariants.{NotJson, NotACertificate, Memory}

-- the result is the only thing that the value stands for, or the error that it stands for none; or memory ran out
abbrev pub Gives : {A B : Type 0} → (B → A → Type 0) → B → Result A CertificateFault → Type 0
Gives Says b (Ok a) = Says b a × ((other : _) → Says b other → other ≡ a)
Gives Says b (Err NotACertificate) = (other : _) → ¬ (Says b other)
Gives Says b (Err NotJson) = ⊥
Gives Says b (Err Memory) = Unit {0}

-- a result of a `Vec`, as a result of its items
abbrev pub items_of_ok : {A : Type 0} → Result (Vec A Global) CertificateFault → Result (List A) CertificateFault
items_of_ok (Ok v) = Ok v.items
items_of_ok (Err e) = Err e

-- each of these is the only thing that the value at its place stands for
abbrev pub GivesEach : {A B : Type 0} → (B → A → Type 0) → List B → List A → Type 0
GivesEach Says [] [] = Unit {0}
GivesEach Says [] (a ∷ found) = ⊥
GivesEach Says (b ∷ bs) [] = ⊥
GivesEach Says (b ∷ bs) (a ∷ found) = Gives Says b (Ok a) × GivesEach Says bs found
