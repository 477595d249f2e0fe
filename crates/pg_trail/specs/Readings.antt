-- Results of the readers of values.
use Rattle.std.specs.Prelude.{◌≡◌, ◌⊎◌, ℕ, List, Option, Some, None, option_map, Result, Ok, Err, Bool, true, false}
use Rattle.json.specs.Token.{Token}
use Rattle.pg_trail.specs.declared.trail_fault.TrailFault.{TrailFault}
use Rattle.pg_trail.specs.declared.trail_fault.TrailFault.TheVariants.{NotATrail, Memory}

-- nothing else has the value of this
abbrev pub IsOnly : {A B : Type 0} → (A → B) → A → Type 0
IsOnly value a = (other : _) → value other ≡ value a → other ≡ a

-- the result is the only thing with this value, or the error that nothing has it; or memory ran out
abbrev pub Gives : {A B : Type 0} → (A → B) → B → Result A TrailFault → Type 0
Gives value b (Ok a) = (value a ≡ b) × ((other : _) → value other ≡ b → other ≡ a)
Gives value b (Err NotATrail) = (other : _) → ¬ (value other ≡ b)
Gives value b (Err Memory) = Unit {0}

-- the value that was read is that of this one thing, or of nothing; or nothing could be read, or memory ran out
abbrev pub Finds : {A B : Type 0} → (A → B) → Option B → Result (Option A) TrailFault → Type 0
Finds value read (Ok (Some a)) = (read ≡ Some (value a)) × IsOnly value a
Finds value read (Ok None) = (b : _) × (read ≡ Some b) × ((a : _) → ¬ (value a ≡ b))
Finds value read (Err NotATrail) = read ≡ None
Finds value read (Err Memory) = Unit {0}

-- as `Finds`, for what is read from these tokens
abbrev pub Reads : {A B : Type 0} → (A → B) → Option (B × List Token) → List Token → Result (Option A) TrailFault → Type 0
Reads value read left (Ok (Some a)) = (read ≡ Some (value a, left)) × IsOnly value a
Reads value read left (Ok None) = (b : _) × (read ≡ Some (b, left)) × ((a : _) → ¬ (value a ≡ b))
Reads value read left (Err NotATrail) = read ≡ None
Reads value read left (Err Memory) = Unit {0}

-- the value that is read from these tokens is that of this one thing; or nothing has the value, or none could be read; or memory ran out
abbrev pub Takes : {A B : Type 0} → (A → B) → Option (B × List Token) → List Token → Result A TrailFault → Type 0
Takes value read left (Ok a) = (read ≡ Some (value a, left)) × IsOnly value a
Takes value read left (Err NotATrail) = (a : _) (rest : _) → ¬ (read ≡ Some (value a, rest))
Takes value read left (Err Memory) = Unit {0}

-- these tokens are left after the part that was read; or nothing could be read, or memory ran out
abbrev pub Skips : {U : Type 0} → Option (List Token) → List Token → Result U TrailFault → Type 0
Skips after left (Ok u) = after ≡ Some left
Skips after left (Err NotATrail) = after ≡ None
Skips after left (Err Memory) = Unit {0}

-- a result with a function applied to what it found
abbrev pub seen : {A B : Type 0} → (A → B) → Result (Option A) TrailFault → Result (Option B) TrailFault
seen f (Ok found) = Ok (option_map f found)
seen f (Err e) = Err e

-- both, if there are two
abbrev pub pair_of : {A : Type 0} → Option A → Option A → Option (A × A)
pair_of (Some first) (Some second) = Some (first, second)
pair_of (Some first) None = None
pair_of None second = None

-- the key comes again or the object ends, and these tokens are left; or something else comes
abbrev pub Repeats : List ℕ → Option (Option (List ℕ) × List Token) → List Token → Result Bool TrailFault → Type 0
Repeats key read left (Ok true) = read ≡ Some (Some key, left)
Repeats key read left (Ok false) = read ≡ Some (None, left)
Repeats key read left (Err NotATrail) = (read ≡ None) ⊎ ((other : List ℕ) × (rest : List Token) × (read ≡ Some (Some other, rest)) × ¬ (other ≡ key))
Repeats key read left (Err Memory) = Unit {0}
