-- The reported faults of a grammar file.
use Rattle.std.specs.Prelude.{◌≡◌, ℕ, List, ◌∷◌}
use Rattle.pg_file.specs.declared.file_fault.FileFault.{FileFault}
use Rattle.pg_file_faults.specs.declared.faults.ToldFault.{ToldFault}

-- this fault is reported first, for the file of these bytes
pub record IsToldFirst (bytes : List ℕ) (first : FileFault) (told : List ToldFault) : Type 0 where
  pub one : ToldFault
  pub others : List ToldFault
  pub is_first : told ≡ one ∷ others
  pub fault : one.fault ≡ first
  pub file : one.file.items ≡ bytes
