use Rattle.std.proofs.Common.{◌≡◌, drop}
use Rattle.std.specs.Str.{bytes_eq}
use Rattle.pg_file_tokens.proofs.characters.is_word.Given as goal

abbrev pub invariant-loop-byte : goal.invariant-loop-byte
invariant-loop-byte l = bytes_eq (drop l.byte-index l.byte-items) l.rest ≡ bytes_eq l.fn.word l.fn.name
