use Rattle.std.proofs.Common.{take, flat_map, encode_utf8}
use Rattle.std.specs.Fmt.{HasWritten, IsPlainFormatter}
use Rattle.pg_text.proofs.characters.CharactersDisplay.fmt.Given as goal

abbrev pub invariant-loop-c : goal.invariant-loop-c
invariant-loop-c g l =
    IsPlainFormatter l.initial.f
    → HasWritten g.W.Write.write_str_gives l.initial.f (flat_map encode_utf8 (take l.c-index l.c-items)) l.f
