use Rattle.std.proofs.Common.{take}
use Rattle.std.specs.Fmt.{HasWritten, IsPlainFormatter}
use Rattle.pg_text_pieces.specs.Writing.{pieces_bytes}
use Rattle.pg_text_pieces.proofs.piece.show_pieces.Given as goal

abbrev pub invariant-loop-piece : goal.invariant-loop-piece
invariant-loop-piece g l = IsPlainFormatter l.initial.f → HasWritten g.W.Write.write_str_gives l.initial.f (pieces_bytes (take l.piece-index l.pieces)) l.f
