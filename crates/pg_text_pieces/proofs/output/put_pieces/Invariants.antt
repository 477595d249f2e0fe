use Rattle.std.proofs.Common.{◌≡◌, false, take}
use Rattle.pg_text_pieces.specs.Writing.{Puts, pieces_bytes}
use Rattle.pg_text_pieces.proofs.output.put_pieces.Given as goal

abbrev pub invariant-loop-piece : goal.invariant-loop-piece
invariant-loop-piece g l = record {
  well : l.writer.failed ≡ false;
  put : Puts (g.W.Write.contents l.initial.writer.inner) l.initial.buffer.items (g.W.Write.contents l.writer.inner) l.buffer.items (pieces_bytes (take l.piece-index l.pieces));
}
