use Rattle.std.proofs.Common.{sym, subst, rules, take, drop, ◌+◌}
use Rattle.pg_text_pieces.specs.Writing.{Puts, piece_bytes, pieces_bytes}
use Rattle.pg_text_pieces.proofs.Pieces.{flat_next, flat_split}
use Rattle.pg_text_pieces.proofs.Puts.{on_err, puts_both, puts_stopped_within}
use Rattle.pg_text_pieces.proofs.output.put_pieces.Goals as goal

pub returns-in_err-put_piece-clause-prefix : goal.returns-in_err-put_piece-clause-prefix
returns-in_err-put_piece-clause-prefix g c =
    let contents = g.W.Write.contents in
    let pieces = c.args.pieces.now in
    let i = c.loop-piece.piece-index in
    on_err c.from_residual.result _
    (puts_stopped_within (contents c.args.writer.now.inner) (contents c.loop-piece.writer.inner) (contents c.put_piece.new.writer.inner) c.args.buffer.now.items c.loop-piece.buffer.items
    (pieces_bytes (take i pieces)) _ (pieces_bytes (drop (i + 1) pieces)) (pieces_bytes pieces) (flat_split piece_bytes pieces i _ c.loop-piece-test.true)
    c.loop-piece.invariant.put c.in_err-put_piece.ensures.prefix)

pub loop-piece-preserved : goal.loop-piece-preserved
loop-piece-preserved g c =
    let contents = g.W.Write.contents in
    let pieces = c.args.pieces.now in
    let i = c.loop-piece.piece-index in
    record {
      well = search rules;
      put =
          subst (Puts (contents c.args.writer.now.inner) c.args.buffer.now.items (contents c.put_piece.new.writer.inner) c.put_piece.new.buffer.items)
          (sym (flat_next piece_bytes pieces i _ c.loop-piece-test.true))
          (puts_both _ _ _ _ _ _ _ _ c.loop-piece.invariant.put c.in_ok-put_piece.ensures.ok);
    }
