use Rattle.std.proofs.Common.{sym, ap, take, ◌+◌, refl}
use Rattle.std.proofs.lemmas.List.{take_all}
use Rattle.std.proofs.Output.{has_written_append, has_written_of_eq}
use Rattle.pg_text_pieces.specs.Writing.{piece_bytes, pieces_bytes}
use Rattle.pg_text_pieces.proofs.Pieces.{flat_next}
use Rattle.pg_text_pieces.proofs.piece.show_pieces.Goals as goal

pub loop-piece-preserved : goal.loop-piece-preserved
loop-piece-preserved g c =
    λ plain.
    let now = c.loop-piece.invariant plain in
    has_written_of_eq _ _ _ _ _ (sym (flat_next piece_bytes c.args.pieces.now c.loop-piece.piece-index _ c.loop-piece-test.true))
    (has_written_append _ _ _ _ _ _ now (c.in_ok-show_piece.ensures now.plain refl))

pub returns : goal.returns
returns g c = λ plain _. has_written_of_eq _ _ _ _ _ (ap pieces_bytes (take_all _ _ c.loop-piece-test.false)) (c.loop-piece.invariant plain)
