use Rattle.std.proofs.Common.{◌∙◌}
use Rattle.pg_text_pieces.proofs.Puts.{ok_kept}
use Rattle.pg_text_pieces.proofs.output.keep.Goals as goal

pub returns : goal.returns
returns c = c.extend_from_slice.ensures.items ∙ ok_kept c.extend_from_slice.result _ _ (c.extend_from_slice.ensures.succeeds c.requires)
