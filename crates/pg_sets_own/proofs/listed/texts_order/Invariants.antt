use Rattle.std.proofs.Common.{◌≡◌, length}
use Rattle.std.specs.Cmp.Lexicographic.{slice_cmp}
use Rattle.pg_sets_own.specs.Listed.{text_order}
use Rattle.pg_sets_own.proofs.listed.texts_order.Given as goal

abbrev pub invariant-loop-text : goal.invariant-loop-text
invariant-loop-text l = slice_cmp text_order l.one l.other ≡ slice_cmp text_order l.fn.one l.fn.other

abbrev pub decreases-loop-text : goal.decreases-loop-text
decreases-loop-text l = length l.one
