use Rattle.std.proofs.Common.{◌≡◌, map, take}
use Rattle.pg_tree_placed.specs.Written.{closing}
use Rattle.pg_tree_placed.specs.Writing.{closing_text}
use Rattle.pg_tree_placed.proofs.source.closings.Given as goal

-- the closing texts of the labels so far are there
abbrev pub invariant-loop-label : goal.invariant-loop-label
invariant-loop-label l = map closing_text l.texts.items ≡ map closing (take l.label-index l.labels)
