use Rattle.std.proofs.Common.{[], ap, ◌∙◌}
use Rattle.pg_tree_placed.specs.Written.{closing}
use Rattle.pg_tree_placed.specs.Writing.{closing_text}
use Rattle.pg_tree_placed.specs.declared.source.Closing.{Closing}
use Rattle.pg_tree_placed.proofs.Closings.{same_at}
use Rattle.pg_tree_placed.proofs.source.Source.closing.Goals as goal

pub returns : goal.returns
returns c =
    let it = c.index-closings-number.result in
    ap (λ (v : Closing). closing_text v) c.index-closings-number.is
    ∙ same_at (λ (v : Closing). closing_text v) closing c.args.self.now.closings.now c.args.self.now.labels.now c.args.number it [] c.requires.closings c.requires.there
