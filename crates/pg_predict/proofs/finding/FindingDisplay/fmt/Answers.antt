use Rattle.std.proofs.Common.{ap, refl, ◌∙◌}
use Rattle.std.proofs.Output.{has_written_append, has_written_of_eq}
use Rattle.pg_predict.specs.Found.{Found}
use Rattle.pg_predict.proofs.Told.{line_pieces}
use Rattle.pg_predict.proofs.finding.FindingDisplay.fmt.Goals as goal

pub returns-clause-writes : goal.returns-clause-writes
returns-clause-writes g c =
    λ plain ok.
    let first = c.in_ok-show_pieces.ensures plain refl in
    has_written_of_eq _ _ _ _ _
    (line_pieces c.self.inside.source.now c.self.inside.place c.self.inside.kind _ _ _ c.self.invariant c.code.ensures c.front-front.ensures c.words-words.ensures
    ∙ ap (λ (f : Found). f.finding.line) c.self.view_is)
    (has_written_append _ _ _ _ _ _ first (c.show_pieces-2.ensures first.plain ok))
