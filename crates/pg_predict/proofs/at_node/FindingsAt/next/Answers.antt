use Rattle.std.proofs.Common.{◌≡◌, ◌∷◌, ap, sym, map, ◌∙◌}
use Rattle.pg_predict.specs.Found.{Found, found_by, coming_at}
use Rattle.pg_predict.proofs.at_node.FindingsAt.next.Goals as goal

pub returns-in-Some-clause-first : goal.returns-in-Some-clause-first
returns-in-Some-clause-first c =
    let source = c.self.inside.source.now in
    let rest = coming_at source c.self.inside.place.node c.self.inside.form.now c.find_next.new.asking in
    sym c.self.view_is ∙ ap (map (found_by source)) c.in-Some.ensures ∙ ap (λ (f : Found). f ∷ rest) (sym c.new.ensures)
