use Rattle.std.proofs.Common.{◌≡◌, ◌∷◌, ℕ, ap, sym, map, ◌∙◌}
use Rattle.pg_predict.specs.Found.{Found, found_by, coming}
use Rattle.pg_predict.specs.declared.places.Place.{Place}
use Rattle.pg_predict.proofs.findings.Findings.next.Goals as goal

pub returns-in-Some-clause-first : goal.returns-in-Some-clause-first
returns-in-Some-clause-first c =
    let source = c.self.inside.source.now in
    let way = c.go_on.new.way in
    let there : c.place_after-self-inside.result.node ≡ way.node = ap (λ (q : Place). q.node) c.place_after-self-inside.ensures in
    sym c.self.view_is ∙ ap (map (found_by source)) c.in-Some.ensures.finds
    ∙ ap (λ (f : Found). f ∷ coming source way) (ap (λ (p : ℕ). found_by source (record { node = p; kind = c.in-Some.kind })) (sym there) ∙ sym c.new.ensures)
