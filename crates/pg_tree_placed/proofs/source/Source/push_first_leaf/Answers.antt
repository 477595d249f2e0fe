use Rattle.std.proofs.Common.{◌++◌, ◌∷◌, [], List, ℕ, codes, ap, subst, sym}
use Rattle.pg_tree_placed.specs.Written.{comma}
use Rattle.pg_tree_placed.specs.Writing.{IsPut}
use Rattle.pg_tree_placed.proofs.source.Source.push_first_leaf.Goals as goal

pub returns-in-Some-clause-so : goal.returns-in-Some-clause-so
returns-in-Some-clause-so g c =
    let contents = g.W.Write.contents in
    let start = contents c.args.writer.now.inner in
    let held = c.args.block.now in
    subst (λ (xs : List ℕ). IsPut c.push_first_plain.result start held (contents c.push_first_plain.new.writer.inner) c.push_first_plain.new.block xs)
    (ap (λ (xs : List ℕ). comma c.args.is_comma ++ (codes "{\"kids\":[" ++ 34 ∷ (xs ++ 34 ∷ []))) (sym c.in-Some.ensures)) c.push_first_plain.ensures.so
