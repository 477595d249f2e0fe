use Rattle.std.proofs.Common.{◌++◌, ◌∷◌, [], List, ℕ, codes, ap, subst, sym}
use Rattle.pg_tree_placed.specs.Written.{comma}
use Rattle.pg_tree_placed.specs.Writing.{IsPut}
use Rattle.pg_tree_placed.proofs.writing.push_first_plain.Goals as goal

pub returns-then-is_comma-clause-so : goal.returns-then-is_comma-clause-so
returns-then-is_comma-clause-so g c =
    let contents = g.W.Write.contents in
    let opened : List ℕ = codes "{\"kids\":[" ++ 34 ∷ c.args.byte ∷ 34 ∷ [] in
    subst (λ (xs : List ℕ). IsPut c.push_with.result (contents c.args.writer.now.inner) c.args.block.now (contents c.push_with.new.writer.inner) c.push_with.new.self xs)
    (ap (λ b. comma b ++ opened) (sym c.if-is_comma.true)) c.push_with.ensures.so
