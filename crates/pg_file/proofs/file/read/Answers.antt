use Rattle.std.proofs.lemmas.Result.{err_from_is_err_and}
use Rattle.pg_file.proofs.file.read.Goals as goal

pub returns-in_err-grammar-clause-only : goal.returns-in_err-grammar-clause-only
returns-in_err-grammar-clause-only g c =
    let p = err_from_is_err_and c.from_residual.result c.from_residual.ensures.1 in
    λ g' h. rw (p.1, p.2, c.in_err-grammar.ensures.refused g' h) tt
