use Rattle.std.proofs.Common.{◌∙◌, sym}
use Rattle.std.proofs.lemmas.Result.{err_from_is_err_and}
use Rattle.pg_file_meaning.proofs.MeaningLemmas.Lookup.{found_is_known, none_is_other, same_err}
use Rattle.pg_file_meaning.proofs.lookup.class_named.Goals as goal

pub returns-in-Some-clause-known : goal.returns-in-Some-clause-known
returns-in-Some-clause-known g c =
    found_is_known c.args.classes.now c.args.name.now _ c.in-Some.number (sym c.place_of_class.ensures ∙ c.in-Some.is)

pub returns-in_err-predicate_named-in-None-clause-refused : goal.returns-in_err-predicate_named-in-None-clause-refused
returns-in_err-predicate_named-in-None-clause-refused g c e =
    let p = err_from_is_err_and c.from_residual.result c.from_residual.ensures.1 in
    let q = rw (p.1, p.2) at e in
    none_is_other c.args.classes.now c.args.name.now _ (sym c.place_of_class.ensures ∙ c.in-None.is) (c.in_err-predicate_named-in-None.ensures.refused (same_err _ _ q))
