use Rattle.std.proofs.Common.{◌≡◌, subst}
use Rattle.pg_pred.specs.Offer.{offer_of}
use Rattle.pg_file_making.specs.Spells.{SpellsWithinLimits}
use Rattle.pg_bench_grammar.proofs.grammar_file.accepted_of.Goals as goal

pub returns-in-Ok-clause-ok : goal.returns-in-Ok-clause-ok
returns-in-Ok-clause-ok g c =
    let same : c.in_ok-grammar.field-0.grammar ≡ c.in-Ok.checked.grammar = cc (c.in_ok-grammar.grammar-is, c.in-Ok.ensures.same) in
    subst (SpellsWithinLimits (offer_of c.args.registry.now) c.args.bytes.now) same c.in_ok-grammar.ensures.ok
