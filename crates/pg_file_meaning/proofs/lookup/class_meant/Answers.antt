use Rattle.std.proofs.Common.{sym, subst}
use Rattle.pg_pred.specs.Offer.{offer_of}
use Rattle.pg_grammar_form.specs.Classes.{IsExpression}
use Rattle.pg_file_items.specs.Written.{IsClass}
use Rattle.pg_file_meaning.proofs.MeaningLemmas.Proper.{parts_are_expression}
use Rattle.pg_file_meaning.proofs.lookup.class_meant.Goals as goal

pub new-requires : goal.new-requires
new-requires g c =
    let whole : IsClass c.parts.result.now = subst IsClass (sym c.parts.ensures.same) c.parts.ensures.whole in
    subst IsExpression (sym c.in_ok-parts.ensures.meant) (parts_are_expression (offer_of c.args.registry.now) c.args.classes.now c.parts.result.now whole)
