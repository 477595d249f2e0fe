use Rattle.std.proofs.Common.{◌≡◌, true, false, Err, sym, ap, subst, ◌∙◌}
use Rattle.std.proofs.lemmas.Result.{err_from_is_err_and}
use Rattle.pg_pred.specs.Offer.{offer_of}
use Rattle.pg_file_meaning.specs.Names.{ClassIsKnown}
use Rattle.pg_file_meaning.specs.declared.error.MakingError.TheVariants.{Refused}
use Rattle.pg_file_making.proofs.MakingLemmas.Refused.{operators_no_fault, operators_are_new, where_none}
use Rattle.pg_file_making.proofs.handing.operators_item.Goals as goal

pub returns-in-Err-clause-refused : goal.returns-in-Err-clause-refused
returns-in-Err-clause-refused g c = λ refused entries grammar may says.
    let none = operators_no_fault (offer_of c.args.registry.now) c.args.maker.now c.args.operators.now.class.now c.args.operators.now.gap.now c.args.operators.now.reserved.now c.args.operators.now.most c.requires.proper may in
    let class = c.class_parts.view_is ∙ rw c.requires.names at c.in_ok-class_parts.ensures.meant in
    let gap = rw c.requires.names at c.in_ok-gap_parts.ensures.meant in
    let reserved = c.in_ok-texts.ensures in
    let most = c.unwrap_or-max.ensures in
    let taken : false ≡ true = where_none _ _ _ none (rw (class, gap, reserved, most) at c.in-Err.ensures.refused) in
    absurd cc

pub returns-in_err-class_parts-clause-refused : goal.returns-in_err-class_parts-clause-refused
returns-in_err-class_parts-clause-refused g c = λ refused entries grammar may says.
    let p = err_from_is_err_and c.from_residual.result c.from_residual.ensures.1 in
    let is : c.in_err-class_parts.field-0.0 ≡ Refused = cc (refused, p.1, p.2) in
    let known : ClassIsKnown (offer_of c.args.registry.now) c.args.classes.now c.args.operators.now.class.now =
    subst (λ classes. ClassIsKnown (offer_of c.args.registry.now) classes c.args.operators.now.class.now) (sym c.requires.names) may.known.0 in
    c.in_err-class_parts.ensures.refused (ap Err is) known

pub returns-in_err-gap_parts-clause-refused : goal.returns-in_err-gap_parts-clause-refused
returns-in_err-gap_parts-clause-refused g c = λ refused entries grammar may says.
    let p = err_from_is_err_and c.from_residual-in_err-gap_parts.result c.from_residual-in_err-gap_parts.ensures.1 in
    let is : c.in_err-gap_parts.field-0.0 ≡ Refused = cc (refused, p.1, p.2) in
    let known : ClassIsKnown (offer_of c.args.registry.now) c.args.classes.now c.args.operators.now.gap.now =
    subst (λ classes. ClassIsKnown (offer_of c.args.registry.now) classes c.args.operators.now.gap.now) (sym c.requires.names) may.known.1 in
    c.in_err-gap_parts.ensures.refused (ap Err is) known

pub returns-in-Ok-clause-follows : goal.returns-in-Ok-clause-follows
returns-in-Ok-clause-follows g c = record {
  known = (rw c.requires.names at c.in_ok-class_parts.ensures.known, rw c.requires.names at c.in_ok-gap_parts.ensures.known);
  new = operators_are_new _ _ c.args.maker.now _ _ _ _ _ c.in-Ok.ensures.refused;
}
