use Rattle.std.proofs.Common.{◌≡◌, None, Err, sym, ap, subst, ◌∙◌}
use Rattle.std.proofs.lemmas.Result.{err_from_is_err_and}
use Rattle.std.specs.List.{AllByRecursion}
use Rattle.pg_pred.specs.Offer.{offer_of}
use Rattle.pg_grammar.specs.declared.maker_fault.MakerFault.TheVariants as fault
use Rattle.pg_grammar.specs.Made.{rule_fault}
use Rattle.pg_file_items.specs.Entries.{forms_of}
use Rattle.pg_file_meaning.specs.Names.{FormIsKnown}
use Rattle.pg_file_meaning.specs.declared.error.MakingError.TheVariants.{Memory, Refused}
use Rattle.pg_file_making.proofs.MakingLemmas.Refused.{rule_is_body, rule_no_fault, rule_is_new, where_none, no_fault}
use Rattle.pg_file_making.proofs.handing.rule_item.Goals as goal

pub rule-requires : goal.rule-requires
rule-requires g c =
    rw (c.in_ok-forms.ensures.forms, c.in_ok-placed.ensures.meant) (rule_is_body (offer_of c.args.registry.now) c.args.classes.now c.args.rule.now.name.now (forms_of c.args.rule.now.body.now) c.requires.proper)

pub returns-in_err-placed-clause-refused : goal.returns-in_err-placed-clause-refused
returns-in_err-placed-clause-refused g c = λ refused entries grammar may says.
    let p = err_from_is_err_and c.from_residual.result c.from_residual.ensures.1 in
    let is : c.in_err-placed.field-0.0 ≡ Refused = cc (refused, p.1, p.2) in
    let known : AllByRecursion (FormIsKnown (offer_of c.args.registry.now) c.args.classes.now) (forms_of c.args.rule.now.body.now) =
    subst (λ classes. AllByRecursion (FormIsKnown (offer_of c.args.registry.now) classes) (forms_of c.args.rule.now.body.now)) (sym c.requires.names) may.known in
    c.in_err-placed.ensures.refused (ap Err is) known

pub returns-in-Ok-clause-follows : goal.returns-in-Ok-clause-follows
returns-in-Ok-clause-follows g c =
    let none : rule_fault c.args.maker.now c.in_ok-copied.field-0 c.in_ok-forms.forms.items ≡ None = no_fault _ _ _ c.in-Ok.ensures.refused in
    let name = c.in_ok-copied.ensures ∙ c.as_slice.ensures in
    record {
      known = rw c.requires.names at c.in_ok-placed.ensures.known;
      new = rw name at (rule_is_new c.args.maker.now c.in_ok-copied.field-0 c.in_ok-forms.forms.items none);
    }

pub returns-in-Err-clause-refused : goal.returns-in-Err-clause-refused
returns-in-Err-clause-refused g c = λ refused entries grammar may says.
    let none = rule_no_fault (offer_of c.args.registry.now) c.args.maker.now c.args.rule.now.name.now (forms_of c.args.rule.now.body.now) entries grammar c.requires.proper may says in
    let meant = c.in_ok-forms.ensures.forms ∙ c.in_ok-placed.ensures.meant in
    let body = rw c.requires.names at meant in
    let name = c.in_ok-copied.ensures ∙ c.as_slice.ensures in
    let memory : c.in-Err.fault ≡ fault.Memory = where_none _ _ _ none (rw (name, body) at c.in-Err.ensures.refused) in
    let answer : c.unmade.result ≡ Memory = c.unmade.ensures.1 memory in
    absurd cc
