use Rattle.std.proofs.Common.{◌≡◌, false, None, sym, ◌∙◌}
use Rattle.pg_pred.specs.Offer.{offer_of}
use Rattle.pg_grammar.specs.declared.maker_fault.MakerFault.TheVariants as fault
use Rattle.pg_grammar.specs.Made.{class_fault}
use Rattle.pg_file_meaning.specs.Names.{ClassIsKnown, is_predicate_name}
use Rattle.pg_file_making.specs.Spells.{made_classes}
use Rattle.pg_file_meaning.specs.declared.error.MakingError.TheVariants.{Memory}
use Rattle.pg_file_making.proofs.MakingLemmas.Refused.{class_no_fault, class_is_new, where_none, no_fault}
use Rattle.pg_file_making.proofs.handing.class_item.Goals as goal

pub returns-in-Err-clause-refused : goal.returns-in-Err-clause-refused
returns-in-Err-clause-refused g c = λ refused entries grammar may says.
    let none = class_no_fault (offer_of c.args.registry.now) c.args.maker.now c.args.name.now c.args.class.now entries grammar c.requires.proper may says in
    let names = c.as_slice.ensures.value ∙ c.requires.names in
    let class = rw names at c.in_ok-class.ensures.meant in
    let name = c.in_ok-copied.ensures in
    let slice = c.as_slice-name.ensures in
    let memory : c.in-Err.fault ≡ fault.Memory = where_none _ _ _ none (rw (name, slice, class) at c.in-Err.ensures.refused) in
    let answer : c.unmade.result ≡ Memory = c.unmade.ensures.1 memory in
    absurd cc

pub returns-clause-follows : goal.returns-clause-follows
returns-clause-follows g c =
    let names = c.as_slice.ensures.value ∙ c.requires.names in
    let known : ClassIsKnown (offer_of c.args.registry.now) (made_classes c.args.maker.now) c.args.class.now = rw names at c.in_ok-class.ensures.known in
    let none : class_fault c.args.maker.now c.in_ok-copied.field-0 c.in_ok-class.class ≡ None = no_fault _ _ _ c.in_default.ensures.refused in
    let name = c.in_ok-copied.ensures ∙ c.as_slice-name.ensures in
    let new = rw name at (class_is_new c.args.maker.now c.in_ok-copied.field-0 c.in_ok-class.class none) in
    let other : is_predicate_name (offer_of c.args.registry.now) c.args.name.now ≡ false =
    rw c.as_slice-name.ensures at (sym c.in_ok-is_predicate_name.ensures ∙ c.if-branch.false) in
    record { known = known; new = (new, other) }
