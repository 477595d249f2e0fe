use Rattle.std.proofs.Common.{◌≡◌, Err, refl, ap, subst, ◌∙◌}
use Rattle.std.proofs.lemmas.Result.{err_from_is_err_and}
use Rattle.pg_pred.specs.Offer.{offer_of}
use Rattle.pg_grammar.specs.declared.maker_fault.MakerFault.TheVariants as fault
use Rattle.pg_grammar.specs.Made.{Says, finish_fault}
use Rattle.pg_file_items.specs.Entries.{entries_of}
use Rattle.pg_file_making.specs.Spells.{HasInitialTable}
use Rattle.pg_file_meaning.specs.declared.error.MakingError.TheVariants.{Memory, Refused}
use Rattle.pg_file_making.proofs.MakingLemmas.Refused.{where_none}
use Rattle.pg_file_making.proofs.MakingLemmas.Turns.{proper_next, hand_next, next_nowhere, all_handed, grammar_no_fault, only_grammar, said_nodes, spans_next, all_spans_noted}
use Rattle.pg_file_making.proofs.making.made_of.Goals as goal

pub loop-item-init : goal.loop-item-init
loop-item-init g c = record {
  handed = record { made_is = c.new-maker.ensures; ordered = tt };
  classes = rw (c.new-classes.ensures.items, c.new-maker.ensures) refl;
  count = rw (c.new-spans.ensures.items, c.new-maker.ensures) refl;
  spans = c.new-spans.ensures.items;
}

pub hand_in-requires : goal.hand_in-requires
hand_in-requires g c = record {
  proper = proper_next c.args.items.now c.requires.items c.loop-item.item-index c.item-item.result c.requires.proper c.requires.meant c.loop-item-test.true c.item-item.is;
  names = c.loop-item.invariant.classes;
  forms = c.loop-item.invariant.count;
}

pub loop-item-preserved : goal.loop-item-preserved
loop-item-preserved g c = record {
  handed = hand_next _ c.args.items.now c.loop-item.item-index c.item-item.result c.loop-item.maker c.hand_in.new.maker c.loop-item-test.true c.item-item.is c.loop-item.invariant.handed c.in_ok-hand_in.ensures.follows c.in_ok-hand_in.ensures.made;
  classes = c.in_ok-hand_in.ensures.names;
  count = c.in_ok-hand_in.ensures.forms;
  spans = spans_next c.args.items.now c.loop-item.item-index c.item-item.result c.loop-item.spans.items c.hand_in.new.spans.items c.loop-item-test.true c.item-item.is c.loop-item.invariant.spans c.in_ok-hand_in.ensures.spans;
}

pub returns-in_err-hand_in-clause-refused : goal.returns-in_err-hand_in-clause-refused
returns-in_err-hand_in-clause-refused g c = λ refused grammar is.
    let p = err_from_is_err_and c.from_residual-in_err-hand_in.result c.from_residual-in_err-hand_in.ensures.1 in
    let same : c.in_err-hand_in.field-0.0 ≡ Refused = cc (refused, p.1, p.2) in
    let nowhere = c.in_err-hand_in.ensures.refused (ap Err same) in
    next_nowhere (offer_of c.args.registry.now) c.args.items.now c.loop-item.item-index c.item-item.result c.loop-item.maker grammar c.loop-item-test.true c.item-item.is c.loop-item.invariant.handed nowhere is

pub returns-in-Err-clause-refused : goal.returns-in-Err-clause-refused
returns-in-Err-clause-refused g c = λ refused grammar is.
    let handed = all_handed (offer_of c.args.registry.now) c.args.items.now c.loop-item.item-index c.loop-item.maker c.loop-item-test.false c.loop-item.invariant.handed in
    let none = grammar_no_fault (offer_of c.args.registry.now) (entries_of c.args.items.now) c.loop-item.maker grammar handed is in
    let memory : c.in-Err.unfinished.fault ≡ fault.Memory = where_none (finish_fault c.loop-item.maker) _ _ none c.in-Err.ensures.refused in
    let answer : c.unmade.result ≡ Memory = c.unmade.ensures.1 memory in
    absurd cc

pub returns-in_err-table-clause-refused : goal.returns-in_err-table-clause-refused
returns-in_err-table-clause-refused g c = λ refused grammar is.
    let handed = all_handed (offer_of c.args.registry.now) c.args.items.now c.loop-item.item-index c.loop-item.maker c.loop-item-test.false c.loop-item.invariant.handed in
    let made = only_grammar (offer_of c.args.registry.now) (entries_of c.args.items.now) c.loop-item.maker c.in-Ok.grammar grammar handed c.in-Ok.ensures.ok is in
    let p = err_from_is_err_and c.from_residual-in_err-table.result c.from_residual-in_err-table.ensures.1 in
    let same : c.in_err-table.field-0.0 ≡ Refused = cc (refused, p.1, p.2) in
    c.in_err-table.ensures.refused (ap Err same) (subst HasInitialTable made is.admitted)

pub returns : goal.returns
returns g c =
    let handed = all_handed (offer_of c.args.registry.now) c.args.items.now c.loop-item.item-index c.loop-item.maker c.loop-item-test.false c.loop-item.invariant.handed in
    record {
      ok = record {
        ordered = handed.ordered;
        says = subst (λ m. Says m c.in-Ok.grammar) handed.made_is c.in-Ok.ensures.ok;
        admitted = (c.in_ok-table.table, c.in_ok-table.ensures.ok);
      };
      count = c.loop-item.invariant.count ∙ said_nodes c.loop-item.maker c.in-Ok.grammar c.in-Ok.ensures.ok;
      spans = all_spans_noted c.args.items.now c.loop-item.item-index c.loop-item.spans.items c.loop-item-test.false c.loop-item.invariant.spans;
      initial = c.in_ok-table.ensures.ok;
      comes = c.in_ok-table.ensures.comes;
      refused = λ refused grammar is. absurd cc;
    }
