use Rattle.std.proofs.Common.{◌≡◌, None, ◌∙◌}
use Rattle.pg_pred.specs.Offer.{offer_of}
use Rattle.pg_grammar.specs.declared.maker_fault.MakerFault.TheVariants as fault
use Rattle.pg_grammar.specs.Made.{word_fault}
use Rattle.pg_grammar_form.specs.declared.word_item.WordItem.{WordItem}
use Rattle.pg_file_meaning.specs.declared.error.MakingError.TheVariants.{Memory}
use Rattle.pg_file_making.proofs.MakingLemmas.Refused.{word_no_fault, word_is_new, where_none, no_fault}
use Rattle.pg_file_making.proofs.handing.word_item.Goals as goal

pub returns-in-Err-clause-refused : goal.returns-in-Err-clause-refused
returns-in-Err-clause-refused g c = λ refused entries grammar may says.
    let none = word_no_fault (offer_of c.args.registry.now) c.args.maker.now c.args.word.now.name.now c.args.word.now.head.now c.args.word.now.rest.now c.args.word.now.reserved.now entries grammar c.requires.proper may says in
    let head = c.head_parts.view_is ∙ rw c.requires.names at c.in_ok-head_parts.ensures.meant in
    let rest = c.rest_parts.view_is ∙ rw c.requires.names at c.in_ok-rest_parts.ensures.meant in
    let name = c.in_ok-name.ensures ∙ c.as_slice.ensures in
    let reserved = c.in_ok-texts.ensures in
    let memory : c.in-Err.fault ≡ fault.Memory = where_none _ _ _ none (rw (name, head, rest, reserved) at c.in-Err.ensures.refused) in
    let answer : c.unmade.result ≡ Memory = c.unmade.ensures.1 memory in
    absurd cc

pub returns-in-Ok-clause-follows : goal.returns-in-Ok-clause-follows
returns-in-Ok-clause-follows g c =
    let item : WordItem = record { name = c.in_ok-name.name; head = c.head_parts.inside.parts.value.items; rest = c.rest_parts.inside.parts.value.items; reserved = c.in_ok-texts.field-0 } in
    let none : word_fault c.args.maker.now item ≡ None = no_fault _ _ _ c.in-Ok.ensures.refused in
    let name = c.in_ok-name.ensures ∙ c.as_slice.ensures in
    record {
      known = (rw c.requires.names at c.in_ok-head_parts.ensures.known, rw c.requires.names at c.in_ok-rest_parts.ensures.known);
      new = rw name at (word_is_new c.args.maker.now item none);
    }

pub returns-in-Ok-clause-made : goal.returns-in-Ok-clause-made
returns-in-Ok-clause-made g c =
    let head = c.head_parts.view_is ∙ rw c.requires.names at c.in_ok-head_parts.ensures.meant in
    let rest = c.rest_parts.view_is ∙ rw c.requires.names at c.in_ok-rest_parts.ensures.meant in
    let name = c.in_ok-name.ensures ∙ c.as_slice.ensures in
    let reserved = c.in_ok-texts.ensures in
    rw (name, head, rest, reserved) at c.in-Ok.ensures.ok
