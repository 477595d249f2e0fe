use Rattle.std.proofs.Common.{List, sym, ap, subst, ◌∙◌}
use Rattle.std.proofs.lemmas.Result.{err_from_is_err_and}
use Rattle.pg_pred.specs.Offer.{offer_of}
use Rattle.pg_grammar.proofs.Unique.{same_grammar}
use Rattle.pg_file_items.specs.Entries.{entries_of}
use Rattle.pg_file_items.specs.declared.item.Item.{Item}
use Rattle.pg_file_making.specs.Making.{IsGrammarOfEntries}
use Rattle.pg_file_making.specs.Spans.{items_spans}
use Rattle.pg_file.specs.Answers.{IsFault}
use Rattle.pg_file.specs.Refusals.{IsBadAt, IsErrorAt}
use Rattle.pg_file.proofs.ReadLemmas.Spelled.{is_spelled, spelled_grammar}
use Rattle.pg_file.proofs.ReadLemmas.Fitting.{grammar_fits}
use Rattle.pg_file.proofs.file.grammar_in.Goals as goal

pub returns-in_err-syntax-clause-refused : goal.returns-in_err-syntax-clause-refused
returns-in_err-syntax-clause-refused g c =
    let p = err_from_is_err_and c.from_residual.result c.from_residual.ensures.1 in
    rw p.1 (λ fault g' h. c.in_err-syntax.ensures.refused (subst IsFault p.2 fault) (offer_of c.args.registry.now) g' h)

pub returns-in_err-syntax-clause-err : goal.returns-in_err-syntax-clause-err
returns-in_err-syntax-clause-err g c =
    let p = err_from_is_err_and c.from_residual.result c.from_residual.ensures.1 in
    rw p.1 (subst (IsErrorAt (IsBadAt c.args.characters.now)) (sym p.2) c.in_err-syntax.ensures.err)

pub returns-in-Ok-clause-ok : goal.returns-in-Ok-clause-ok
returns-in-Ok-clause-ok g c =
    let offer = offer_of c.args.registry.now in
    let characters = c.args.characters.now in
    let syntax = c.in_ok-syntax.ensures.ok in
    let made = subst (λ (is : List Item). IsGrammarOfEntries offer (entries_of is) c.in-Ok.placed.grammar) c.as_slice.ensures.value c.in-Ok.ensures.ok in
    record {
      syntax_is = syntax;
      spelled = is_spelled offer characters _ _ _ syntax.spelled syntax.written made;
      only = λ g' h. same_grammar _ _ _ made.says (spelled_grammar offer characters _ _ g' syntax.only_tokens syntax.only_items h).says;
      fits = grammar_fits _ _ _ made;
      spans = c.in-Ok.ensures.count;
      spans_are = c.in-Ok.ensures.spans ∙ ap items_spans c.as_slice.ensures.value;
      initial_is = c.in-Ok.ensures.initial;
      comes = c.in-Ok.ensures.comes;
    }

pub returns-in-Err-clause-refused : goal.returns-in-Err-clause-refused
returns-in-Err-clause-refused g c =
    let offer = offer_of c.args.registry.now in
    let characters = c.args.characters.now in
    let syntax = c.in_ok-syntax.ensures.ok in
    λ fault g' h.
    let grammar = spelled_grammar offer characters _ _ g' syntax.only_tokens syntax.only_items h in
    c.in-Err.ensures.refused (c.grammar_error.ensures.fault fault) g'
    (subst (λ (is : List Item). IsGrammarOfEntries offer (entries_of is) g') (sym c.as_slice.ensures.value) grammar)
