-- Each turn is a turn of the definition.
use Rattle.std.proofs.Common.{sym, ap, ◌∙◌, arith}
use Rattle.pg_file_tokens.proofs.LexerLemmas.Turns.{literal_at_first, literal_at_short, turn_closes, turn_ends, turn_escapes, turn_goes_on, with_prefix, with_prefix_step, with_prefix_wrong, with_prefix_closed, with_prefix_spoilt, with_prefix_unclosed, escape_shorter}
use Rattle.pg_file_tokens.proofs.lexer.literal.literal.Goals as goal

pub loop-rest-preserved : goal.loop-rest-preserved
loop-rest-preserved c =
    let turn = literal_at_first _ _ c.in-len1-up.len_at_least c.first-item.is in
    with_prefix_step _ _ _ _ _ _ _ c.loop-rest.invariant (turn_goes_on _ _ _ turn (λ h. omega arith) (λ h. omega arith) (λ h. omega arith)) c.in_ok-push-in_default-first.ensures.items

pub loop-rest-preserved-in-Some : goal.loop-rest-preserved-in-Some
loop-rest-preserved-in-Some c =
    let turn = literal_at_first _ _ c.in-len1-up.len_at_least c.first-item.is in
    with_prefix_step _ _ _ _ _ _ _ c.loop-rest.invariant (turn_escapes _ _ _ _ turn c.in-92.is c.in-Some.ensures) c.in_ok-push-in-Some.ensures.items

pub loop-rest-preserved-in-None : goal.loop-rest-preserved-in-None
loop-rest-preserved-in-None c =
    let turn = literal_at_first _ _ c.in-len1-up.len_at_least c.first-item.is in
    with_prefix_wrong c.loop-rest.is_wrong _ _ ∙ sym (ap (with_prefix c.loop-rest.is_wrong _) (turn_escapes _ _ _ _ turn c.in-92.is c.in-None.ensures)) ∙ c.loop-rest.invariant

pub returns-in-34 : goal.returns-in-34
returns-in-34 c =
    let turn = literal_at_first _ _ c.in-len1-up.len_at_least c.first-item.is in
    with_prefix_spoilt _ _ _ _ _ c.loop-rest.invariant (turn_closes _ _ _ turn c.in-34.is) c.if-is_wrong.true

pub returns-in-34-2 : goal.returns-in-34-2
returns-in-34-2 c =
    let turn = literal_at_first _ _ c.in-len1-up.len_at_least c.first-item.is in
    with_prefix_closed _ _ _ _ _ c.loop-rest.invariant (turn_closes _ _ _ turn c.in-34.is) c.if-is_wrong.false

pub returns-in-10 : goal.returns-in-10
returns-in-10 c =
    let turn = literal_at_first _ _ c.in-len1-up.len_at_least c.first-item.is in
    with_prefix_unclosed _ _ _ _ c.loop-rest.invariant (turn_ends _ _ _ turn c.in-10.is)

pub returns : goal.returns
returns c = with_prefix_unclosed _ _ _ _ c.loop-rest.invariant (literal_at_short _ c.in_default.len_below)

pub loop-rest-smaller-in-Some : goal.loop-rest-smaller-in-Some
loop-rest-smaller-in-Some c = escape_shorter _ _ c.in-Some.ensures
