-- Each turn is a turn of the definition.
use Rattle.std.proofs.Common.{sym, ap, ◌∙◌, refl}
use Rattle.pg_file_tokens.specs.View.{prefix_of}
use Rattle.pg_file_tokens.proofs.LexerLemmas.Places.{lexed_none, lexed_blank, lexed_token, lexed_bad, lexed_end, lexed_spelled, lexed_only, token_shorter}
use Rattle.pg_file_tokens.proofs.LexerLemmas.Exact.{placed_blank, placed_token, placed_last, placed_bad, placed_end, placed_none, is_late, isnt_late}
use Rattle.pg_file_tokens.proofs.lexer.lexemes.lex_up_to.Goals as goal

pub loop-lexemes-init : goal.loop-lexemes-init
loop-lexemes-init c = rw c.new-lexemes.ensures.items (record { lexed = lexed_none c.args.characters.now; exact = placed_none c.args.last c.args.characters.now })

pub loop-lexemes-preserved-in-Blank : goal.loop-lexemes-preserved-in-Blank
loop-lexemes-preserved-in-Blank c =
    let blank = sym c.in_ok-prefix.ensures ∙ ap prefix_of c.in-Blank.is in
    record { lexed = lexed_blank c.loop-lexemes.invariant.lexed _ blank; exact = placed_blank c.loop-lexemes.invariant.exact _ blank }

pub loop-lexemes-preserved : goal.loop-lexemes-preserved
loop-lexemes-preserved c =
    let token = sym c.in_ok-prefix.ensures ∙ ap prefix_of c.in-Token.is in
    let pushed = c.in_ok-push-in-Token.ensures.items in
    record {
      lexed = lexed_token c.loop-lexemes.invariant.lexed _ _ _ token refl pushed;
      exact = placed_token c.loop-lexemes.invariant.exact _ _ _ token refl pushed (isnt_late _ _ c.if-place-last.false);
    }

pub loop-lexemes-smaller : goal.loop-lexemes-smaller
loop-lexemes-smaller c = token_shorter _ _ _ (sym c.in_ok-prefix.ensures ∙ ap prefix_of c.in-Token.is)

pub returns-then-place-last-clause-exact : goal.returns-then-place-last-clause-exact
returns-then-place-last-clause-exact c =
    let token = sym c.in_ok-prefix.ensures ∙ ap prefix_of c.in-Token.is in
    placed_last c.loop-lexemes.invariant.exact _ _ _ token refl c.in_ok-push-in-Token.ensures.items (is_late _ _ c.if-place-last.true)

pub returns-in-End : goal.returns-in-End
returns-in-End c =
    let end = sym c.in_ok-prefix.ensures ∙ ap prefix_of c.in-End.is in
    let lexed = lexed_end c.loop-lexemes.invariant.lexed end in
    record { exact = placed_end c.loop-lexemes.invariant.exact end; tokens = λ _. lexed.tokens; spelled = λ _. lexed_spelled lexed; only = λ _. lexed_only lexed; placed = λ _. lexed.placed; within = λ _. lexed.within; ascending = λ _. lexed.ascending }

pub returns-in-Bad : goal.returns-in-Bad
returns-in-Bad c =
    let broken = sym c.in_ok-prefix.ensures ∙ ap prefix_of c.in-Bad.is in
    let pushed = c.in_ok-push-in-Bad.ensures.items in
    let lexed = lexed_bad c.loop-lexemes.invariant.lexed _ _ broken refl refl pushed in
    record { exact = placed_bad c.loop-lexemes.invariant.exact _ _ broken refl refl pushed; tokens = λ _. lexed.tokens; spelled = λ _. lexed_spelled lexed; only = λ _. lexed_only lexed; placed = λ _. lexed.placed; within = λ _. lexed.within; ascending = λ _. lexed.ascending }
