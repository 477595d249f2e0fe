use Rattle.std.proofs.Common.{◌∷◌, Some, ap, sym, ◌∙◌, subst}
use Rattle.std.proofs.lemmas.Result.{err_from_is_err_and}
use Rattle.json.specs.Token.{begin_object, key}
use Rattle.json.proofs.Grammar.{read_key_is}
use Rattle.pg_trail.specs.Ahead.{data_at}
use Rattle.pg_trail.specs.Readings.{Takes}
use Rattle.pg_trail.specs.TrailJson.{item_value}
use Rattle.pg_trail.proofs.Members.{no_key_fault, choice_fault}
use Rattle.pg_trail.proofs.item.read_members.Goals as goal

pub returns-in_err-key : goal.returns-in_err-key
returns-in_err-key c =
    let p = err_from_is_err_and c.from_residual.result c.from_residual.ensures.1 in
    rw (p.1, p.2) (no_key_fault c.args.reader.now c.first_key.new.reader c.in_err-key.field-0.0 c.in_err-key.ensures.err)

pub returns-in_err-choice : goal.returns-in_err-choice
returns-in_err-choice c =
    let p = err_from_is_err_and c.from_residual-in_err-choice.result c.from_residual-in_err-choice.ensures.1 in
    rw (p.1, p.2) (choice_fault c.in_ok-key.key.now c.args.reader.now c.first_key.new.reader c.in_err-choice.field-0.0 c.in_ok-key.ensures.ok c.in_err-choice.ensures)

pub returns : goal.returns
returns c =
    let first = read_key_is c.args.reader.now (Some c.in_ok-key.key.now) c.first_key.new.reader c.in_ok-key.ensures.ok in
    let all = first ∙ ap (λ k. key k ∷ c.first_key.new.reader) (sym c.in_ok-choice.ensures.0) in
    subst (λ ts. Takes item_value (data_at 126 (begin_object ∷ ts)) c.read_last.new.reader c.read_last.result) (sym all) c.read_last.ensures
