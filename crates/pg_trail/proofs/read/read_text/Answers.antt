use Rattle.std.proofs.lemmas.Result.{err_from_is_err_and}
use Rattle.json.specs.Reads.{token_of}
use Rattle.pg_trail.proofs.Whole.{text_refused, text_whole, text_longer}
use Rattle.pg_trail.proofs.read.read_text.Goals as goal

pub returns-in_err-trail : goal.returns-in_err-trail
returns-in_err-trail c =
    let p = err_from_is_err_and c.from_residual-in_err-trail.result c.from_residual-in_err-trail.ensures.1 in
    rw (p.1, p.2) (text_refused c.args.text.now c.in_ok-reader.reader c.in_ok-reader.ensures.ok c.read_list.new.reader c.in_err-trail.field-0.0 c.in_err-trail.ensures)

pub returns-in-Some : goal.returns-in-Some
returns-in-Some c =
    text_longer c.args.text.now c.in_ok-reader.reader c.in_ok-reader.ensures.ok c.read_list.new.reader c.in_ok-trail.trail c.in_ok-trail.ensures (token_of c.in-Some.field-0) c.next.new.self c.in-Some.ensures.value

pub returns : goal.returns
returns c = text_whole c.args.text.now c.in_ok-reader.reader c.in_ok-reader.ensures.ok c.read_list.new.reader c.in_ok-trail.trail c.in_ok-trail.ensures c.in-None.ensures.value.0
