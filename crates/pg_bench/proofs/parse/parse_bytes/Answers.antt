use Rattle.std.proofs.lemmas.Result.{IfOk-weaker, IfErr-weaker}
use Rattle.pg_pred.specs.Offer.{offer_of}
use Rattle.pg_bench.proofs.Loaded.{parsed_file, partly_file, error_of_file, no_file_fault, no_findings, is_read, after_any, accepted_file}
use Rattle.pg_bench.proofs.parse.parse_bytes.Goals as goal

pub returns-clause-ok : goal.returns-clause-ok
returns-clause-ok g c =
    let loaded = c.in_ok-accepted.ensures in
    IfOk-weaker c.parse_checked-done.result _ _
    (λ done h. parsed_file (offer_of c.args.registry.now) c.args.grammar.now c.in_ok-accepted.accepted.checked loaded.ok loaded.accepted _ _ _ _ _ done h)
    c.parse_checked-done.ensures.ok

pub returns-clause-file : goal.returns-clause-file
returns-clause-file g c =
    IfErr-weaker c.parse_checked-done.result _ _ (λ fault h. no_file_fault (offer_of c.args.registry.now) c.args.grammar.now fault h) c.parse_checked-done.ensures.no_file

pub returns-clause-refused : goal.returns-clause-refused
returns-clause-refused g c =
    IfErr-weaker c.parse_checked-done.result _ _ (λ fault h. no_findings (offer_of c.args.registry.now) c.args.grammar.now fault h) c.parse_checked-done.ensures.unchecked

pub returns-clause-unread : goal.returns-clause-unread
returns-clause-unread g c = is_read _ c.parse_checked-done.result c.parse_checked-done.ensures.no_file c.parse_checked-done.ensures.unchecked

pub returns-clause-accepted : goal.returns-clause-accepted
returns-clause-accepted g c =
    let loaded = c.in_ok-accepted.ensures in
    after_any c.parse_checked-done.result
    (λ fault later. accepted_file (offer_of c.args.registry.now) c.args.grammar.now c.in_ok-accepted.accepted.checked loaded.ok loaded.accepted)

pub returns-clause-parse_error : goal.returns-clause-parse_error
returns-clause-parse_error g c =
    let loaded = c.in_ok-accepted.ensures in
    IfErr-weaker c.parse_checked-done.result _ _
    (λ fault h. error_of_file (offer_of c.args.registry.now) c.args.grammar.now c.in_ok-accepted.accepted.checked loaded.ok loaded.accepted _ _ fault h)
    c.parse_checked-done.ensures.parse_error

pub returns-clause-prefix : goal.returns-clause-prefix
returns-clause-prefix g c is =
    let loaded = c.in_ok-accepted.ensures in
    partly_file (offer_of c.args.registry.now) c.args.grammar.now c.in_ok-accepted.accepted.checked loaded.ok loaded.accepted _ _ _ _ _
    (c.parse_checked-done.ensures.prefix is)
