use Rattle.std.proofs.lemmas.Result.{IfOk-weaker, IfErr-weaker}
use Rattle.pg_pred.specs.Offer.{offer_of}
use Rattle.pg_bench.specs.Probing.{IsShownOfText}
use Rattle.pg_bench.proofs.Loaded.{no_file_fault, is_read_first, after_any}
use Rattle.pg_bench.proofs.ShownTexts.{written_file, partly_written_file, spelled_file}
use Rattle.pg_bench.proofs.probe.probe_bytes.Goals as goal

pub returns-clause-ok : goal.returns-clause-ok
returns-clause-ok g c =
    IfOk-weaker c.probe_grammar-probed.result _ _
    (λ accepted h. written_file (λ grammar. IsShownOfText grammar c.args.name.now c.args.max_steps c.args.reading) (offer_of c.args.registry.now) c.args.grammar.now
    c.in_ok-placed.placed.grammar c.in_ok-placed.ensures.ok _ _ _ _ accepted h) c.probe_grammar-probed.ensures.ok

pub returns-clause-file : goal.returns-clause-file
returns-clause-file g c =
    IfErr-weaker c.probe_grammar-probed.result _ _ (λ fault h. no_file_fault (offer_of c.args.registry.now) c.args.grammar.now fault h) c.probe_grammar-probed.ensures.no_file

pub returns-clause-unread : goal.returns-clause-unread
returns-clause-unread g c = is_read_first _ c.probe_grammar-probed.result c.probe_grammar-probed.ensures.no_file

pub returns-clause-spelled : goal.returns-clause-spelled
returns-clause-spelled g c =
    after_any c.probe_grammar-probed.result
    (λ fault later. spelled_file (offer_of c.args.registry.now) c.args.grammar.now c.in_ok-placed.placed.grammar c.in_ok-placed.ensures.ok)

pub returns-clause-prefix : goal.returns-clause-prefix
returns-clause-prefix g c is =
    partly_written_file (λ grammar. IsShownOfText grammar c.args.name.now c.args.max_steps c.args.reading) (offer_of c.args.registry.now) c.args.grammar.now
    c.in_ok-placed.placed.grammar c.in_ok-placed.ensures.ok _ _ _ _ (c.probe_grammar-probed.ensures.prefix is)
