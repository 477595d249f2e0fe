use Rattle.std.proofs.lemmas.Result.{IfOk-weaker, IfErr-weaker}
use Rattle.pg_pred.specs.Offer.{offer_of}
use Rattle.pg_bench.proofs.ShownTexts.{show_refused, shown_file}
use Rattle.pg_bench.proofs.showing.shown_of_files.Goals as goal

pub returns-clause-ok : goal.returns-clause-ok
returns-clause-ok g c =
    IfOk-weaker c.shown_of_reader-shown.result _ _
    (λ shown h. shown_file (g.S.ShowsText.Shows c.args.shower.now) (offer_of c.args.registry.now) c.args.grammar.now (g.R.Read.remaining c.args.reader.now.inner)
    (g.R.Read.remaining c.shown_of_reader-shown.new.reader.inner) c.in_ok-placed.placed.grammar shown.accepted shown.page.items c.in_ok-placed.ensures.ok h)
    c.shown_of_reader-shown.ensures.ok

pub returns-clause-err : goal.returns-clause-err
returns-clause-err g c =
    IfErr-weaker c.shown_of_reader-shown.result _ _
    (λ fault h. show_refused (g.S.ShowsText.NoTrail c.args.shower.now) (offer_of c.args.registry.now) c.args.grammar.now c.args.reader.now
    c.shown_of_reader-shown.new.reader (g.R.Read.remaining c.args.reader.now.inner) (g.R.Read.remaining c.shown_of_reader-shown.new.reader.inner)
    c.in_ok-placed.placed.grammar fault c.in_ok-placed.ensures.ok h) c.shown_of_reader-shown.ensures.err
