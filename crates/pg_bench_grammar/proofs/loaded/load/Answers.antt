use Rattle.std.proofs.Common.{◌≡◌, List, length, sym, subst}
use Rattle.pg_pred.specs.Offer.{offer_of}
use Rattle.pg_grammar_value.specs.Fits.{Fits}
use Rattle.pg_grammar_value.specs.Grammar.{Grammar}
use Rattle.pg_table.specs.Tables.{initial, whole}
use Rattle.pg_file_making.specs.Spells.{SpellsWithinLimits}
use Rattle.pg_bench_grammar.proofs.loaded.load.Goals as goal

pub returns-in-Ok-clause-ok : goal.returns-in-Ok-clause-ok
returns-in-Ok-clause-ok g c =
    let offer = offer_of c.args.registry.now in
    let read = c.in_ok-read.ensures in
    let placed = c.in_ok-read.read.placed in
    let same = sym c.in-Ok.ensures.same in
    record {
      spelled = subst (SpellsWithinLimits offer c.args.bytes.now) same read.ok;
      fits = subst (Fits offer) same read.fits;
      judged = c.in-Ok.ensures.judged;
      characters_are = read.characters;
      syntax_is = read.syntax;
      spans_are = subst (λ (g : Grammar). length placed.spans.items ≡ length g.nodes) same read.spans;
      table_is = subst (λ (g : Grammar). initial g ≡ whole placed.table) same read.initial;
    }
