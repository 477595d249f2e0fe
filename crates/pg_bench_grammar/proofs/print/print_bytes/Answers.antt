use Rattle.std.proofs.Common.{ℕ, List, subst, ◌∙◌}
use Rattle.std.proofs.lemmas.Result.{on_ok_weaker}
use Rattle.std.specs.Io.KnownBytes.{Appends}
use Rattle.pg_tree.specs.Bytes.{AppendsPrefix}
use Rattle.pg_pred.specs.Offer.{offer_of}
use Rattle.pg_file_making.specs.Spells.{Spells}
use Rattle.pg_bench_grammar.proofs.Results.{on_this_err}
use Rattle.pg_bench_grammar.proofs.print.print_bytes.Goals as goal

pub returns-clause-ok : goal.returns-clause-ok
returns-clause-ok g c =
    let offer = offer_of c.args.registry.now in
    let spelled = c.in_ok-grammar.ensures.ok in
    on_ok_weaker c.write_page.result
    (λ written. record {
      grammar = c.in_ok-grammar.grammar;
      spelled = spelled;
      again = subst (λ (bytes : List ℕ). Spells offer bytes c.in_ok-grammar.grammar) c.in-Ok.ensures.bytes
          (c.in-Ok.ensures.spells offer c.args.grammar.now spelled.spells);
      written = subst (λ (bytes : List ℕ). Appends (g.W.Write.contents c.args.writer.now.inner) (g.W.Write.contents c.write_page.new.writer.inner) bytes)
          (c.as_slice.ensures.value ∙ c.in-Ok.ensures.bytes) written;
    }) c.write_page.ensures.ok

pub returns-clause-prefix : goal.returns-clause-prefix
returns-clause-prefix g c is =
    let prefix = on_this_err c.write_page.result c.write_page.ensures.prefix is in
    record {
      grammar = c.in_ok-grammar.grammar;
      spelled = c.in_ok-grammar.ensures.ok;
      written = subst (λ (bytes : List ℕ). AppendsPrefix (g.W.Write.contents c.args.writer.now.inner) (g.W.Write.contents c.write_page.new.writer.inner) bytes)
          (c.as_slice.ensures.value ∙ c.in-Ok.ensures.bytes) prefix;
    }
