use Rattle.std.proofs.Common.{ℕ, List, subst}
use Rattle.std.proofs.lemmas.Result.{on_ok_weaker}
use Rattle.std.specs.Io.KnownBytes.{Appends}
use Rattle.pg_tree.specs.Bytes.{AppendsPrefix}
use Rattle.pg_bench_grammar.proofs.Results.{on_this_err}
use Rattle.pg_bench_grammar.proofs.sets.sets_bytes.Goals as goal

pub returns-clause-ok : goal.returns-clause-ok
returns-clause-ok g c =
    on_ok_weaker c.write_page.result
    (λ written. record {
      grammar = c.in_ok-grammar.grammar;
      spelled = c.in_ok-grammar.ensures.ok;
      page = c.in-Ok.page.items;
      shown = c.in-Ok.ensures;
      written = subst (λ (bytes : List ℕ). Appends (g.W.Write.contents c.args.writer.now.inner) (g.W.Write.contents c.write_page.new.writer.inner) bytes)
          c.as_slice.ensures.value written;
    }) c.write_page.ensures.ok

pub returns-clause-prefix : goal.returns-clause-prefix
returns-clause-prefix g c is =
    let prefix = on_this_err c.write_page.result c.write_page.ensures.prefix is in
    record {
      grammar = c.in_ok-grammar.grammar;
      spelled = c.in_ok-grammar.ensures.ok;
      page = c.in-Ok.page.items;
      shown = c.in-Ok.ensures;
      written = subst (λ (bytes : List ℕ). AppendsPrefix (g.W.Write.contents c.args.writer.now.inner) (g.W.Write.contents c.write_page.new.writer.inner) bytes)
          c.as_slice.ensures.value prefix;
    }
