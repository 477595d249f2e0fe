use Rattle.pg_bench_json.proofs.Listed.{listed_none}
use Rattle.pg_bench_json.proofs.json.list_nothing.Goals as goal

pub returns : goal.returns
returns g c = listed_none c.args.checked.now (g.W.Write.contents c.args._writer.now.inner) c.grammar-grammar.ensures.checked
