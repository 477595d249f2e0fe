use Rattle.std.proofs.Common.{List, ℕ, sym, ◌∙◌, subst}
use Rattle.std.specs.Global.{Vec}
use Rattle.pg_corpus.specs.Names.{Adds}
use Rattle.pg_corpus.proofs.Apart.{adds}
use Rattle.pg_corpus.proofs.names.add.Goals as goal

pub returns : goal.returns
returns c =
    λ added. subst (λ (keys : List (Vec ℕ)). Adds c.args.name.items c.args.names.now.keys keys) (sym c.in_ok-insert.ensures.keys)
    (adds c.args.names.now.keys c.args.name (sym c.in_ok-insert.ensures.added ∙ added))
