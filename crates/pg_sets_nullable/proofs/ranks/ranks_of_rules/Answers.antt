use Rattle.std.proofs.Common.{◌≡◌, length, drop, arith}
use Rattle.std.proofs.lemmas.Grind.{common_steps}
use Rattle.std.proofs.lemmas.List.{take_at}
use Rattle.pg_sets_nullable.proofs.RankRounds.{settled_ranks}
use Rattle.pg_sets_nullable.proofs.ranks.ranks_of_rules.Goals as goal

pub returns : goal.returns
returns c =
    let g = c.args.grammar.now in
    let new = c.rank_round.new.ranks in
    let long : length new ≡ c.loop.ranks.len = omega arith in
    let rules : length new ≡ length g.rules = omega arith in
    rw (take_at new (drop (length new) c.loop.ranks.items) c.loop.ranks.len long)
    (settled_ranks g new c.args.heads.now
    (record { heads = c.requires.heads; sofar = c.rank_round.ensures.ranks; long = rules; settled = c.loop-test.ensures.settled }))

pub loop-preserved : goal.loop-preserved
loop-preserved c = grind (arith, common_steps)
