use Rattle.std.proofs.Common.{◌≡◌, ◌<◌, length, None, sym, ap, subst, inl, inr, arith}
use Rattle.std.proofs.lemmas.Bool.{cases_eq, true≢false}
use Rattle.pg_graph.specs.Graphs.{numbers_at}
use Rattle.pg_sets_nullable.specs.Ranking.{rank_above}
use Rattle.pg_sets_nullable.specs.Ranks.{rank_at}
use Rattle.pg_sets_nullable.proofs.RankRounds.{ranked_more, one_less}
use Rattle.pg_sets_nullable.proofs.ranks.rank_round.Goals as goal
use Rattle.pg_sets_nullable.proofs.ranks.rank_round.Goals.{in-Some, in_default}

pub loop-rule-preserved : goal.loop-rule-preserved
loop-rule-preserved c =
    let g = c.args.grammar.now in
    let lists = c.args.heads.now in
    let a = c.loop-rule.rule in
    let ranks = c.loop-rule.ranks in
    let before = c.loop-rule.invariant in
    let most = before.no_more in
    let rules = ap length c.rules-rule-end.ensures.all in
    elim c.match-new_rank.branch [
      | in-Some w ↦
          let arm = w.in-Some in
          let below : a < length ranks = omega arith in
          let fewer = one_less ranks a arm.rank below arm.ensures.0 in
          rw (w.ranks-is, w.grew-is)
          (record {
            ranks = ranked_more g ranks lists a arm.rank c.requires.heads before.ranks below arm.ensures.0 arm.ensures.1;
            no_more = omega arith;
            fewer = omega arith;
            settled = λ e b few none. absurd (true≢false e);
          })
      | in_default w ↦
          let none_here = w.in_default.ensures in
          rw (w.ranks-is, w.grew-is)
          (record {
            ranks = before.ranks;
            no_more = before.no_more;
            fewer = before.fewer;
            settled = λ e b few none.
                elim (cases_eq b a) [
                  | inl same ↦
                      subst (λ x. rank_above ranks 0 (numbers_at lists x) ≡ None) (sym same) (none_here (subst (λ x. rank_at ranks x ≡ None) same none))
                  | inr ne ↦ before.settled e b (omega arith) none
                ];
          })
    ]
