use Rattle.std.proofs.Common.{◌≡◌, ℕ, Option, Some, None, true, List, refl, sym, ap, subst, ◌∙◌}
use Rattle.std.specs.Option.{is_some}
use Rattle.std.proofs.lemmas.Bool.{true≢false}
use Rattle.pg_graph.specs.Graphs.{has, numbers_at, IsReached}
use Rattle.pg_sets_nullable.specs.Ranks.{rank_at}
use Rattle.pg_predict_conditions.proofs.Chains.{reached_chain, chain_reached, ranked_no_chain}
use Rattle.pg_predict_conditions.proofs.recursion.heads_itself.Goals as goal

record Has (o : Option ℕ) : Type 0 where
  value : ℕ
  is : o ≡ Some value

has_value : (o : Option ℕ) → is_some o ≡ true → Has o
has_value (Some n) e = record { value = n; is = refl }
has_value None e = absurd (true≢false (sym e))

pub returns-then-is_some : goal.returns-then-is_some
returns-then-is_some c =
    let rank = c.rank.ensures ∙ ap (rank_at c.args.sets.now.ranks) c.new.ensures in
    let some = has_value c.rank.result (sym c.is_some.ensures ∙ c.if-is_some.true) in
    let sets = c.requires.sets in (
      λ e. absurd (true≢false (sym e)),
      λ chain. absurd (ranked_no_chain c.args.grammar.now c.args.sets.now.ranks c.args.rule some.value sets.ranks c.requires.rule (sym rank ∙ some.is) chain),
    )

pub returns : goal.returns
returns c =
    let g = c.args.grammar.now in
    let lists = c.args.sets.now.heads in
    let rule = c.args.rule in
    let are = c.requires.sets.heads in
    let roots = c.heads.ensures ∙ ap (numbers_at lists) c.new-2.ensures in
    let says = c.has.ensures ∙ ap (λ ns. has ns rule) c.deref.ensures.value in (
      λ h. reached_chain g lists rule rule are (subst (λ (ns : List ℕ). IsReached lists ns rule) roots ((c.in_ok-met.ensures rule).0 (sym says ∙ h))),
      λ chain. says ∙ (c.in_ok-met.ensures rule).1 (subst (λ (ns : List ℕ). IsReached lists ns rule) (sym roots) (chain_reached g lists rule rule are chain)),
    )
