use Rattle.std.proofs.Common.{◌≡◌, ℕ, ◌*◌, ◌∙◌, ◌++◌, ap, arith}
use Rattle.std.specs.Prelude.{replicate}
use Rattle.pg_corpus_outline.proofs.Printing.{blanks_more}
use Rattle.pg_corpus_outline.proofs.page.push_blanks.Goals as goal

pub loop-level-preserved : goal.loop-level-preserved
loop-level-preserved c = record {
  within = omega arith;
  so_far = blanks_more c.args.page.now.items c.loop-level.page.items c.push.new.self.items c.push-in-loop-level.new.self.items c.loop-level.level 32
      c.loop-level.invariant.so_far c.in_ok-push.ensures.items c.in_ok-push-2.ensures.items;
}

pub returns : goal.returns
returns c =
    let e : c.loop-level.level ≡ c.args.levels = omega arith in
    c.loop-level.invariant.so_far ∙ ap (λ (n : ℕ). c.args.page.now.items ++ replicate (2 * n) 32) e
