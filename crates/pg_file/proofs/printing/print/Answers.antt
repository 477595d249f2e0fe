use Rattle.std.proofs.Common.{ℕ, List, sym, subst}
use Rattle.std.proofs.lemmas.Result.{IfOk-weaker}
use Rattle.std.specs.Global.{Vec}
use Rattle.pg_file_making.specs.Spells.{Spells, SpellsWithinLimits}
use Rattle.pg_file.proofs.AgainLemmas.Again.{may_be_printed, spells_again, within_limits_again}
use Rattle.pg_file.proofs.printing.print.Goals as goal

pub returns : goal.returns
returns c =
    let g = c.args.grammar.now in
    record {
      bytes = c.print.ensures;
      spells = λ offer file h. IfOk-weaker _ _ (λ (bytes : Vec ℕ). Spells offer bytes.items g)
          (λ bytes e. subst (λ (b : List ℕ). Spells offer b g) (sym e) (spells_again offer g (may_be_printed offer file g h))) c.print.ensures;
      again = λ offer file h limits. IfOk-weaker _ _ (λ (bytes : Vec ℕ). SpellsWithinLimits offer bytes.items g)
          (λ bytes e. subst (λ (b : List ℕ). SpellsWithinLimits offer b g) (sym e) (within_limits_again offer g (may_be_printed offer file g h) limits)) c.print.ensures;
    }
