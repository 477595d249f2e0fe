-- A text comes to one forest, or to an error.
use Rattle.std.proofs.Common.{◌≡◌, ℕ, List, Option, None, refl, sym, ap, subst, ◌∙◌}
use Rattle.std.specs.Prelude.{codes}
use Rattle.pg_tree.specs.Trees.{Tree}
use Rattle.pg_grammar_value.specs.Grammar.{Grammar}
use Rattle.pg_grammar_value.specs.declared.trail.TrailItem.{TrailItem}
use Rattle.pg_table.specs.Tables.{Table, initial, whole}
use Rattle.pg_table.proofs.Added.{same_table}
use Rattle.pg_language.specs.Derives.{DerivesText}
use Rattle.pg_corpus.specs.Wanted.{kind_of}
use Rattle.pg_corpus_judging.specs.declared.came.Came.{Came}
use Rattle.pg_corpus_judging.specs.declared.came.Came.TheVariants.{Trees, Error}
use Rattle.pg_corpus_judging.specs.Judging.{IsForestOf, ComesTo, ComesInstead, came_instead, TextsComeToOneEnd, UnderivableTextsPassAsErrors}

-- what is derived, under the table that another forest has
derived_here : (g : Grammar) (text : List ℕ) (table : Table) (forest : List Tree) (is : IsForestOf g text forest) → initial g ≡ whole table → DerivesText g text table is.after forest is.trail
derived_here g text table forest is initially =
    subst (λ t. DerivesText g text t is.after forest is.trail) (same_table is.table table (sym is.is_table ∙ initially)) is.derives

same_end : (g : Grammar) (text : List ℕ) (forest : List Tree) (came : Came) → IsForestOf g text forest → ComesTo g text came → Trees forest ≡ came
same_end g text forest (Trees others) is comes = ap Trees (sym (comes.only is.after forest is.trail (derived_here g text comes.table forest is comes.is_table)))
same_end g text forest (Error e) is comes = absurd (comes.none is.after forest is.trail (derived_here g text comes.table forest is comes.is_table))

pub one_end : TextsComeToOneEnd
one_end g text wanted forest other is instead = ap (λ came. came_instead (kind_of wanted) came) (same_end g text forest instead.came is instead.comes) ∙ instead.is

passes : (g : Grammar) (text : List ℕ) (table : Table) (other : Option (List ℕ)) (came : Came) → initial g ≡ whole table
    → ((after : Table) (forest : List Tree) (trail : List TrailItem) → ¬ (DerivesText g text table after forest trail)) → ComesTo g text came
    → came_instead (kind_of (codes "error")) came ≡ other → None ≡ other
passes g text table other (Trees forest) initially none comes is = absurd (none comes.after forest comes.trail (derived_here g text table forest comes initially))
passes g text table other (Error e) initially none comes is = is

pub underivable_passes : UnderivableTextsPassAsErrors
underivable_passes g text table other initially none instead = passes g text table other instead.came initially none instead.comes instead.is
