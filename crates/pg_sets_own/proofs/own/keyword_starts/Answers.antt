use Rattle.std.proofs.Common.{◌||◌, sym, ap, subst, ◌∙◌}
use Rattle.pg_class.specs.Ranges.{has}
use Rattle.pg_grammar_form.specs.declared.form.Form.TheVariants as form
use Rattle.pg_grammar_form.specs.declared.form.Leaf.TheVariants as leaf
use Rattle.pg_grammar_form.specs.ClassItems.{has_character}
use Rattle.pg_sets_own.specs.Own.{AreOwn}
use Rattle.pg_sets_own.specs.OwnStarts.{IsExcludedBy}
use Rattle.pg_sets_own.proofs.Owned.{declare_own}
use Rattle.pg_sets_own.proofs.own.keyword_starts.Goals as goal

pub returns : goal.returns
returns c =
    let g = c.args.grammar.now in
    let class = c.in_ok-class.class in
    let letters = c.in_ok-letters.letters in
    let excluded = c.in_ok-excluded.excluded in
    let is : IsExcludedBy g c.args.excluded.now excluded = record {
      ranges = c.ranges-ranges.ensures.class;
      members = λ x scalar.
          c.in_ok-excluded.ensures.members x scalar
          ∙ (ap (λ b. b || has letters x) (c.in_ok-class.ensures.members x scalar) ∙ ap (λ b. has_character g.classes c.args.excluded.now x || b) (c.in_ok-letters.ensures x scalar));
    } in
    subst (AreOwn g (form.Leaf (leaf.Declare c.args.excluded.now))) (sym c.in_ok-own.ensures) (declare_own excluded is)
