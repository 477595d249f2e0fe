use Rattle.std.proofs.Common.{◌≡◌, ◌≤◌, ℕ, Bool, List, length}
use Rattle.std.specs.List.{list_any}
use Rattle.pg_pred.specs.Offer.{Offer}
use Rattle.pg_grammar_form.specs.Classes.{memberships, lacks_item}
use Rattle.pg_grammar_value.specs.Fits.{ClassFits}
use Rattle.pg_grammar_value.specs.Membership.{negated_if}
use Rattle.pg_grammar_value.proofs.membership.after_complements.Given as goal

abbrev pub invariant-loop-after : goal.invariant-loop-after
invariant-loop-after l = record {
  meaning : (items : List Bool) (c : ℕ) → memberships items l.parts c ≡ negated_if l.negated (memberships items l.rest c);
  fewer : length l.rest ≤ length l.parts;
  named : (below : ℕ) → list_any (lacks_item below) l.rest ≡ list_any (lacks_item below) l.parts;
  fit : (offer : Offer) → ClassFits offer l.parts → ClassFits offer l.rest;
}

abbrev pub decreases-loop-after : goal.decreases-loop-after
decreases-loop-after l = length l.rest
