use Rattle.std.proofs.Common.{◌≡◌, ◌||◌, ◌+◌, ◌-◌, ◌≤◌, false, length, take, drop}
use Rattle.std.specs.List.{list_any}
use Rattle.std.specs.Option.{ForSome}
use Rattle.pg_pred.specs.Offer.{offer_of}
use Rattle.pg_grammar_form.specs.Classes.{memberships, one_holds, lacks_item}
use Rattle.pg_grammar_form.specs.ClassItems.{item_answers}
use Rattle.pg_grammar_value.specs.Fits.{ClassFits}
use Rattle.pg_grammar_value.specs.Membership.{Knows}
use Rattle.pg_grammar_value.proofs.Items.{weight}
use Rattle.pg_grammar_value.proofs.membership.+first_membership.Given as goal

abbrev pub decreases-first_membership : goal.decreases-first_membership
decreases-first_membership g l = length l.parts.now + weight l.items.now l.below

abbrev pub invariant-loop : goal.invariant-loop
invariant-loop g l = record {
  any : (l.any || one_holds (take (l.end - l.counter) (memberships (item_answers l.items l.c) l.rest l.c)))
      ≡ one_holds (take l.end (memberships (item_answers l.items l.c) l.initial.rest l.c));
  rest : drop (l.end - l.counter) (memberships (item_answers l.items l.c) l.rest l.c)
      ≡ drop l.end (memberships (item_answers l.items l.c) l.initial.rest l.c);
  fewer : length l.rest ≤ length l.initial.rest;
  named : list_any (lacks_item l.below) l.rest ≡ false;
  parts : ForSome l.registry (λ r. ClassFits (offer_of r.now) l.rest);
  answers : Knows l.items l.c l.answers;
}
