use Rattle.std.proofs.Common.{rules}
use Rattle.pg_explain_witness.proofs.losing.have_two_items.Goals as goal

pub returns-else-same_item : goal.returns-else-same_item
returns-else-same_item g c = λ e. record {
  place = c.args.parted.now.entered;
  item = c.in-Some.item.now;
  other_item = c.in-Some-2.other_item.now;
  one_has = search rules;
  other_has = search rules;
  apart = c.same_item.ensures c.if-same_item.false;
}
