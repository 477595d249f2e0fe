use Rattle.std.proofs.Common.{◌≡◌, length, take}
use Rattle.pg_pred.specs.Offer.{offer_of}
use Rattle.pg_file_items.specs.Entries.{entries_of}
use Rattle.pg_file_making.specs.Spells.{made_classes}
use Rattle.pg_file_making.proofs.MakingLemmas.Turns.{AreHanded}
use Rattle.pg_file_making.specs.Spans.{items_spans}
use Rattle.pg_file_making.proofs.making.made_of.Given as goal

abbrev pub invariant-loop-item : goal.invariant-loop-item
invariant-loop-item g l = record {
  handed : AreHanded (offer_of l.registry) (entries_of (take l.item-index l.items)) l.maker;
  classes : l.classes.items ≡ made_classes l.maker;
  count : length l.spans.items ≡ length l.maker.forms;
  spans : l.spans.items ≡ items_spans (take l.item-index l.items);
}
