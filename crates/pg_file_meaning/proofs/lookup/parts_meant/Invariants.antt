use Rattle.std.proofs.Common.{◌≡◌, take}
use Rattle.pg_pred.specs.Offer.{offer_of}
use Rattle.pg_file_meaning.specs.Names.{ClassIsKnown}
use Rattle.pg_file_meaning.specs.Bodies.{parts_meant}
use Rattle.pg_file_meaning.proofs.lookup.parts_meant.Given as goal

abbrev pub invariant-loop-part : goal.invariant-loop-part
invariant-loop-part g l = record {
  meant : l.meant.items ≡ parts_meant (offer_of l.registry) l.classes (take l.part-index l.parts);
  known : ClassIsKnown (offer_of l.registry) l.classes (take l.part-index l.parts);
}
