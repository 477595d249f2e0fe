use Rattle.std.proofs.Common.{◌≡◌, ◌≤◌, length, take, drop}
use Rattle.std.specs.List.{AllByRecursion}
use Rattle.pg_pred.specs.Offer.{offer_of}
use Rattle.pg_file_items.specs.Entries.{forms_of}
use Rattle.pg_file_meaning.specs.Names.{FormIsKnown}
use Rattle.pg_file_meaning.specs.Bodies.{all_bases_of, bodies}
use Rattle.pg_file_meaning.specs.Spans.{all_spans_of, all_spans}
use Rattle.pg_file_meaning.proofs.replacing.body_meant.Given as goal

abbrev pub invariant-loop-form : goal.invariant-loop-form
invariant-loop-form g l = record {
  within : length l.rest ≤ length l.forms;
  front : l.rest ≡ take (length l.rest) l.forms;
  bodies : all_bases_of l.waiting.items ≡ bodies (offer_of l.registry) l.classes (forms_of (drop (length l.rest) l.forms));
  spans : all_spans_of l.waiting.items ≡ all_spans (drop (length l.rest) l.forms);
  known : AllByRecursion (FormIsKnown (offer_of l.registry) l.classes) (forms_of (drop (length l.rest) l.forms));
}

abbrev pub decreases-loop-form : goal.decreases-loop-form
decreases-loop-form g l = length l.rest
