use Rattle.std.proofs.Common.{◌≡◌, ◌≤◌, ◌+◌}
use Rattle.smallvec.specs.SmallVec.{small_vec_len}
use Rattle.pg_message.specs.Messages.{missing_count, with_texts}
use Rattle.pg_message.proofs.messages.append_reserved.Given as goal

abbrev pub invariant-loop-text : goal.invariant-loop-text
invariant-loop-text l = record {
  room : small_vec_len l.texts + missing_count l.texts.items l.text-iterator ≤ l.texts.capacity;
  so_far : with_texts l.texts.items l.text-iterator ≡ with_texts l.initial.texts.items l.fn.others.items;
}
