use Rattle.std.proofs.Common.{◌<◌, ◌/◌, ◌%◌, ◌*◌, ◌^◌, true, bit_or, length, slice_set, sym, ap, subst, ◌∙◌, arith}
use Rattle.std.proofs.lemmas.List.{get_or_read}
use Rattle.pg_graph_bits.specs.Words.{HoldsBelow, marks_of}
use Rattle.pg_graph_bits.proofs.Bits.{marks_length, there, holds_with, marks_with}
use Rattle.pg_graph_bits.proofs.bit_set.BitSet.insert.Goals as goal

pub index_mut-requires : goal.index_mut-requires
index_mut-requires c =
    let long = c.self.invariant.long in
    let below : c.args.number < c.self.inside.limit = subst (λ n. c.args.number < n) (ap length (sym c.self.view_is) ∙ marks_length c.self.inside.words.items c.self.inside.limit) c.requires in
    omega arith

pub invariant_of-self : goal.invariant_of-self
invariant_of-self c =
    let words = c.self.inside.words.items in
    let limit = c.self.inside.limit in
    let number = c.args.number in
    let below : number < limit = subst (λ n. number < n) (ap length (sym c.self.view_is) ∙ marks_length words limit) c.requires in
    let read = get_or_read words (number / 64) c.index_mut.result.now (there words limit number c.self.invariant below) c.index_mut.ensures.value 0 in
    subst (λ w. HoldsBelow (slice_set words (number / 64) (bit_or w (1 * 2 ^ (number % 64) % 18446744073709551616))) limit) (sym read) (holds_with words limit number c.self.invariant below)

pub returns : goal.returns
returns c =
    let words = c.self.inside.words.items in
    let limit = c.self.inside.limit in
    let number = c.args.number in
    let below : number < limit = subst (λ n. number < n) (ap length (sym c.self.view_is) ∙ marks_length words limit) c.requires in
    let read = get_or_read words (number / 64) c.index_mut.result.now (there words limit number c.self.invariant below) c.index_mut.ensures.value 0 in
    ap (λ w. marks_of (slice_set words (number / 64) (bit_or w (1 * 2 ^ (number % 64) % 18446744073709551616))) limit) read
    ∙ (marks_with words limit number c.self.invariant below ∙ ap (λ set. slice_set set number true) c.self.view_is)
