use Rattle.std.proofs.Common.{◌≡◌, ◌&&◌, ℕ, Bool, false, MatchOption, sym, ap, subst, ◌∙◌}
use Rattle.pg_graph_bits.specs.Numbers.{contains, in_both, IsNext}
use Rattle.pg_graph_bits.specs.Words.{has_bit, both_have_bit}
use Rattle.pg_graph_bits.proofs.Bits.{reads}
use Rattle.pg_graph_bits.proofs.bit_set.BitSet.first_common.Goals as goal

pub returns : goal.returns
returns c =
    let first : (n : ℕ) → has_bit c.deref.result.now n ≡ contains c.args.self.now n = λ n.
    ap (λ words. has_bit words n) c.deref.ensures.value
    ∙ (sym (reads c.self.inside.words.items c.self.inside.limit c.self.invariant n) ∙ ap (λ set. contains set n) c.self.view_is) in
    let second : (n : ℕ) → has_bit c.deref-2.result.now n ≡ contains c.args.other.now n = λ n.
    ap (λ words. has_bit words n) c.deref-2.ensures.value
    ∙ (sym (reads c.other.inside.words.items c.other.inside.limit c.other.invariant n) ∙ ap (λ set. contains set n) c.other.view_is) in
    let tests : ◌≡◌ {A = ℕ → Bool} (both_have_bit c.deref.result.now c.deref-2.result.now) (in_both c.args.self.now c.args.other.now) = λ i n. first n i && second n i in
    subst (λ (test : ℕ → Bool). MatchOption c.first_in_both.result ((n : ℕ) → test n ≡ false) (λ k. IsNext test 0 k)) tests c.first_in_both.ensures
