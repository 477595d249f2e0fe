use Rattle.std.proofs.Common.{◌≡◌, ◌≤◌, ℕ, Bool, false, MatchOption, sym, ap, subst, ◌∙◌}
use Rattle.pg_graph_bits.specs.Numbers.{contains, IsNext}
use Rattle.pg_graph_bits.specs.Words.{has_bit}
use Rattle.pg_graph_bits.proofs.Bits.{reads}
use Rattle.pg_graph_bits.proofs.bit_set.BitSet.next.Goals as goal

pub returns : goal.returns
returns c =
    let same : (n : ℕ) → has_bit c.deref.result.now n ≡ contains c.args.self.now n = λ n.
    ap (λ words. has_bit words n) c.deref.ensures.value
    ∙ (sym (reads c.self.inside.words.items c.self.inside.limit c.self.invariant n) ∙ ap (λ set. contains set n) c.self.view_is) in
    let tests : ◌≡◌ {A = ℕ → Bool} (has_bit c.deref.result.now) (contains c.args.self.now) = λ i n. same n i in
    subst (λ (test : ℕ → Bool). MatchOption c.first_from.result ((n : ℕ) → c.args.from ≤ n → test n ≡ false) (λ k. IsNext test c.args.from k)) tests c.first_from.ensures
