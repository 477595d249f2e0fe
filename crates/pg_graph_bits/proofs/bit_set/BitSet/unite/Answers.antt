use Rattle.std.proofs.Common.{◌≡◌, ◌||◌, ◌/◌, ◌+◌, ℕ, length, drop, get_or, bit_or, sym, ap, subst, ◌∙◌, arith}
use Rattle.std.proofs.lemmas.List.{take_at}
use Rattle.pg_graph_bits.specs.Numbers.{contains, Adds}
use Rattle.pg_graph_bits.specs.Words.{HoldsBelow, AddsBit, marks_of}
use Rattle.pg_graph_bits.proofs.Uniting.{same_limit, holds_united, sets_united, adds_number, adds_bit}
use Rattle.pg_graph_bits.proofs.bit_set.BitSet.unite.Goals as goal

pub unite_words-requires : goal.unite_words-requires
unite_words-requires c =
    let limit = same_limit _ _ _ _ _ _ c.self.view_is c.other.view_is c.requires in
    ap length c.deref_mut.ensures.value ∙ (c.self.invariant.long ∙ (ap (λ n. n / 64 + 1) limit ∙ (sym c.other.invariant.long ∙ sym (ap length c.deref.ensures.value))))

pub invariant_of-self : goal.invariant_of-self
invariant_of-self c =
    let limit = same_limit _ _ _ _ _ _ c.self.view_is c.other.view_is c.requires in
    let words = c.self.inside.words.items in
    let others = c.other.inside.words.items in
    let new = c.unite_words.new.words in
    let bound = c.self.inside.limit in
    let other = subst (HoldsBelow others) (sym limit) c.other.invariant in
    let each : (k : ℕ) → get_or new k 0 ≡ bit_or (get_or words k 0) (get_or others k 0) = λ k.
    c.unite_words.ensures.united k
    ∙ (ap (λ ws. bit_or (get_or ws k 0) (get_or c.deref.result.now k 0)) c.deref_mut.ensures.value ∙ ap (λ ws. bit_or (get_or words k 0) (get_or ws k 0)) c.deref.ensures.value) in
    let same : length new ≡ c.self.inside.words.len = omega arith in
    let long : length new ≡ length words = omega arith in
    rw (take_at new (drop (length new) words) c.self.inside.words.len same) (holds_united words others new bound c.self.invariant other long each)

pub returns-clause-united : goal.returns-clause-united
returns-clause-united c = λ n.
    let limit = same_limit _ _ _ _ _ _ c.self.view_is c.other.view_is c.requires in
    let words = c.self.inside.words.items in
    let others = c.other.inside.words.items in
    let new = c.unite_words.new.words in
    let bound = c.self.inside.limit in
    let other = subst (HoldsBelow others) (sym limit) c.other.invariant in
    let each : (k : ℕ) → get_or new k 0 ≡ bit_or (get_or words k 0) (get_or others k 0) = λ k.
    c.unite_words.ensures.united k
    ∙ (ap (λ ws. bit_or (get_or ws k 0) (get_or c.deref.result.now k 0)) c.deref_mut.ensures.value ∙ ap (λ ws. bit_or (get_or words k 0) (get_or ws k 0)) c.deref.ensures.value) in
    let same : length new ≡ c.self.inside.words.len = omega arith in
    let long : length new ≡ length words = omega arith in
    let other_is : marks_of others bound ≡ c.args.other.now = ap (marks_of others) limit ∙ c.other.view_is in
    ap (λ ws. contains (marks_of ws bound) n) (take_at new (drop (length new) words) c.self.inside.words.len same)
    ∙ (sets_united words others new bound c.self.invariant other long each n
    ∙ (ap (λ set. contains set n || contains (marks_of others bound) n) c.self.view_is ∙ ap (λ set. contains c.args.self.now n || contains set n) other_is))

pub returns-clause-grown : goal.returns-clause-grown
returns-clause-grown c =
    let limit = same_limit _ _ _ _ _ _ c.self.view_is c.other.view_is c.requires in
    let words = c.self.inside.words.items in
    let others = c.other.inside.words.items in
    let bound = c.self.inside.limit in
    let other = subst (HoldsBelow others) (sym limit) c.other.invariant in
    let other_is : marks_of others bound ≡ c.args.other.now = ap (marks_of others) limit ∙ c.other.view_is in (
      λ grew. subst (λ set. Adds set c.args.other.now) c.self.view_is (subst (λ set. Adds (marks_of words bound) set) other_is
          (adds_number words others bound c.self.invariant other (subst (λ ws. AddsBit ws others) c.deref_mut.ensures.value (subst (λ ws. AddsBit c.deref_mut.result.now ws) c.deref.ensures.value (c.unite_words.ensures.grown.0 grew))))),
      λ adds. c.unite_words.ensures.grown.1 (subst (λ ws. AddsBit c.deref_mut.result.now ws) (sym c.deref.ensures.value) (subst (λ ws. AddsBit ws others) (sym c.deref_mut.ensures.value)
          (adds_bit words others bound c.self.invariant other (subst (λ set. Adds (marks_of words bound) set) (sym other_is) (subst (λ set. Adds set c.args.other.now) (sym c.self.view_is) adds))))),
    )
