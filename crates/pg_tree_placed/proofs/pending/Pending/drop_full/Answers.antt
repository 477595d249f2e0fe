use Rattle.std.proofs.Common.{◌≡◌, ◌+◌, ◌∷◌, suc, true, ap, arith, sym, ◌∙◌, reverse, vec_len}
use Rattle.std.specs.Prelude.{Option}
use Rattle.pg_tree_placed.specs.declared.pending.Open.{Open}
use Rattle.pg_tree_placed.specs.Written.{innermost_first, opened, open_in, is_full, finished, unfinished}
use Rattle.pg_tree_placed.proofs.Opened.{popped, finished_open, unfinished_open, fewer_open}
use Rattle.pg_tree_placed.proofs.pending.Pending.drop_full.Goals as goal

pub loop-self-preserved : goal.loop-self-preserved
loop-self-preserved c =
    let top = c.in-Some.top in
    let outer = c.loop-self.self.outer in
    let rest = reverse outer.items in
    let left = c.pop-self.new.self.items in
    let full : is_full top.node.plain top.node.flat ≡ true = sym c.is_full.ensures ∙ c.if-not-is_full.false in
    let was : open_in c.loop-self.self ≡ opened (top ∷ rest) = ap (λ (o : Option Open). innermost_first o outer.items) c.in-Some.is in
    let now : innermost_first c.pop-self.result left ≡ opened rest =
    popped outer.items left (vec_len outer) c.pop-self.result outer.ok.0 c.pop-self.ensures.items c.pop-self.ensures.rest in
    let some : finished (open_in c.loop-self.self) ≡ suc (top.also + finished (opened rest)) = ap (λ xs. finished xs) was ∙ finished_open top rest full in
    record {
      left = ap (λ xs. unfinished xs) now ∙ sym (ap (λ xs. unfinished xs) was ∙ unfinished_open top rest full) ∙ c.loop-self.invariant.left;
      count = omega (arith, c.in_ok-count.ensures, ap (λ xs. finished xs) now, some, c.loop-self.invariant.count);
    }

pub loop-self-smaller : goal.loop-self-smaller
loop-self-smaller c =
    let outer = c.loop-self.self.outer in
    fewer_open c.in-Some.top (reverse outer.items) (open_in c.loop-self.self) (innermost_first c.pop-self.result c.pop-self.new.self.items)
    (ap (λ (o : Option Open). innermost_first o outer.items) c.in-Some.is)
    (popped outer.items c.pop-self.new.self.items (vec_len outer) c.pop-self.result outer.ok.0 c.pop-self.ensures.items c.pop-self.ensures.rest)
