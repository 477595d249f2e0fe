use Rattle.std.proofs.Common.{rules, ◌≡◌, ◌<◌, true, length, slice_get, refl, [], ◌∷◌, ◌++◌, inl, inr, sym, ap, subst, ◌∙◌, arith}
use Rattle.std.specs.Prelude.{◌↔◌}
use Rattle.std.proofs.lemmas.Bool.{cases_eq}
use lib.ListN.{get_or}
use Rattle.std.proofs.lemmas.Option.{slice_get_read, slice_get_within, same_Some}
use Rattle.pg_graph.specs.Marks.{is_marked}
use Rattle.pg_sets_own.specs.OwnStarts.{IsKeyTry}
use Rattle.pg_graph.proofs.Lists.{marked_before, marked_last}
use Rattle.pg_sets_own.proofs.keys.key_tries.Goals as goal

pub loop-node-preserved : goal.loop-node-preserved
loop-node-preserved c =
    let g = c.args.grammar.now in
    let k = c.loop-node.node-index in
    let marks = c.loop-node.marks.items in
    let mark = c.is_key_try.result in
    let node = c.node-item.result in
    let before = c.loop-node.invariant in
    let items = c.in_ok-push.ensures.items in
    let nodes = c.nodes-node-items.ensures.all in
    let marks_after = c.push.new.self.items in
    let counted = ap length nodes in
    record {
      long = search rules;
      right = λ p n below at.
          elim (cases_eq p k) [
            | inl same ↦
                let inside : k < length g.nodes = omega arith in
                let read : node ≡ get_or g.nodes k node = c.node-item.is ∙ ap (λ ns. get_or ns k node) nodes in
                let one : n ≡ node = same_Some n node (sym at ∙ (ap (slice_get g.nodes) same ∙ slice_get_read g.nodes (length g.nodes) k node refl inside read)) in
                let last : is_marked marks_after p ≡ mark =
                ap (λ ms. is_marked ms p) items ∙ (ap (is_marked (marks ++ mark ∷ [])) (same ∙ sym before.long) ∙ marked_last marks mark) in
                subst (λ m. (is_marked marks_after p ≡ true) ↔ IsKeyTry g m) (sym one) (subst (λ b. (b ≡ true) ↔ IsKeyTry g node) (sym last) c.is_key_try.ensures)
            | inr ne ↦
                let less : p < length marks = omega arith in
                subst (λ b. (b ≡ true) ↔ IsKeyTry g n) (sym (ap (λ ms. is_marked ms p) items ∙ marked_before marks mark p less)) (before.right p n (omega arith) at)
          ];
    }

pub returns : goal.returns
returns c = λ p n at.
    let inside = slice_get_within c.args.grammar.now.nodes p n at in
    let nodes = ap length c.nodes-node-items.ensures.all in
    c.loop-node.invariant.right p n (omega arith) at
