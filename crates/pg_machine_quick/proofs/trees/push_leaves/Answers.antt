use Rattle.std.proofs.Common.{◌<◌, ◌++◌, ◌∷◌, [], ◌∙◌, ap, sym, length, take, append_assoc, arith}
use Rattle.pg_language.specs.Derives.{leaf_of}
use Rattle.pg_machine_quick.specs.Turns.{leaves_of}
use Rattle.pg_machine_quick.proofs.OneByOne.{leaves_taken}
use Rattle.pg_machine_quick.proofs.trees.push_leaves.Goals as goal

pub loop-c-preserved : goal.loop-c-preserved
loop-c-preserved c =
    let below : c.loop-c.c-index < length c.args.characters.now = omega arith in
    c.in_ok-push_leaf.ensures.done c.if-not-branch.false ∙ ap (λ z. z ++ leaf_of (c.c-item.result ∷ []) ∷ []) c.loop-c.invariant
    ∙ append_assoc c.args.trees.now (leaves_of (take c.loop-c.c-index c.args.characters.now)) (leaf_of (c.c-item.result ∷ []) ∷ [])
    ∙ ap (λ z. c.args.trees.now ++ z) (sym (leaves_taken c.args.characters.now c.loop-c.c-index c.c-item.result below c.c-item.is))
