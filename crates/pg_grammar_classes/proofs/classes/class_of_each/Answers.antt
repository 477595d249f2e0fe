use Rattle.std.proofs.Common.{◌≡◌, ◌≤◌, ℕ, take, length, All, sym, ap, subst, ◌∙◌, map, arith}
use Rattle.std.proofs.lemmas.Grind.{common_steps}
use Rattle.pg_class.specs.Ranges.{has}
use Rattle.std.proofs.lemmas.List.{take_all}
use Rattle.std.proofs.lemmas.Result.{IfOk-weaker}
use Rattle.pg_class.specs.Ranges.{Range}
use Rattle.pg_grammar_classes.proofs.ClassStack.{alone_have, alone_ascend}
use Rattle.pg_grammar_classes.proofs.classes.class_of_each.Goals as goal

pub class_in-requires : goal.class_in-requires
class_in-requires c =
    let all : c.as_slice.result.now ≡ map (λ (x : ℕ). (x, x)) (take c.loop-character.character-index c.args.characters.now) = c.as_slice.ensures.value ∙ c.loop-character.invariant in
    subst (All (λ (range : Range). range.0 ≤ range.1)) (sym all) (alone_ascend (take c.loop-character.character-index c.args.characters.now))

pub returns : goal.returns
returns c =
    let characters = c.args.characters.now in
    let ended : length characters ≤ c.loop-character.character-index = c.loop-character-test.false in
    let all : c.as_slice.result.now ≡ map (λ (x : ℕ). (x, x)) characters = c.as_slice.ensures.value ∙ (c.loop-character.invariant ∙ ap (map (λ (x : ℕ). (x, x))) (take_all c.loop-character.character-index characters ended)) in
    IfOk-weaker c.class_in.result _ _ (λ class same x is. same x is ∙ (ap (λ ranges. has ranges x) all ∙ alone_have characters x)) c.class_in.ensures

pub loop-character-preserved : goal.loop-character-preserved
loop-character-preserved c = grind (arith, common_steps)
