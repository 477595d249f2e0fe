use Rattle.std.proofs.Common.{◌<◌, length, arith, ap}
use Rattle.std.specs.Char.{encode_utf8}
use Rattle.std.proofs.lemmas.List.{get_or_read}
use Rattle.pg_tree.proofs.Characters.{encoded-more}
use Rattle.pg_tree.proofs.store.push_characters.Goals as goal

pub loop-character-preserved : goal.loop-character-preserved
loop-character-preserved c =
    let i = c.loop-character.character-index in
    let cs = c.args.characters.now in
    let within : i < length cs = omega arith in
    let item = get_or_read cs i _ within c.character-item.is 0 in
    encoded-more _ _ _ _ cs i within c.loop-character.invariant c.in_ok-push_character.ensures.ok (ap encode_utf8 item)
