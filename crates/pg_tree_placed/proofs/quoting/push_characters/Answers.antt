use Rattle.std.proofs.Common.{rules, drop, encode_utf8_all, ◌+◌}
use Rattle.std.specs.Char.{encode_utf8}
use Rattle.json.specs.Print.{escape}
use Rattle.pg_tree_placed.proofs.Escapes.{characters_next}
use Rattle.pg_tree_placed.proofs.Putting.{next_put, next_stops}
use Rattle.pg_tree_placed.proofs.quoting.push_characters.Goals as goal

pub returns-in_err-push_character-clause-so : goal.returns-in_err-push_character-clause-so
returns-in_err-push_character-clause-so g c =
    let contents = g.W.Write.contents in
    let cs = c.args.characters.now in
    let i = c.loop-character.character-index in
    let x = c.character-item.result in
    next_stops c.from_residual.result (contents c.args.writer.now.inner) (contents c.loop-character.writer.inner) (contents c.push_character.new.writer.inner) c.args.block.now
    c.loop-character.block c.push_character.new.block _ (escape (encode_utf8 x)) (escape (encode_utf8_all (drop (i + 1) cs))) (escape (encode_utf8_all cs)) (search rules)
    c.loop-character.invariant.so (characters_next cs i x c.loop-character-test.true c.character-item.is) c.in_err-push_character.ensures.so

pub loop-character-preserved : goal.loop-character-preserved
loop-character-preserved g c =
    let contents = g.W.Write.contents in
    let cs = c.args.characters.now in
    let i = c.loop-character.character-index in
    let x = c.character-item.result in
    record {
      well = c.in_ok-push_character.ensures.failed;
      so = next_put (contents c.args.writer.now.inner) (contents c.loop-character.writer.inner) (contents c.push_character.new.writer.inner) c.args.block.now
          c.loop-character.block c.push_character.new.block _ (escape (encode_utf8 x)) (escape (encode_utf8_all (drop (i + 1) cs))) (escape (encode_utf8_all cs))
          c.loop-character.invariant.so (characters_next cs i x c.loop-character-test.true c.character-item.is) c.in_ok-push_character.ensures.so;
    }
