use Rattle.std.proofs.Common.{◌≡◌, false, drop, encode_utf8_all}
use Rattle.json.specs.Print.{escape}
use Rattle.pg_tree_placed.specs.Writing.{Puts}
use Rattle.pg_tree_placed.proofs.quoting.push_characters.Given as goal

abbrev pub invariant-loop-character : goal.invariant-loop-character
invariant-loop-character g l = record {
  well : l.writer.failed ≡ false;
  so : Puts (g.W.Write.contents l.initial.writer.inner) l.initial.block (g.W.Write.contents l.writer.inner) l.block
      (escape (encode_utf8_all (drop l.character-index l.characters))) (escape (encode_utf8_all l.characters));
}
