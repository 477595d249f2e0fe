use Rattle.std.proofs.Common.{◌≡◌, false, drop}
use Rattle.json.specs.Print.{escape}
use Rattle.pg_tree_placed.specs.Writing.{Puts}
use Rattle.pg_tree_placed.proofs.quoting.push_bytes.Given as goal

abbrev pub invariant-loop-byte : goal.invariant-loop-byte
invariant-loop-byte g l = record {
  well : l.writer.failed ≡ false;
  so : Puts (g.W.Write.contents l.initial.writer.inner) l.initial.block (g.W.Write.contents l.writer.inner) l.block
      (escape (drop l.byte-index l.bytes)) (escape l.bytes);
}
