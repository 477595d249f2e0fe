use Rattle.std.proofs.Common.{◌≡◌, length, take, arith, sym, ap, ◌∙◌, length-take-le}
use Rattle.pg_tree_placed.proofs.Putting.{first_kept}
use Rattle.pg_tree_placed.proofs.block.Block.push_first.Goals as goal

pub keep_first-requires-clause-room : goal.keep_first-requires-clause-room
keep_first-requires-clause-room g c =
    let size : length c.args.self.now ≡ c.self.inside.used = ap length (sym c.self.view_is) ∙ length-take-le c.self.inside.used _ (omega (arith, c.self.invariant)) in
    let few : length (take 32 c.args.bytes.now) ≡ 32 = length-take-le 32 c.args.bytes.now c.requires.there in
    omega (arith, size, few, c.self.invariant, c.if-self-ge-AT_ONCE.true)

pub returns-then-self-ge-AT_ONCE-clause-so : goal.returns-then-self-ge-AT_ONCE-clause-so
returns-then-self-ge-AT_ONCE-clause-so g c =
    first_kept (g.W.Write.contents c.args.writer.now.inner) c.args.self.now c.keep_first.new.self c.args.bytes.now c.args.count c.requires.few c.keep_first.ensures
