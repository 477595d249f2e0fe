use Rattle.pg_explain_witness.proofs.witness.Seeker.seek.Goals as goal

pub loop-round-init : goal.loop-round-init
loop-round-init g c = c.nothing-found.ensures c.args.self.now.grammar.now c.args.self.now.table.now
