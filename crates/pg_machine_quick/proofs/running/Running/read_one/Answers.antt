use Rattle.std.proofs.Common.{Some, Option, slice_get, sym, subst, refl}
use Rattle.pg_grammar_form.specs.Forms.{Node}
use Rattle.pg_grammar_form.specs.declared.form.Form.TheVariants as form
use Rattle.pg_grammar_form.specs.declared.form.Leaf.TheVariants as leaf
use Rattle.pg_language.specs.Answers.{given}
use Rattle.pg_language.specs.Outcomes.{Outcome}
use Rattle.pg_language.specs.declared.reading.Reading.TheVariants.{Library}
use Rattle.pg_table.specs.Tables.{Table}
use Rattle.pg_machine_quick.specs.Readings.{Reads}
use Rattle.pg_machine_quick.specs.Running.{shown, Does}
use Rattle.pg_machine_quick.specs.Tape.{tape_has_read, tape_reads}
use Rattle.pg_machine_quick.proofs.ReadSo.{read_so, satisfy_at, if_ok}
use Rattle.pg_machine_quick.proofs.running.Running.read_one.Goals as goal

pub returns : goal.returns
returns c =
    let g = c.args.grammar.now in
    let text = c.args.text.now in
    let s = shown c.args.self.now in
    let z = shown c.react.new.self in
    let node : Node = form.Leaf (leaf.Satisfy c.requires.0) in
    if_ok c.react.result
    (λ step. (table : Table) (o : Outcome) → Reads text table s.place o c.satisfy-reading.result → Does (tape_has_read c.args.keep s (Some o)) step z)
    (λ step. (table : Table) → Does (tape_reads (given Library g text) table c.args.keep s (slice_get g.nodes c.args.node)) step z)
    (λ step h table.
    subst (λ (n : Option Node). Does (tape_reads (given Library g text) table c.args.keep s n) step z) (sym c.requires.1)
    (read_so g text table c.args.keep s z node c.satisfy-reading.result step
    (satisfy_at g text table c.args.node s.place node (leaf.Satisfy c.requires.0) c.requires.0 c.satisfy-reading.result c.requires.1 refl refl (c.satisfy-reading.ensures table))
    (h table)))
    c.react.ensures
