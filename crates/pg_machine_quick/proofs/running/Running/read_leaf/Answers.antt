use Rattle.std.proofs.Common.{◌≡◌, Some, slice_get, sym, subst, refl, Option, List, length}
use Rattle.std.proofs.lemmas.Option.{slice_get_read}
use Rattle.pg_grammar_form.specs.Forms.{Node}
use Rattle.pg_language.specs.Answers.{given}
use Rattle.pg_language.specs.Outcomes.{Outcome}
use Rattle.pg_language.specs.declared.reading.Reading.TheVariants.{Library}
use Rattle.pg_table.specs.Tables.{Table}
use Rattle.pg_machine_quick.specs.Readings.{Reads}
use Rattle.pg_machine_quick.specs.Running.{shown, Does}
use Rattle.pg_machine_quick.specs.Tape.{tape_has_read, tape_reads}
use Rattle.pg_machine_quick.proofs.ReadSo.{read_so, if_ok}
use Rattle.pg_machine_quick.proofs.running.Running.read_leaf.Goals as goal

pub returns : goal.returns
returns c =
    let read : slice_get c.nodes.result.now c.index.result ≡ Some c.in-Some.found.now =
    slice_get_read c.nodes.result.now (length c.nodes.result.now) c.index.result c.in-Some.found.now refl c.in-Some.ensures.lookup.3.0 c.in-Some.ensures.lookup.1 in
    let at : slice_get c.args.grammar.now.nodes c.args.node ≡ Some c.in-Some.found.now =
    subst (λ i. slice_get c.args.grammar.now.nodes i ≡ Some c.in-Some.found.now) c.index.ensures
    (subst (λ (ns : List Node). slice_get ns c.index.result ≡ Some c.in-Some.found.now) c.nodes.ensures.all read) in
    let reads = c.in-Some-reading_at.ensures in
    if_ok c.react.result
    (λ step. (table : Table) (o : Outcome) → Reads c.args.text.now table c.args.self.now.place o c.in-Some-reading_at.reading →
    Does (tape_has_read c.args.keep (shown c.args.self.now) (Some o)) step (shown c.react.new.self))
    (λ step. (table : Table) → Does (tape_reads (given Library c.args.grammar.now c.args.text.now) table c.args.keep (shown c.args.self.now)
    (slice_get c.args.grammar.now.nodes c.args.node)) step (shown c.react.new.self))
    (λ step h table.
    subst (λ (n : Option Node). Does (tape_reads (given Library c.args.grammar.now c.args.text.now) table c.args.keep (shown c.args.self.now) n) step (shown c.react.new.self)) (sym at)
    (read_so c.args.grammar.now c.args.text.now table c.args.keep (shown c.args.self.now) (shown c.react.new.self) c.in-Some.found.now c.in-Some-reading_at.reading step
    (reads table) (h table)))
    c.react.ensures
