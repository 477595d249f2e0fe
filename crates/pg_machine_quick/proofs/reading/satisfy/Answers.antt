use Rattle.std.proofs.Common.{sym}
use Rattle.pg_grammar_value.specs.Sites.{class_at}
use Rattle.pg_grammar_classes.specs.declared.site.ClassSite.TheVariants as site
use Rattle.pg_machine_quick.proofs.Readings.{class_read, class_unread, class_ended}
use Rattle.pg_machine_quick.proofs.reading.satisfy.Goals as goal

pub returns-then-contains : goal.returns-then-contains
returns-then-contains c = λ table.
    class_read c.args.grammar.now c.args.text.now (class_at c.args.grammar.now (site.Node c.args.node)) table c.args.place c.in-Some.c (sym c.in-Some.ensures) (sym c.if-contains.ensures)

pub returns-else-contains : goal.returns-else-contains
returns-else-contains c = λ table.
    class_unread c.args.grammar.now c.args.text.now (class_at c.args.grammar.now (site.Node c.args.node)) table c.args.place c.in-Some.c (sym c.in-Some.ensures) (sym c.if-contains.ensures)

pub returns-in-None : goal.returns-in-None
returns-in-None c = λ table.
    class_ended c.args.grammar.now c.args.text.now (class_at c.args.grammar.now (site.Node c.args.node)) table c.args.place (sym c.in-None.ensures)
