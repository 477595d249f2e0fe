use Rattle.std.proofs.Common.{sym, refl, true, false}
use Rattle.pg_grammar_value.specs.Sites.{class_at}
use Rattle.pg_grammar_classes.specs.declared.site.ClassSite.TheVariants as site
use Rattle.pg_language.specs.Declarations.{no_keyword, no_digit, no_symbol}
use Rattle.pg_machine_quick.proofs.Readings.{declares_nothing}
use Rattle.pg_machine_quick.proofs.reading.undeclared.Goals as goal

pub returns-in-NoKeyword : goal.returns-in-NoKeyword
returns-in-NoKeyword c = λ table.
    declares_nothing c.args.grammar.now c.args.text.now (class_at c.args.grammar.now (site.Node c.args.node)) table c.args.place c.in_ok-item.item.now no_keyword false _
    (sym c.in_ok-item.ensures.all) c.in-NoKeyword.ensures.value refl

pub returns-in-NoDigit : goal.returns-in-NoDigit
returns-in-NoDigit c = λ table.
    declares_nothing c.args.grammar.now c.args.text.now (class_at c.args.grammar.now (site.Node c.args.node)) table c.args.place c.in_ok-item.item.now (no_digit c.in-NoDigit.field-0) true _
    (sym c.in_ok-item.ensures.all) c.in-NoDigit.ensures.value refl

pub returns-in-NoSymbol : goal.returns-in-NoSymbol
returns-in-NoSymbol c = λ table.
    declares_nothing c.args.grammar.now c.args.text.now (class_at c.args.grammar.now (site.Node c.args.node)) table c.args.place c.in_ok-item.item.now (no_symbol c.in-NoSymbol.field-0) true _
    (sym c.in_ok-item.ensures.all) c.in-NoSymbol.ensures.value refl
