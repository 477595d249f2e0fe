use Rattle.std.proofs.Common.{sym}
use Rattle.serde_json.specs.View.{view}
use Rattle.pg_certificate.proofs.Starts.{class_start, word_start}
use Rattle.pg_certificate.proofs.read_start.read_lone_start.Goals as goal

pub returns-in_ok-read_class-in-Some : goal.returns-in_ok-read_class-in-Some
returns-in_ok-read_class-in-Some c =
    class_start c.args.grammar.now (view c.args.value.now) (view c.in-Some.inner.now) c.in_ok-read_class-in-Some.field-0 c.requires.text c.requires.keys (sym c.in-Some.ensures)
    c.in_ok-read_class-in-Some.ensures

pub returns-in_ok-read_word-in-Some-get : goal.returns-in_ok-read_word-in-Some-get
returns-in_ok-read_word-in-Some-get c =
    word_start c.args.grammar.now (view c.args.value.now) (view c.in-Some-get.inner.now) c.in_ok-read_word-in-Some-get.field-0 c.requires.text c.requires.keys (sym c.in-Some-get.ensures)
    c.in_ok-read_word-in-Some-get.ensures
