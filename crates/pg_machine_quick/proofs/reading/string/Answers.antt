use Rattle.std.proofs.Common.{◌≡◌, arith}
use Rattle.pg_language.specs.Leaves.{matched}
use Rattle.pg_machine_quick.proofs.Readings.{string_read, string_unread}
use Rattle.pg_machine_quick.proofs.reading.string.Goals as goal

pub returns-then-count-characters : goal.returns-then-count-characters
returns-then-count-characters c = λ table.
    let count : c.matched-count.result ≡ matched c.args.text.now c.args.characters.now c.args.place = cc in
    string_read c.args.text.now c.args.characters.now table c.args.place c.matched-count.result count (omega arith)

pub returns-else-count-characters : goal.returns-else-count-characters
returns-else-count-characters c = λ table.
    let count : c.matched-count.result ≡ matched c.args.text.now c.args.characters.now c.args.place = cc in
    string_unread c.args.text.now c.args.characters.now table c.args.place c.matched-count.result count (omega arith)
