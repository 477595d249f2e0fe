-- Lines that come one after another.
use Rattle.std.proofs.Common.{ℕ, List, ◌++◌, Option}
use Rattle.std.specs.Io.KnownBytes.{Appends}
use Rattle.pg_tree.specs.Bytes.{AppendsPrefix}
use Rattle.pg_text_pieces.specs.Writing.{Puts}
use Rattle.pg_text_pieces.proofs.Puts.{appends_both, puts_both, puts_stopped, prefix_after}
use Rattle.pg_explain_json.specs.Pages.{PutsLines, WritesPage, WritesPartOfPage}

pub next_put : (before middle after : Option (List ℕ)) (held kept holds line : List ℕ) → PutsLines before held middle kept → Puts middle kept after holds line → PutsLines before held after holds
next_put before middle after held kept holds line some next = (some.0 ++ line, puts_both before middle after held kept holds some.0 line some.1 next)

pub next_stopped : (before middle after : Option (List ℕ)) (held kept line : List ℕ) → PutsLines before held middle kept → AppendsPrefix middle after (kept ++ line) → WritesPartOfPage before after
next_stopped before middle after held kept line some stopped = (held ++ (some.0 ++ line), puts_stopped before middle after held kept some.0 line some.1 stopped)

-- what is held is sent
pub sent_all : (before middle after : Option (List ℕ)) (held kept : List ℕ) → PutsLines before held middle kept → Appends middle after kept → WritesPage before after
sent_all before middle after held kept some sent = (some.1.sent ++ kept, appends_both before middle after some.1.sent kept some.1.written sent)

pub sent_part : (before middle after : Option (List ℕ)) (held kept : List ℕ) → PutsLines before held middle kept → AppendsPrefix middle after kept → WritesPartOfPage before after
sent_part before middle after held kept some stopped = (some.1.sent ++ kept, prefix_after before middle after some.1.sent kept some.1.written stopped)
