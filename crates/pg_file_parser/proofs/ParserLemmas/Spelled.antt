-- The parts of a class expression are one whole expression.
use Rattle.std.proofs.Common.{◌≡◌, ℕ, List, sym, subst, Some}
use Rattle.pg_file_tokens.specs.Tokens.{Token}
use Rattle.pg_file_items.specs.Written.{IsClass}
use Rattle.pg_file_parser.specs.Reading.{ClassParts, class_at}
use Rattle.pg_file_items.proofs.ItemLemmas.Classes.{class_spells, class_unions}
use Rattle.pg_file_parser.proofs.ParserLemmas.Classes.{class_sound}

-- a class that is read is one whole expression
pub is_class : (n : ℕ) (ts : List Token) (x : ClassParts × List Token) → class_at n ts ≡ Some x → IsClass x.0
is_class n ts x e =
    let c = class_sound n ts x e in
    subst IsClass (sym c.means) (record { whole = class_spells c.tree; unions = class_unions c.tree })
