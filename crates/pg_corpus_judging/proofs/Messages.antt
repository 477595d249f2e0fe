-- The messages of an error, behind its place.
use Rattle.std.proofs.Common.{◌≡◌, ◌≤◌, ◌+◌, ℕ, List, [], ◌∷◌, ◌++◌, length, drop, refl, ap, sym, subst, ◌∙◌, append_assoc, arith}
use Rattle.std.specs.Prelude.{codes}
use Rattle.std.specs.Fmt.{decimal}
use Rattle.std.proofs.lemmas.List.{drop_at}
use Rattle.std.proofs.lemmas.Grind.{common_steps}
use Rattle.pg_message.specs.Printed.{printed, messages_text}
use Rattle.pg_message.specs.declared.error.ParseError.{ParseError}

-- the first line of an error without a file's name, up to its messages
abbrev pub front_of : ParseError → List ℕ
front_of e = codes "\"\" (line " ++ (decimal e.position.line ++ (codes ", column " ++ (decimal e.position.column ++ codes "):")))

joined : (a b c d e : List ℕ) → (((a ++ b) ++ c) ++ d) ++ e ≡ a ++ (b ++ (c ++ (d ++ e)))
joined a b c d e = append_assoc ((a ++ b) ++ c) d e ∙ (append_assoc (a ++ b) c (d ++ e) ∙ append_assoc a b (c ++ (d ++ e)))

printed_is : (e : ParseError) → printed e [] ≡ front_of e ++ messages_text e.messages
printed_is e =
    ap (λ l. l ++ messages_text e.messages)
    (joined (codes "\"\" (line ") (decimal e.position.line) (codes ", column ") (decimal e.position.column) (codes "):"))

pub behind_front : (e : ParseError) (front page : List ℕ) → front ≡ front_of e → page ≡ printed e [] → drop (length front) page ≡ messages_text e.messages
behind_front e front page is same =
    ap (λ l. drop (length front) l) (same ∙ printed_is e) ∙ drop_at (front_of e) (messages_text e.messages) (length front) (ap (λ l. length l) (sym is))

-- the front is no longer than the page
pub front_within : (e : ParseError) (front page : List ℕ) → front ≡ front_of e → page ≡ printed e [] → length front ≤ length page
front_within e front page is same =
    subst (λ l. length l ≤ length page) (sym is) (subst (λ l. length (front_of e) ≤ length l) (sym (same ∙ printed_is e)) (grind (arith, common_steps)))
