-- Two parts are put, one after the other.
use Rattle.std.proofs.Common.{◌≡◌, ℕ, List, ◌++◌, Option, append_assoc, sym, subst}
use Rattle.pg_tree.specs.Bytes.{AppendsPrefix}
use Rattle.pg_text_pieces.specs.Writing.{Puts}
use Rattle.pg_text_pieces.proofs.Puts.{prefix_longer, puts_both, puts_stopped}

pub two_put : (a b c : Option (List ℕ)) (held kept holds one two all : List ℕ) → all ≡ one ++ two → Puts a held b kept one → Puts b kept c holds two → Puts a held c holds all
two_put a b c held kept holds one two all e p q = subst (Puts a held c holds) (sym e) (puts_both a b c held kept holds one two p q)

pub two_first : (a b : Option (List ℕ)) (held one two all : List ℕ) → all ≡ one ++ two → AppendsPrefix a b (held ++ one) → AppendsPrefix a b (held ++ all)
two_first a b held one two all e stopped =
    subst (λ bs. AppendsPrefix a b (held ++ bs)) (sym e)
    (subst (AppendsPrefix a b) (append_assoc held one two) (prefix_longer a b (held ++ one) two stopped))

pub two_second : (a b c : Option (List ℕ)) (held kept one two all : List ℕ) → all ≡ one ++ two → Puts a held b kept one → AppendsPrefix b c (kept ++ two)
    → AppendsPrefix a c (held ++ all)
two_second a b c held kept one two all e p stopped =
    subst (λ bs. AppendsPrefix a c (held ++ bs)) (sym e) (puts_stopped a b c held kept one two p stopped)
