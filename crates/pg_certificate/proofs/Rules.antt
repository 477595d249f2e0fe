-- Claims of the rules of a grammar, by their names.
use Rattle.std.proofs.Common.{◌≡◌, ◌+◌, ◌<◌, ◌≤◌, ℕ, zero, suc, List, [], ◌∷◌, ◌++◌, map, get_or, length, ap, sym, ◌∙◌, arith}
use Rattle.pg_grammar_form.specs.Names.{Name}
use Rattle.pg_grammar_value.specs.Grammar.{rule_name}
use Rattle.pg_grammar_value.specs.declared.grammar.Rule.{Rule}
use Rattle.pg_certificate.specs.Certificates.{claim_rule}
use Rattle.pg_certificate.specs.declared.certificate.RuleClaim.{RuleClaim}

first_name : List Name → Name
first_name [] = []
first_name (n ∷ ns) = n

other_names : List Name → List Name
other_names [] = []
other_names (n ∷ ns) = ns

heads_same : (m n : Name) (ms ns : List Name) → m ∷ ms ≡ n ∷ ns → m ≡ n
unfolding first_name
heads_same m n ms ns e = ap first_name e

tails_same : (m n : Name) (ms ns : List Name) → m ∷ ms ≡ n ∷ ns → ms ≡ ns
unfolding other_names
tails_same m n ms ns e = ap other_names e

pub same_name : (claims : List RuleClaim) (rules : List Rule) (i : ℕ) (claim : RuleClaim) (rule : Rule) → i < length claims → i < length rules
    → claim ≡ get_or claims i claim → rule ≡ get_or rules i rule → map claim_rule claims ≡ map rule_name rules → claim.rule ≡ rule.name
same_name [] rules i claim rule within inside is are same = absurd (omega arith)
same_name (c ∷ cs) [] i claim rule within inside is are same = absurd (omega arith)
same_name (c ∷ cs) (r ∷ rs) zero claim rule within inside is are same = ap claim_rule is ∙ (heads_same _ _ _ _ same ∙ ap rule_name (sym are))
same_name (c ∷ cs) (r ∷ rs) (suc i) claim rule within inside is are same =
    same_name cs rs i claim rule (omega arith) (omega arith) is are (tails_same _ _ _ _ same)
