-- A corpus with other wanted texts.
use Rattle.std.proofs.Common.{◌≡◌, ℕ, List, [], ◌∷◌, ◌++◌, refl, sym, ap, ap₂, ◌∙◌}
use Rattle.std.specs.Global.{Vec}
use Rattle.std.specs.List.{flat_map}
use Rattle.pg_corpus.specs.Cases.{IsWrittenAs, AreWanted, case_bytes, updated_cases}
use Rattle.pg_corpus.specs.declared.case.Case.{Case}
use Rattle.pg_corpus.specs.declared.corpus.Corpus.{Corpus}

-- with the same texts, the cases are the same bytes
same_cases : (cs : List Case) (ws : List (Vec ℕ)) → AreWanted cs ws → updated_cases cs ws ≡ flat_map case_bytes cs
same_cases [] ws h = refl
same_cases (c ∷ cs) [] h = absurd h
same_cases (c ∷ cs) (w ∷ ws) h = ap₂ (λ l m. l ++ m) (ap (λ t. c.before.now ++ (t ++ c.after.now)) h.0) (same_cases cs ws h.1)

pub updated_same : (bytes : List ℕ) (corpus : Corpus) (ws : List (Vec ℕ)) → IsWrittenAs bytes corpus → AreWanted corpus.cases.items ws
    → corpus.head.now ++ updated_cases corpus.cases.items ws ≡ bytes
updated_same bytes corpus ws written are = ap (λ l. corpus.head.now ++ l) (same_cases corpus.cases.items ws are) ∙ sym written.joined
