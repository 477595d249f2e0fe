-- The page by the texts that were made is the page of the grammar's sets.
use Rattle.std.proofs.Common.{◌≡◌, ◌∙◌, ℕ, List, ap}
use Rattle.pg_grammar_value.specs.Grammar.{Grammar}
use Rattle.pg_sets.specs.Sets.{Sets, AreSets}
use Rattle.pg_sets_page.specs.SetsPage.{IsSetsPage, names_of, start_texts, page_text}

pub page_shown : (g : Grammar) (sets : Sets) (names starts : List (List ℕ)) (page : List ℕ) → AreSets g sets → names ≡ names_of g
    → starts ≡ start_texts g sets → page ≡ page_text g names starts sets → IsSetsPage g page
page_shown g sets names starts page are named started shown =
    record {
      sets = sets;
      are = are;
      shown = shown ∙ ap (λ (n : List (List ℕ)). page_text g n starts sets) named ∙ ap (λ (s : List (List ℕ)). page_text g (names_of g) s sets) started;
    }
