-- Lists of texts, and lookups in them.
use Rattle.std.specs.Prelude.{◌≡◌, ℕ, Bool, List, [], ◌∷◌, ◌++◌}
use Rattle.std.specs.List.{list_any}
use Rattle.std.specs.Str.{bytes_eq}
use Rattle.std.specs.Global.{Vec}

-- whether a text is one of these
abbrev pub is_among : List (List ℕ) → List ℕ → Bool
is_among texts text = list_any (λ t. bytes_eq t text) texts

-- the keys are exactly these texts, in any order
abbrev pub Spell : List (Vec ℕ) → List (List ℕ) → Type 0
Spell keys texts = (text : List ℕ) → list_any (λ k. bytes_eq text k.items) keys ≡ is_among texts text

-- if the old keys are exactly some texts, the new keys are those and this text
abbrev pub SpellsOneMore : List ℕ → List (Vec ℕ) → List (Vec ℕ) → Type 0
SpellsOneMore text old new = (texts : List (List ℕ)) → Spell old texts → Spell new (texts ++ text ∷ [])
