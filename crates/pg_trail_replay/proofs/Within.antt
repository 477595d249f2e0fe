-- What leaves and operators take lies in the text.
use Rattle.std.proofs.Common.{◌≡◌, ◌+◌, ◌-◌, ◌<◌, ◌≤◌, ℕ, suc, Bool, true, false, List, ◌∷◌, refl, ap, arith, if◌then◌else◌, length}
use Rattle.std.specs.Prelude.{Option, Some, None, slice_get}
use Rattle.std.specs.List.{list_any}
use Rattle.std.specs.Str.{bytes_eq}
use Rattle.std.proofs.lemmas.Option.{slice_get_within}
use Rattle.std.proofs.lemmas.Slice.Eq.{bytes_eq-Decides}
use Rattle.pg_grammar_form.specs.ClassItems.{has_character}
use Rattle.pg_grammar_form.specs.Operators.{Operator}
use Rattle.pg_grammar_form.specs.declared.class.ClassPart.{ClassPart}
use Rattle.pg_grammar_form.specs.declared.operators_item.OperatorsItem.{OperatorsItem}
use Rattle.pg_grammar_form.specs.declared.word_item.WordItem.{WordItem}
use Rattle.pg_grammar_value.specs.Grammar.{Grammar}
use Rattle.pg_language.specs.Runs.{run_at, past_run, stands_at, IsDeclarationAt}
use Rattle.pg_trail_replay.specs.Tasks.{next_in, satisfied, spelled, unreserved, word_from, word_by, operator_end}
use Rattle.pg_trail_replay.proofs.Characters.{stands_short, run_short}

-- at most this number
abbrev pub IsAtMost : ℕ → Option ℕ → Type 0
IsAtMost most None = Unit {0}
IsAtMost most (Some n) = n ≤ most

-- from the place on, and not past the end
abbrev pub IsOnward : ℕ → ℕ → Option ℕ → Type 0
IsOnward i end None = Unit {0}
IsOnward i end (Some j) = (i ≤ j) × (j ≤ end)

module _ (g : Grammar) (text : List ℕ) (i : ℕ) where
  -- ---- leaves

  satisfied_by : (class : List ClassPart) (next : Option ℕ) → slice_get text i ≡ next → (b : Bool) → next_in g class next ≡ b → IsAtMost (length text - i) (if b then Some 1 else None)
  satisfied_by class None e true h = absurd cc
  satisfied_by class (Some c) e true h = let low = slice_get_within text i c e in omega arith
  satisfied_by class next e false h = tt

  pub satisfied_within : (class : List ClassPart) → IsAtMost (length text - i) (satisfied g text class i)
  satisfied_within class = satisfied_by class (slice_get text i) refl (next_in g class (slice_get text i)) refl

  spelled_by : (cs : List ℕ) (b : Bool) → stands_at text i cs ≡ b → IsAtMost (length text - i) (if b then Some (length cs) else None)
  spelled_by cs true h = stands_short text cs i h
  spelled_by cs false h = tt

  pub spelled_within : (cs : List ℕ) → IsAtMost (length text - i) (spelled text cs i)
  spelled_within cs = spelled_by cs (stands_at text i cs) refl

  unreserved_within : (b : Bool) (w : List ℕ) (most : ℕ) → length w ≤ most → IsAtMost most (if b then None else Some (length w))
  unreserved_within true w most h = tt
  unreserved_within false w most h = h

  headed_within : (b : Bool) (item : WordItem) (w : List ℕ) (most : ℕ) → length w ≤ most → IsAtMost most (if b then unreserved item w else None)
  headed_within true item w most h = unreserved_within (list_any (λ reserved. bytes_eq reserved w) item.reserved) w most h
  headed_within false item w most h = tt

  word_from_within : (item : WordItem) (next : Option ℕ) → slice_get text i ≡ next → IsAtMost (length text - i) (word_from g text item i next)
  word_from_within item None e = tt
  word_from_within item (Some c) e =
      let low = slice_get_within text i c e in
      let run = run_short g text item.rest (i + 1) in
      let short : length (c ∷ run_at g text item.rest (i + 1)) ≤ length text - i = omega arith in
      headed_within (has_character g.classes item.head c) item (c ∷ run_at g text item.rest (i + 1)) (length text - i) short

  pub word_within : (item : Option WordItem) → IsAtMost (length text - i) (word_by g text i item)
  word_within None = tt
  word_within (Some item) = word_from_within item (slice_get text i) refl

  pub declared_within : (item : OperatorsItem) (class : List ClassPart) (d : Operator) (j : ℕ) → IsDeclarationAt g text item class d i j → (i < j) × (j ≤ length text)
  declared_within item class d j is =
      let digit = slice_get_within text is.digit_place (48 + d.precedence) is.digit in
      let first = is.first_gap in
      let second = is.second_gap in
      let last = is.last_gap in
      let more = run_short g text item.gap (suc is.digit_place) in
      let symbol = run_short g text item.class is.symbol_place in
      let counted : length (run_at g text item.class is.symbol_place) ≡ length d.symbol = ap length is.symbol in
      let after = run_short g text item.gap (is.symbol_place + length d.symbol) in
      (omega arith, omega arith)

  -- ---- operators

  operator_by : (item : OperatorsItem) (symbol : List ℕ) → i ≤ length text → (b : Bool) → bytes_eq (run_at g text item.class i) symbol ≡ b →
      IsOnward i (length text) (if b then Some (past_run g text item.gap (i + length symbol)) else None)
  operator_by item symbol low true h =
      let same : run_at g text item.class i ≡ symbol = (bytes_eq-Decides (run_at g text item.class i) symbol).0 h in
      let counted : length (run_at g text item.class i) ≡ length symbol = ap length same in
      let run = run_short g text item.class i in
      let after = run_short g text item.gap (i + length symbol) in
      (omega arith, omega arith)
  operator_by item symbol low false h = tt

  pub operator_within : (item : OperatorsItem) (symbol : List ℕ) → i ≤ length text → IsOnward i (length text) (operator_end g text item symbol i)
  operator_within item symbol low = operator_by item symbol low (bytes_eq (run_at g text item.class i) symbol) refl
