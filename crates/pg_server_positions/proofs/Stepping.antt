-- A turn of the loops over a document.
use Rattle.std.proofs.Common.{◌≡◌, ◌≤◌, ◌<◌, ◌+◌, ◌⊎◌, ◌++◌, ◌∷◌, [], ℕ, Bool, true, false, cond, inl, inr, sym, ◌∙◌, ap, subst, arith, List, length, get_or, slice_get, Some, length-append}
use Rattle.std.proofs.lemmas.Bool.{cases_lt}
use Rattle.std.proofs.lemmas.List.{get_or_default, get_or_at, get_or_append_left}
use Rattle.std.proofs.lemmas.Option.{slice_get-get_or}
use Rattle.pg_server_positions.specs.declared.position.Position.{Position}
use Rattle.pg_server_positions.specs.declared.position.Encoding.{Encoding}
use Rattle.pg_server_positions.specs.declared.cursor.Cursor.{Cursor}
use Rattle.pg_server_positions.specs.Positions.{after, cursor_at, position_at, shown}
use Rattle.pg_server_positions.proofs.Again.{next_cursor}

-- the cursor behind a character of a document
pub stepped : (encoding : Encoding) (text : List ℕ) (place c : ℕ) (at next : Cursor) → place < length text → c ≡ get_or text place c → at ≡ cursor_at encoding text place → next ≡ after encoding at c →
    next ≡ cursor_at encoding text (place + 1)
stepped encoding text place c at next h is so value =
    value ∙ (ap (λ x. after encoding x c) so ∙ (ap (λ d. after encoding (cursor_at encoding text place) d) (is ∙ get_or_default text place c 0 h) ∙ sym (next_cursor encoding text place h)))

-- the last place up to the next one at which a test is false
pub record Kept (f : ℕ → Bool) (place found : ℕ) : Type 0 where
  pub within : found ≤ place + 1
  pub reached : f found ≡ false
  pub last : (other : ℕ) → found < other → other ≤ place + 1 → f other ≡ true

at_next : (f : ℕ → Bool) (place found other : ℕ) → f (place + 1) ≡ true → ((o : ℕ) → found < o → o ≤ place → f o ≡ true) → found < other → other ≤ place + 1 → (other < place + 1) ⊎ (place + 1 ≤ other) → f other ≡ true
at_next f place found other t last less h (inl before) = last other less (omega arith)
at_next f place found other t last less h (inr behind) = subst (λ o. f o ≡ true) (omega arith) t

-- it is kept, or is the next one
pub kept : (f : ℕ → Bool) (place found next : ℕ) → next ≡ cond (f (place + 1)) found (place + 1) → found ≤ place → f found ≡ false → ((o : ℕ) → found < o → o ≤ place → f o ≡ true) →
    (f (place + 1) ≡ true) ⊎ (f (place + 1) ≡ false) → Kept f place next
kept f place found next e h r last (inl t) =
    let same : next ≡ found = e ∙ ap (λ b. cond b found (place + 1)) t in
    record {
      within = omega arith;
      reached = subst (λ o. f o ≡ false) (sym same) r;
      last = λ other less within. at_next f place found other t last (omega arith) within (cases_lt other (place + 1));
    }
kept f place found next e h r last (inr n) =
    let same : next ≡ place + 1 = e ∙ ap (λ b. cond b found (place + 1)) n in
    record {
      within = omega arith;
      reached = subst (λ o. f o ≡ false) (sym same) n;
      last = λ other less within. absurd (omega arith);
    }

pushed_by : (f : ℕ → Position) (xs : List Position) (n : ℕ) (x : Position) → length xs ≡ n → x ≡ f n → ((k : ℕ) → k < n → slice_get xs k ≡ Some (f k)) →
    (k : ℕ) → k < n + 1 → (k < n) ⊎ (n ≤ k) → slice_get (xs ++ x ∷ []) k ≡ Some (f k)
pushed_by f xs n x len e each k h (inl less) =
    let front : k < length xs = omega arith in
    slice_get-get_or (xs ++ x ∷ []) k x (omega (arith, length-append xs (x ∷ []))) ∙ (ap Some (get_or_append_left xs (x ∷ []) x k front) ∙ (sym (slice_get-get_or xs k x front) ∙ each k less))
pushed_by f xs n x len e each k h (inr behind) =
    let same : k ≡ n = omega arith in
    subst (λ m. slice_get (xs ++ x ∷ []) m ≡ Some (f m)) (sym same)
    (slice_get-get_or (xs ++ x ∷ []) n x (omega (arith, length-append xs (x ∷ []))) ∙ ap Some (get_or_at xs x [] x n len ∙ e))

-- the positions of the places up to one, and that of the next
pub pushed : (encoding : Encoding) (text : List ℕ) (xs : List Position) (n : ℕ) (x : Position) (at : Cursor) → length xs ≡ n → x ≡ shown at → at ≡ cursor_at encoding text n →
    ((k : ℕ) → k < n → slice_get xs k ≡ Some (position_at encoding text k)) → (k : ℕ) → k < n + 1 → slice_get (xs ++ x ∷ []) k ≡ Some (position_at encoding text k)
pushed encoding text xs n x at len is so each k h = pushed_by (position_at encoding text) xs n x len (is ∙ ap shown so) each k h (cases_lt k n)
