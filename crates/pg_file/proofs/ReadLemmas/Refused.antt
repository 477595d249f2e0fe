-- What a file is refused with is a fault of it, and stands where that is shown.
use Rattle.std.proofs.Common.{◌≡◌, ℕ, true, List, take, Option, Some, None, refl, sym, ap, subst, ◌∙◌}
use Rattle.std.specs.List.{Contains, list_any}
use Rattle.std.specs.Str.{chars, IsUtf8, IsValidUpTo}
use Rattle.pg_file_tokens.specs.declared.token.Lexeme.{Lexeme}
use Rattle.pg_file_tokens.specs.Tokens.{Token, bad}
use Rattle.pg_file_tokens.specs.Lexing.{placed_of, up_to}
use Rattle.pg_file_tokens.specs.View.{placed_tokens_of, is_bad_at}
use Rattle.pg_file_tokens.proofs.LexerLemmas.Exact.{bad_is_listed, bad_spells_none, up_to_among}
use Rattle.pg_file.specs.declared.error.ReadError.{ReadError}
use Rattle.pg_file.specs.declared.error.ReadError.TheVariants as unread
use Rattle.pg_file.specs.declared.file_fault.FaultKind.{FaultKind}
use Rattle.pg_file.specs.declared.file_fault.FaultKind.TheVariants.{NotUtf8, BadToken, UnexpectedToken, UnknownName, NameTwice, NoStart, BadLiteral, LimitPassed, NotAdmitted}
use Rattle.pg_file.specs.declared.file_fault.FileFault.{FileFault}
use Rattle.pg_file.specs.declared.file_fault.FileError.{FileError}
use Rattle.pg_file.specs.declared.file_fault.FileError.TheVariants.{Fault, Memory}
use Rattle.pg_file.specs.Answers.{IsFault}
use Rattle.pg_file.specs.Refusals.{end_position, shown_position, IsBadAt, IsAtBadToken, IsFaultAt, IsRefusalOf, IsNotUtf8After, IsPlace, IsKindAt, IsErrorAt, shown_error}

-- ---- bad tokens

-- a bad token among those that were found up to a place is the bad one of the file
pub found_bad : (characters : List ℕ) (last : ℕ) (ls : List Lexeme) → placed_tokens_of ls ≡ up_to last (placed_of characters) → (place : ℕ) → list_any (is_bad_at place) ls ≡ true
    → IsBadAt characters place
found_bad characters last ls e place h =
    let listed : Contains (up_to last (placed_of characters)) (place, bad) = subst (λ (ts : List (ℕ × Token)). Contains ts (place, bad)) e (bad_is_listed place ls h) in
    let there : Contains (placed_of characters) (place, bad) = up_to_among last (placed_of characters) (place, bad) listed in
    record { none = bad_spells_none characters place there; there = there }

-- ---- errors

module _ (P Q : ℕ → Type 0) (leads : (place : ℕ) → P place → Q place) where
  place_leads : (place : Option ℕ) → IsPlace P place → IsPlace Q place
  place_leads (Some place) h = leads place h
  place_leads None h = h

  pub kind_leads : (place : Option ℕ) (kind : FaultKind) → IsKindAt P place kind → IsKindAt Q place kind
  kind_leads place NotUtf8 h = h
  kind_leads place BadToken h = place_leads place h
  kind_leads place UnexpectedToken h = h
  kind_leads place UnknownName h = h
  kind_leads place NameTwice h = h
  kind_leads place NoStart h = h
  kind_leads place BadLiteral h = h
  kind_leads place LimitPassed h = h
  kind_leads place (NotAdmitted fault) h = h

  -- what leads from one sort of places to another leads from errors to errors
  pub error_leads : (e : ReadError) → IsErrorAt P e → IsErrorAt Q e
  error_leads unread.Memory h = h
  error_leads (unread.Fault kind place) h = kind_leads place kind h

-- ---- what is shown

-- what is no fault is want of memory
pub shown_memory : (characters : List ℕ) (e : ReadError) → (IsFault e → ⊥) → shown_error characters e ≡ Memory
shown_memory characters unread.Memory h = refl
shown_memory characters (unread.Fault kind place) h = absurd (h tt)

-- the fault of characters is one of the bytes that they stand for
pub shown_refused : (bytes characters : List ℕ) (e : ReadError) → IsUtf8 bytes → characters ≡ chars bytes → IsErrorAt (IsBadAt characters) e → IsRefusalOf bytes (shown_error characters e)
shown_refused bytes characters unread.Memory utf8 are h = tt
shown_refused bytes characters (unread.Fault NotUtf8 place) utf8 are h = absurd h
shown_refused bytes characters (unread.Fault BadToken (Some place)) utf8 are h =
    (utf8, subst (λ (cs : List ℕ). IsAtBadToken cs (shown_position characters place)) are (record { place = place; is_bad = h; shown = refl }))
shown_refused bytes characters (unread.Fault BadToken None) utf8 are h = absurd h
shown_refused bytes characters (unread.Fault UnexpectedToken place) utf8 are h = utf8
shown_refused bytes characters (unread.Fault UnknownName place) utf8 are h = utf8
shown_refused bytes characters (unread.Fault NameTwice place) utf8 are h = utf8
shown_refused bytes characters (unread.Fault NoStart place) utf8 are h = utf8
shown_refused bytes characters (unread.Fault BadLiteral place) utf8 are h = utf8
shown_refused bytes characters (unread.Fault LimitPassed place) utf8 are h = utf8
shown_refused bytes characters (unread.Fault (NotAdmitted fault) place) utf8 are h = utf8

-- bytes that aren't UTF-8 are refused as such
pub not_utf8_refused : (bytes front : List ℕ) (valid : ℕ) (e : FileError) → (IsUtf8 bytes → ⊥) → IsValidUpTo bytes valid → front ≡ take valid bytes → IsNotUtf8After (chars front) e → IsRefusalOf bytes e
not_utf8_refused bytes front valid Memory wrong longest are h = tt
not_utf8_refused bytes front valid (Fault fault) wrong longest are h =
    let is : fault ≡ record { kind = NotUtf8; position = end_position (chars (take valid bytes)) } =
    h ∙ ap (λ (bs : List ℕ). record { kind = NotUtf8; position = end_position (chars bs) }) are in
    subst (λ (f : FileFault). IsFaultAt bytes f.position f.kind) (sym is) (record { wrong = wrong; valid = valid; longest = longest; after = refl })
