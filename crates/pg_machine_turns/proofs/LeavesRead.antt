-- What leaves put on the lists, by what they read.
use Rattle.std.proofs.Common.{◌≡◌, ◌+◌, ◌≤◌, ◌==◌, ℕ, zero, suc, List, [], ◌∷◌, Bool, true, false, nat_eq, nat_lt, refl, sym, ap, ◌∙◌, drop, take, length, eq-eqb, arith, length-take, length-drop, if◌then◌else◌}
use Rattle.std.proofs.lemmas.Bool.Decides.{nat_tests}
use Rattle.std.proofs.lemmas.Option.{slice_get_within}
use Rattle.std.specs.Prelude.{Option, Some, slice_get}
use Rattle.std.specs.List.{list_any, common_prefix_len}
use Rattle.std.specs.Str.{bytes_eq}
use Rattle.pg_machine_turns.specs.Spots.{spot_at}
use Rattle.pg_machine_lists.specs.RunTrees.{RunTrees}
use Rattle.pg_grammar_form.specs.ClassItems.{has_character}
use Rattle.pg_grammar_value.specs.Grammar.{Grammar}
use Rattle.pg_grammar_form.specs.declared.class.ClassPart.{ClassPart}
use Rattle.pg_grammar_value.specs.declared.trail.TrailItem.{TrailItem}
use Rattle.pg_grammar_form.specs.declared.word_item.WordItem.{WordItem}
use Rattle.pg_language.specs.Runs.{run_at}
use Rattle.pg_table.specs.Tables.{Table}
use Rattle.pg_language.specs.Errors.{quote, next_text, seen_at, stopped_before}
use Rattle.pg_language.specs.Leaves.{taken, satisfy_outcome, string_outcome, word_outcome, word_read, matched}
use Rattle.pg_language.specs.Outcomes.{failed}
use Rattle.pg_message_tape.specs.Messages.{TapeMessage}
use Rattle.pg_machine_turns.specs.Tape.{OnFrame, Tape, tape_leaf}

pub other_length : (n m : ℕ) → (n ≡ m → ⊥) → (n == m) ≡ false
other_length n m h = grind (arith, nat_tests)

module _ (fs : List OnFrame) (v : RunTrees) (t : List TrailItem) (x : List TapeMessage) (table : Table) (tape : Tape) where
  pub satisfy_taken : (g : Grammar) (text : List ℕ) (class : List ClassPart) (i c : ℕ) → slice_get text i ≡ Some c → has_character g.classes class c ≡ true →
      tape ≡ tape_leaf (taken (spot_at table i) (c ∷ [])) fs v t x table → tape ≡ tape_leaf (satisfy_outcome g text class (spot_at table i)) fs v t x table
  satisfy_taken g text class i c there member is = rw (there, member) is

  pub string_taken : (text s : List ℕ) (i : ℕ) → common_prefix_len nat_eq s (drop i text) ≡ length s →
      tape ≡ tape_leaf (taken (spot_at table i) s) fs v t x table → tape ≡ tape_leaf (string_outcome text s (spot_at table i)) fs v t x table
  string_taken text s i whole is = let test : (matched text s i == length s) ≡ true = eq-eqb (matched text s i) (length s) whole in rw test is

  pub string_failed : (text s : List ℕ) (i n : ℕ) → common_prefix_len nat_eq s (drop i text) ≡ n → (n == length s) ≡ false → (next : Option ℕ) → next ≡ slice_get (drop i text) n →
      tape ≡ tape_leaf (failed (nat_lt 0 n) (stopped_before (quote s) (next_text next) i)) fs v t x table → tape ≡ tape_leaf (string_outcome text s (spot_at table i)) fs v t x table
  string_failed text s i n count test next e is =
      is ∙ ap (λ o. tape_leaf (failed (nat_lt 0 n) (stopped_before (quote s) (next_text o) i)) fs v t x table) e ∙ ap (λ o. tape_leaf (failed (nat_lt 0 n) (stopped_before (quote s) (next_text o) i)) fs v t x table) (got text i n)
      ∙ ap (λ (b : Bool). tape_leaf (if b then taken (spot_at table i) s else failed (nat_lt 0 n) (stopped_before (quote s) (seen_at text (i + n)) i)) fs v t x table) (sym test)
      ∙ ap (λ k. tape_leaf (if k == length s then taken (spot_at table i) s else failed (nat_lt 0 k) (stopped_before (quote s) (seen_at text (i + k)) i)) fs v t x table) (sym count)
    where
      got : (xs : List ℕ) (i n : ℕ) → slice_get (drop i xs) n ≡ slice_get xs (i + n)
      got xs zero n = let z : n ≡ 0 + n = omega arith in ap (slice_get xs) z
      got [] (suc i) n = refl
      got (y ∷ xs) (suc i) n = let z : suc (i + n) ≡ suc i + n = omega arith in got xs i n ∙ ap (slice_get (y ∷ xs)) z

  pub word_told : (g : Grammar) (text : List ℕ) (item : WordItem) (i c : ℕ) (word : List ℕ) → slice_get text i ≡ Some c → has_character g.classes item.head c ≡ true →
      word ≡ c ∷ run_at g text item.rest (suc i) → tape ≡ tape_leaf (word_read item (spot_at table i) word) fs v t x table → tape ≡ tape_leaf (word_outcome g text item (spot_at table i)) fs v t x table
  word_told g text item i c word there member whole is = rw (there, member) (is ∙ ap (λ s. tape_leaf (word_read item (spot_at table i) s) fs v t x table) whole)

  pub word_taken_whole : (item : WordItem) (i : ℕ) (s : List ℕ) → list_any (λ reserved. bytes_eq reserved s) item.reserved ≡ false →
      tape ≡ tape_leaf (taken (spot_at table i) s) fs v t x table → tape ≡ tape_leaf (word_read item (spot_at table i) s) fs v t x table
  word_taken_whole item i s free is = rw free is

-- a word ends within the text
pub word_fits : (text all rest : List ℕ) (i n : ℕ) (next : Option ℕ) (c : ℕ) → slice_get text i ≡ next → next ≡ Some c → all ≡ drop i text → rest ≡ drop (i + 1) text → n ≤ length rest →
    n + 1 ≡ length (take (n + 1) all)
word_fits text all rest i n next c e f a b h =
    let inside = slice_get_within text i c (e ∙ f) in
    let x = ap length a in
    let y = ap length b in
    omega (arith, length-take (n + 1) all, length-drop i text, length-drop (i + 1) text)
