-- Verdicts on all nodes of a grammar, for what comes next.
use Rattle.std.specs.Prelude.{◌≡◌, ◌<◌, ℕ, List, Some, length, slice_get, slice_set, slice_index_or, if◌then◌else◌, nat_eq, nat_lt}
use Rattle.pg_grammar_form.specs.Forms.{Node}
use Rattle.pg_grammar_value.specs.Grammar.{Grammar}
use Rattle.pg_language.specs.Answers.{given}
use Rattle.pg_language.specs.Derives.{Spot}
use Rattle.pg_language.specs.declared.reading.Reading.TheVariants.{Library}
use Rattle.pg_machine_plan.specs.Verdicts.{next_of, form_verdict, node_verdict, IsSoAt}
use Rattle.pg_machine_plan.specs.declared.next.Next.{Next}
use Rattle.pg_machine_plan.specs.declared.next.Next.TheVariants.{Ascii, Other, End}
use Rattle.pg_machine_plan.specs.declared.verdict.Verdict.{Verdict}
use Rattle.pg_machine_plan.specs.declared.verdict.Verdict.TheVariants.{Unknown}

-- what comes next, by its place in a table; past the others it is the end
abbrev pub next_at : ℕ → Next
next_at k = if nat_lt k 128 then Ascii k else (if nat_eq k 128 then Other else End)

-- wherever this comes next in a text
abbrev pub Wherever : Next → (List ℕ → Spot → Type 0) → Type 0
Wherever next P = (text : List ℕ) (a : Spot) → next_of (slice_get text a.place) ≡ next → P text a

-- the verdict on a node in a column of them; of others nothing is told
abbrev pub verdict_at : List Verdict → ℕ → Verdict
verdict_at column p = slice_index_or column p Unknown

-- each verdict of the column is so wherever this comes next
abbrev pub IsColumn : Grammar → Next → List Verdict → Type 0
IsColumn g next column = (text : List ℕ) (p : ℕ) → IsSoAt (given Library g text) next p (verdict_at column p)

-- a column whose verdicts follow, one from others, beginning with none that tells anything
pub data Follows (g : Grammar) (next : Next) : List Verdict → Type 0 where
  untold : {column : List Verdict} → ((p : ℕ) → verdict_at column p ≡ Unknown) → Follows g next column
  told : {column : List Verdict} (i : ℕ) (v : Verdict) → Follows g next column → i < length column →
      v ≡ node_verdict g (verdict_at column) next (slice_get g.nodes i) → Follows g next (slice_set column i v)

-- no leaf tells apart what comes next, so no form does whose parts have the same verdicts
abbrev pub AreAlike : Grammar → Next → Next → Type 0
AreAlike g one other = (p : ℕ) (n : Node) → slice_get g.nodes p ≡ Some n → (on : ℕ → Verdict) → form_verdict g on one n ≡ form_verdict g on other n
