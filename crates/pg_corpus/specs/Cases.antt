-- A corpus: its comments, and its cases one after the other.
use Rattle.std.specs.Prelude.{◌≡◌, ◌⊎◌, ◌<◌, ℕ, true, List, [], ◌∷◌, ◌++◌, Option, All, length}
use Rattle.std.specs.List.{list_all, flat_map}
use Rattle.std.specs.Global.{Vec}
use Rattle.std.specs.Option.{option_copied}
use Rattle.pg_corpus.specs.Lines.{lines, ends_line, without_feed, is_rule, belongs}
use Rattle.pg_corpus.specs.Headings.{IsHeading}
use Rattle.pg_corpus.specs.declared.lines.Part.TheVariants.{Around, Between, Wanted}
use Rattle.pg_corpus.specs.declared.case.Case.{Case}
use Rattle.pg_corpus.specs.declared.corpus.Corpus.{Corpus}

-- what stands before what is wanted: a line that begins a case, its text, a line of as many `-`, blank lines and comments
pub record IsOpening (before name : List ℕ) (start : Option (List ℕ)) (text : List ℕ) : Type 0 where
  pub size : ℕ
  pub mark : List ℕ
  pub between : List ℕ
  pub rule : List ℕ
  pub around : List ℕ
  pub joined : before ≡ mark ++ (between ++ (rule ++ around))
  pub is_line : lines mark ≡ mark ∷ []
  pub ends : ends_line mark ≡ true
  pub heads : IsHeading mark size name start
  pub no_rule : list_all (belongs (Between size)) (lines between) ≡ true
  pub between_ends : ends_line between ≡ true
  pub is_text : text ≡ without_feed between
  pub rule_is_line : lines rule ≡ rule ∷ []
  pub is_ruled : is_rule size rule ≡ true
  pub surrounds : list_all (belongs Around) (lines around) ≡ true

-- what is wanted, and blank lines and comments behind it
pub record IsWanting (wanted after : List ℕ) : Type 0 where
  pub block : List ℕ
  pub around : List ℕ
  pub joined : wanted ++ after ≡ block ++ around
  pub is_wanted : wanted ≡ without_feed block
  pub wants : 0 < length wanted
  pub belong : list_all (belongs Wanted) (lines block) ≡ true
  pub ends : (ends_line block ≡ true) ⊎ (around ≡ [])
  pub surrounds : list_all (belongs Around) (lines around) ≡ true

-- a case, and the bytes that it is written with
abbrev pub IsCase : Case → Type 0
IsCase c = IsOpening c.before.now c.name.now (option_copied c.start) c.text.now × IsWanting c.wanted.now c.after.now

abbrev pub case_bytes : Case → List ℕ
case_bytes c = c.before.now ++ (c.wanted.now ++ c.after.now)

-- a file is written as a corpus: comments and blank lines, and then its cases, one after the other
pub record IsWrittenAs (bytes : List ℕ) (corpus : Corpus) : Type 0 where
  pub joined : bytes ≡ corpus.head.now ++ flat_map case_bytes corpus.cases.items
  pub surrounds : list_all (belongs Around) (lines corpus.head.now) ≡ true
  pub are_cases : All IsCase corpus.cases.items

-- a case with something else in the place of what is wanted
abbrev pub with_wanted : Case → List ℕ → List ℕ
with_wanted c wanted = c.before.now ++ (wanted ++ c.after.now)

-- cases with others in the place of what each of them wants, in order
abbrev pub updated_cases : List Case → List (Vec ℕ) → List ℕ
updated_cases [] ws = []
updated_cases (c ∷ cs) [] = []
updated_cases (c ∷ cs) (w ∷ ws) = with_wanted c w.items ++ updated_cases cs ws

-- these are what the cases want
abbrev pub AreWanted : List Case → List (Vec ℕ) → Type 0
AreWanted [] ws = Unit {0}
AreWanted (c ∷ cs) [] = ⊥
AreWanted (c ∷ cs) (w ∷ ws) = (w.items ≡ c.wanted.now) × AreWanted cs ws
