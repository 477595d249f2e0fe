-- Starts that are apart from wider ones are apart from the starts that these cover.
use Rattle.std.proofs.Common.{◌≡◌, inl, inr, ℕ, List, [], ◌∷◌, true, false, refl, sym, subst}
use Rattle.std.specs.Str.{all_scalars}
use Rattle.std.proofs.lemmas.Bool.{cases_Bool, both_ways}
use Rattle.pg_class.specs.Ranges.{Range, IsWithin, has}
use Rattle.pg_start.specs.Apart.{Apart}
use Rattle.pg_start.specs.Prefixes.{begins_in}
use Rattle.pg_start.specs.declared.kind.StartKind.{StartKind}
use Rattle.pg_start.specs.declared.kind.StartKind.TheVariants.{Class, Key, Word, End}
use Rattle.pg_start.proofs.Meeting.{Apart-swap, scalar_at}
use Rattle.pg_certificate_verify.specs.Covering.{IsWiderClass}
use Rattle.pg_certificate_verify.specs.Enough.{CoversKind}

-- a key is of characters
abbrev pub IsSpelled : StartKind → Type 0
IsSpelled (Class ranges) = Unit {0}
IsSpelled (Key text excluded) = all_scalars text ≡ true
IsSpelled (Word heads rest reserved) = Unit {0}
IsSpelled End = Unit {0}

-- a key that doesn't begin in a class doesn't begin in a narrower one
begins_narrower : (wider class : List Range) (key : List ℕ) → IsWithin class wider → all_scalars key ≡ true → begins_in wider key ≡ false → begins_in class key ≡ false
begins_narrower wider class [] within scalars outside = refl
begins_narrower wider class (c ∷ cs) within scalars outside =
    elim (cases_Bool (has class c)) [
      | inl is ↦ absurd (both_ways (has wider c) outside (within c (scalar_at (c ∷ cs) 0 c scalars refl) is))
      | inr not ↦ not
    ]

wider_apart : (one start other : StartKind) → IsWiderClass one start → IsSpelled other → Apart one other → Apart start other
wider_apart (Class wider) (Class class) (Class ranges) within spelled apart = λ c scalar h k. apart c scalar (within c scalar h) k
wider_apart (Class wider) (Class class) (Key key excluded) within spelled apart = begins_narrower wider class key within spelled apart
wider_apart (Class wider) (Class class) (Word heads rest reserved) within spelled apart = λ c scalar h k. apart c scalar (within c scalar h) k
wider_apart (Class wider) (Class class) End within spelled apart = tt
wider_apart (Class wider) (Key key excluded) other wider_class spelled apart = elim wider_class [ ]
wider_apart (Class wider) (Word heads rest reserved) other wider_class spelled apart = elim wider_class [ ]
wider_apart (Class wider) End other wider_class spelled apart = elim wider_class [ ]
wider_apart (Key key excluded) start other wider_class spelled apart = elim wider_class [ ]
wider_apart (Word heads rest reserved) start other wider_class spelled apart = elim wider_class [ ]
wider_apart End start other wider_class spelled apart = elim wider_class [ ]

covered_apart : (one start other : StartKind) → CoversKind one start → IsSpelled other → Apart one other → Apart start other
covered_apart one start other (inl wider) spelled apart = wider_apart one start other wider spelled apart
covered_apart one start other (inr same) spelled apart = subst (λ s. Apart s other) same apart

-- what covers a start that is spelled is spelled: a key covers itself alone
wider_spelled : (one start : StartKind) → IsWiderClass one start → IsSpelled one
wider_spelled (Class wider) start wider_class = tt
wider_spelled (Key key excluded) start wider_class = elim wider_class [ ]
wider_spelled (Word heads rest reserved) start wider_class = tt
wider_spelled End start wider_class = tt

covering_spelled : (one start : StartKind) → CoversKind one start → IsSpelled start → IsSpelled one
covering_spelled one start (inl wider) spelled = wider_spelled one start wider
covering_spelled one start (inr same) spelled = subst IsSpelled (sym same) spelled

pub narrower_apart : (one other s t : StartKind) → CoversKind one s → CoversKind other t → IsSpelled s → IsSpelled t → Apart one other → Apart s t
narrower_apart one other s t covers covers_other spelled other_spelled apart =
    let left : Apart s other = covered_apart one s other covers (covering_spelled other t covers_other other_spelled) apart in
    Apart-swap t s (covered_apart other t s covers_other spelled (Apart-swap s other left))
