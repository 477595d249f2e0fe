-- Trails that a `Trail` can hold: their numbers and symbols fit.
use Rattle.std.specs.Prelude.{◌<◌, ◌^◌, List, [], ◌∷◌}
use Rattle.std.specs.Str.{encode_utf8_all, IsUtf8}
use Rattle.pg_grammar_value.specs.declared.trail.AppliedOperator.{AppliedOperator}
use Rattle.pg_grammar_value.specs.declared.trail.TrailItem.{TrailItem}
use Rattle.pg_grammar_value.specs.declared.trail.TrailItem.TheVariants.{Alt, Rounds, Ops}

-- an operator's symbol is UTF-8, as all encoded characters are
abbrev pub IsSymbolText : AppliedOperator → Type 0
IsSymbolText o = IsUtf8 (encode_utf8_all o.symbol)

abbrev pub AreSymbolsText : List AppliedOperator → Type 0
AreSymbolsText [] = Unit {0}
AreSymbolsText (o ∷ os) = IsSymbolText o × AreSymbolsText os

-- a number fits into 64 bits, and symbols are UTF-8
abbrev pub IsStorable : TrailItem → Type 0
IsStorable (Alt k) = k < 2 ^ 64
IsStorable (Rounds k) = k < 2 ^ 64
IsStorable (Ops os) = AreSymbolsText os

-- each number fits into 64 bits and each symbol is UTF-8, as in every `Trail`
abbrev pub AreStorable : List TrailItem → Type 0
AreStorable [] = Unit {0}
AreStorable (i ∷ items) = IsStorable i × AreStorable items
