use Rattle.std.proofs.Common.{◌≡◌, ◌∙◌, ◌-◌, ◌^◌, ℕ, true, false, List, [], ◌++◌, Option, Some, codes, length, replicate, append-nil, refl, ap, subst, string_bytes, arith, rules}
use Rattle.std.specs.Fmt.{padded_integral, format_spec, char_count, digits, styled_digits_output, ◌++?◌}
use Rattle.std.specs.Option.{IfSome, option_map}
use Rattle.pg_sets_own.proofs.printed.push_character.Goals as goal

-- what the options of `{:04X}` make of digits
four_wide : List ℕ → List ℕ
four_wide = padded_integral (format_spec 32 0 4 4 (2 ^ 64 - 1)) false []

zeros_in_front : (numeral : List ℕ) → four_wide numeral ≡ replicate (4 - length numeral) 48 ++ numeral
unfolding four_wide padded_integral char_count
zeros_in_front numeral =
    let short : 4 - length numeral - 0 - 0 ≡ 4 - length numeral = omega arith in
    rw (short, append-nil numeral) refl

-- a text is `U+` and what is given after it
abbrev Spells : List ℕ → Option (List ℕ) → Type 0
Spells text given = IfSome (Some (codes "U+") ++? given) (λ bs. text ≡ bs)

pub returns : goal.returns
unfolding four_wide
returns c =
    let number = c.from.ensures in
    let shown = c.in_radix.result in
    let digits_given = ap (option_map four_wide) c.in_radix.ensures ∙ ap Some (zeros_in_front (digits 16 true c.from.result)) in
    let given = ap (styled_digits_output shown) c.laid_out.ensures ∙ digits_given in
    let text = subst (Spells (string_bytes c.in_ok-digits.digits)) given c.in_ok-digits.ensures.ok in
    search rules
