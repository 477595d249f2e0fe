-- Reading digits one after the other, as a loop does.
use Rattle.std.proofs.Common.{◌≡◌, ℕ, ◌+◌, ◌*◌, ◌<◌, ◌≤◌, Bool, true, false, ◌&&◌, cond, leb, List, [], ◌∷◌, length, drop, get_or, Some, None, refl, sym, ap, ◌∙◌, arith}
use Rattle.std.proofs.lemmas.Bool.{lt-leb}
use Rattle.std.proofs.lemmas.List.{at_drop_more}
use Rattle.std.specs.Char.{digit_value}
use Rattle.std.specs.Str.Parse.{digits_value, digits_value_after}
use Rattle.pg_file_tokens.specs.Lexical.{passes}
use Rattle.pg_file_items.specs.Proper.{is_decimal, value_of}
use Rattle.pg_file_parser.specs.Reading.{value_within}

-- a number only grows by digits after it
value_grows : (n : ℕ) (digits : List ℕ) → n ≤ digits_value_after 10 n digits
value_grows n [] = omega arith
value_grows n (c ∷ digits) =
    let more = value_grows (n * 10 + digit_value c) digits in
    let first : n ≤ n * 10 + digit_value c = omega arith in
    omega (arith, more, first)

refused : (most : ℕ) (digits : List ℕ) (ok : Bool) → most < value_of digits → cond (ok && leb (value_of digits) most) (Some (value_of digits)) None ≡ None
refused most digits true h = rw (lt-leb (value_of digits) most h) refl
refused most digits false h = refl

-- a number that is too great already
pub too_great : (most v i d c : ℕ) (digits : List ℕ) → i < length digits → get_or digits i d ≡ c → most < v * 10 + digit_value c → digits_value_after 10 v (drop i digits) ≡ digits_value 10 digits
    → None ≡ value_within most digits
unfolding value_within
too_great most v i d c digits lt here great so_far =
    let step : digits_value_after 10 v (drop i digits) ≡ digits_value_after 10 (v * 10 + digit_value (get_or digits i d)) (drop (i + 1) digits) = at_drop_more (digits_value_after 10 v) digits i d lt in
    let same : digits_value_after 10 (v * 10 + digit_value c) (drop (i + 1) digits) ≡ digits_value 10 digits = ap (λ (e : ℕ). digits_value_after 10 (v * 10 + digit_value e) (drop (i + 1) digits)) (sym here) ∙ sym step ∙ so_far in
    let grows = value_grows (v * 10 + digit_value c) (drop (i + 1) digits) in
    let greater : most < value_of digits = omega (arith, great, grows, same) in
    sym (refused most digits (passes is_decimal digits) greater)
