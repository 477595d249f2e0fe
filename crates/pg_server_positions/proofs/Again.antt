-- The position of a place leads back to it.
use Rattle.std.proofs.Common.{◌≡◌, ◌≤◌, ◌<◌, ◌+◌, ◌⊎◌, ◌&&◌, ◌==◌, ℕ, Bool, true, false, cond, inl, inr, refl, sym, ◌∙◌, ap, subst, arith, List, length, slice_index}
use Rattle.std.proofs.lemmas.Bool.{and_parts, both_ways, cases_lt, cases_order}
use Rattle.std.proofs.lemmas.Bool.Decides.{nat_tests}
use Rattle.std.proofs.lemmas.List.{get_or_past}
use Rattle.std.proofs.lemmas.List.Sums.{fold_more}
use Rattle.std.proofs.lemmas.Str.{len_utf8_bounds}
use Rattle.pg_server_positions.specs.declared.position.Encoding.{Encoding}
use Rattle.pg_server_positions.specs.declared.position.Encoding.TheVariants.{Utf8, Utf16}
use Rattle.pg_server_positions.specs.declared.cursor.Cursor.{Cursor}
use Rattle.pg_server_positions.specs.Positions.{after, cursor_at, position_at, shown, start, width, is_past, IsPlaceOf}
use Rattle.pg_server_positions.specs.Again.{parts_line_end, settled}
use Rattle.pg_server_positions.proofs.Leading.{leads_back}

-- where the character behind a place stands
pub next_cursor : (encoding : Encoding) (text : List ℕ) (k : ℕ) → k < length text → cursor_at encoding text (k + 1) ≡ after encoding (cursor_at encoding text k) (slice_index text k)
next_cursor encoding text k h = fold_more (after encoding) start text k 0 h

stays_by : (b r : Bool) (l u : ℕ) (rest : Cursor) → (r && b) ≡ true →
    shown (cond b (record { line = cond r l (l + 1); unit = cond r u 0; after_return = false }) rest) ≡ record { line = l; unit = u }
stays_by true true l u rest h = refl
stays_by true false l u rest h = absurd (both_ways false refl h)
stays_by false true l u rest h = absurd (both_ways false refl h)
stays_by false false l u rest h = absurd (both_ways false refl h)

goes_by : (b r d : Bool) (l u w : ℕ) → (r && b) ≡ false → 0 < w →
    is_past (shown (cond b (record { line = cond r l (l + 1); unit = cond r u 0; after_return = false })
    (cond d (record { line = l + 1; unit = 0; after_return = true }) (record { line = l; unit = u + w; after_return = false })))) (record { line = l; unit = u }) ≡ true
goes_by true true d l u w h p = absurd (both_ways true h refl)
goes_by true false d l u w h p = grind (arith, nat_tests)
goes_by false r true l u w h p = grind (arith, nat_tests)
goes_by false r false l u w h p = grind (arith, nat_tests)

apart_by : (b r : Bool) (l u : ℕ) (rest : Cursor) → (r && b) ≡ true →
    (cond b (record { line = cond r l (l + 1); unit = cond r u 0; after_return = false }) rest).after_return ≡ false
apart_by true r l u rest h = refl
apart_by false true l u rest h = absurd (both_ways false refl h)
apart_by false false l u rest h = absurd (both_ways false refl h)

-- each character has a width
wide : (encoding : Encoding) (c : ℕ) → 0 < width encoding c
wide Utf8 c = omega (arith, (len_utf8_bounds c).0)
wide Utf16 c = grind (arith, nat_tests)

stays : (encoding : Encoding) (text : List ℕ) (k : ℕ) → k < length text → parts_line_end encoding text k ≡ true → position_at encoding text (k + 1) ≡ position_at encoding text k
stays encoding text k h t =
    let at = cursor_at encoding text k in
    ap shown (next_cursor encoding text k h) ∙ stays_by (slice_index text k == 10) at.after_return at.line at.unit _ t

goes : (encoding : Encoding) (text : List ℕ) (k : ℕ) → k < length text → parts_line_end encoding text k ≡ false → is_past (position_at encoding text (k + 1)) (position_at encoding text k) ≡ true
goes encoding text k h f =
    let at = cursor_at encoding text k in
    let c = slice_index text k in
    subst (λ x. is_past (shown x) (shown at) ≡ true) (sym (next_cursor encoding text k h))
    (goes_by (c == 10) at.after_return (c == 13) at.line at.unit (width encoding c) f (wide encoding c))

apart : (encoding : Encoding) (text : List ℕ) (k : ℕ) → k < length text → parts_line_end encoding text k ≡ true → parts_line_end encoding text (k + 1) ≡ false
apart encoding text k h t =
    let at = cursor_at encoding text k in
    let r : (cursor_at encoding text (k + 1)).after_return ≡ false =
    ap (λ (x : Cursor). x.after_return) (next_cursor encoding text k h) ∙ apart_by (slice_index text k == 10) at.after_return at.line at.unit _ t in
    ap (λ (b : Bool). b && (slice_index text (k + 1) == 10)) r

ends_by : (text : List ℕ) (k : ℕ) → (slice_index text k == 10) ≡ true → (k < length text) ⊎ (length text ≤ k) → k < length text
ends_by text k t (inl less) = less
ends_by text k t (inr past) = absurd (both_ways (0 == 10) refl (subst (λ x. (x == 10) ≡ true) (get_or_past text k 0 past) t))

ends : (encoding : Encoding) (text : List ℕ) (k : ℕ) → parts_line_end encoding text k ≡ true → k < length text
ends encoding text k t = ends_by text k (and_parts (cursor_at encoding text k).after_return (slice_index text k == 10) t).1 (cases_lt k (length text))

-- the law
pub leads : (encoding : Encoding) (text : List ℕ) (place found : ℕ) → place ≤ length text → IsPlaceOf encoding text (position_at encoding text place) found → found ≡ settled encoding text place
leads encoding text place found h is =
    leads_back (length text) (position_at encoding text) (parts_line_end encoding text) (stays encoding text) (goes encoding text) (apart encoding text) (ends encoding text)
    place found h is.within is.reached is.last (cases_order found place)
