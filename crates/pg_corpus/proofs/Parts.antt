-- The parts of a case, joined.
use Rattle.std.proofs.Common.{◌≡◌, ◌⊎◌, ◌+◌, ◌-◌, ◌<◌, ℕ, Bool, true, false, not, cond, List, [], ◌∷◌, ◌++◌, Option, length, take, drop, refl, sym, ap, subst, ◌∙◌, inl, inr, arith}
use Rattle.std.proofs.lemmas.Bool.{cases_Bool}
use Rattle.std.proofs.lemmas.List.{append_assoc, length-append}
use Rattle.std.specs.List.{slice_get, slice_range}
use Rattle.pg_corpus.specs.Lines.{ends_line, first_line, without_feed, is_feed, is_rule, IsCut}
use Rattle.pg_corpus.specs.Headings.{IsHeading}
use Rattle.pg_corpus.specs.Cases.{IsOpening, IsWanting}
use Rattle.pg_corpus.specs.declared.lines.Part.TheVariants.{Around, Between, Wanted}
use Rattle.pg_corpus.proofs.Cutting.{IsFirst, first, take_front, drop_front, taken-joined}

-- what is left at the end of joined parts
pub front_of : (bytes front rest : List ℕ) → bytes ≡ front ++ rest → take (length bytes - length rest) bytes ≡ front
front_of bytes front rest e =
    let n : length bytes - length rest ≡ length front = omega (arith, ap length e ∙ length-append front rest) in
    ap (λ k. take k bytes) n ∙ (ap (take (length front)) e ∙ take_front front rest)

not_false : (b : Bool) → not b ≡ false → b ≡ true
not_false true h = refl
not_false false h = sym h

ended : (a : Bool) (front rest : List ℕ) → 0 < length rest → (a ≡ true) ⊎ (rest ≡ []) → a ≡ true
ended a front rest some (inl e) = e
ended a front rest some (inr e) = absurd (let n : length rest ≡ 0 = ap length e in omega arith)

four : (a b c d e : List ℕ) → a ++ (b ++ (c ++ (d ++ e))) ≡ (a ++ (b ++ (c ++ d))) ++ e
four a b c d e = simp append_assoc

-- the parts of an opening
pub opened : (bytes mark between behind rule around rest name : List ℕ) (size : ℕ) (start : Option (List ℕ))
    → 0 < length bytes → mark ≡ first_line bytes → IsHeading mark size name start → IsCut (Between size) (drop (length mark) bytes) between behind
    → 0 < length behind → rule ≡ first_line behind → IsCut Around (drop (length rule) behind) around rest
    → (bytes ≡ take (length bytes - length rest) bytes ++ rest) × IsOpening (take (length bytes - length rest) bytes) name start (without_feed between)
opened bytes mark between behind rule around rest name size start some is_mark heads text more is_rule_line surrounds =
    let top : IsFirst bytes mark = subst (IsFirst bytes) (sym is_mark) (first bytes some) in
    let low : IsFirst behind rule = subst (IsFirst behind) (sym is_rule_line) (first behind more) in
    let front : List ℕ = mark ++ (between ++ (rule ++ around)) in
    let whole : bytes ≡ front ++ rest =
    top.joined ∙ (ap (λ l. mark ++ l) (text.joined ∙ ap (λ l. between ++ l) (low.joined ∙ ap (λ l. rule ++ l) surrounds.joined)) ∙ four mark between rule around rest) in
    let is_front : take (length bytes - length rest) bytes ≡ front = front_of bytes front rest whole in
    let long : 0 < length (drop (length mark) bytes) = omega (arith, ap length text.joined ∙ length-append between behind) in (
      whole ∙ ap (λ l. l ++ rest) (sym is_front),
      record {
        size = size;
        mark = mark;
        between = between;
        rule = rule;
        around = around;
        joined = is_front;
        is_line = top.one;
        ends = ended (ends_line mark) mark (drop (length mark) bytes) long top.ends;
        heads = heads;
        no_rule = text.belong;
        between_ends = ended (ends_line between) between behind more text.ends;
        is_text = refl;
        rule_is_line = low.one;
        is_ruled = subst (λ l. is_rule size l ≡ true) (sym is_rule_line) (not_false _ (text.stops more));
        surrounds = surrounds.belong;
      },
    )

-- bytes without the line feed at their end are a front of them
feed_apart : (bytes : List ℕ) → bytes ≡ without_feed bytes ++ drop (length (without_feed bytes)) bytes
feed_apart bytes = elim (cases_Bool (is_feed (slice_get bytes (length bytes - 1)))) [
  | inl y ↦ (let P : List ℕ → Type 0 = λ l. bytes ≡ l ++ drop (length l) bytes in subst P (sym (ap (λ t. cond t (take (length bytes - 1) bytes) bytes) y)) (taken-joined (length bytes - 1) bytes))
  | inr n ↦ (let P : List ℕ → Type 0 = λ l. bytes ≡ l ++ drop (length l) bytes in subst P (sym (ap (λ t. cond t (take (length bytes - 1) bytes) bytes) n)) (all_joined bytes))
]
  where
    all_joined : (l : List ℕ) → l ≡ l ++ drop (length l) l
    all_joined [] = refl
    all_joined (x ∷ xs) = ap (λ m. x ∷ m) (all_joined xs)

regrouped : (wanted feed around rest : List ℕ) → (wanted ++ feed) ++ (around ++ rest) ≡ wanted ++ ((feed ++ around) ++ rest)
regrouped wanted feed around rest = simp append_assoc

empty_front : (front rest : List ℕ) → front ++ rest ≡ [] → front ≡ []
empty_front [] rest e = refl
empty_front (x ∷ front) rest e = cc

ends_or : (a : Bool) (behind around rest : List ℕ) → behind ≡ around ++ rest → (a ≡ true) ⊎ (behind ≡ []) → (a ≡ true) ⊎ (around ≡ [])
ends_or a behind around rest joined (inl e) = inl e
ends_or a behind around rest joined (inr e) = inr (empty_front around rest (sym joined ∙ e))

-- the parts of what is wanted
pub wants : (bytes block behind around rest wanted : List ℕ) → IsCut Wanted bytes block behind → wanted ≡ without_feed block → 0 < length wanted
    → IsCut Around behind around rest
    → (bytes ≡ wanted ++ (slice_range bytes (length wanted) (length bytes - length rest) ++ rest)) × IsWanting wanted (slice_range bytes (length wanted) (length bytes - length rest))
wants bytes block behind around rest wanted wanting is some surrounds =
    let feed : List ℕ = drop (length wanted) block in
    let apart : block ≡ wanted ++ feed = subst (λ l. block ≡ l ++ drop (length l) block) (sym is) (feed_apart block) in
    let whole : bytes ≡ wanted ++ ((feed ++ around) ++ rest) =
    wanting.joined ∙ (ap (λ l. block ++ l) surrounds.joined ∙ (ap (λ l. l ++ (around ++ rest)) apart ∙ regrouped wanted feed around rest)) in
    let dropped : drop (length wanted) bytes ≡ (feed ++ around) ++ rest = ap (drop (length wanted)) whole ∙ drop_front wanted ((feed ++ around) ++ rest) in
    let count : length bytes - length rest - length wanted ≡ length (feed ++ around) =
    omega (arith, ap length whole ∙ (length-append wanted ((feed ++ around) ++ rest) ∙ ap (λ k. length wanted + k) (length-append (feed ++ around) rest))) in
    let is_after : slice_range bytes (length wanted) (length bytes - length rest) ≡ feed ++ around =
    ap (λ k. take k (drop (length wanted) bytes)) count ∙ (ap (take (length (feed ++ around))) dropped ∙ take_front (feed ++ around) rest) in (
      whole ∙ ap (λ l. wanted ++ (l ++ rest)) (sym is_after),
      record {
        block = block;
        around = around;
        joined = ap (λ l. wanted ++ l) is_after ∙ (sym (append_assoc wanted feed around) ∙ ap (λ l. l ++ around) (sym apart));
        is_wanted = is;
        wants = some;
        belong = wanting.belong;
        ends = ends_or (ends_line block) behind around rest surrounds.joined wanting.ends;
        surrounds = surrounds.belong;
      },
    )
