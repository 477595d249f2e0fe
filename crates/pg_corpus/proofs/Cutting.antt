-- Bytes cut where a line begins.
use Rattle.std.proofs.Common.{◌≡◌, ◌⊎◌, ◌==◌, ◌&&◌, ◌+◌, ◌-◌, ◌<◌, ◌≤◌, ℕ, zero, suc, Bool, true, false, not, cond, List, [], ◌∷◌, ◌++◌, length, take, drop, refl, sym, ap, subst, ◌∙◌, inl, inr, arith}
use Rattle.std.proofs.Math.Seq.{take-add}
use Rattle.std.proofs.lemmas.Bool.{cases_Bool, true≢false, ne_eqb}
use Rattle.std.proofs.lemmas.List.{take-append-drop, append-nil, drop-drop, length-drop, length-append}
use Rattle.std.proofs.lemmas.List.Folds.{list_all-append}
use Rattle.std.proofs.lemmas.List.Sums.{prefix_len-le-length}
use Rattle.std.specs.List.{list_all, position_or_len}
use Rattle.pg_corpus.specs.Lines.{before_lines, lines, ends_line, first_line, equals, belongs, IsCut}
use Rattle.pg_corpus.specs.declared.lines.Part.{Part}

-- a byte before lines: there is a first line
some_line : (b : ℕ) (ls : List (List ℕ)) → (l : List ℕ) × ((rest : List (List ℕ)) × (before_lines b ls ≡ l ∷ rest))
some_line b [] = (b ∷ [], ([], refl))
some_line b (l ∷ ls) = elim (cases_Bool (b == 10)) [
  | inl y ↦ (b ∷ [], (l ∷ ls, ap (λ t. cond t ((b ∷ []) ∷ (l ∷ ls)) ((b ∷ l) ∷ ls)) y))
  | inr n ↦ (b ∷ l, (ls, ap (λ t. cond t ((b ∷ []) ∷ (l ∷ ls)) ((b ∷ l) ∷ ls)) n))
]

before-append : (b : ℕ) (l : List ℕ) (ls ms : List (List ℕ)) → before_lines b ((l ∷ ls) ++ ms) ≡ before_lines b (l ∷ ls) ++ ms
before-append b l ls ms = elim (b == 10) as (λ t. cond t ((b ∷ []) ∷ (l ∷ (ls ++ ms))) ((b ∷ l) ∷ (ls ++ ms)) ≡ cond t ((b ∷ []) ∷ (l ∷ ls)) ((b ∷ l) ∷ ls) ++ ms) [
  | true ↦ refl
  | false ↦ refl
]

feed_before : (b : ℕ) (ls : List (List ℕ)) → (b == 10) ≡ true → before_lines b ls ≡ (b ∷ []) ∷ ls
feed_before b [] h = refl
feed_before b (l ∷ ls) h = ap (λ t. cond t ((b ∷ []) ∷ (l ∷ ls)) ((b ∷ l) ∷ ls)) h

other_before : (b : ℕ) (l : List ℕ) → (b == 10) ≡ false → before_lines b (l ∷ []) ≡ (b ∷ l) ∷ []
other_before b l h = ap (λ t. cond t ((b ∷ []) ∷ (l ∷ [])) ((b ∷ l) ∷ [])) h

-- the lines of two parts, the first of which ends where a line ends
pub lines-append : (a b : List ℕ) → ends_line a ≡ true → lines (a ++ b) ≡ lines a ++ lines b
lines-append [] b h = refl
lines-append (x ∷ []) b h = feed_before x (lines b) h
lines-append (x ∷ (y ∷ a)) b h =
    let (l, (rest, e)) = some_line y (lines a) in
    let P : List (List ℕ) → Type 0 = λ ls. before_lines x (ls ++ lines b) ≡ before_lines x ls ++ lines b in
    ap (before_lines x) (lines-append (y ∷ a) b h) ∙ subst P (sym e) (before-append x l rest (lines b))

pub ends-append : (a b : List ℕ) → ends_line a ≡ true → ends_line b ≡ true → ends_line (a ++ b) ≡ true
ends-append [] b h g = g
ends-append (x ∷ []) [] h g = h
ends-append (x ∷ []) (y ∷ b) h g = g
ends-append (x ∷ (y ∷ a)) b h g = ends-append (y ∷ a) b h g

-- the first line begins with the first byte, and goes on behind it if that is no line feed
first_feed : (b : ℕ) (bs : List ℕ) → (b == 10) ≡ true → first_line (b ∷ bs) ≡ b ∷ []
first_feed b bs h = ap (λ t. take (cond (not t) (1 + position_or_len (λ x. x == 10) bs) 0 + 1) (b ∷ bs)) h

first_other : (b : ℕ) (bs : List ℕ) → (b == 10) ≡ false → first_line (b ∷ bs) ≡ b ∷ first_line bs
first_other b bs h =
    let m : ℕ = position_or_len (λ x. x == 10) bs in
    let e : 1 + m + 1 ≡ suc (m + 1) = omega arith in
    ap (λ t. take (cond (not t) (1 + m) 0 + 1) (b ∷ bs)) h ∙ ap (λ n. take n (b ∷ bs)) e

-- the first line is a line
pub first-one : (b : ℕ) (bs : List ℕ) → lines (first_line (b ∷ bs)) ≡ first_line (b ∷ bs) ∷ []
first-one b [] = elim (cases_Bool (b == 10)) [
  | inl y ↦ (let P : List ℕ → Type 0 = λ l. lines l ≡ l ∷ [] in subst P (sym (first_feed b [] y)) refl)
  | inr n ↦ (let P : List ℕ → Type 0 = λ l. lines l ≡ l ∷ [] in subst P (sym (first_other b [] n)) refl)
]
first-one b (c ∷ cs) = elim (cases_Bool (b == 10)) [
  | inl y ↦ (let P : List ℕ → Type 0 = λ l. lines l ≡ l ∷ [] in subst P (sym (first_feed b (c ∷ cs) y)) refl)
  | inr n ↦ (let P : List ℕ → Type 0 = λ l. lines l ≡ l ∷ [] in
      subst P (sym (first_other b (c ∷ cs) n)) (ap (before_lines b) (first-one c cs) ∙ other_before b (first_line (c ∷ cs)) n))
]

-- the first line begins with the first byte
first_cons : (c : ℕ) (cs : List ℕ) → first_line (c ∷ cs) ≡ c ∷ take (position_or_len (λ x. x == 10) (c ∷ cs)) cs
first_cons c cs =
    let m : ℕ = position_or_len (λ x. x == 10) (c ∷ cs) in
    let e : m + 1 ≡ suc m = omega arith in
    ap (λ n. take n (c ∷ cs)) e

ends_behind : (b c : ℕ) (cs : List ℕ) → ends_line (b ∷ first_line (c ∷ cs)) ≡ ends_line (first_line (c ∷ cs))
ends_behind b c cs =
    let P : List ℕ → Type 0 = λ l. ends_line (b ∷ l) ≡ ends_line l in
    subst P (sym (first_cons c cs)) refl

-- the first line has a line feed, or nothing follows it
abbrev pub EndsOrIsAll : List ℕ → List ℕ → Type 0
EndsOrIsAll bs line = (ends_line line ≡ true) ⊎ (drop (length line) bs ≡ [])

pub first-ends : (bs : List ℕ) → EndsOrIsAll bs (first_line bs)
first-ends [] = inl refl
first-ends (b ∷ []) = elim (cases_Bool (b == 10)) [
  | inl y ↦ subst (EndsOrIsAll (b ∷ [])) (sym (first_feed b [] y)) (inl y)
  | inr n ↦ subst (EndsOrIsAll (b ∷ [])) (sym (first_other b [] n)) (inr refl)
]
first-ends (b ∷ (c ∷ cs)) = elim (cases_Bool (b == 10)) [
  | inl y ↦ subst (EndsOrIsAll (b ∷ (c ∷ cs))) (sym (first_feed b (c ∷ cs) y)) (inl y)
  | inr n ↦ subst (EndsOrIsAll (b ∷ (c ∷ cs))) (sym (first_other b (c ∷ cs) n)) (elim (first-ends (c ∷ cs)) [
    | inl e ↦ inl (ends_behind b c cs ∙ e)
    | inr e ↦ inr e
  ])
]

pub take-taken : (n : ℕ) (bs : List ℕ) → take (length (take n bs)) bs ≡ take n bs
take-taken zero bs = refl
take-taken (suc n) [] = refl
take-taken (suc n) (b ∷ bs) = ap (λ l. b ∷ l) (take-taken n bs)

pub taken-joined : (n : ℕ) (bs : List ℕ) → bs ≡ take n bs ++ drop (length (take n bs)) bs
taken-joined zero bs = refl
taken-joined (suc n) [] = refl
taken-joined (suc n) (b ∷ bs) = ap (λ l. b ∷ l) (taken-joined n bs)

-- some bytes have a first line, which is a line
pub record IsFirst (bytes line : List ℕ) : Type 0 where
  pub joined : bytes ≡ line ++ drop (length line) bytes
  pub some : 0 < length line
  pub one : lines line ≡ line ∷ []
  pub ends : EndsOrIsAll bytes line

pub first : (bytes : List ℕ) → 0 < length bytes → IsFirst bytes (first_line bytes)
first [] h = absurd (omega arith)
first (b ∷ bs) h = record {
  joined = taken-joined _ (b ∷ bs);
  some = subst (λ (l : List ℕ). 0 < length l) (sym (first_cons b bs)) (omega arith);
  one = first-one b bs;
  ends = first-ends (b ∷ bs);
}

-- the bytes before a place are lines of a part
pub record IsReadTo (part : Part) (bytes : List ℕ) (read : ℕ) : Type 0 where
  pub within : read ≤ length bytes
  pub belong : list_all (belongs part) (lines (take read bytes)) ≡ true
  pub ends : (ends_line (take read bytes) ≡ true) ⊎ (drop read bytes ≡ [])

pub read_none : (part : Part) (bytes : List ℕ) → IsReadTo part bytes 0
read_none part bytes = record { within = omega arith; belong = refl; ends = inl refl }

pub take_front : (xs ys : List ℕ) → take (length xs) (xs ++ ys) ≡ xs
take_front [] ys = refl
take_front (x ∷ xs) ys = ap (λ l. x ∷ l) (take_front xs ys)

pub drop_front : (xs ys : List ℕ) → drop (length xs) (xs ++ ys) ≡ ys
drop_front [] ys = refl
drop_front (x ∷ xs) ys = drop_front xs ys

both_hold : (a b : Bool) → a ≡ true → b ≡ true → (a && (b && true)) ≡ true
both_hold true true h g = refl
both_hold true false h g = g
both_hold false b h g = h

no_rest : (bytes : List ℕ) (read : ℕ) → read < length bytes → drop read bytes ≡ [] → ⊥
no_rest bytes read below e = let n : length (drop read bytes) ≡ 0 = ap length e in omega (arith, length-drop {A = ℕ})

at_line : (bytes : List ℕ) (read : ℕ) → read < length bytes → (ends_line (take read bytes) ≡ true) ⊎ (drop read bytes ≡ []) → ends_line (take read bytes) ≡ true
at_line bytes read below (inl e) = e
at_line bytes read below (inr e) = absurd (no_rest bytes read below e)

-- one more line
pub read_more : (part : Part) (bytes : List ℕ) (read : ℕ) (line : List ℕ) → IsReadTo part bytes read → read < length bytes
    → line ≡ first_line (drop read bytes) → belongs part line ≡ true → IsReadTo part bytes (read + length line)
read_more part bytes read line so_far below is fits =
    let rest : List ℕ = drop read bytes in
    let has_some : 0 < length rest = omega (arith, length-drop {A = ℕ}) in
    let found : IsFirst rest line = subst (IsFirst rest) (sym is) (first rest has_some) in
    let longer : take (read + length line) bytes ≡ take read bytes ++ line =
    take-add read (length line) bytes ∙ ap (λ l. take read bytes ++ l) (ap (take (length line)) found.joined ∙ take_front line (drop (length line) rest)) in
    let at : ends_line (take read bytes) ≡ true = at_line bytes read below so_far.ends in
    record {
      within = omega (arith, length-drop read bytes, ap length found.joined ∙ length-append line (drop (length line) rest));
      belong =
          ap (λ l. list_all (belongs part) (lines l)) longer
          ∙ (ap (list_all (belongs part)) (lines-append (take read bytes) line at ∙ ap (λ ls. lines (take read bytes) ++ ls) found.one)
          ∙ (list_all-append (belongs part) (lines (take read bytes)) (line ∷ []) ∙ both_hold _ _ so_far.belong fits));
      ends = ends_after bytes read line longer at found.ends;
    }
  where
    ends_after : (bytes : List ℕ) (read : ℕ) (line : List ℕ) → take (read + length line) bytes ≡ take read bytes ++ line → ends_line (take read bytes) ≡ true
        → EndsOrIsAll (drop read bytes) line → (ends_line (take (read + length line) bytes) ≡ true) ⊎ (drop (read + length line) bytes ≡ [])
    ends_after bytes read line longer at (inl e) = inl (ap ends_line longer ∙ ends-append (take read bytes) line at e)
    ends_after bytes read line longer at (inr e) = inr (sym (drop-drop (length line) read bytes) ∙ e)

-- cut where lines of a part end
pub cut_at : (part : Part) (bytes : List ℕ) (read : ℕ) → IsReadTo part bytes read
    → (read < length bytes → belongs part (first_line (drop read bytes)) ≡ false) → IsCut part bytes (take read bytes) (drop read bytes)
cut_at part bytes read so_far misfits = record {
  joined = sym (take-append-drop read bytes);
  belong = so_far.belong;
  ends = so_far.ends;
  stops = λ some. misfits (let l : length (drop read bytes) ≡ length bytes - read = length-drop read bytes in omega arith);
}

pub cut_end : (part : Part) (bytes : List ℕ) (read : ℕ) → IsReadTo part bytes read → length bytes ≤ read → IsCut part bytes (take read bytes) (drop read bytes)
cut_end part bytes read so_far past = cut_at part bytes read so_far (λ below. absurd (omega arith))

-- reading goes on
pub read_on : (bytes : List ℕ) (read : ℕ) (line : List ℕ) → read < length bytes → line ≡ first_line (drop read bytes) → 0 < length line
read_on bytes read line below is =
    let found : IsFirst (drop read bytes) (first_line (drop read bytes)) = first (drop read bytes) (omega (arith, length-drop {A = ℕ})) in
    subst (λ (l : List ℕ). 0 < length l) (sym is) found.some

-- lines of some bytes, the first of which doesn't belong
no_line : (part : Part) (c : ℕ) (cs : List ℕ) → belongs part (first_line (c ∷ cs)) ≡ false → list_all (belongs part) (lines (c ∷ cs)) ≡ false
no_line part c cs misfits =
    let line : List ℕ = first_line (c ∷ cs) in
    let tail : List ℕ = drop (length line) (c ∷ cs) in
    let found : IsFirst (c ∷ cs) line = first (c ∷ cs) (omega arith) in
    ap (λ l. list_all (belongs part) (lines l)) found.joined ∙ whole part line tail found.one misfits found.ends
  where
    falls : (b c : Bool) → b ≡ false → (b && c) ≡ false
    falls true c h = absurd (true≢false h)
    falls false c h = refl

    whole : (part : Part) (line tail : List ℕ) → lines line ≡ line ∷ [] → belongs part line ≡ false → (ends_line line ≡ true) ⊎ (tail ≡ [])
        → list_all (belongs part) (lines (line ++ tail)) ≡ false
    whole part line tail one misfits (inl e) =
        ap (list_all (belongs part)) (lines-append line tail e ∙ ap (λ ls. ls ++ lines tail) one) ∙ falls (belongs part line) _ misfits
    whole part line tail one misfits (inr e) =
        ap (λ l. list_all (belongs part) (lines l)) (ap (λ t. line ++ t) e ∙ append-nil line) ∙ (ap (list_all (belongs part)) one ∙ falls (belongs part line) true misfits)

-- all lines belong where nothing is left
pub cut_all : (part : Part) (bytes front rest : List ℕ) → IsCut part bytes front rest → (length rest == 0) ≡ list_all (belongs part) (lines bytes)
cut_all part bytes front [] is = sym (ap (λ l. list_all (belongs part) (lines l)) (is.joined ∙ append-nil front) ∙ is.belong)
cut_all part bytes front (c ∷ cs) is =
    let some : (length (c ∷ cs) == 0) ≡ false = ne_eqb (length (c ∷ cs)) 0 (λ (e : length (c ∷ cs) ≡ 0). omega arith) in
    let misfits : list_all (belongs part) (lines (c ∷ cs)) ≡ false = no_line part c cs (is.stops (omega arith)) in
    let at : ends_line front ≡ true = elim is.ends [ inl e ↦ e | inr e ↦ absurd (let n : length (c ∷ cs) ≡ 0 = ap length e in omega arith) ] in
    some ∙ sym (ap (λ l. list_all (belongs part) (lines l)) is.joined ∙ (ap (list_all (belongs part)) (lines-append front (c ∷ cs) at)
    ∙ (list_all-append (belongs part) (lines front) (lines (c ∷ cs)) ∙ (ap (λ b. b && list_all (belongs part) (lines (c ∷ cs))) is.belong ∙ misfits))))

pub equals_within : (line : List ℕ) → equals line ≤ length line
equals_within line = prefix_len-le-length (λ b. b == 61) line
