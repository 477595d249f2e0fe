-- Rows that began together, with one more and one less.
use Rattle.std.proofs.Common.{◌≡◌, ◌≤◌, ◌<◌, ◌+◌, ◌-◌, ℕ, suc, Option, None, List, ◌∷◌, sym, ap, ◌∙◌, arith}
use Rattle.pg_message_tape.specs.TapeErrors.{tape_error, kept_at}
use Rattle.pg_message_tape.specs.declared.message_tape.KeptError.{KeptError}
use Rattle.pg_machine_lists.specs.TapeLevels.{OnPreceding, on_nothing, OnLevel, on_row}
use Rattle.pg_machine_lists.specs.ViewLevels.{tightest_on, fewer_on, together_on}
use Rattle.pg_machine_lists.specs.declared.together.Together.{Together}

-- a row of which nothing has been read
pub is_alone : (row n m : ℕ) (prefix : Option (List ℕ)) (entry : KeptError) (before : OnPreceding) → prefix ≡ None → before ≡ on_nothing → entry.from ≡ m →
    on_row row None (kept_at entry.upto (tape_error entry.place m)) n m on_nothing ≡ on_row row prefix entry n m before
is_alone row n m prefix entry before none nothing here =
    let same : kept_at entry.upto (tape_error entry.place m) ≡ entry = ap (λ (from : ℕ). kept_at entry.upto (tape_error entry.place from)) (sym here) in
    cc

pub only_one : (one : Together) (below : List OnLevel) → one.looser ≡ 0 → together_on one below ≡ tightest_on one ∷ below
only_one one below h = ap (λ (j : ℕ). tightest_on one ∷ fewer_on one.loosest one.place one.forest one.from one.upto j below) h

-- a tighter row more
pub one_more : (rows one : Together) (looser : ℕ) (below : List OnLevel) → looser ≡ rows.looser + 1 → one.looser ≡ 0 → one.loosest ≡ rows.loosest - looser →
    one.place ≡ rows.place → one.forest ≡ rows.forest → one.from ≡ rows.upto → one.from - (one.upto - one.from) ≡ rows.from →
    together_on (record { loosest = rows.loosest; looser = looser; place = rows.place; forest = rows.forest; from = one.from; upto = one.upto }) below ≡
    tightest_on one ∷ together_on rows below
one_more rows one looser below more none row place forest upto from =
    let next : looser ≡ suc rows.looser = omega arith in
    let same : rows.loosest - looser ≡ one.loosest - one.looser = omega arith in
    let tail = λ (m k : ℕ). on_row (rows.loosest - rows.looser) None (kept_at k (tape_error rows.place m)) rows.forest m on_nothing
    ∷ fewer_on rows.loosest rows.place rows.forest m k rows.looser below in
    let head : tightest_on (record { loosest = rows.loosest; looser = looser; place = rows.place; forest = rows.forest; from = one.from; upto = one.upto }) ≡ tightest_on one =
    ap (λ (r : ℕ). on_row r None (kept_at one.upto (tape_error rows.place one.from)) rows.forest one.from on_nothing) same
    ∙ ap (λ (i : ℕ). on_row (one.loosest - one.looser) None (kept_at one.upto (tape_error i one.from)) rows.forest one.from on_nothing) (sym place)
    ∙ ap (λ (n : ℕ). on_row (one.loosest - one.looser) None (kept_at one.upto (tape_error one.place one.from)) n one.from on_nothing) (sym forest) in
    let rest : fewer_on rows.loosest rows.place rows.forest one.from one.upto looser below ≡ together_on rows below =
    ap (λ (j : ℕ). fewer_on rows.loosest rows.place rows.forest one.from one.upto j below) next
    ∙ ap (λ (m : ℕ). tail m one.from) from ∙ ap (λ (k : ℕ). tail rows.from k) upto in
    ap (λ (l : OnLevel). l ∷ fewer_on rows.loosest rows.place rows.forest one.from one.upto looser below) head
    ∙ ap (λ (ls : List OnLevel). tightest_on one ∷ ls) rest

-- the tightest row less
pub one_less : (l i n m k j looser : ℕ) (below : List OnLevel) → 1 ≤ looser → j ≡ looser - 1 →
    together_on (record { loosest = l; looser = j; place = i; forest = n; from = m - (k - m); upto = m }) below ≡ fewer_on l i n m k looser below
one_less l i n m k j looser below some less =
    let next : suc j ≡ looser = omega arith in
    ap (λ (q : ℕ). fewer_on l i n m k q below) next

pub none_left : (l i n m k looser : ℕ) (below : List OnLevel) → looser < 1 → below ≡ fewer_on l i n m k looser below
none_left l i n m k looser below none =
    let zero_is : 0 ≡ looser = omega arith in
    ap (λ (q : ℕ). fewer_on l i n m k q below) zero_is
