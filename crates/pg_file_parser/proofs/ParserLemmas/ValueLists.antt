-- Values with commas between them: what is read of them is written so, and their meaning is that of each.
use Rattle.std.proofs.Common.{◌≡◌, ℕ, suc, ◌≤◌, List, [], ◌∷◌, ◌++◌, length, map, Some, refl, sym, ap, subst, ◌∙◌, arith}
use Rattle.std.proofs.Math.Nat.{le-max_left, le-max_right, max-le}
use Rattle.std.specs.List.{AllByRecursion}
use Rattle.pg_file_tokens.specs.declared.token.Mark.TheVariants.{Close, Comma}
use Rattle.pg_file_tokens.specs.Tokens.{Token, mark}
use Rattle.pg_file_items.specs.Tree.{Value, Values, No_value, And}
use Rattle.pg_file_items.specs.Syntax.{written, written_more}
use Rattle.pg_file_items.specs.Proper.{IsProper, AreProper}
use Rattle.pg_file_items.specs.Depth.{depth, depths}
use Rattle.pg_file_items.specs.Heads.{value_count, heads, all_heads}
use Rattle.pg_file_items.specs.Joined.{joined}
use Rattle.pg_file_parser.specs.Reading.{Body, Reader, some_at}
use Rattle.pg_file_parser.proofs.ParserLemmas.Parts.{Kind, Sound, more_written, some_sound}

abbrev pub values : ℕ → Kind Body
values n = record {
  Tree = Value;
  write = written;
  mean = heads;
  Proper = λ v. IsProper v × (depth v ≤ n);
  Ends = λ ts. Unit {0};
}

-- ---- lists of values

abbrev values_of : List Value → Values
values_of [] = No_value
values_of (v ∷ vs) = And v (values_of vs)

abbrev pub list_of : Values → List Value
list_of No_value = []
list_of (And v vs) = v ∷ list_of vs

back : (vs : List Value) → list_of (values_of vs) ≡ vs
back [] = refl
back (v ∷ vs) = ap (λ (l : List Value). v ∷ l) (back vs)

pub same_more : (n : ℕ) (vs : Values) (rest : List Token) → written_more vs rest ≡ more_written (values n) Comma (list_of vs) (mark Close ∷ rest)
same_more n No_value rest = refl
same_more n (And v vs) rest = ap (λ (u : List Token). mark Comma ∷ written v u) (same_more n vs rest)

pub same_count : (vs : Values) → length (map heads (list_of vs)) ≡ value_count vs
same_count No_value = refl
same_count (And v vs) = ap suc (same_count vs)

pub same_heads : (vs : Values) → joined (map heads (list_of vs)) ≡ all_heads vs
same_heads No_value = refl
same_heads (And v vs) = ap (λ (b : Body). heads v ++ b) (same_heads vs)

pub one_by_one : (n : ℕ) (vs : Values) → AreProper vs → depths vs ≤ n → AllByRecursion (values n).Proper (list_of vs)
one_by_one n No_value p d = tt
one_by_one n (And v vs) p d =
    let first : depth v ≤ n = omega (arith, d, le-max_left (depth v) (depths vs)) in
    let more : depths vs ≤ n = omega (arith, d, le-max_right (depth v) (depths vs)) in
    ((p.0, first), one_by_one n vs p.1 more)

together : (n : ℕ) (vs : Values) → AllByRecursion (values n).Proper (list_of vs) → AreProper vs × (depths vs ≤ n)
together n No_value h = let zero_deep : 0 ≤ n = omega arith in (tt, zero_deep)
together n (And v vs) h =
    let t = together n vs h.1 in
    ((h.0.0, t.0), max-le h.0.1 t.1)

-- ---- values that are read, one or more

-- values with commas between, and what stands after them
pub record AreValues (n : ℕ) (ts : List Token) (x : List Body × List Token) : Type 0 where
  pub first : Value
  pub others : Values
  pub text : (rest : List Token) → x.1 ≡ mark Close ∷ rest → ts ≡ written first (written_more others rest)
  pub count : length x.0 ≡ suc (value_count others)
  pub means : joined x.0 ≡ heads first ++ all_heads others
  pub first_proper : IsProper first
  pub others_proper : AreProper others
  pub first_deep : depth first ≤ n
  pub others_deep : depths others ≤ n

pub some_values : (n : ℕ) (value : Reader Body) → Sound (values n) value → (m : ℕ) (ts : List Token) (x : List Body × List Token) → some_at Comma value m ts ≡ Some x → AreValues n ts x
some_values n value sound m ts x e =
    let s = some_sound (values n) Comma value sound m ts x e in
    let others = values_of s.trees in
    let q : s.trees ≡ list_of others = sym (back s.trees) in
    let fine = together n others (subst (AllByRecursion (values n).Proper) q s.proper) in
    let bodies : x.0 ≡ heads s.first ∷ map heads (list_of others) = s.means ∙ ap (λ (l : List Value). heads s.first ∷ map heads l) q in
    record {
      first = s.first;
      others = others;
      text = λ rest c. s.text ∙ ap (λ (l : List Value). written s.first (more_written (values n) Comma l x.1)) q
          ∙ ap (λ (u : List Token). written s.first (more_written (values n) Comma (list_of others) u)) c ∙ sym (ap (written s.first) (same_more n others rest));
      count = ap (λ (bs : List Body). length bs) bodies ∙ ap suc (same_count others);
      means = ap (λ (bs : List Body). joined bs) bodies ∙ ap (λ (b : Body). heads s.first ++ b) (same_heads others);
      first_proper = s.first_proper.0;
      others_proper = fine.0;
      first_deep = s.first_proper.1;
      others_deep = fine.1;
    }
