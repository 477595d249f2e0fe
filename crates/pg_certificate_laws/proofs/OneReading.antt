-- The bytes of a certificate are read in one way: no other claims are those of the same text.
use Rattle.std.proofs.Common.{◌≡◌, ℕ, suc, List, [], ◌∷◌, length, map, codes, None, Ok, refl, sym, ap, ap₂, ◌∙◌, subst}
use Rattle.std.proofs.lemmas.Str.{encodes_same}
use Rattle.serde_json.specs.Data.{Data, string, array, object, null, boolean, number}
use Rattle.serde_json.specs.Find.{as_str}
use Rattle.pg_certificate.proofs.Claims.{claim_given}
use Rattle.pg_certificate.proofs.Parts.{same_list, same_data, same_text}
use Rattle.pg_certificate.proofs.Starts.{class_start, key_start, word_start}
use Rattle.pg_certificate.proofs.Words.{word_found}
use Rattle.pg_certificate.specs.Certificates.{SaysClaim, SaysRules, SaysCertificate, IsCertificateText}
use Rattle.pg_certificate.specs.Claims.{Each, SaysEach, SaysUnder, SaysFlag, SaysNumber, SaysRank, SaysText, SaysRange, SaysClass, SaysKey, SaysWord, SaysStart, key_count}
use Rattle.pg_certificate.specs.Readings.{Gives}
use Rattle.pg_certificate.specs.declared.certificate.ClaimedStart.{ClaimedStart}
use Rattle.pg_certificate.specs.declared.certificate.ClaimedStart.TheVariants.{Class, Key, Word, Operator, End}
use Rattle.pg_certificate.specs.declared.certificate.RuleClaim.{RuleClaim}
use Rattle.pg_grammar_form.specs.Names.{AreDistinct}
use Rattle.pg_grammar_form.specs.WordItems.{word_name}
use Rattle.pg_grammar_value.specs.Grammar.{Grammar, IsGrammar}

-- it says one thing at most
abbrev IsOnce : {A B : Type 0} → (B → A → Type 0) → Type 0
IsOnce {A} {B} Says = (b : B) (one other : A) → Says b one → Says b other → one ≡ other

-- what is said is then what is given
given : {A B : Type 0} (Says : B → A → Type 0) → IsOnce Says → (b : B) (a : A) → Says b a → Gives Says b (Ok a)
given Says once b a said = (said, λ other also. once b other a also said)

-- ---- arrays and objects

each_once : {A B : Type 0} (Says : B → A → Type 0) → IsOnce Says → IsOnce (Each Says)
each_once Says once [] [] [] said also = refl
each_once Says once [] [] (y ∷ ys) said also = absurd also
each_once Says once [] (x ∷ xs) other said also = absurd said
each_once Says once (b ∷ bs) [] other said also = absurd said
each_once Says once (b ∷ bs) (x ∷ xs) [] said also = absurd also
each_once Says once (b ∷ bs) (x ∷ xs) (y ∷ ys) said also = ap₂ (λ z zs. z ∷ zs) (once b x y said.0 also.0) (each_once Says once bs xs ys said.1 also.1)

list_once : {A : Type 0} (Says : Data → A → Type 0) → IsOnce Says → IsOnce (SaysEach Says)
list_once Says once d one other said also =
    each_once Says once said.0 one other said.2 (subst (λ ds. Each Says ds other) (sym (same_list said.0 also.0 (said.1 ∙ sym also.1))) also.2)

under_once : {A : Type 0} (key : List ℕ) (Says : Data → A → Type 0) → IsOnce Says → IsOnce (SaysUnder key Says)
under_once key Says once d one other said also =
    once said.0 one other said.2 (subst (λ x. Says x other) (sym (same_data said.0 also.0 (sym said.1 ∙ also.1))) also.2)

-- ---- numbers and texts

flag_once : IsOnce SaysFlag
flag_once d one other said also = let both : boolean one ≡ boolean other = sym said ∙ also in cc

number_once : IsOnce SaysNumber
number_once d one other said also = let both = sym said ∙ also in cc

rank_once : IsOnce SaysRank
rank_once d one other said also = number_once d one other said.0 also.0

text_once : IsOnce SaysText
text_once d one other said also = encodes_same one other (same_text _ _ (sym said ∙ also))

-- ---- ranges

range_once : IsOnce SaysRange
range_once d one other said also =
    let both : said.0 ∷ said.1 ∷ [] ≡ also.0 ∷ also.1 ∷ [] = same_list (said.0 ∷ said.1 ∷ []) (also.0 ∷ also.1 ∷ []) (said.2 ∙ sym also.2) in
    let first : said.0 ≡ also.0 = cc in
    let last : said.1 ≡ also.1 = cc in
    ap₂ (λ (a b : ℕ). (a, b)) (number_once also.0 one.0 other.0 (sym first ∙ said.3.0.0) also.3.0.0) (number_once also.1 one.1 other.1 (sym last ∙ said.3.1.0) also.3.1.0)

class_once : IsOnce SaysClass
class_once d one other said also = list_once SaysRange range_once d one other said.0 also.0

key_once : IsOnce SaysKey
key_once d one other said also = text_once d one other said.0 also.0

-- ---- starts

object_no_text : (d : Data) (k : ℕ) → key_count d ≡ suc k → as_str d ≡ None
object_no_text (object ms) k keys = refl
object_no_text null k keys = cc
object_no_text (boolean b) k keys = cc
object_no_text (number n) k keys = cc
object_no_text (string s) k keys = cc
object_no_text (array ds) k keys = cc

text_no_keys : (d : Data) (s : List ℕ) (k : ℕ) → d ≡ string s → key_count d ≡ suc k → ⊥
text_no_keys d s k is keys = let none : key_count d ≡ 0 = ap key_count is in cc

operator_or_end : (d : Data) → d ≡ string (codes "operator") → d ≡ string (codes "end") → ⊥
operator_or_end d operator end = let long : length (codes "operator") ≡ length (codes "end") = ap length (same_text _ _ (sym operator ∙ end)) in cc

module _ (g : Grammar) (distinct : AreDistinct (map word_name g.words)) where
  word_once : IsOnce (SaysWord g)
  word_once d one other said also =
      sym ((word_found g d said.0.name one said.0 distinct (given SaysText text_once d said.0.name said.2) said.1 refl).1 other also)

  start_once : IsOnce (SaysStart g)
  start_once d (Class ranges) other said also =
      sym ((class_start g d said.1.0 ranges (object_no_text d 0 said.0) said.0 said.1.1 (given SaysClass class_once said.1.0 ranges said.1.2)).1 other also)
  start_once d (Key text excluded) other said also =
      sym ((key_start g d said.1.0 said.2.0 text excluded (object_no_text d 1 said.0) said.0 said.1.1 said.2.1 (given SaysKey key_once said.1.0 text said.1.2)
      (given SaysClass class_once said.2.0 excluded said.2.2)).1 other also)
  start_once d (Word w) other said also =
      sym ((word_start g d said.1.0 w (object_no_text d 0 said.0) said.0 said.1.1 (given (SaysWord g) word_once said.1.0 w said.1.2)).1 other also)
  start_once d Operator (Class ranges) said also = absurd (text_no_keys d _ 0 said.0 also.0)
  start_once d Operator (Key text excluded) said also = absurd (text_no_keys d _ 1 said.0 also.0)
  start_once d Operator (Word w) said also = absurd (text_no_keys d _ 0 said.0 also.0)
  start_once d Operator Operator said also = refl
  start_once d Operator End said also = absurd (operator_or_end d said.0 also)
  start_once d End (Class ranges) said also = absurd (text_no_keys d _ 0 said also.0)
  start_once d End (Key text excluded) said also = absurd (text_no_keys d _ 1 said also.0)
  start_once d End (Word w) said also = absurd (text_no_keys d _ 0 said also.0)
  start_once d End Operator said also = absurd (operator_or_end d also.0 said)
  start_once d End End said also = refl

  -- ---- claims

  starts_given : (key : List ℕ) (d : Data) (starts : List ClaimedStart) → SaysUnder key (SaysEach (SaysStart g)) d starts → Gives (SaysUnder key (SaysEach (SaysStart g))) d (Ok starts)
  starts_given key d starts said =
      given (SaysUnder key (SaysEach (SaysStart g))) (under_once key (SaysEach (SaysStart g)) (list_once (SaysStart g) start_once)) d starts said

  claim_once : IsOnce (SaysClaim g)
  claim_once d one other said also =
      sym ((claim_given g d one said.keys (starts_given (codes "first") d one.first said.first) (starts_given (codes "follow") d one.follow said.follow)
      (given (SaysUnder (codes "h") SaysNumber) (under_once (codes "h") SaysNumber number_once) d one.cost said.cost)
      (given (SaysUnder (codes "nullable") SaysFlag) (under_once (codes "nullable") SaysFlag flag_once) d one.nullable said.nullable)
      (given (SaysUnder (codes "rank") SaysRank) (under_once (codes "rank") SaysRank rank_once) d one.rank said.rank)
      (given (SaysUnder (codes "rule") SaysText) (under_once (codes "rule") SaysText text_once) d one.rule said.rule)).1 other also)

  rules_once : IsOnce (SaysRules g)
  rules_once d one other said also = list_once (SaysClaim g) claim_once d one other said.0 also.0

  certificate_once : IsOnce (SaysCertificate g)
  certificate_once d one other said also = under_once (codes "rules") (SaysRules g) rules_once d one other said.1 also.1

pub one_reading : (g : Grammar) → IsGrammar g → (bytes : List ℕ) (one other : List RuleClaim) → IsCertificateText g bytes one → IsCertificateText g bytes other → one ≡ other
one_reading g grammar bytes one other said also =
    let same : said.0 ≡ also.0 = same_data said.0 also.0 (sym said.1.1 ∙ also.1.1) in
    certificate_once g grammar.words.distinct also.0 one other (subst (λ d. SaysCertificate g d one) same said.2) also.2
