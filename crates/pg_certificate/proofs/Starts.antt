-- Which start an object is.
use Rattle.std.proofs.Common.{◌≡◌, ℕ, true≢false, List, Some, None, Ok, Err, Ordering, Less, Equal, Greater, is_eq, codes, refl, ap, sym, ◌∙◌, subst}
use Rattle.std.specs.Ordering.{nat_cmp, match_ordering}
use Rattle.std.specs.Cmp.Lexicographic.{slice_cmp}
use Rattle.std.proofs.lemmas.Map.Text.{is_eq-slice_cmp}
use Rattle.std.proofs.lemmas.Slice.Eq.{bytes_eq-Decides}
use Rattle.serde_json.specs.Data.{Data, null, boolean, number, string, array, object, Members, no_members, member}
use Rattle.serde_json.specs.Events.{members_len}
use Rattle.serde_json.specs.Find.{as_str, get, get_member}
use Rattle.pg_class.specs.Ranges.{Range}
use Rattle.pg_grammar_value.specs.Grammar.{Grammar}
use Rattle.pg_certificate.specs.declared.certificate.ClaimedStart.{ClaimedStart}
use Rattle.pg_certificate.specs.declared.certificate.ClaimedStart.TheVariants.{Class, Key, Word, Operator, End}
use Rattle.pg_certificate.specs.declared.certificate_fault.CertificateFault.{CertificateFault}
use Rattle.pg_certificate.specs.Claims.{key_count, SaysClass, SaysKey, SaysWord, SaysStart}
use Rattle.pg_certificate.specs.Readings.{Gives}
use Rattle.pg_certificate.proofs.Found.{refused_in}
use Rattle.pg_certificate.proofs.Parts.{same_data}

-- ---- an object with one key has no other

lone_found : (o : Ordering) (e x : Data) → match_ordering o None (Some e) None ≡ Some x → o ≡ Equal
lone_found Less e x h = cc
lone_found Equal e x h = refl
lone_found Greater e x h = cc

the_key : (k l : List ℕ) (e x : Data) → get_member k (member l e no_members) ≡ Some x → k ≡ l
the_key k l e x h = (bytes_eq-Decides k l).0 (sym (is_eq-slice_cmp k l) ∙ ap is_eq (lone_found (slice_cmp nat_cmp k l) e x h))

one_member : (ms : Members) (k l : List ℕ) (x y : Data) → members_len ms ≡ 1 → get_member k ms ≡ Some x → get_member l ms ≡ Some y → k ≡ l
one_member no_members k l x y one at_k at_l = cc
one_member (member m e no_members) k l x y one at_k at_l = the_key k m e x at_k ∙ sym (the_key l m e y at_l)
one_member (member m e (member n f ms)) k l x y one at_k at_l = cc

one_key : (d : Data) (k l : List ℕ) (x y : Data) → key_count d ≡ 1 → get k d ≡ Some x → get l d ≡ Some y → k ≡ l
one_key (object ms) k l x y one at_k at_l = one_member ms k l x y one at_k at_l
one_key null k l x y one at_k at_l = cc
one_key (boolean b) k l x y one at_k at_l = cc
one_key (number n) k l x y one at_k at_l = cc
one_key (string s) k l x y one at_k at_l = cc
one_key (array ds) k l x y one at_k at_l = cc

class_or_word : (d x y : Data) → key_count d ≡ 1 → get (codes "class") d ≡ Some x → get (codes "word") d ≡ Some y → ⊥
class_or_word d x y one class word = true≢false (sym ((bytes_eq-Decides (codes "class") (codes "word")).1 (one_key d (codes "class") (codes "word") x y one class word)))

one_or_two : (d : Data) → key_count d ≡ 1 → key_count d ≡ 2 → ⊥
one_or_two d one two = cc

no_text : (d : Data) (s : List ℕ) → as_str d ≡ None → d ≡ string s → ⊥
no_text d s none is = let some : as_str d ≡ Some s = ap as_str is in cc

-- ---- classes

-- under "class" a class alone is said
a_class : (g : Grammar) (d inner : Data) → as_str d ≡ None → key_count d ≡ 1 → get (codes "class") d ≡ Some inner
    → (other : ClaimedStart) → SaysStart g d other → (ranges : List Range) × ((other ≡ Class ranges) × SaysClass inner ranges)
a_class g d inner text one there (Class ranges) said =
    (ranges, (refl, subst (λ x. SaysClass x ranges) (same_data _ _ (sym said.1.1 ∙ there)) said.1.2))
a_class g d inner text one there (Key key excluded) said = elim (one_or_two d one said.0) [ ]
a_class g d inner text one there (Word w) said = elim (class_or_word d inner said.1.0 one there said.1.1) [ ]
a_class g d inner text one there Operator said = elim (no_text d _ text said.0) [ ]
a_class g d inner text one there End said = elim (no_text d _ text said) [ ]

pub class_start : (g : Grammar) (d inner : Data) (ranges : List Range) → as_str d ≡ None → key_count d ≡ 1 → get (codes "class") d ≡ Some inner
    → Gives SaysClass inner (Ok ranges) → Gives (SaysStart g) d (Ok (Class ranges))
class_start g d inner ranges text one there h =
    ((one, (inner, there, h.0)), λ other said. let p = a_class g d inner text one there other said in p.1.0 ∙ ap Class (h.1 p.0 p.1.1))

pub class_refused : (g : Grammar) (d inner : Data) (e : CertificateFault) → as_str d ≡ None → key_count d ≡ 1 → get (codes "class") d ≡ Some inner
    → Gives SaysClass inner (Err e) → Gives (SaysStart g) d (Err e)
class_refused g d inner e text one there h =
    refused_in SaysClass inner (SaysStart g) d e (λ whole said. let p = a_class g d inner text one there whole said in (p.0, p.1.1)) h

-- ---- words

-- under "word" a word alone is said
a_word : (g : Grammar) (d inner : Data) → as_str d ≡ None → key_count d ≡ 1 → get (codes "word") d ≡ Some inner
    → (other : ClaimedStart) → SaysStart g d other → (w : ℕ) × ((other ≡ Word w) × SaysWord g inner w)
a_word g d inner text one there (Class ranges) said = elim (class_or_word d said.1.0 inner one said.1.1 there) [ ]
a_word g d inner text one there (Key key excluded) said = elim (one_or_two d one said.0) [ ]
a_word g d inner text one there (Word w) said =
    (w, (refl, subst (λ x. SaysWord g x w) (same_data _ _ (sym said.1.1 ∙ there)) said.1.2))
a_word g d inner text one there Operator said = elim (no_text d _ text said.0) [ ]
a_word g d inner text one there End said = elim (no_text d _ text said) [ ]

pub word_start : (g : Grammar) (d inner : Data) (w : ℕ) → as_str d ≡ None → key_count d ≡ 1 → get (codes "word") d ≡ Some inner
    → Gives (SaysWord g) inner (Ok w) → Gives (SaysStart g) d (Ok (Word w))
word_start g d inner w text one there h =
    ((one, (inner, there, h.0)), λ other said. let p = a_word g d inner text one there other said in p.1.0 ∙ ap Word (h.1 p.0 p.1.1))

pub word_refused : (g : Grammar) (d inner : Data) (e : CertificateFault) → as_str d ≡ None → key_count d ≡ 1 → get (codes "word") d ≡ Some inner
    → Gives (SaysWord g) inner (Err e) → Gives (SaysStart g) d (Err e)
word_refused g d inner e text one there h =
    refused_in (SaysWord g) inner (SaysStart g) d e (λ whole said. let p = a_word g d inner text one there whole said in (p.0, p.1.1)) h

pub no_lone : (g : Grammar) (d : Data) → as_str d ≡ None → key_count d ≡ 1 → get (codes "class") d ≡ None → get (codes "word") d ≡ None
    → (other : ClaimedStart) → SaysStart g d other → ⊥
no_lone g d text one no_class no_word (Class ranges) said = let some : get (codes "class") d ≡ Some said.1.0 = said.1.1 in cc
no_lone g d text one no_class no_word (Key key excluded) said = one_or_two d one said.0
no_lone g d text one no_class no_word (Word w) said = let some : get (codes "word") d ≡ Some said.1.0 = said.1.1 in cc
no_lone g d text one no_class no_word Operator said = no_text d _ text said.0
no_lone g d text one no_class no_word End said = no_text d _ text said

-- ---- keys

-- an object of two keys is a key with what may not follow it
a_key : (g : Grammar) (d key excluded : Data) → as_str d ≡ None → key_count d ≡ 2 → get (codes "key") d ≡ Some key → get (codes "not") d ≡ Some excluded
    → (other : ClaimedStart) → SaysStart g d other → (text : List ℕ) × (class : List Range) × (other ≡ Key text class) × (SaysKey key text × SaysClass excluded class)
a_key g d key excluded text two at_key at_not (Class ranges) said = elim (one_or_two d said.0 two) [ ]
a_key g d key excluded text two at_key at_not (Key t class) said =
    (t, class, refl, (subst (λ x. SaysKey x t) (same_data _ _ (sym said.1.1 ∙ at_key)) said.1.2, subst (λ x. SaysClass x class) (same_data _ _ (sym said.2.1 ∙ at_not)) said.2.2))
a_key g d key excluded text two at_key at_not (Word w) said = elim (one_or_two d said.0 two) [ ]
a_key g d key excluded text two at_key at_not Operator said = elim (no_text d _ text said.0) [ ]
a_key g d key excluded text two at_key at_not End said = elim (no_text d _ text said) [ ]

same_key : (t u : List ℕ) (class other : List Range) → t ≡ u → class ≡ other → Key t class ≡ Key u other
same_key t u class other e f = ap (λ x. Key x class) e ∙ ap (λ x. Key u x) f

pub key_start : (g : Grammar) (d key excluded : Data) (text : List ℕ) (class : List Range) → as_str d ≡ None → key_count d ≡ 2
    → get (codes "key") d ≡ Some key → get (codes "not") d ≡ Some excluded → Gives SaysKey key (Ok text) → Gives SaysClass excluded (Ok class)
    → Gives (SaysStart g) d (Ok (Key text class))
key_start g d key excluded text class none two at_key at_not h i = (
  (two, (key, at_key, h.0), (excluded, at_not, i.0)),
  λ other said. let p = a_key g d key excluded none two at_key at_not other said in p.2 ∙ same_key _ _ _ _ (h.1 p.0 p.3.0) (i.1 p.1 p.3.1),
)

pub key_refused : (g : Grammar) (d key excluded : Data) (e : CertificateFault) → as_str d ≡ None → key_count d ≡ 2
    → get (codes "key") d ≡ Some key → get (codes "not") d ≡ Some excluded → Gives SaysKey key (Err e) → Gives (SaysStart g) d (Err e)
key_refused g d key excluded e none two at_key at_not h =
    refused_in SaysKey key (SaysStart g) d e (λ whole said. let p = a_key g d key excluded none two at_key at_not whole said in (p.0, p.3.0)) h

pub excluded_refused : (g : Grammar) (d key excluded : Data) (e : CertificateFault) → as_str d ≡ None → key_count d ≡ 2
    → get (codes "key") d ≡ Some key → get (codes "not") d ≡ Some excluded → Gives SaysClass excluded (Err e) → Gives (SaysStart g) d (Err e)
excluded_refused g d key excluded e none two at_key at_not h =
    refused_in SaysClass excluded (SaysStart g) d e (λ whole said. let p = a_key g d key excluded none two at_key at_not whole said in (p.1, p.3.1)) h

-- without one of the two keys it is none
pub no_key : (g : Grammar) (d : Data) → as_str d ≡ None → key_count d ≡ 2 → get (codes "key") d ≡ None → (other : ClaimedStart) → SaysStart g d other → ⊥
no_key g d text two gone (Class ranges) said = one_or_two d said.0 two
no_key g d text two gone (Key t class) said = let some : get (codes "key") d ≡ Some said.1.0 = said.1.1 in cc
no_key g d text two gone (Word w) said = one_or_two d said.0 two
no_key g d text two gone Operator said = no_text d _ text said.0
no_key g d text two gone End said = no_text d _ text said

pub no_excluded : (g : Grammar) (d : Data) → as_str d ≡ None → key_count d ≡ 2 → get (codes "not") d ≡ None → (other : ClaimedStart) → SaysStart g d other → ⊥
no_excluded g d text two gone (Class ranges) said = one_or_two d said.0 two
no_excluded g d text two gone (Key t class) said = let some : get (codes "not") d ≡ Some said.2.0 = said.2.1 in cc
no_excluded g d text two gone (Word w) said = one_or_two d said.0 two
no_excluded g d text two gone Operator said = no_text d _ text said.0
no_excluded g d text two gone End said = no_text d _ text said

-- what is neither a text nor an object of one or two keys is no start
pub no_start : (g : Grammar) (d : Data) → as_str d ≡ None → (key_count d ≡ 1 → ⊥) → (key_count d ≡ 2 → ⊥) → (other : ClaimedStart) → SaysStart g d other → ⊥
no_start g d text not_one not_two (Class ranges) said = not_one said.0
no_start g d text not_one not_two (Key t class) said = not_two said.0
no_start g d text not_one not_two (Word w) said = not_one said.0
no_start g d text not_one not_two Operator said = no_text d _ text said.0
no_start g d text not_one not_two End said = no_text d _ text said
