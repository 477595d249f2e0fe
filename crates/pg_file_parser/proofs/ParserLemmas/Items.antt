-- An item that is read is written so.
use Rattle.std.proofs.Common.{◌≡◌, ℕ, ◌≤◌, true, ◌&&◌, cond, leb, leb-true, List, [], ◌∷◌, Option, Some, None, refl, sym, ap, subst, ◌∙◌, inl, inr, arith}
use Rattle.std.proofs.lemmas.Bool.{and_parts}
use Rattle.std.proofs.Math.Nat.{max-le}
use Rattle.std.specs.Prelude.{codes}
use Rattle.std.specs.List.{AllByRecursion}
use Rattle.std.specs.Str.{bytes_eq}
use Rattle.pg_file_tokens.specs.declared.token.Mark.TheVariants.{Equals, Semicolon}
use Rattle.pg_file_tokens.specs.Lexical.{passes}
use Rattle.pg_file_tokens.specs.Tokens.{Token, name, number, literal, mark, wrong, bad}
use Rattle.pg_file_items.specs.Tree.{Item, Class_item, Word_item, Operators, Table, Start, Rule_item}
use Rattle.pg_file_items.specs.Syntax.{role_word, class_written, written, literals_written, reserved_written, most_written, item_written}
use Rattle.pg_file_items.specs.Proper.{is_decimal, IsFreeName, IsFilled, value_of, IsNumber, IsMost, IsProperItem}
use Rattle.pg_file_items.specs.Heads.{class_parts, most_of, entry_of_item}
use Rattle.pg_file_items.specs.Entries as entry
use Rattle.pg_file_items.specs.Entries.{Entry}
use Rattle.pg_file_items.specs.Depth.{IsShallow}
use Rattle.pg_file_items.specs.Words.{role_named}
use Rattle.pg_file_parser.specs.Reading.{◌>>=◌, ClassParts, mark_at, word_at, name_at, literal_at, number_at, free_name, filled_text, value_within, value_between, with_first, class_at, value_at}
use Rattle.pg_file_parser.specs.ItemReading.{free_name_at, filled_at, literals_at, reserved_with, reserved_at, most_with, most_at, class_item_at, class_after, word_item_at, operators_at, table_at, start_at, rule_at, item_named_at, item_at}
use Rattle.pg_file_parser.proofs.ParserLemmas.Steps.{bind_some, some_is, chosen, guard_some, mark_is, name_is, literal_is, number_is, word_at_is, filled_text_is, free_name_is, word_is}
use Rattle.pg_file_parser.proofs.ParserLemmas.Classes.{class_sound}
use Rattle.pg_file_parser.proofs.ParserLemmas.Words.{role_named_is}
use Rattle.pg_file_parser.proofs.ParserLemmas.Values.{value_sound}

-- ---- names, literals and numbers that are read

free_name_at_is : (ts : List Token) (x : List ℕ × List Token) → free_name_at ts ≡ Some x → (ts ≡ name x.0 ∷ x.1) × IsFreeName x.0
free_name_at_is ts x e =
    let a = bind_some (name_at ts) (λ s. free_name s.0 >>= λ n. Some (n, s.1)) x e in
    let b = bind_some (free_name a.0.0) (λ n. Some (n, a.0.1)) x a.2 in
    let t = free_name_is a.0.0 b.0 b.1 in
    subst (λ (y : List ℕ × List Token). (ts ≡ name y.0 ∷ y.1) × IsFreeName y.0) (some_is (b.0, a.0.1) x b.2)
    (name_is ts a.0 a.1 ∙ ap (λ (u : List ℕ). name u ∷ a.0.1) t.0, subst IsFreeName t.0 t.1)

pub filled_at_is : (ts : List Token) (x : List ℕ × List Token) → filled_at ts ≡ Some x → (ts ≡ literal x.0 ∷ x.1) × IsFilled x.0
filled_at_is ts x e =
    let a = bind_some (literal_at ts) (λ s. filled_text s.0 >>= λ text. Some (text, s.1)) x e in
    let b = bind_some (filled_text a.0.0) (λ text. Some (text, a.0.1)) x a.2 in
    let t = filled_text_is a.0.0 b.0 b.1 in
    subst (λ (y : List ℕ × List Token). (ts ≡ literal y.0 ∷ y.1) × IsFilled y.0) (some_is (b.0, a.0.1) x b.2)
    (literal_is ts a.0 a.1 ∙ ap (λ (u : List ℕ). literal u ∷ a.0.1) t.0, subst IsFilled t.0 t.1)

within_is : (high : ℕ) (s : List ℕ) (n : ℕ) → value_within high s ≡ Some n → (value_of s ≡ n) × (passes is_decimal s ≡ true) × (value_of s ≤ high)
unfolding value_within
within_is high s n e =
    let g = guard_some (passes is_decimal s && leb (value_of s) high) (Some (value_of s)) n e in
    let h = and_parts (passes is_decimal s) (leb (value_of s) high) g.0 in
    (some_is (value_of s) n g.1, h.0, leb-true (value_of s) high h.1)

between_is : (low high : ℕ) (s : List ℕ) (n : ℕ) → value_between low high s ≡ Some n → (value_of s ≡ n) × IsNumber low high s
between_is low high s n e =
    let a = bind_some (value_within high s) (λ m. cond (leb low m) (Some m) None) n e in
    let g = guard_some (leb low a.0) (Some a.0) n a.2 in
    let w = within_is high s a.0 a.1 in
    let least : low ≤ a.0 = leb-true low a.0 g.0 in
    (w.0 ∙ some_is a.0 n g.1, record { all_digits = w.1; above = subst (λ (m : ℕ). low ≤ m) (sym w.0) least; below = w.2 })

-- ---- reserved texts

abbrev AreTexts : List Token → List (List ℕ) × List Token → Type 0
AreTexts ts x = (ts ≡ literals_written x.0 x.1) × AllByRecursion IsFilled x.0

literals_sound : (ts : List Token) (x : List (List ℕ) × List Token) → literals_at ts ≡ Some x → AreTexts ts x
unfolding literals_at
literals_sound [] x e = subst (AreTexts []) (some_is ([], []) x e) (refl, tt)
literals_sound (name s ∷ ts) x e = subst (AreTexts (name s ∷ ts)) (some_is ([], name s ∷ ts) x e) (refl, tt)
literals_sound (number s ∷ ts) x e = subst (AreTexts (number s ∷ ts)) (some_is ([], number s ∷ ts) x e) (refl, tt)
literals_sound (mark m ∷ ts) x e = subst (AreTexts (mark m ∷ ts)) (some_is ([], mark m ∷ ts) x e) (refl, tt)
literals_sound (wrong ∷ ts) x e = absurd cc
literals_sound (bad ∷ ts) x e = subst (AreTexts (bad ∷ ts)) (some_is ([], bad ∷ ts) x e) (refl, tt)
literals_sound (literal s ∷ ts) x e =
    let a = bind_some (filled_text s) (λ text. with_first text (literals_at ts)) x e in
    let b = bind_some (literals_at ts) (λ xs. Some (a.0 ∷ xs.0, xs.1)) x a.2 in
    let t = filled_text_is s a.0 a.1 in
    let ih = literals_sound ts b.0 b.1 in
    subst (AreTexts (literal s ∷ ts)) (some_is (a.0 ∷ b.0.0, b.0.1) x b.2)
    (ap (λ (u : List ℕ). literal u ∷ ts) t.0 ∙ ap (λ (u : List Token). literal a.0 ∷ u) ih.0, (subst IsFilled t.0 t.1, ih.1))

abbrev AreReserved : List Token → List (List ℕ) × List Token → Type 0
AreReserved ts x = (ts ≡ reserved_written x.0 x.1) × AllByRecursion IsFilled x.0

reserved_with_sound : (ts : List Token) (o : Option (List Token)) (x : List (List ℕ) × List Token) → word_at (codes "reserved") ts ≡ o → reserved_with ts o ≡ Some x → AreReserved ts x
reserved_with_sound ts None x w e = subst (AreReserved ts) (some_is ([], ts) x e) (refl, tt)
reserved_with_sound ts (Some after) x w e =
    let a = bind_some (filled_at after) (λ first. with_first first.0 (literals_at first.1)) x e in
    let b = bind_some (literals_at a.0.1) (λ xs. Some (a.0.0 ∷ xs.0, xs.1)) x a.2 in
    let first = filled_at_is after a.0 a.1 in
    let more = literals_sound a.0.1 b.0 b.1 in
    subst (AreReserved ts) (some_is (a.0.0 ∷ b.0.0, b.0.1) x b.2)
    (word_at_is (codes "reserved") ts after w ∙ ap (λ (u : List Token). name (codes "reserved") ∷ u) (first.0 ∙ ap (λ (u : List Token). literal a.0.0 ∷ u) more.0), (first.1, more.1))

reserved_sound : (ts : List Token) (x : List (List ℕ) × List Token) → reserved_at ts ≡ Some x → AreReserved ts x
reserved_sound ts x e = reserved_with_sound ts (word_at (codes "reserved") ts) x refl e

-- ---- the most operators

record IsMostAt (ts : List Token) (x : Option ℕ × List Token) : Type 0 where
  digits : Option (List ℕ)
  text : ts ≡ most_written digits x.1
  means : x.0 ≡ most_of digits
  proper : IsMost digits

most_with_sound : (ts : List Token) (o : Option (List Token)) (x : Option ℕ × List Token) → word_at (codes "max") ts ≡ o → most_with ts o ≡ Some x → IsMostAt ts x
most_with_sound ts None x w e = subst (IsMostAt ts) (some_is (None, ts) x e) (record { digits = None; text = refl; means = refl; proper = tt })
most_with_sound ts (Some after) x w e =
    let a = bind_some (number_at after) (λ s. value_between 1 64 s.0 >>= λ most. Some (Some most, s.1)) x e in
    let b = bind_some (value_between 1 64 a.0.0) (λ most. Some (Some most, a.0.1)) x a.2 in
    let t = between_is 1 64 a.0.0 b.0 b.1 in
    subst (IsMostAt ts) (some_is (Some b.0, a.0.1) x b.2) (record {
      digits = Some a.0.0;
      text = word_at_is (codes "max") ts after w ∙ ap (λ (u : List Token). name (codes "max") ∷ u) (number_is after a.0 a.1);
      means = ap (λ (m : ℕ). Some m) (sym t.0);
      proper = t.1;
    })

most_sound : (ts : List Token) (x : Option ℕ × List Token) → most_at ts ≡ Some x → IsMostAt ts x
most_sound ts x e = most_with_sound ts (word_at (codes "max") ts) x refl e

-- ---- items that are read

-- an item and its semicolon
pub record IsItem (ts : List Token) (e : Entry) (rest : List Token) : Type 0 where
  pub item : Item
  pub text : ts ≡ item_written item rest
  pub means : e ≡ entry_of_item item
  pub proper : IsProperItem item
  pub shallow : IsShallow item

-- an item, if its semicolon follows
abbrev IsEnded : List Token → Entry × List Token → Type 0
IsEnded ts x = (rest : List Token) → x.1 ≡ mark Semicolon ∷ rest → IsItem ts x.0 rest

class_item_sound : (ts : List Token) (x : Entry × List Token) → class_item_at ts ≡ Some x → IsEnded (name (codes "class") ∷ ts) x
class_item_sound ts x e =
    let a = bind_some (free_name_at ts) (λ n. mark_at Equals n.1 >>= λ after. class_at 64 after >>= λ c. Some (entry.class n.0 c.0, c.1)) x e in
    let b = bind_some (mark_at Equals a.0.1) (λ after. class_at 64 after >>= λ c. Some (entry.class a.0.0 c.0, c.1)) x a.2 in
    let d = bind_some (class_at 64 b.0) (λ c. Some (entry.class a.0.0 c.0, c.1)) x b.2 in
    let n = free_name_at_is ts a.0 a.1 in
    let c = class_sound 64 b.0 d.0 d.1 in
    subst (IsEnded (name (codes "class") ∷ ts)) (some_is (entry.class a.0.0 d.0.0, d.0.1) x d.2) (λ rest ends. record {
      item = Class_item a.0.0 c.tree;
      text = ap (λ (u : List Token). name (codes "class") ∷ u) (n.0 ∙ ap (λ (u : List Token). name a.0.0 ∷ u) (mark_is Equals a.0.1 b.0 b.1 ∙ ap (λ (u : List Token). mark Equals ∷ u) (c.text ∙ ap (class_written c.tree) ends)));
      means = ap (entry.class a.0.0) c.means;
      proper = (n.1, c.proper.0);
      shallow = c.proper.1;
    })

-- a word that is read, and the class after it
record IsAfter (word : List ℕ) (ts : List Token) (x : ClassParts × List Token) : Type 0 where
  after : List Token
  text : ts ≡ name word ∷ after
  class : class_at 64 after ≡ Some x

class_is_after : (word : List ℕ) (ts : List Token) (x : ClassParts × List Token) → class_after 64 word ts ≡ Some x → IsAfter word ts x
class_is_after word ts x e =
    let a = bind_some (word_at word ts) (λ after. class_at 64 after) x e in
    record { after = a.0; text = word_at_is word ts a.0 a.1; class = a.2 }

word_item_sound : (ts : List Token) (x : Entry × List Token) → word_item_at ts ≡ Some x → IsEnded (name (codes "word") ∷ ts) x
word_item_sound ts x e =
    let a = bind_some (free_name_at ts) (λ n. class_after 64 (codes "head") n.1 >>= λ h. class_after 64 (codes "rest") h.1 >>= λ c. reserved_at c.1 >>= λ r. Some (entry.word n.0 h.0 c.0 r.0, r.1)) x e in
    let d = bind_some (class_after 64 (codes "head") a.0.1) (λ h. class_after 64 (codes "rest") h.1 >>= λ c. reserved_at c.1 >>= λ r. Some (entry.word a.0.0 h.0 c.0 r.0, r.1)) x a.2 in
    let g = bind_some (class_after 64 (codes "rest") d.0.1) (λ c. reserved_at c.1 >>= λ r. Some (entry.word a.0.0 d.0.0 c.0 r.0, r.1)) x d.2 in
    let k = bind_some (reserved_at g.0.1) (λ r. Some (entry.word a.0.0 d.0.0 g.0.0 r.0, r.1)) x g.2 in
    let b = class_is_after (codes "head") a.0.1 d.0 d.1 in
    let f = class_is_after (codes "rest") d.0.1 g.0 g.1 in
    let n = free_name_at_is ts a.0 a.1 in
    let h = class_sound 64 b.after d.0 b.class in
    let c = class_sound 64 f.after g.0 f.class in
    let r = reserved_sound g.0.1 k.0 k.1 in
    subst (IsEnded (name (codes "word") ∷ ts)) (some_is (entry.word a.0.0 d.0.0 g.0.0 k.0.0, k.0.1) x k.2) (λ rest ends. record {
      item = Word_item a.0.0 h.tree c.tree k.0.0;
      text = ap (λ (u : List Token). name (codes "word") ∷ u) (n.0 ∙ ap (λ (u : List Token). name a.0.0 ∷ u) (b.text ∙ ap (λ (u : List Token). name (codes "head") ∷ u) (h.text
          ∙ ap (class_written h.tree) (f.text ∙ ap (λ (u : List Token). name (codes "rest") ∷ u) (c.text ∙ ap (class_written c.tree) (r.0 ∙ ap (reserved_written k.0.0) ends))))));
      means = ap (λ (parts : _). entry.word a.0.0 parts g.0.0 k.0.0) h.means ∙ ap (λ (parts : _). entry.word a.0.0 (class_parts h.tree) parts k.0.0) c.means;
      proper = (n.1, h.proper.0, c.proper.0, r.1);
      shallow = max-le h.proper.1 c.proper.1;
    })

operators_sound : (ts : List Token) (x : Entry × List Token) → operators_at ts ≡ Some x → IsEnded (name (codes "operators") ∷ ts) x
operators_sound ts x e =
    let a = bind_some (class_at 64 ts) (λ c. class_after 64 (codes "gap") c.1 >>= λ g. reserved_at g.1 >>= λ r. most_at r.1 >>= λ m. Some (entry.operators c.0 g.0 r.0 m.0, m.1)) x e in
    let d = bind_some (class_after 64 (codes "gap") a.0.1) (λ g. reserved_at g.1 >>= λ r. most_at r.1 >>= λ m. Some (entry.operators a.0.0 g.0 r.0 m.0, m.1)) x a.2 in
    let f = bind_some (reserved_at d.0.1) (λ r. most_at r.1 >>= λ m. Some (entry.operators a.0.0 d.0.0 r.0 m.0, m.1)) x d.2 in
    let g = bind_some (most_at f.0.1) (λ m. Some (entry.operators a.0.0 d.0.0 f.0.0 m.0, m.1)) x f.2 in
    let b = class_is_after (codes "gap") a.0.1 d.0 d.1 in
    let c = class_sound 64 ts a.0 a.1 in
    let h = class_sound 64 b.after d.0 b.class in
    let r = reserved_sound d.0.1 f.0 f.1 in
    let m = most_sound f.0.1 g.0 g.1 in
    subst (IsEnded (name (codes "operators") ∷ ts)) (some_is (entry.operators a.0.0 d.0.0 f.0.0 g.0.0, g.0.1) x g.2) (λ rest ends. record {
      item = Operators c.tree h.tree f.0.0 m.digits;
      text = ap (λ (u : List Token). name (codes "operators") ∷ u) (c.text ∙ ap (class_written c.tree) (b.text ∙ ap (λ (u : List Token). name (codes "gap") ∷ u) (h.text
          ∙ ap (class_written h.tree) (r.0 ∙ ap (reserved_written f.0.0) (m.text ∙ ap (most_written m.digits) ends)))));
      means = ap (λ (parts : _). entry.operators parts d.0.0 f.0.0 g.0.0) c.means ∙ ap (λ (parts : _). entry.operators (class_parts c.tree) parts f.0.0 g.0.0) h.means ∙ ap (λ (n : Option ℕ). entry.operators (class_parts c.tree) (class_parts h.tree) f.0.0 n) m.means;
      proper = (c.proper.0, h.proper.0, r.1, m.proper);
      shallow = max-le c.proper.1 h.proper.1;
    })

table_sound : (ts : List Token) (x : Entry × List Token) → table_at ts ≡ Some x → IsEnded (name (codes "table") ∷ ts) x
table_sound ts x e =
    let a = bind_some (name_at ts) (λ s. role_named s.0 >>= λ role. number_at s.1 >>= λ digits. value_within 9 digits.0 >>= λ p. filled_at digits.1 >>= λ symbol. Some (entry.table role p symbol.0, symbol.1)) x e in
    let b = bind_some (role_named a.0.0) (λ role. number_at a.0.1 >>= λ digits. value_within 9 digits.0 >>= λ p. filled_at digits.1 >>= λ symbol. Some (entry.table role p symbol.0, symbol.1)) x a.2 in
    let d = bind_some (number_at a.0.1) (λ digits. value_within 9 digits.0 >>= λ p. filled_at digits.1 >>= λ symbol. Some (entry.table b.0 p symbol.0, symbol.1)) x b.2 in
    let f = bind_some (value_within 9 d.0.0) (λ p. filled_at d.0.1 >>= λ symbol. Some (entry.table b.0 p symbol.0, symbol.1)) x d.2 in
    let g = bind_some (filled_at d.0.1) (λ symbol. Some (entry.table b.0 f.0 symbol.0, symbol.1)) x f.2 in
    let w = within_is 9 d.0.0 f.0 f.1 in
    let s = filled_at_is d.0.1 g.0 g.1 in
    let least : 0 ≤ value_of d.0.0 = omega arith in
    let deep : 0 ≤ 64 = omega arith in
    subst (IsEnded (name (codes "table") ∷ ts)) (some_is (entry.table b.0 f.0 g.0.0, g.0.1) x g.2) (λ rest ends. record {
      item = Table b.0 d.0.0 g.0.0;
      text = ap (λ (u : List Token). name (codes "table") ∷ u) (name_is ts a.0 a.1 ∙ ap (λ (u : List ℕ). name u ∷ a.0.1) (role_named_is a.0.0 b.0 b.1)
          ∙ ap (λ (u : List Token). name (role_word b.0) ∷ u) (number_is a.0.1 d.0 d.1 ∙ ap (λ (u : List Token). number d.0.0 ∷ u) (s.0 ∙ ap (λ (u : List Token). literal g.0.0 ∷ u) ends)));
      means = ap (λ (n : ℕ). entry.table b.0 n g.0.0) (sym w.0);
      proper = (record { all_digits = w.1; above = least; below = w.2 }, s.1);
      shallow = deep;
    })

start_sound : (ts : List Token) (x : Entry × List Token) → start_at ts ≡ Some x → IsEnded (name (codes "start") ∷ ts) x
start_sound ts x e =
    let a = bind_some (free_name_at ts) (λ n. Some (entry.start n.0, n.1)) x e in
    let n = free_name_at_is ts a.0 a.1 in
    let deep : 0 ≤ 64 = omega arith in
    subst (IsEnded (name (codes "start") ∷ ts)) (some_is (entry.start a.0.0, a.0.1) x a.2) (λ rest ends. record {
      item = Start a.0.0;
      text = ap (λ (u : List Token). name (codes "start") ∷ u) (n.0 ∙ ap (λ (u : List Token). name a.0.0 ∷ u) ends);
      means = refl;
      proper = n.1;
      shallow = deep;
    })

rule_sound : (s : List ℕ) (ts : List Token) (x : Entry × List Token) → rule_at s ts ≡ Some x → IsEnded (name s ∷ ts) x
rule_sound s ts x e =
    let a = bind_some (free_name s) (λ n. mark_at Equals ts >>= λ after. value_at 64 after >>= λ v. Some (entry.rule n v.0, v.1)) x e in
    let b = bind_some (mark_at Equals ts) (λ after. value_at 64 after >>= λ v. Some (entry.rule a.0 v.0, v.1)) x a.2 in
    let d = bind_some (value_at 64 b.0) (λ v. Some (entry.rule a.0 v.0, v.1)) x b.2 in
    let n = free_name_is s a.0 a.1 in
    let v = value_sound 64 b.0 d.0 d.1 in
    subst (IsEnded (name s ∷ ts)) (some_is (entry.rule a.0 d.0.0, d.0.1) x d.2) (λ rest ends. record {
      item = Rule_item s v.tree;
      text = ap (λ (u : List Token). name s ∷ u) (mark_is Equals ts b.0 b.1 ∙ ap (λ (u : List Token). mark Equals ∷ u) (v.text ∙ ap (written v.tree) ends));
      means = ap (λ (u : List ℕ). entry.rule u d.0.0) (sym n.0) ∙ ap (entry.rule s) v.means;
      proper = (n.1, v.proper.0);
      shallow = v.proper.1;
    })

-- the word that an item begins with, or another one
word_or : (word s : List ℕ) (ts : List Token) (here there : Option (Entry × List Token)) (x : Entry × List Token) → cond (bytes_eq word s) here there ≡ Some x
    → (here ≡ Some x → IsEnded (name word ∷ ts) x) → (there ≡ Some x → IsEnded (name s ∷ ts) x) → IsEnded (name s ∷ ts) x
word_or word s ts here there x e found others =
    elim (chosen (bytes_eq word s) here there (Some x) e) [
      | inl h ↦ subst (λ (u : List ℕ). IsEnded (name u ∷ ts) x) (sym (word_is word s h.0)) (found h.1)
      | inr h ↦ others h.1
    ]

item_named_sound : (s : List ℕ) (ts : List Token) (x : Entry × List Token) → item_named_at s ts ≡ Some x → IsEnded (name s ∷ ts) x
unfolding item_named_at
item_named_sound s ts x e =
    word_or (codes "class") s ts _ _ x e (class_item_sound ts x) (λ e.
    word_or (codes "word") s ts _ _ x e (word_item_sound ts x) (λ e.
    word_or (codes "operators") s ts _ _ x e (operators_sound ts x) (λ e.
    word_or (codes "table") s ts _ _ x e (table_sound ts x) (λ e.
    word_or (codes "start") s ts _ _ x e (start_sound ts x) (λ e. rule_sound s ts x e)))))

-- an item that is read is written so
pub item_sound : (ts rest : List Token) (x : Entry × List Token) → item_at ts ≡ Some x → x.1 ≡ mark Semicolon ∷ rest → IsItem ts x.0 rest
item_sound ts rest x e ends =
    let a = bind_some (name_at ts) (λ s. item_named_at s.0 s.1) x e in
    subst (λ (us : List Token). IsItem us x.0 rest) (sym (name_is ts a.0 a.1)) (item_named_sound a.0.0 a.0.1 x a.2 rest ends)
