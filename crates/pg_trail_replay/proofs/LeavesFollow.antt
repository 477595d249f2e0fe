-- Leaves: what is read is a derivation, and what isn't refuses.
use Rattle.std.proofs.Common.{◌≡◌, ◌==◌, ◌+◌, ℕ, suc, Bool, true, false, List, [], ◌∷◌, ◌++◌, refl, sym, ap, ◌∙◌, subst, eqb-true, eq-eqb, arith, if◌then◌else◌, take, drop, length, append-nil}
use Rattle.std.specs.Prelude.{Option, Some, None, slice_get, not}
use Rattle.std.specs.List.{list_any}
use Rattle.std.specs.Str.{bytes_eq}
use Rattle.std.proofs.lemmas.Slice.Eq.{bytes_eq-Decides}
use Rattle.pg_tree.specs.Trees.{Tree}
use Rattle.pg_grammar_form.specs.Operators.{Operator}
use Rattle.pg_grammar_form.specs.ClassItems.{has_character}
use Rattle.pg_grammar_form.specs.declared.class.ClassPart.{ClassPart}
use Rattle.pg_grammar_form.specs.declared.form.Form.TheVariants as form
use Rattle.pg_grammar_form.specs.declared.form.Leaf.{Leaf}
use Rattle.pg_grammar_form.specs.declared.form.Leaf.TheVariants as read
use Rattle.pg_grammar_form.specs.declared.operators_item.OperatorsItem.{OperatorsItem}
use Rattle.pg_grammar_form.specs.declared.word_item.WordItem.{WordItem}
use Rattle.pg_grammar_value.specs.Grammar.{Grammar}
use Rattle.pg_table.specs.Tables.{admit_fault, with_operator}
use Rattle.pg_table.specs.declared.admit_fault.AdmitFault.{AdmitFault}
use Rattle.pg_language.specs.Runs.{run_at, stands_at, HasAt, IsDeclarationAt}
use Rattle.pg_language.specs.Declarations.{Declaration, no_keyword, no_digit, no_symbol, declared, declaration_at}
use Rattle.pg_language.specs.Derives as derives
use Rattle.pg_language.specs.Derives.{Spot, after, leaf_of, declaration_tree, Reads}
use Rattle.pg_language.proofs.DeclarationsDerived.{declaration_stands}
use Rattle.pg_language.proofs.DeclarationsDerived.{Stands as IsStanding}
use Rattle.pg_language.proofs.KeywordsRead.{declaration_read}
use Rattle.pg_trail_replay.specs.declared.replay_fault.Mismatch.TheVariants.{TextDiffers}
use Rattle.pg_trail_replay.specs.Refusals as refusal
use Rattle.pg_trail_replay.specs.Refusals.{Stands, HasDeclarationAt, text_differs, not_admitted, still_entered}
use Rattle.pg_trail_replay.specs.Tasks.{State, node, on, stops, next_in, satisfied, spelled, unreserved, word_from, word_by, takes, stays_if, declares, declared_turn, declare_turn, leaf_turn}
use Rattle.pg_trail_replay.proofs.Characters.{begins, whole_word}
use Rattle.pg_trail_replay.proofs.Alike.{alike_same}
use Rattle.pg_trail_replay.proofs.Leads.{End, Leads, does, refuses, does_node, refuses_node, spot_of, TaskLeads, Follows, still_here}

module _ (g : Grammar) (text : List ℕ) (p : ℕ) (l : Leaf ℕ) (s : State) (is : slice_get g.nodes p ≡ Some (form.Leaf l)) where
  -- a leaf that was read
  read_follows : (b : Spot) (w : List Tree) (e : End) → Reads g text l (spot_of s) b w → Leads g text s.setting s.tasks (still_entered (spot_of s) b [] s.entered) b (s.forest ++ w) s.rest e →
      TaskLeads g text (node p) s e
  read_follows b w e h k = does (does_node (derives.at_node is (derives.leaf h)) (alike_same s.setting.loose w w refl)) k

  -- this many characters are consumed
  pub taken_follows : (n : ℕ) (w : List ℕ) → Reads g text l (spot_of s) (after (spot_of s) n) (leaf_of w ∷ []) → take n (drop s.place text) ≡ w →
      Follows g text (node p) s (takes text (Some n) s)
  taken_follows n w h same e k =
      read_follows (after (spot_of s) n) (leaf_of w ∷ []) e h
      (subst (λ x. Leads g text s.setting s.tasks (still_entered (spot_of s) (after (spot_of s) n) [] s.entered) (after (spot_of s) n) (s.forest ++ leaf_of x ∷ []) s.rest e) same k)

  -- nothing
  pub stayed_follows : Reads g text l (spot_of s) (spot_of s) [] → Follows g text (node p) s (on s)
  stayed_follows h e k =
      read_follows (spot_of s) [] e h
      (subst (λ x. Leads g text s.setting s.tasks x (spot_of s) (s.forest ++ []) s.rest e) (sym (still_here (spot_of s) s.entered))
      (subst (λ v. Leads g text s.setting s.tasks s.entered (spot_of s) v s.rest e) (sym (append-nil s.forest)) k))

  -- the text differs
  pub differs_follows : (Stands g text l s.place → ⊥) → Follows g text (node p) s (stops TextDiffers s.place s.rest)
  differs_follows h = refuses (refuses_node (refusal.at_node is (refusal.leaf (text_differs h))))

  pub stays_follows : (b : Bool) → (b ≡ true → Reads g text l (spot_of s) (spot_of s) []) → (b ≡ false → Stands g text l s.place → ⊥) → Follows g text (node p) s (stays_if b s)
  stays_follows true h k = stayed_follows (h refl)
  stays_follows false h k = differs_follows (k refl)

module _ (g : Grammar) (text : List ℕ) (p : ℕ) (s : State) where
  -- ---- one character

  satisfy_by : (class : List ClassPart) (next : Option ℕ) → slice_get g.nodes p ≡ Some (form.Leaf (read.Satisfy class)) → slice_get text s.place ≡ next → (b : Bool) → next_in g class next ≡ b →
      Follows g text (node p) s (takes text (if b then Some 1 else None) s)
  satisfy_by class None is e true h = absurd cc
  satisfy_by class None is e false h = differs_follows g text p (read.Satisfy class) s is (λ has. let there = has.there in cc)
  satisfy_by class (Some c) is e true h =
      taken_follows g text p (read.Satisfy class) s is 1 (c ∷ []) (derives.satisfy (record { character = c; there = e; member = h })) (ap (take 1) (begins text s.place c e))
  satisfy_by class (Some c) is e false h = differs_follows g text p (read.Satisfy class) s is (λ has. let there = has.there in let member = has.member in cc)

  pub satisfy_follows : (class : List ClassPart) → slice_get g.nodes p ≡ Some (form.Leaf (read.Satisfy class)) → Follows g text (node p) s (takes text (satisfied g text class s.place) s)
  satisfy_follows class is = satisfy_by class (slice_get text s.place) is refl (next_in g class (slice_get text s.place)) refl

  -- ---- strings

  string_by : (cs : List ℕ) → slice_get g.nodes p ≡ Some (form.Leaf (read.String cs)) → (b : Bool) → stands_at text s.place cs ≡ b →
      Follows g text (node p) s (takes text (if b then Some (length cs) else None) s)
  string_by cs is true h =
      let there : take (length cs) (drop s.place text) ≡ cs = sym ((bytes_eq-Decides _ _).0 h) in
      taken_follows g text p (read.String cs) s is (length cs) cs (derives.string there) there
  string_by cs is false h = differs_follows g text p (read.String cs) s is (λ there. let test = (bytes_eq-Decides cs (take (length cs) (drop s.place text))).1 (sym there) in cc)

  pub string_follows : (cs : List ℕ) → slice_get g.nodes p ≡ Some (form.Leaf (read.String cs)) → Follows g text (node p) s (takes text (spelled text cs s.place) s)
  string_follows cs is = string_by cs is (stands_at text s.place cs) refl

  -- ---- words

  word_here : (w c : ℕ) (item : WordItem) → slice_get g.nodes p ≡ Some (form.Leaf (read.Word w)) → slice_get g.words w ≡ Some item → slice_get text s.place ≡ Some c →
      has_character g.classes item.head c ≡ true → (b : Bool) → list_any (λ reserved. bytes_eq reserved (c ∷ run_at g text item.rest (s.place + 1))) item.reserved ≡ b →
      Follows g text (node p) s (takes text (if b then None else Some (length (c ∷ run_at g text item.rest (s.place + 1)))) s)
  word_here w c item is there e member true h = differs_follows g text p (read.Word w) s is (λ has.
      let one = has.there in
      let other = has.is_word.there in
      let same_item : has.item ≡ item = cc in
      let same_head : has.is_word.head ≡ c = cc in
      let next : suc s.place ≡ s.place + 1 = omega arith in
      let same_word : has.word ≡ c ∷ run_at g text item.rest (s.place + 1) =
      has.is_word.whole ∙ ap (λ x. x ∷ run_at g text has.item.rest (suc s.place)) same_head
      ∙ ap (λ (it : WordItem). c ∷ run_at g text it.rest (suc s.place)) same_item ∙ ap (λ i. c ∷ run_at g text item.rest i) next in
      let free : list_any (λ reserved. bytes_eq reserved has.word) item.reserved ≡ false =
      subst (λ (it : WordItem). list_any (λ reserved. bytes_eq reserved has.word) it.reserved ≡ false) same_item has.is_word.free in
      let also : list_any (λ reserved. bytes_eq reserved (c ∷ run_at g text item.rest (s.place + 1))) item.reserved ≡ false =
      subst (λ word. list_any (λ reserved. bytes_eq reserved word) item.reserved ≡ false) same_word free in
      let both : true ≡ false = sym h ∙ also in
      absurd cc)
  word_here w c item is there e member false h =
      let n : ℕ = length (run_at g text item.rest (s.place + 1)) in
      let one : suc n ≡ n + 1 = omega arith in
      let next : s.place + 1 ≡ suc s.place = omega arith in
      taken_follows g text p (read.Word w) s is (length (c ∷ run_at g text item.rest (s.place + 1))) (c ∷ run_at g text item.rest (s.place + 1))
      (derives.word there (record { head = c; there = e; member = member; whole = ap (λ i. c ∷ run_at g text item.rest i) next; free = h }))
      (ap (λ m. take m (drop s.place text)) one ∙ whole_word g text item.rest s.place c e)

  word_headed : (w c : ℕ) (item : WordItem) → slice_get g.nodes p ≡ Some (form.Leaf (read.Word w)) → slice_get g.words w ≡ Some item → slice_get text s.place ≡ Some c →
      (b : Bool) → has_character g.classes item.head c ≡ b →
      Follows g text (node p) s (takes text (if b then unreserved item (c ∷ run_at g text item.rest (s.place + 1)) else None) s)
  word_headed w c item is there e true h = word_here w c item is there e h (list_any (λ reserved. bytes_eq reserved (c ∷ run_at g text item.rest (s.place + 1))) item.reserved) refl
  word_headed w c item is there e false h = differs_follows g text p (read.Word w) s is (λ has.
      let one = has.there in
      let other = has.is_word.there in
      let same_item : has.item ≡ item = cc in
      let same_head : has.is_word.head ≡ c = cc in
      let member : has_character g.classes item.head c ≡ true =
      subst (λ x. has_character g.classes item.head x ≡ true) same_head (subst (λ (it : WordItem). has_character g.classes it.head has.is_word.head ≡ true) same_item has.is_word.member) in
      let both : true ≡ false = sym member ∙ h in
      absurd cc)

  word_by_next : (w : ℕ) (item : WordItem) (next : Option ℕ) → slice_get g.nodes p ≡ Some (form.Leaf (read.Word w)) → slice_get g.words w ≡ Some item → slice_get text s.place ≡ next →
      Follows g text (node p) s (takes text (word_from g text item s.place next) s)
  word_by_next w item None is there e = differs_follows g text p (read.Word w) s is (λ has. let other = has.is_word.there in cc)
  word_by_next w item (Some c) is there e = word_headed w c item is there e (has_character g.classes item.head c) refl

  word_by_item : (w : ℕ) (item : Option WordItem) → slice_get g.nodes p ≡ Some (form.Leaf (read.Word w)) → slice_get g.words w ≡ item →
      Follows g text (node p) s (takes text (word_by g text s.place item) s)
  word_by_item w None is there = differs_follows g text p (read.Word w) s is (λ has. let one = has.there in cc)
  word_by_item w (Some item) is there = word_by_next w item (slice_get text s.place) is there refl

  pub word_follows : (w : ℕ) → slice_get g.nodes p ≡ Some (form.Leaf (read.Word w)) → Follows g text (node p) s (takes text (word_by g text s.place (slice_get g.words w)) s)
  word_follows w is = word_by_item w (slice_get g.words w) is refl

  -- ---- what comes next, and is not taken

  has_next : (class : List ClassPart) (next : Option ℕ) → slice_get text s.place ≡ next → next_in g class next ≡ true → HasAt g text class s.place
  has_next class None e h = absurd cc
  has_next class (Some c) e h = record { character = c; there = e; member = h }

  lacks_next : (class : List ClassPart) (next : Option ℕ) → slice_get text s.place ≡ next → next_in g class next ≡ false → HasAt g text class s.place → ⊥
  lacks_next class None e h has = let there = has.there in cc
  lacks_next class (Some c) e h has = let there = has.there in let member = has.member in cc

  not_false : (b : Bool) → not b ≡ true → b ≡ false
  not_false true e = absurd cc
  not_false false e = refl

  not_true : (b : Bool) → not b ≡ false → b ≡ true
  not_true true e = refl
  not_true false e = absurd cc

  pub not_followed_follows : (class : List ClassPart) → slice_get g.nodes p ≡ Some (form.Leaf (read.NotFollowedBy class)) →
      Follows g text (node p) s (stays_if (not (next_in g class (slice_get text s.place))) s)
  not_followed_follows class is = stays_follows g text p (read.NotFollowedBy class) s is (not (next_in g class (slice_get text s.place)))
      (λ h. derives.not_followed_by (lacks_next class (slice_get text s.place) refl (not_false _ h)))
      (λ h no. no (has_next class (slice_get text s.place) refl (not_true _ h)))

  pub end_follows : slice_get g.nodes p ≡ Some (form.Leaf read.EndOfText) → Follows g text (node p) s (stays_if (s.place == length text) s)
  end_follows is = stays_follows g text p read.EndOfText s is (s.place == length text) (λ h. derives.end_of_text (eqb-true _ _ h))
      (λ h there. let test = eq-eqb s.place (length text) there in absurd cc)

  -- ---- declarations

  admit_follows : (class : List ClassPart) (item : OperatorsItem) (d : Operator) (j : ℕ) (fault : Option AdmitFault) → slice_get g.nodes p ≡ Some (form.Leaf (read.Declare class)) →
      g.operators ≡ Some item → IsDeclarationAt g text item class d s.place j → admit_fault s.table d ≡ fault → Follows g text (node p) s (declares d j fault s)
  admit_follows class item d j (Some fault) is there at e =
      refuses (refuses_node (refusal.at_node is (refusal.leaf (not_admitted (record { item = item; there = there; declared = d; end = j; is_declaration = at }) (λ admits. cc)))))
  admit_follows class item d j None is there at e = λ end k.
      read_follows g text p (read.Declare class) s is (record { place = j; table = with_operator s.table d }) (declaration_tree d ∷ []) end (derives.declare there at e) k

  -- where a declaration stands, it is what was read
  none_stands : (class : List ClassPart) (item : OperatorsItem) (x : Declaration) → g.operators ≡ Some item → declaration_at g text item class s.place ≡ x →
      ((d : Operator) (i j : ℕ) → x ≡ declared d i j → ⊥) → HasDeclarationAt g text class s.place → ⊥
  none_stands class item x there e never has =
      let one = has.there in
      let same : has.item ≡ item = cc in
      let at = subst (λ (it : OperatorsItem). IsDeclarationAt g text it class has.declared s.place has.end) same has.is_declaration in
      never has.declared at.symbol_place has.end (sym e ∙ declaration_read g text item class has.declared s.place has.end at)

  declared_follows : (class : List ClassPart) (item : OperatorsItem) (x : Declaration) → slice_get g.nodes p ≡ Some (form.Leaf (read.Declare class)) → g.operators ≡ Some item →
      declaration_at g text item class s.place ≡ x → IsStanding g text item class s.place x → Follows g text (node p) s (declared_turn x s)
  declared_follows class item no_keyword is there e h = differs_follows g text p (read.Declare class) s is (none_stands class item no_keyword there e (λ d i j w. cc))
  declared_follows class item (no_digit k) is there e h = differs_follows g text p (read.Declare class) s is (none_stands class item (no_digit k) there e (λ d i j w. cc))
  declared_follows class item (no_symbol k) is there e h = differs_follows g text p (read.Declare class) s is (none_stands class item (no_symbol k) there e (λ d i j w. cc))
  declared_follows class item (declared d i j) is there e h = admit_follows class item d j (admit_fault s.table d) is there h refl

  declare_by : (class : List ClassPart) (item : Option OperatorsItem) → slice_get g.nodes p ≡ Some (form.Leaf (read.Declare class)) → g.operators ≡ item →
      Follows g text (node p) s (declare_turn g text class item s)
  declare_by class None is there = differs_follows g text p (read.Declare class) s is (λ has. let one = has.there in cc)
  declare_by class (Some item) is there =
      declared_follows class item (declaration_at g text item class s.place) is there refl (declaration_stands g text item class s.place)

  pub declare_follows : (class : List ClassPart) → slice_get g.nodes p ≡ Some (form.Leaf (read.Declare class)) → Follows g text (node p) s (declare_turn g text class g.operators s)
  declare_follows class is = declare_by class g.operators is refl

  pub leaf_follows : (l : Leaf ℕ) → slice_get g.nodes p ≡ Some (form.Leaf l) → Follows g text (node p) s (leaf_turn g text l s)
  leaf_follows (read.Satisfy class) is = satisfy_follows class is
  leaf_follows (read.String cs) is = string_follows cs is
  leaf_follows (read.Word w) is = word_follows w is
  leaf_follows (read.NotFollowedBy class) is = not_followed_follows class is
  leaf_follows read.EndOfText is = end_follows is
  leaf_follows (read.Declare class) is = declare_follows class is
