-- Derivations lead on, in the text and in the table.
use Rattle.std.proofs.Common.{◌≡◌, ℕ, suc, ◌+◌, ◌-◌, ◌≤◌, min, List, [], ◌∷◌, ◌++◌, drop, length, refl, sym, ◌∙◌, ap, arith, append-nil, length-take, length-drop, le_refl}
use Rattle.std.specs.List.{prefix_len}
use Rattle.std.proofs.lemmas.Option.{slice_get_within}
use Rattle.pg_tree.specs.Trees.{Tree}
use Rattle.pg_grammar_form.specs.ClassItems.{has_character}
use Rattle.pg_grammar_value.specs.Grammar.{Grammar}
use Rattle.pg_grammar_form.specs.Operators.{Operator}
use Rattle.pg_grammar_form.specs.declared.class.ClassPart.{ClassPart}
use Rattle.pg_grammar_form.specs.Forms.{Node}
use Rattle.pg_grammar_form.specs.declared.operators_item.OperatorsItem.{OperatorsItem}
use Rattle.pg_grammar_form.specs.declared.used.OperatorBuilders.{OperatorBuilders}
use Rattle.pg_grammar_form.specs.declared.word_item.WordItem.{WordItem}
use Rattle.pg_table.specs.Tables.{Admits, with_operator, whole, added_unless}
use Rattle.pg_table.specs.Fitting.{Expression}
use Rattle.pg_grammar_value.specs.declared.trail.TrailItem.{TrailItem}
use Rattle.pg_language.specs.Runs.{run_at, past_run, HasAt, StandsAt, IsWordAt, IsOperatorAt, IsDeclarationAt}
use Rattle.pg_grammar_form.specs.declared.form.Leaf.{Leaf}
use Rattle.pg_grammar_form.specs.declared.form.Around.{Around}
use Rattle.pg_grammar_form.specs.declared.form.Around.TheVariants as kind
use Rattle.pg_language.specs.Derives as derives
use Rattle.pg_language.specs.Derives.{Spot, at, after, left_by, Link, Derives, DerivesForm, DerivesParts, DerivesRounds, DerivesLinks, DerivesExpression, Reads, at_node, satisfy, string, word, not_followed_by, end_of_text, declare, seq, choice, many, rule, expression, no_part, first_part, no_round, first_round, no_link, first_link, a_term, a_prefix, a_postfix, an_infix}
use Rattle.pg_language.specs.Onward.{LeadsOn}
use Rattle.pg_table.proofs.Added.{added_after, added_at_end, all_proper}

-- ---- places

-- so many characters stand after a place, as the text has there
stands_within : (s : List ℕ) (i : ℕ) (cs : List ℕ) → StandsAt s i cs → i ≤ length s → i + length cs ≤ length s
stands_within s i cs h below =
    let taken = ap length h in
    let counted = length-take (length cs) (drop i s) in
    let left = length-drop i s in
    let few : min (length cs) (length s - i) ≡ length cs = cc in
    omega arith

-- a run ends in the text
run_within : (g : Grammar) (s : List ℕ) (class : List ClassPart) (i : ℕ) → i ≤ length s → past_run g s class i ≤ length s
run_within g s class i below =
    let counted = length-take (prefix_len (has_character g.classes class) (drop i s)) (drop i s) in
    let left = length-drop i s in
    omega arith

-- ---- spots

stays : (s : List ℕ) (a : Spot) → LeadsOn s a a
stays s a = record {
  onward = le_refl a.place;
  within = λ h. h;
  further = [];
  proper = tt;
  added = refl;
  after = sym (append-nil a.table.operators);
  still = λ e. refl;
}

moves : (s : List ℕ) (a : Spot) (j : ℕ) → a.place ≤ j → (a.place ≤ length s → j ≤ length s) → LeadsOn s a (at a j)
moves s a j onward within = record {
  onward = onward;
  within = within;
  further = [];
  proper = tt;
  added = refl;
  after = sym (append-nil a.table.operators);
  still = λ e. ap (λ i. at a i) e;
}

pub joins : (s : List ℕ) (a b c : Spot) → LeadsOn s a b → LeadsOn s b c → LeadsOn s a c
joins s a b c h k =
    let added = added_after 0 0 0 a.table b.table c.table h.further k.further h.added k.added in
    record {
      onward = (let first = h.onward in let second = k.onward in omega arith);
      within = λ below. k.within (h.within below);
      further = h.further ++ k.further;
      proper = all_proper h.further k.further h.proper k.proper;
      added = added;
      after = added_at_end 0 a.table c.table (h.further ++ k.further) added;
      still = λ e. let first = h.onward in let second = k.onward in h.still (omega arith) ∙ k.still (omega arith);
    }

-- ---- what stands at a place

character_on : (g : Grammar) (s : List ℕ) (class : List ClassPart) (a : Spot) → HasAt g s class a.place → LeadsOn s a (after a 1)
character_on g s class a has =
    let below = slice_get_within s a.place has.character has.there in
    moves s a (a.place + 1) (omega arith) (λ h. omega arith)

string_on : (s : List ℕ) (cs : List ℕ) (a : Spot) → StandsAt s a.place cs → LeadsOn s a (after a (length cs))
string_on s cs a stands = moves s a (a.place + length cs) (omega arith) (λ h. stands_within s a.place cs stands h)

word_on : (g : Grammar) (s : List ℕ) (item : WordItem) (a : Spot) (w : List ℕ) → IsWordAt g s item a.place w → LeadsOn s a (after a (length w))
word_on g s item a w is =
    let below = slice_get_within s a.place is.head is.there in
    let ends = run_within g s item.rest (suc a.place) (omega arith) in
    let counted : length w ≡ suc (length (run_at g s item.rest (suc a.place))) = ap length is.whole in
    moves s a (a.place + length w) (omega arith) (λ h. omega arith)

pub operator_on : (g : Grammar) (s : List ℕ) (item : OperatorsItem) (symbol : List ℕ) (a : Spot) (j : ℕ) → IsOperatorAt g s item symbol a.place j → LeadsOn s a (at a j)
operator_on g s item symbol a j is =
    let counted : length (run_at g s item.class a.place) ≡ length symbol = ap length is.run in
    let past = is.past in
    moves s a j (omega arith) (λ h.
    let first = run_within g s item.class a.place h in
    let second = run_within g s item.gap (a.place + length symbol) (omega arith) in
    omega arith)

declaration_on : (g : Grammar) (s : List ℕ) (item : OperatorsItem) (class : List ClassPart) (d : Operator) (a : Spot) (j : ℕ)
    → IsDeclarationAt g s item class d a.place j → Admits a.table d → LeadsOn s a (record { place = j; table = with_operator a.table d })
declaration_on g s item class d a j is admits =
    let below = slice_get_within s is.digit_place (48 + d.precedence) is.digit in
    let first = is.first_gap in
    let second = is.second_gap in
    let last = is.last_gap in
    let reached = run_within g s item.gap (suc is.digit_place) (omega arith) in
    let under : is.symbol_place ≤ length s = omega arith in
    let read = run_within g s item.class is.symbol_place under in
    let counted : length (run_at g s item.class is.symbol_place) ≡ length d.symbol = ap length is.symbol in
    let ends = run_within g s item.gap (is.symbol_place + length d.symbol) (omega arith) in
    record {
      onward = omega arith;
      within = λ h. omega arith;
      further = d ∷ [];
      proper = (record { digit = is.precedence; spelled = is.spelled }, tt);
      added = ap (λ fault. added_unless fault 0 (whole (with_operator a.table d))) admits;
      after = refl;
      still = λ e. absurd (omega arith);
    }

leaf_on : {g : Grammar} {s : List ℕ} {l : Leaf ℕ} {a b : Spot} {forest : List Tree} → Reads g s l a b forest → LeadsOn s a b
leaf_on {g} {s} (satisfy {class} {a} has) = character_on g s class a has
leaf_on {s = s} (string {characters} {a} stands) = string_on s characters a stands
leaf_on {g} {s} (word {item = item} {s = w} {a = a} e is) = word_on g s item a w is
leaf_on {s = s} (not_followed_by {a = a} lacks) = stays s a
leaf_on {s = s} (end_of_text {a = a} e) = stays s a
leaf_on {g} {s} (declare {class} {item} {d} {j} {a} e is admits) = declaration_on g s item class d a j is admits

-- the table that a form around a part leaves is that of before or the part's
around_on : (s : List ℕ) (k : Around) (a b : Spot) → LeadsOn s a b → LeadsOn s a (left_by k a b)
around_on s kind.Local a b h = moves s a b.place h.onward h.within
around_on s _ a b h = h

-- where the part stayed at a spot, the form around it does
pub left_still : (k : Around) (a b : Spot) → b ≡ a → left_by k a b ≡ a
left_still k a b e = ap (left_by k a) e ∙ same k
  where
    same : (k : Around) → left_by k a a ≡ a
    same kind.Local = refl
    same _ = refl

-- ---- derivations

mutual
  pub leads_on : {g : Grammar} {s : List ℕ} {p : ℕ} {a b : Spot} {forest : List Tree} {trail : List TrailItem} → Derives g s p a b forest trail → LeadsOn s a b
  leads_on (at_node e d) = form_on d

  form_on : {g : Grammar} {s : List ℕ} {n : Node} {a b : Spot} {forest : List Tree} {trail : List TrailItem} → DerivesForm g s n a b forest trail → LeadsOn s a b
  form_on (derives.leaf h) = leaf_on h
  form_on (seq d) = parts_on d
  form_on (choice e d) = leads_on d
  form_on (many d) = rounds_on d
  form_on {s = s} (derives.chain {a = a} {b = b} {c = c} d ds) = joins s a b c (leads_on d) (links_on ds)
  form_on (rule e d) = leads_on d
  form_on {s = s} (derives.around {k = k} {a = a} {b = b} d) = around_on s k a b (leads_on d)
  form_on (expression e fits d) = expression_on d

  parts_on : {g : Grammar} {s : List ℕ} {parts : List ℕ} {a b : Spot} {forest : List Tree} {trail : List TrailItem} → DerivesParts g s parts a b forest trail → LeadsOn s a b
  parts_on {s = s} (no_part {a = a}) = stays s a
  parts_on {s = s} (first_part {a = a} {b = b} {c = c} d ds) = joins s a b c (leads_on d) (parts_on ds)

  rounds_on : {g : Grammar} {s : List ℕ} {p n : ℕ} {a b : Spot} {forest : List Tree} {trail : List TrailItem} → DerivesRounds g s p n a b forest trail → LeadsOn s a b
  rounds_on {s = s} (no_round {a = a}) = stays s a
  rounds_on {s = s} (first_round {a = a} {b = b} {c = c} d ds) = joins s a b c (leads_on d) (rounds_on ds)

  links_on : {g : Grammar} {s : List ℕ} {p q n : ℕ} {a b : Spot} {links : List Link} {trail : List TrailItem} → DerivesLinks g s p q n a b links trail → LeadsOn s a b
  links_on {s = s} (no_link {a = a}) = stays s a
  links_on {s = s} (first_link {a = a} {b = b} {c = c} {d = e} d f ds) = joins s a b e (leads_on d) (joins s b c e (leads_on f) (links_on ds))

  pub expression_on : {g : Grammar} {s : List ℕ} {item : OperatorsItem} {builders : OperatorBuilders} {p : ℕ} {x : Expression} {a b : Spot} {forest : List Tree} {trail : List TrailItem}
      → DerivesExpression g s item builders p x a b forest trail → LeadsOn s a b
  expression_on (a_term d) = leads_on d
  expression_on {g} {s} {item} (a_prefix {o = o} {j = j} {a = a} {b = b} is d) = joins s a (at a j) b (operator_on g s item o.symbol a j is) (expression_on d)
  expression_on {g} {s} {item} (a_postfix {o = o} {j = j} {a = a} {b = b} d is) = joins s a b (at b j) (expression_on d) (operator_on g s item o.symbol b j is)
  expression_on {g} {s} {item} (an_infix {o = o} {j = j} {a = a} {b = b} {c = c} d is e) =
      joins s a b c (expression_on d) (joins s b (at b j) c (operator_on g s item o.symbol b j is) (expression_on e))

-- ---- rounds and links

-- rounds lead on in the text
pub rounds_onward : {g : Grammar} {text : List ℕ} {p n : ℕ} {a b : Spot} {v : List Tree} {t : List TrailItem} → DerivesRounds g text p n a b v t → a.place ≤ b.place
rounds_onward derives.no_round = omega arith
rounds_onward (derives.first_round d ds) = let h = (leads_on d).onward in let k = rounds_onward ds in omega arith

-- and so do the links of a chain
pub links_onward : {g : Grammar} {text : List ℕ} {p q n : ℕ} {a b : Spot} {links : List Link} {t : List TrailItem} → DerivesLinks g text p q n a b links t → a.place ≤ b.place
links_onward derives.no_link = omega arith
links_onward (derives.first_link d e ds) = let h = (leads_on d).onward in let i = (leads_on e).onward in let k = links_onward ds in omega arith
