-- Each task leads to what comes of its turn.
use Rattle.std.proofs.Common.{◌≡◌, ◌==◌, ◌≤◌, ◌-◌, ℕ, zero, suc, Bool, true, false, List, [], ◌∷◌, ◌++◌, refl, sym, ap, ◌∙◌, subst, eqb-true, eq-eqb, arith, if◌then◌else◌, take, drop, length, append-nil, append_assoc}
use Rattle.std.specs.Prelude.{Option, Some, None, slice_get, ◌||◌}
use Rattle.pg_tree.specs.Trees.{Tree}
use Rattle.pg_grammar_form.specs.Forms.{Node}
use Rattle.pg_grammar_form.specs.Operators.{Operator}
use Rattle.pg_grammar_form.specs.declared.form.Form.TheVariants as form
use Rattle.pg_grammar_form.specs.declared.form.Around.{Around}
use Rattle.pg_grammar_form.specs.declared.form.Around.TheVariants as kind
use Rattle.pg_grammar_value.specs.Grammar.{Grammar}
use Rattle.pg_grammar_value.specs.declared.grammar.Rule as declared
use Rattle.pg_grammar_value.specs.declared.trail.TrailItem.{TrailItem}
use Rattle.pg_grammar_value.specs.declared.trail.AppliedOperator.{AppliedOperator}
use Rattle.pg_grammar_value.specs.declared.trail.TrailItem.TheVariants.{Alt, Rounds, Ops}
use Rattle.pg_table.specs.Tables.{Table, admit_fault, with_operator, whole, added_unless, added_from, first_operators}
use Rattle.pg_table.specs.declared.admit_fault.AdmitFault.{AdmitFault}
use Rattle.pg_language.specs.Derives as derives
use Rattle.pg_language.specs.Derives.{Spot, leaf_of, Derives, DerivesRounds, table_by, left_by}
use Rattle.std.proofs.lemmas.Slice.Eq.{bytes_eq-Decides}
use Rattle.std.proofs.Math.Seq.{take-append_seam, drop-append_seam}
use Rattle.pg_language.specs.Onward.{LeadsOn}
use Rattle.pg_language.proofs.Onward.{leads_on, rounds_onward}
use Rattle.pg_trail_replay.specs.Refusals as refusal
use Rattle.pg_trail_replay.specs.Refusals.{still_entered, if_no_item, IsEntered, ChoosesNone}
use Rattle.pg_trail_replay.specs.Tasks.{Looseness, tight, apart, only_text, dropped, Known, OnTask, node, parts, rounds, more_rounds, links, operand, linked, settle, fold, marked, operator_symbol, application, unmark, close, leave, Setting, under_marks, loosened, State, Turn, on, stops, ended, part_turn, numbered_turn, choice_turn, many_turn, is_place, is_known_at, is_known, covers, inside_form, is_text, given_by, is_still, is_entered, rule_turn, around_turn, form_turn, node_turn, parts_turn, rounds_turn, is_unchanged, more_turn, closed_table, closed_forest, without_newest, turn}
use Rattle.pg_trail_replay.proofs.Alike.{text_in, IsAlike, Alike, is_same, alike_same, alike_both, alike_given}
use Rattle.pg_trail_replay.proofs.KnownBodies.{AreKnown, AreBlank, IsSo}
use Rattle.pg_trail_replay.proofs.NoText.{no_text}
use Rattle.pg_trail_replay.proofs.Items.{positive, no_count_at_end, no_count_for_choice, no_count_for_operators}
use Rattle.pg_trail_replay.proofs.LeavesFollow.{leaf_follows}
use Rattle.pg_trail_replay.proofs.LeftOut.{no_item_more, left_out, both, as_many}
use Rattle.pg_trail_replay.proofs.ProperTables.{IsProper}
use Rattle.pg_trail_replay.proofs.ExpressionsFollow.{expression_follows, symbol_follows}
use Rattle.pg_trail_replay.proofs.ChainsFollow.{chain_follows, links_follow, operand_follows, linked_follows}
use Rattle.pg_trail_replay.proofs.Leads.{End, entered_after, Does, Leads, AsMany, does, refuses, does_node, does_parts, does_rounds, does_more, over, does_settle, does_fold, does_term, does_application, does_unmark, does_close, does_leave, refuses_node, refuses_parts, refuses_rounds, refuses_more, refuses_term, spot_of, StateLeads, TaskLeads, Follows, follows_if, still_here, still_none, still_after_item, still_twice, parts_onward}

abbrev spot_at : ℕ → Table → Spot
spot_at place table = record { place = place; table = table }

module _ (g : Grammar) (text : List ℕ) where
  -- ---- parts and rounds

  -- a task that did nothing
  stayed : (t : OnTask) (s : State) (e : End) → Does g text s.setting s.setting t (spot_of s) s.forest (spot_of s) (s.forest ++ []) [] →
      entered_after t (spot_of s) (spot_of s) [] s.entered ≡ still_entered (spot_of s) (spot_of s) [] s.entered → StateLeads g text s e → TaskLeads g text t s e
  stayed t s e d same k = does d
      (subst (λ x. Leads g text s.setting s.tasks x (spot_of s) (s.forest ++ []) s.rest e) (sym (same ∙ still_here (spot_of s) s.entered))
      (subst (λ v. Leads g text s.setting s.tasks s.entered (spot_of s) v s.rest e) (sym (append-nil s.forest)) k))

  -- a task of two stretches
  joined : (ms : Setting) (t : OnTask) (ts : List OnTask) (entered : List ℕ) (a b c : Spot) (v w z : List Tree) (x y rest : List TrailItem) (e : End) → a.place ≤ b.place → b.place ≤ c.place →
      Does g text ms ms t a v c (v ++ (w ++ z)) (x ++ y) → entered_after t a c (x ++ y) entered ≡ still_entered a c (x ++ y) entered →
      Leads g text ms ts (still_entered b c y (still_entered a b x entered)) c (v ++ w ++ z) rest e → Leads g text ms (t ∷ ts) entered a v (x ++ (y ++ rest)) e
  joined ms t ts entered a b c v w z x y rest e low high d same k =
      subst (λ items. Leads g text ms (t ∷ ts) entered a v items e) (append_assoc x y rest)
      (does d
      (subst (λ q. Leads g text ms ts q c (v ++ (w ++ z)) rest e) (still_twice a b c x y entered low high ∙ sym same)
      (subst (λ f. Leads g text ms ts (still_entered b c y (still_entered a b x entered)) c f rest e) (append_assoc v w z) k)))

  -- a part, and then the others
  part_more : (ms : Setting) (p : ℕ) (ps : List ℕ) (ts : List OnTask) (entered : List ℕ) (a : Spot) (v : List Tree) (items : List TrailItem) (e : End) →
      Leads g text ms (node p ∷ parts ps ∷ ts) entered a v items e → Leads g text ms (parts (p ∷ ps) ∷ ts) entered a v items e
  part_more ms p ps ts entered a v items e (refuses (refuses_node h)) = refuses (refuses_parts (refusal.this_part h))
  part_more ms p ps ts entered a v items e (does (does_node d i) (refuses (refuses_parts h))) = refuses (refuses_parts (refusal.later_part d h))
  part_more ms p ps ts entered a v items e (does {b = b} {u = x} (does_node {w = w} {x = j} d h) (does {b = c} {u = y} {items = rest} (does_parts {w = z} {x = l} ds i) k)) =
      joined ms (parts (p ∷ ps)) ts entered a b c v j l x y rest e (leads_on d).onward (parts_onward ds)
      (does_parts (derives.first_part d ds) (alike_both ms.loose j w l z h i)) refl k

  pub parts_follow : (ps : List ℕ) (s : State) → Follows g text (parts ps) s (parts_turn ps s)
  parts_follow [] s = λ e k. stayed (parts []) s e (does_parts derives.no_part (alike_same s.setting.loose [] [] refl)) refl k
  parts_follow (p ∷ ps) s = λ e k. part_more s.setting p ps s.tasks s.entered (spot_of s) s.forest s.rest e k

  -- rounds that take nothing, as many as there are
  nothing_again : (l : Looseness) (p n : ℕ) (a : Spot) (w : List Tree) → Derives g text p a a w [] → (z : List Tree) × (DerivesRounds g text p n a a z [] × (Alike l [] w → Alike l [] z))
  nothing_again l p zero a w d = ([], (derives.no_round, (λ h. alike_same l [] [] refl)))
  nothing_again l p (suc n) a w d =
      let more = nothing_again l p n a w d in (w ++ more.0, (derives.first_round d more.1.0, (λ h. alike_both l [] w [] more.0 h (more.1.1 h))))

  -- a round that took nothing and gave nothing that can't be left out, and the others at once
  round_over : (ms : Setting) (p n : ℕ) (ts : List OnTask) (entered : List ℕ) (a b : Spot) (v j w : List Tree) (x rest : List TrailItem) (e : End) → Derives g text p a b w x → Alike ms.loose j w →
      a.place ≡ b.place → AsMany ms.loose (length v) (length (v ++ j)) → x ≡ [] → Leads g text ms ts (still_entered a b x entered) b (v ++ j) rest e → Leads g text ms (rounds p (suc n) ∷ ts) entered a v (x ++ rest) e
  round_over ms p n ts entered a b v j w x rest e d h place many taken k =
      let here : a ≡ b = (leads_on d).still place in
      let again : Derives g text p b b w [] = subst (λ u. Derives g text p b b w u) taken (subst (λ a. Derives g text p a b w x) here d) in
      let more = nothing_again ms.loose p n b w again in
      joined ms (rounds p (suc n)) ts entered a b b v j [] x [] rest e (leads_on d).onward (omega arith)
      (does_rounds (derives.first_round d more.1.0) (alike_both ms.loose j w [] more.0 h (more.1.1 (left_out ms.loose v j w h many (no_text again refl refl))))) refl
      (subst (λ q. Leads g text ms ts q b (v ++ j ++ []) rest e) (sym (still_here b (still_entered a b x entered)))
      (subst (λ f. Leads g text ms ts (still_entered a b x entered) b f rest e) (sym (append-nil (v ++ j))) k))

  -- a round, and then the others
  round_more : (ms : Setting) (p n : ℕ) (ts : List OnTask) (entered : List ℕ) (a : Spot) (v : List Tree) (items : List TrailItem) (e : End) →
      Leads g text ms (node p ∷ more_rounds p n a.place (length v) (length items) ∷ ts) entered a v items e → Leads g text ms (rounds p (suc n) ∷ ts) entered a v items e
  round_more ms p n ts entered a v items e (refuses (refuses_node h)) = refuses (refuses_rounds (refusal.this_round h))
  round_more ms p n ts entered a v items e (does (does_node d i) (refuses (refuses_more h))) = refuses (refuses_rounds (refusal.later_round d h))
  round_more ms p n ts entered a v items e (does {b = b} {u = x} (does_node {w = w} {x = j} d h) (does {b = c} {u = y} {items = rest} (does_more {w = z} {x = l} ds i) k)) =
      joined ms (rounds p (suc n)) ts entered a b c v j l x y rest e (leads_on d).onward (rounds_onward ds) (does_rounds (derives.first_round d ds) (alike_both ms.loose j w l z h i)) refl k
  round_more ms p n ts entered a v items e (does {b = b} {u = x} (does_node {w = w} {x = j} d h) (over {items = rest} place trees count k)) =
      round_over ms p n ts entered a b v j w x rest e d h place trees (no_item_more x rest count) k

  pub rounds_follow : (p n : ℕ) (s : State) → Follows g text (rounds p n) s (rounds_turn p n s)
  rounds_follow p n s = follows_if g text (rounds p n) s (n == 0) _ _
      (λ h. λ e k. subst (λ m. TaskLeads g text (rounds p m) s e) (sym (eqb-true n 0 h)) (stayed (rounds p 0) s e (does_rounds derives.no_round (alike_same s.setting.loose [] [] refl)) refl k))
      (λ h. λ e k. subst (λ m. TaskLeads g text (rounds p m) s e) (sym (positive n h)) (round_more s.setting p (n - 1) s.tasks s.entered (spot_of s) s.forest s.rest e k))

  -- the rounds after one are rounds
  as_more : (p n place trees count : ℕ) (ts : List OnTask) (ms : Setting) (entered : List ℕ) (a : Spot) (v : List Tree) (items : List TrailItem) (e : End) →
      Leads g text ms (rounds p n ∷ ts) entered a v items e → Leads g text ms (more_rounds p n place trees count ∷ ts) entered a v items e
  as_more p n place trees count ts ms entered a v items e (refuses (refuses_rounds h)) = refuses (refuses_more h)
  as_more p n place trees count ts ms entered a v items e (does (does_rounds d h) k) = does (does_more d h) k

  more_by : (p n place trees count : ℕ) (s : State) (x : Turn) → Follows g text (rounds p n) s x → Follows g text (more_rounds p n place trees count) s x
  more_by p n place trees count s (on after) h = λ e k. as_more p n place trees count s.tasks s.setting s.entered (spot_of s) s.forest s.rest e (h e k)
  more_by p n place trees count s (stops why at rest) h = as_more p n place trees count s.tasks s.setting s.entered (spot_of s) s.forest s.rest _ h
  more_by p n place trees count s (ended after) h = h

  pub more_follow : (p n place trees count : ℕ) (s : State) → Follows g text (more_rounds p n place trees count) s (more_turn p n place trees count s)
  more_follow p n place trees count s = follows_if g text (more_rounds p n place trees count) s (is_unchanged place trees count s) _ _
      (λ h. λ e k. (let first = both (is_still place count s) ((trees == length s.forest) || is_text s.setting.loose) h in
      let second = both (place == s.place) (count == length s.rest) first.0 in
      over (eqb-true place s.place second.0) (as_many s.setting.loose trees (length s.forest) first.1) (eqb-true count (length s.rest) second.1) k))
      (λ h. more_by p n place trees count s (rounds_turn p n s) (rounds_follow p n s))

  -- ---- sequences and choices

  seq_leads : (ms : Setting) (p : ℕ) (ps : List ℕ) (ts : List OnTask) (entered : List ℕ) (a : Spot) (v : List Tree) (items : List TrailItem) (e : End) → slice_get g.nodes p ≡ Some (form.Seq ps) →
      Leads g text ms (parts ps ∷ ts) entered a v items e → Leads g text ms (node p ∷ ts) entered a v items e
  seq_leads ms p ps ts entered a v items e is (refuses (refuses_parts h)) = refuses (refuses_node (refusal.at_node is (refusal.seq h)))
  seq_leads ms p ps ts entered a v items e is (does (does_parts ds h) k) = does (does_node (derives.at_node is (derives.seq ds)) h) k

  choice_leads : (ms : Setting) (p q j : ℕ) (ps : List ℕ) (ts : List OnTask) (entered : List ℕ) (a : Spot) (v : List Tree) (items : List TrailItem) (e : End) →
      slice_get g.nodes p ≡ Some (form.Choice ps) → slice_get ps j ≡ Some q →
      Leads g text ms (node q ∷ ts) [] a v items e → Leads g text ms (node p ∷ ts) entered a v (Alt (suc j) ∷ items) e
  choice_leads ms p q j ps ts entered a v items e is got (refuses (refuses_node h)) = refuses (refuses_node (refusal.at_node is (refusal.choice got h)))
  choice_leads ms p q j ps ts entered a v items e is got (does {b = b} {x = x} {u = u} {items = rest} (does_node d h) k) =
      does (does_node (derives.at_node is (derives.choice got d)) h)
      (subst (λ o. Leads g text ms ts o b x rest e) (still_none a b u ∙ sym (still_after_item a b (Alt (suc j)) u entered)) k)

  -- what the next item isn't
  none_past : (ps : List ℕ) (j : ℕ) (items rest : List TrailItem) → slice_get ps j ≡ None → items ≡ Alt (suc j) ∷ rest → ChoosesNone ps items
  none_past ps j items rest got e = λ k r others f h. let same : k ≡ j = cc in let there = subst (λ m. slice_get ps m ≡ Some r) same h in cc

  none_numbered : (ps : List ℕ) (n : ℕ) (items rest : List TrailItem) → n ≡ 0 → items ≡ Alt n ∷ rest → ChoosesNone ps items
  none_numbered ps n items rest z e = λ j r others f i. let same : n ≡ suc j = cc in omega arith

  none_at_end : (ps : List ℕ) (items : List TrailItem) → items ≡ [] → ChoosesNone ps items
  none_at_end ps items e = λ k r others f h. cc

  none_for_rounds : (ps : List ℕ) (n : ℕ) (items rest : List TrailItem) → items ≡ Rounds n ∷ rest → ChoosesNone ps items
  none_for_rounds ps n items rest e = λ k r others f h. cc

  none_for_operators : (ps : List ℕ) (o : List AppliedOperator) (items rest : List TrailItem) → items ≡ Ops o ∷ rest → ChoosesNone ps items
  none_for_operators ps o items rest e = λ k r others f h. cc

  part_follows : (p j : ℕ) (ps : List ℕ) (rest : List TrailItem) (q : Option ℕ) (s : State) → slice_get g.nodes p ≡ Some (form.Choice ps) → slice_get ps j ≡ q → s.rest ≡ Alt (suc j) ∷ rest →
      Follows g text (node p) s (part_turn q rest s)
  part_follows p j ps rest None s is got e = refuses (refuses_node (refusal.at_node is (refusal.no_choice (none_past ps j s.rest rest got e))))
  part_follows p j ps rest (Some q) s is got e = λ end k.
      subst (λ items. Leads g text s.setting (node p ∷ s.tasks) s.entered (spot_of s) s.forest items end) (sym e)
      (choice_leads s.setting p q j ps s.tasks s.entered (spot_of s) s.forest rest end is got k)

  numbered_follows : (p k : ℕ) (ps : List ℕ) (rest : List TrailItem) (s : State) → slice_get g.nodes p ≡ Some (form.Choice ps) → s.rest ≡ Alt k ∷ rest →
      Follows g text (node p) s (numbered_turn ps k rest s)
  numbered_follows p k ps rest s is e = follows_if g text (node p) s (k == 0) _ _
      (λ h. refuses (refuses_node (refusal.at_node is (refusal.no_choice (none_numbered ps k s.rest rest (eqb-true k 0 h) e)))))
      (λ h. part_follows p (k - 1) ps rest (slice_get ps (k - 1)) s is refl (e ∙ ap (λ n. Alt n ∷ rest) (positive k h)))

  choice_follows : (p : ℕ) (ps : List ℕ) (items : List TrailItem) (s : State) → slice_get g.nodes p ≡ Some (form.Choice ps) → s.rest ≡ items →
      Follows g text (node p) s (choice_turn ps items s)
  choice_follows p ps [] s is e = refuses (refuses_node (refusal.at_node is (refusal.no_choice (none_at_end ps s.rest e))))
  choice_follows p ps (Alt k ∷ rest) s is e = numbered_follows p k ps rest s is e
  choice_follows p ps (Rounds n ∷ rest) s is e = refuses (refuses_node (refusal.at_node is (refusal.no_choice (none_for_rounds ps n s.rest rest e))))
  choice_follows p ps (Ops o ∷ rest) s is e = refuses (refuses_node (refusal.at_node is (refusal.no_choice (none_for_operators ps o s.rest rest e))))

  -- ---- repetitions

  many_leads : (ms : Setting) (p q n : ℕ) (ts : List OnTask) (entered : List ℕ) (a : Spot) (v : List Tree) (items : List TrailItem) (e : End) → slice_get g.nodes p ≡ Some (form.Many q) →
      Leads g text ms (rounds q n ∷ ts) [] a v items e → Leads g text ms (node p ∷ ts) entered a v (Rounds n ∷ items) e
  many_leads ms p q n ts entered a v items e is (refuses (refuses_rounds h)) = refuses (refuses_node (refusal.at_node is (refusal.many h)))
  many_leads ms p q n ts entered a v items e is (does {b = b} {x = x} {u = u} {items = rest} (does_rounds d h) k) =
      does (does_node (derives.at_node is (derives.many d)) h)
      (subst (λ o. Leads g text ms ts o b x rest e) (still_none a b u ∙ sym (still_after_item a b (Rounds n) u entered)) k)

  many_follows : (p q : ℕ) (items : List TrailItem) (s : State) → slice_get g.nodes p ≡ Some (form.Many q) → s.rest ≡ items → Follows g text (node p) s (many_turn q items s)
  many_follows p q [] s is e = refuses (refuses_node (refusal.at_node is (refusal.no_count (no_count_at_end s.rest e))))
  many_follows p q (Alt k ∷ rest) s is e = refuses (refuses_node (refusal.at_node is (refusal.no_count (no_count_for_choice k s.rest rest e))))
  many_follows p q (Rounds n ∷ rest) s is e = λ end k.
      subst (λ items. Leads g text s.setting (node p ∷ s.tasks) s.entered (spot_of s) s.forest items end) (sym e)
      (many_leads s.setting p q n s.tasks s.entered (spot_of s) s.forest rest end is k)
  many_follows p q (Ops o ∷ rest) s is e = refuses (refuses_node (refusal.at_node is (refusal.no_count (no_count_for_operators o s.rest rest e))))

  -- ---- rules

  found_entered : (r : ℕ) (entered : List ℕ) → is_entered r entered ≡ true → IsEntered r entered
  found_entered r [] e = absurd cc
  found_entered r (q ∷ entered) e = go (q == r) refl (found_entered r entered) e
    where
      go : (b : Bool) → (q == r) ≡ b → (is_entered r entered ≡ true → IsEntered r entered) → b || is_entered r entered ≡ true → IsEntered r (q ∷ entered)
      go true h more e = (0, ap Some (eqb-true q r h))
      go false h more e = let later = more e in (suc later.0, later.1)

  not_entered : (r : ℕ) (entered : List ℕ) → is_entered r entered ≡ false → IsEntered r entered → ⊥
  not_entered r entered e is = at entered is.0 e is.1
    where
      at : (entered : List ℕ) (k : ℕ) → is_entered r entered ≡ false → slice_get entered k ≡ Some r → ⊥
      at [] k e h = cc
      at (q ∷ entered) zero e h = let same : q ≡ r = cc in let test = eq-eqb q r same in cc
      at (q ∷ entered) (suc k) e h = at entered k (rest (q == r) (is_entered r entered) e) h
        where
          rest : (b c : Bool) → b || c ≡ false → c ≡ false
          rest true c e = absurd cc
          rest false c e = e

  left_rule : (r : ℕ) (a b : Spot) (u : List TrailItem) (entered : List ℕ) → without_newest (still_entered a b u (r ∷ entered)) ≡ still_entered a b u entered
  left_rule r a b u entered = go (a.place == b.place) u
    where
      go : (q : Bool) (u : List TrailItem) → without_newest (if q then if_no_item u (r ∷ entered) else []) ≡ (if q then if_no_item u entered else [])
      go true [] = refl
      go true (i ∷ u) = refl
      go false u = refl

  rule_leads : (ms : Setting) (p r place trees count : ℕ) (named : declared.Rule) (ts : List OnTask) (entered : List ℕ) (a : Spot) (v : List Tree) (items : List TrailItem) (e : End) →
      slice_get g.nodes p ≡ Some (form.Rule r) → slice_get g.rules r ≡ Some named → (IsEntered r entered → ⊥) →
      Leads g text ms (node named.body ∷ leave r place trees count ∷ ts) (r ∷ entered) a v items e → Leads g text ms (node p ∷ ts) entered a v items e
  rule_leads ms p r place trees count named ts entered a v items e is there new (refuses (refuses_node h)) = refuses (refuses_node (refusal.at_node is (refusal.rule new there h)))
  rule_leads ms p r place trees count named ts entered a v items e is there new (does (does_node d i) (refuses h)) = elim h [ ]
  rule_leads ms p r place trees count named ts entered a v items e is there new (does {b = b} {x = x} {u = u} (does_node d h) (does {items = rest} does_leave k)) =
      does (does_node (derives.at_node is (derives.rule there d)) h)
      (subst (λ o. Leads g text ms ts o b x rest e) (left_rule r a b u entered) k)

  -- a body that takes nothing, and gives nothing that can't be left out
  known_leads : (p r : ℕ) (named : declared.Rule) (w : List Tree) (s : State) (e : End) → slice_get g.nodes p ≡ Some (form.Rule r) → slice_get g.rules r ≡ Some named →
      Derives g text named.body (spot_of s) (spot_of s) w [] → Alike s.setting.loose [] w → StateLeads g text s e → TaskLeads g text (node p) s e
  known_leads p r named w s e is there d h k = stayed (node p) s e (does_node (derives.at_node is (derives.rule there d)) h) refl k

  -- trees that are left out at one looseness are left out at another that it covers
  is_covered : (k l : Looseness) (w : List Tree) → covers k l ≡ true → IsAlike k [] w → text_in w ≡ [] → IsAlike l [] w
  is_covered tight tight w e h none = h
  is_covered tight (apart label) w e h none = is_same (apart label) [] w h
  is_covered tight only_text w e h none = sym none
  is_covered tight dropped w e h none = tt
  is_covered (apart label) tight w e h none = absurd cc
  is_covered (apart label) (apart other) w e h none = subst (λ m. IsAlike (apart m) [] w) ((bytes_eq-Decides label other).0 e) h
  is_covered (apart label) only_text w e h none = sym none
  is_covered (apart label) dropped w e h none = tt
  is_covered only_text tight w e h none = absurd cc
  is_covered only_text (apart other) w e h none = absurd cc
  is_covered only_text only_text w e h none = h
  is_covered only_text dropped w e h none = tt
  is_covered dropped tight w e h none = absurd cc
  is_covered dropped (apart other) w e h none = absurd cc
  is_covered dropped only_text w e h none = sym none
  is_covered dropped dropped w e h none = tt

  covered : (k l : Looseness) (w : List Tree) → covers k l ≡ true → Alike k [] w → text_in w ≡ [] → Alike l [] w
  covered k l w e h none = record { is = is_covered k l w e h.is none }

  here_known : (r i : ℕ) (known : List (Option Known)) (loose : Looseness) (x : Option (Option Known)) → slice_get known r ≡ x → is_known_at i loose x ≡ true →
      (here : Known) × ((slice_get known r ≡ Some (Some here)) × ((here.place ≡ i) × (covers here.loose loose ≡ true)))
  here_known r i known loose None e h = absurd cc
  here_known r i known loose (Some None) e h = absurd cc
  here_known r i known loose (Some (Some here)) e h = let parts = both (here.place == i) (covers here.loose loose) h in (here, (e, (eqb-true here.place i parts.0, parts.1)))

  known_follows : (p r : ℕ) (named : declared.Rule) (s : State) (e : End) → slice_get g.nodes p ≡ Some (form.Rule r) → slice_get g.rules r ≡ Some named → AreKnown g text s.known →
      is_known r s ≡ true → StateLeads g text s e → TaskLeads g text (node p) s e
  known_follows p r named s e is there known h k =
      let found = here_known r s.place s.known s.setting.loose (slice_get s.known r) refl h in
      let here = found.0 in
      let nothing = known r here found.1.0 named there s.table in
      let d : Derives g text named.body (spot_of s) (spot_of s) nothing.0 [] = subst (λ i. Derives g text named.body (spot_at i s.table) (spot_at i s.table) nothing.0 []) found.1.1.0 nothing.1.0 in
      known_leads p r named nothing.0 s e is there d (covered here.loose s.setting.loose nothing.0 found.1.1.1 nothing.1.1 (no_text d refl refl)) k

  rule_follows : (p r : ℕ) (named : Option declared.Rule) (s : State) → slice_get g.nodes p ≡ Some (form.Rule r) → slice_get g.rules r ≡ named → AreKnown g text s.known →
      Follows g text (node p) s (rule_turn r named s)
  rule_follows p r None s is there known = refuses (refuses_node (refusal.at_node is (refusal.no_rule there)))
  rule_follows p r (Some named) s is there known = follows_if g text (node p) s (is_known r s) _ _
      (λ h. λ e k. known_follows p r named s e is there known h k)
      (λ l. follows_if g text (node p) s (is_entered r s.entered) _ _
      (λ h. refuses (refuses_node (refusal.at_node is (refusal.again (found_entered r s.entered h)))))
      (λ h. λ e k. rule_leads s.setting p r s.place (length s.forest) (length s.rest) named s.tasks s.entered (spot_of s) s.forest s.rest e is there (not_entered r s.entered h) k))

  -- ---- forms around a part

  same_rest : (k : ℕ) (t u : Table) (ds : List Operator) → added_from k t ds ≡ whole u → (u.reserved ≡ t.reserved) × (u.most ≡ t.most)
  same_rest k t u [] e = let same : t ≡ u = cc in (sym (ap (λ (x : Table). x.reserved) same), sym (ap (λ (x : Table). x.most) same))
  same_rest k t u (d ∷ ds) e = go (admit_fault t d) e (same_rest (suc k) (with_operator t d) u ds)
    where
      go : (fault : Option AdmitFault) → added_unless fault k (added_from (suc k) (with_operator t d) ds) ≡ whole u →
          (added_from (suc k) (with_operator t d) ds ≡ whole u → (u.reserved ≡ t.reserved) × (u.most ≡ t.most)) → (u.reserved ≡ t.reserved) × (u.most ≡ t.most)
      go None e more = more e
      go (Some fault) e more = absurd cc

  given_back : (a b : Spot) → LeadsOn text a b → first_operators (length a.table.operators) b.table ≡ a.table
  given_back a b h =
      let rest = same_rest 0 a.table b.table h.further h.added in
      let cut : take (length a.table.operators) b.table.operators ≡ a.table.operators =
      ap (take (length a.table.operators)) h.after ∙ take-append_seam a.table.operators h.further in
      ap (λ os. let t : Table = record { operators = os; reserved = b.table.reserved; most = b.table.most } in t) cut
      ∙ ap (λ rs. let t : Table = record { operators = a.table.operators; reserved = rs; most = b.table.most } in t) rest.0
      ∙ ap (λ m. let t : Table = record { operators = a.table.operators; reserved = a.table.reserved; most = m } in t) rest.1

  table_closed : (k : Around) (a b : Spot) → LeadsOn text a b → closed_table k (length a.table.operators) b.table ≡ table_by k a.table b.table
  table_closed kind.Local a b h = given_back a b h
  table_closed kind.Try a b h = refl
  table_closed kind.Text a b h = refl
  table_closed kind.Skip a b h = refl
  table_closed (kind.Build used symbol) a b h = refl
  table_closed (kind.Label message) a b h = refl

  forest_closed : (k : Around) (l : Looseness) (from to : ℕ) (v w : List Tree) → closed_forest k l text from to (length v) (v ++ w) ≡ v ++ given_by k l text from to w
  forest_closed k l from to v w =
      ap (λ x. x ++ given_by k l text from to (drop (length v) (v ++ w))) (take-append_seam v w) ∙ ap (λ x. v ++ given_by k l text from to x) (drop-append_seam v w)

  around_leads : (ms : Setting) (p q count : ℕ) (k : Around) (ts : List OnTask) (entered : List ℕ) (a : Spot) (v : List Tree) (items : List TrailItem) (e : End) → slice_get g.nodes p ≡ Some (form.Around k q) →
      Leads g text (loosened (inside_form k ms.loose) ms) (node q ∷ close k p a.place (length v) (length a.table.operators) count ms.loose ∷ ts) entered a v items e → Leads g text ms (node p ∷ ts) entered a v items e
  around_leads ms p q count k ts entered a v items e is (refuses (refuses_node h)) = refuses (refuses_node (refusal.at_node is (refusal.around h)))
  around_leads ms p q count k ts entered a v items e is (does (does_node d i) (refuses h)) = elim h [ ]
  around_leads ms p q count k ts entered a v items e is (does {b = b} {u = u} (does_node {w = w} {x = x} d h) (does {items = rest} does_close m)) =
      does (does_node (derives.at_node is (derives.around d)) (alike_given k ms.loose text a.place b.place x w h))
      (subst (λ y. Leads g text ms ts (still_entered a b u entered) (left_by k a b) y rest e) (forest_closed k ms.loose a.place b.place v x)
      (subst (λ t. Leads g text ms ts (still_entered a b u entered) (spot_at b.place t) (closed_forest k ms.loose text a.place b.place (length v) (v ++ x)) rest e) (table_closed k a b (leads_on d)) m))

  -- an empty leaf
  blank_leads : (p : ℕ) (s : State) (e : End) → Derives g text p (spot_of s) (spot_of s) (leaf_of [] ∷ []) [] →
      Leads g text s.setting s.tasks s.entered (spot_of s) (s.forest ++ leaf_of [] ∷ []) s.rest e → TaskLeads g text (node p) s e
  blank_leads p s e d k = does (does_node d (alike_same s.setting.loose (leaf_of [] ∷ []) (leaf_of [] ∷ []) refl))
      (subst (λ x. Leads g text s.setting s.tasks x (spot_of s) (s.forest ++ leaf_of [] ∷ []) s.rest e) (sym (still_here (spot_of s) s.entered)) k)

  here_blank : (p i : ℕ) (blank : List (Option ℕ)) (x : Option (Option ℕ)) → slice_get blank p ≡ x → is_place i x ≡ true → slice_get blank p ≡ Some (Some i)
  here_blank p i blank None e h = absurd cc
  here_blank p i blank (Some None) e h = absurd cc
  here_blank p i blank (Some (Some j)) e h = e ∙ ap (λ k. Some (Some k)) (eqb-true j i h)

  around_follows : (p q : ℕ) (k : Around) (s : State) → slice_get g.nodes p ≡ Some (form.Around k q) → AreBlank g text s.blank → Follows g text (node p) s (around_turn k p q s)
  around_follows p q k s is blank = follows_if g text (node p) s (is_place s.place (slice_get s.blank p)) _ _
      (λ h. λ e m. blank_leads p s e (blank p s.place (here_blank p s.place s.blank (slice_get s.blank p) refl h) s.table) m)
      (λ h. λ e m. around_leads s.setting p q (length s.rest) k s.tasks s.entered (spot_of s) s.forest s.rest e is m)

  -- ---- forms

  pub form_follows : (p : ℕ) (n : Node) (s : State) → slice_get g.nodes p ≡ Some n → IsProper s.table → IsSo g text s.known s.blank → Follows g text (node p) s (form_turn g text p n s)
  form_follows p (form.Leaf l) s is proper known = leaf_follows g text p s l is
  form_follows p (form.Seq ps) s is proper known = λ e k. seq_leads s.setting p ps s.tasks s.entered (spot_of s) s.forest s.rest e is k
  form_follows p (form.Choice ps) s is proper known = choice_follows p ps s.rest s is refl
  form_follows p (form.Many q) s is proper known = many_follows p q s.rest s is refl
  form_follows p (form.Chain side used q r) s is proper known = chain_follows g text p (record { side = side; used = used; part = q; separator = r }) s.rest s is refl
  form_follows p (form.Rule r) s is proper known = rule_follows p r (slice_get g.rules r) s is refl known.0
  form_follows p (form.Expression builders q) s is proper known = expression_follows g text builders p q s.rest s is refl proper
  form_follows p (form.Around k q) s is proper known = around_follows p q k s is known.1

  node_follows : (p : ℕ) (n : Option Node) (s : State) → slice_get g.nodes p ≡ n → IsProper s.table → IsSo g text s.known s.blank → Follows g text (node p) s (node_turn g text p n s)
  node_follows p None s is proper known = refuses (refuses_node (refusal.no_node is))
  node_follows p (Some n) s is proper known = form_follows p n s is proper known

  -- a term of an expression
  term_more : (p : ℕ) (loose : Looseness) (ts : List OnTask) (ms : Setting) (entered : List ℕ) (a : Spot) (v : List Tree) (items : List TrailItem) (e : End) →
      Leads g text (loosened loose (under_marks (length v ∷ ms.marks) ms)) (node p ∷ ts) entered a v items e → Leads g text ms (marked p loose ∷ ts) entered a v items e
  term_more p loose ts ms entered a v items e (refuses (refuses_node h)) = refuses (refuses_term h)
  term_more p loose ts ms entered a v items e (does (does_node d h) k) = does (does_term d h) k

  pub task_follows : (t : OnTask) (s : State) → IsProper s.table → IsSo g text s.known s.blank → Follows g text t s (turn g text t s)
  task_follows (node p) s proper known = node_follows p (slice_get g.nodes p) s refl proper known
  task_follows (parts ps) s proper known = parts_follow ps s
  task_follows (rounds p n) s proper known = rounds_follow p n s
  task_follows (more_rounds p n place trees count) s proper known = more_follow p n place trees count s
  task_follows (links c n trees) s proper known = links_follow g text c n trees s
  task_follows (operand c n trees from) s proper known = operand_follows g text c n trees from s
  task_follows (linked c n trees later from) s proper known = linked_follows g text c n trees later from s
  task_follows (settle loose) s proper known = λ e h. does does_settle h
  task_follows (fold used trees) s proper known = λ e h. does does_fold h
  task_follows (close k p from trees operators count loose) s proper known = λ e h. does does_close h
  task_follows (marked p loose) s proper known = λ e k. term_more p loose s.tasks s.setting s.entered (spot_of s) s.forest s.rest e k
  task_follows (operator_symbol o) s proper known = symbol_follows g text o s
  task_follows (application builders o) s proper known = λ e h. does does_application h
  task_follows unmark s proper known = λ e h. does does_unmark h
  task_follows (leave r place trees count) s proper known = λ e h. does does_leave h
