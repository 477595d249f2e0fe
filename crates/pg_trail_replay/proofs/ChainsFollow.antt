-- Chains: the operand, the rounds and the folds lead to what the chain does.
use Rattle.std.proofs.Common.{◌≡◌, ◌==◌, ◌≤◌, ◌-◌, ℕ, zero, suc, Bool, true, false, List, [], ◌∷◌, ◌++◌, refl, sym, ap, ◌∙◌, subst, eqb-true, length, append-nil, append_assoc, arith, if◌then◌else◌}
use Rattle.std.specs.Prelude.{Some, slice_get, ◌||◌}
use Rattle.pg_tree.specs.Trees.{Tree}
use Rattle.pg_tree.specs.declared.shape.Shape.{Shape}
use Rattle.pg_grammar_form.specs.declared.form.Form.TheVariants as form
use Rattle.pg_grammar_form.specs.declared.side.Side.{Side}
use Rattle.pg_grammar_form.specs.declared.side.Side.TheVariants.{Left, Right}
use Rattle.pg_grammar_value.specs.Grammar.{Grammar}
use Rattle.pg_grammar_value.specs.declared.trail.TrailItem.{TrailItem}
use Rattle.pg_grammar_value.specs.declared.trail.TrailItem.TheVariants.{Alt, Rounds, Ops}
use Rattle.pg_language.specs.Derives as derives
use Rattle.pg_language.specs.Derives.{Spot, Link, folded}
use Rattle.pg_language.proofs.Onward.{leads_on, links_onward}
use Rattle.pg_trail_replay.specs.Refusals as refusal
use Rattle.pg_trail_replay.specs.Refusals.{still_entered, RefusesLinks}
use Rattle.pg_trail_replay.specs.Tasks.{Chain, RoundStart, OnTask, node, links, operand, linked, settle, fold, Setting, loosened, Looseness, State, on, inside, inside_chain, is_text, is_still, is_unchanged, folded_after, with_links, chain_turn, links_turn, operand_turn, is_steady, is_idle, linked_turn}
use Rattle.pg_trail_replay.proofs.Alike.{Alike, AreIdle, AreAlike, no_round, one_round, idle_rounds, alike_idle, alike_folded}
use Rattle.pg_trail_replay.proofs.AnyTable.{no_items}
use Rattle.pg_trail_replay.proofs.ChainTrees.{chained, chained_from, chained_on, chained_idle, chained_folded}
use Rattle.pg_trail_replay.proofs.Items.{positive, no_count_at_end, no_count_for_choice, no_count_for_operators}
use Rattle.pg_trail_replay.proofs.Leads.{End, Leads, IsIdle, does, refuses, idle, idle_after, does_node, does_links, does_operand, does_linked, does_settle, does_fold, refuses_node, refuses_links, refuses_operand, refuses_after_operand, refuses_linked, spot_of, TaskLeads, Follows, follows_if, still_here, still_none, still_after_item, still_twice}
use Rattle.pg_trail_replay.proofs.LeftOut.{no_item_more, both, as_many, as_many_each, left_out}
use Rattle.pg_trail_replay.proofs.NoText.{no_text}

module _ (g : Grammar) (text : List ℕ) where
  -- ---- rounds

  -- a separator and an operand, and then the other rounds
  link_done : (ms : Setting) (c : Chain) (n trees : ℕ) (ts : List OnTask) (entered : List ℕ) (a b m d : Spot) (v w y : List Tree) (ls : List Link) (j l : List Tree) (js : List Link) (x t u rest : List TrailItem) (e : End) →
      derives.Derives g text c.separator a b w x → derives.Derives g text c.part b m y t → derives.DerivesLinks g text c.part c.separator n m d ls u →
      Alike ms.loose j w → Alike ms.loose l y → AreAlike c.used.shape ms.loose js ls →
      Leads g text ms ts (still_entered b d (t ++ u) (still_entered a b x entered)) d (chained_on c.side c.used.shape trees (v ++ j) l js) rest e →
      Leads g text ms (links c (suc n) trees ∷ ts) entered a v (x ++ ((t ++ u) ++ rest)) e
  link_done ms c n trees ts entered a b m d v w y ls j l js x t u rest e f h hs p q qs k =
      let items : x ++ t ++ u ++ rest ≡ x ++ ((t ++ u) ++ rest) = ap (λ z. z ++ rest) (append_assoc x t u) ∙ append_assoc x (t ++ u) rest in
      let closed : still_entered b d (t ++ u) (still_entered a b x entered) ≡ still_entered a d (x ++ t ++ u) entered =
      still_twice a b d x (t ++ u) entered (leads_on f).onward (further (leads_on h).onward (links_onward hs))
      ∙ ap (λ z. still_entered a d z entered) (sym (append_assoc x t u)) in
      subst (λ z. Leads g text ms (links c (suc n) trees ∷ ts) entered a v z e) items
      (does {t = links c (suc n) trees} (does_links {c = c} {n = suc n} {trees = trees} {v = v} {js = (j, l) ∷ js} {ls = (w, y) ∷ ls} (derives.first_link f h hs) (one_round p q qs))
      (subst (λ o. Leads g text ms ts o d (chained_on c.side c.used.shape trees (v ++ j) l js) rest e) closed k))
    where
      further : b.place ≤ m.place → m.place ≤ d.place → b.place ≤ d.place
      further p q = omega arith

  -- rounds that take nothing, as many as there are
  links_again : (l : Looseness) (c : Chain) (n : ℕ) (a : Spot) (w y : List Tree) → derives.Derives g text c.separator a a w [] → derives.Derives g text c.part a a y [] → Alike l [] w → Alike l [] y →
      (ls : List Link) × (derives.DerivesLinks g text c.part c.separator n a a ls [] × AreIdle l ls)
  links_again l c zero a w y d f h k = ([], (derives.no_link, tt))
  links_again l c (suc n) a w y d f h k = let more = links_again l c n a w y d f h k in ((w, y) ∷ more.0, (derives.first_link d f more.1.0, ((h, k), more.1.1)))

  -- a round that took nothing and gave nothing that can't be left out, and the others at once
  links_over : (ms : Setting) (c : Chain) (n trees : ℕ) (ts : List OnTask) (entered : List ℕ) (a b m : Spot) (v w y j l : List Tree) (x t rest : List TrailItem) (e : End) →
      derives.Derives g text c.separator a b w x → derives.Derives g text c.part b m y t → Alike ms.loose j w → Alike ms.loose l y →
      IsIdle ms.loose c.used.shape (record { place = a.place; trees = length v; items = length (x ++ (t ++ rest)) }) m (v ++ j ++ l) rest →
      Leads g text ms ts (still_entered b m t (still_entered a b x entered)) m (folded_after c.used.shape trees (v ++ j ++ l)) rest e → Leads g text ms (links c (suc n) trees ∷ ts) entered a v (x ++ (t ++ rest)) e
  links_over ms c n trees ts entered a b m v w y j l x t rest e d f p q round k =
      let onward = (leads_on d).onward in
      let later = (leads_on f).onward in
      let place = round.place in
      let none = no_items x t (no_item_more (x ++ t) rest (ap length (append_assoc x t rest) ∙ round.counted)) in
      let second : b ≡ m = (leads_on f).still (omega arith) in
      let first : a ≡ b = (leads_on d).still (omega arith) in
      let between : derives.Derives g text c.separator m m w [] =
      subst (λ u. derives.Derives g text c.separator m m w u) none.0
      (subst (λ s. derives.Derives g text c.separator s m w x) (first ∙ second) (subst (λ s. derives.Derives g text c.separator a s w x) second d)) in
      let after : derives.Derives g text c.part m m y [] =
      subst (λ u. derives.Derives g text c.part m m y u) none.1 (subst (λ s. derives.Derives g text c.part s m y t) second f) in
      let many = as_many_each ms.loose v j l round.many in
      let no_separator = left_out ms.loose v j w p many.0 (no_text between refl refl) in
      let no_operand = left_out ms.loose (v ++ j) l y q many.1 (no_text after refl refl) in
      let more = links_again ms.loose c n m w y between after no_separator no_operand in
      let items : ((x ++ t) ++ []) ++ rest ≡ x ++ (t ++ rest) = ap (λ z. z ++ rest) (append-nil (x ++ t)) ∙ append_assoc x t rest in
      let closed : still_entered b m t (still_entered a b x entered) ≡ still_entered a m ((x ++ t) ++ []) entered =
      still_twice a b m x t entered onward later ∙ ap (λ z. still_entered a m z entered) (sym (append-nil (x ++ t))) in
      subst (λ z. Leads g text ms (links c (suc n) trees ∷ ts) entered a v z e) items
      (does {t = links c (suc n) trees} (does_links {c = c} {n = suc n} {trees = trees} {v = v} {js = (j, l) ∷ []} {ls = (w, y) ∷ more.0} (derives.first_link {links = more.0} d f more.1.0)
      (idle_rounds {ls = more.0} round.steady p q ((no_separator, no_operand), more.1.1)))
      (subst (λ o. Leads g text ms ts o m (chained c.side c.used.shape trees v ((j, l) ∷ [])) rest e) closed
      (subst (λ z. Leads g text ms ts (still_entered b m t (still_entered a b x entered)) m z rest e) (sym (chained_idle c.side c.used.shape trees v (j, l))) k)))

  link_more : (ms : Setting) (c : Chain) (n trees : ℕ) (ts : List OnTask) (entered : List ℕ) (a : Spot) (v : List Tree) (items : List TrailItem) (e : End) →
      Leads g text ms (node c.separator ∷ operand c n trees (record { place = a.place; trees = length v; items = length items }) ∷ ts) entered a v items e → Leads g text ms (links c (suc n) trees ∷ ts) entered a v items e
  link_more ms c n trees ts entered a v items e (refuses (refuses_node h)) = refuses (refuses_links (refusal.this_separator h))
  link_more ms c n trees ts entered a v items e (does (does_node d i) (refuses (refuses_operand h))) = refuses (refuses_links (refusal.this_operand d h))
  link_more ms c n trees ts entered a v items e (does {b = b} {u = x} (does_node d i) (refuses {s = s} (refuses_after_operand {b = m} {t = t} {items = rest} f h))) =
      subst (λ z. Leads g text ms (links c (suc n) trees ∷ ts) entered a v z e) (append_assoc x t rest)
      (refuses (refuses_links (refusal.later_link d f
      (subst (λ q. RefusesLinks g text q c.part c.separator n m rest s) (still_twice a b m x t entered (leads_on d).onward (leads_on f).onward) h))))
  link_more ms c n trees ts entered a v items e (does {b = b} {u = x} (does_node {w = w} {x = j} d p) (does {b = m} {items = rest} (does_operand {b = o} {w = y} {x = l} {js = js} {ls = ls} {t = t} {u = u} f q ds qs) k)) =
      link_done ms c n trees ts entered a b o m v w y ls j l js x t u rest e d f ds p q qs k
  link_more ms c n trees ts entered a v items e (does {b = b} {u = x} (does_node {w = w} {x = j} d p) (idle_after {b = m} {w = y} {x = l} {t = t} {items = rest} f q h k)) =
      links_over ms c n trees ts entered a b m v w y j l x t rest e d f p q h k

  pub links_follow : (c : Chain) (n trees : ℕ) (s : State) → Follows g text (links c n trees) s (links_turn c n trees s)
  links_follow c n trees s = follows_if g text (links c n trees) s (n == 0) _ _
      (λ h. λ e k. subst (λ m. TaskLeads g text (links c m trees) s e) (sym (eqb-true n 0 h))
      (does (does_links derives.no_link no_round) (subst (λ q. Leads g text s.setting s.tasks q (spot_of s) s.forest s.rest e) (sym (still_here (spot_of s) s.entered)) k)))
      (λ h. λ e k. subst (λ m. TaskLeads g text (links c m trees) s e) (sym (positive n h)) (link_more s.setting c (n - 1) trees s.tasks s.entered (spot_of s) s.forest s.rest e k))

  -- ---- operands

  -- the operand was derived, and so were the rounds after it
  operand_done : (ms : Setting) (c : Chain) (n trees : ℕ) (from : RoundStart) (ts : List OnTask) (entered : List ℕ) (a b d : Spot) (v w : List Tree) (ls : List Link) (l : List Tree) (js : List Link) (t u rest : List TrailItem) (e : End) →
      derives.Derives g text c.part a b w t → derives.DerivesLinks g text c.part c.separator n b d ls u → Alike ms.loose l w → AreAlike c.used.shape ms.loose js ls →
      Leads g text ms ts (still_entered b d u (still_entered a b t entered)) d (chained_on c.side c.used.shape trees v l js) rest e → Leads g text ms (operand c n trees from ∷ ts) entered a v (t ++ (u ++ rest)) e
  operand_done ms c n trees from ts entered a b d v w ls l js t u rest e f ds p ps k =
      subst (λ z. Leads g text ms (operand c n trees from ∷ ts) entered a v z e) (append_assoc t u rest)
      (does (does_operand f p ds ps)
      (subst (λ q. Leads g text ms ts q d (chained_on c.side c.used.shape trees v l js) rest e) (still_twice a b d t u entered (leads_on f).onward (links_onward ds)) k))

  operand_more : (ms : Setting) (c : Chain) (n trees : ℕ) (from : RoundStart) (ts : List OnTask) (entered : List ℕ) (a : Spot) (v : List Tree) (items : List TrailItem) (e : End) →
      Leads g text ms (node c.part ∷ linked c n trees (length v) from ∷ ts) entered a v items e → Leads g text ms (operand c n trees from ∷ ts) entered a v items e
  operand_more ms c n trees from ts entered a v items e (refuses (refuses_node h)) = refuses (refuses_operand h)
  operand_more ms c n trees from ts entered a v items e (does (does_node d i) (refuses (refuses_linked h))) = refuses (refuses_after_operand d h)
  operand_more ms c n trees from ts entered a v items e (does {b = b} {u = t} (does_node {w = w} {x = l} d p) (does {b = m} {u = u} {items = rest} (does_linked {js = js} {ls = ls} ds ps) k)) =
      operand_done ms c n trees from ts entered a b m v w ls l js t u rest e d ds p ps k
  operand_more ms c n trees from ts entered a v items e (does (does_node d p) (idle h k)) = idle_after d p h k

  pub operand_follows : (c : Chain) (n trees : ℕ) (from : RoundStart) (s : State) → Follows g text (operand c n trees from) s (operand_turn c n trees from s)
  operand_follows c n trees from s = λ e k. operand_more s.setting c n trees from s.tasks s.entered (spot_of s) s.forest s.rest e k

  -- ---- after operands

  linked_left : (ms : Setting) (c : Chain) (n trees later : ℕ) (from : RoundStart) (ts : List OnTask) (entered : List ℕ) (a : Spot) (v : List Tree) (items : List TrailItem) (e : End) → c.side ≡ Left →
      Leads g text ms (fold c.used trees ∷ links c n trees ∷ ts) entered a v items e → Leads g text ms (linked c n trees later from ∷ ts) entered a v items e
  linked_left ms c n trees later from ts entered a v items e is (refuses h) = elim h [ ]
  linked_left ms c n trees later from ts entered a v items e is (does does_fold (refuses (refuses_links h))) = refuses (refuses_linked h)
  linked_left ms c n trees later from ts entered a v items e is (does does_fold (does {b = m} {u = u} {items = rest} (does_links {js = js} {ls = ls} ds ps) k)) =
      does (does_linked ds ps) (subst (λ z. Leads g text ms ts (still_entered a m u entered) m z rest e) (shown c.side is) k)
    where
      shown : (side : Side) → side ≡ Left → chained side c.used.shape trees (folded_after c.used.shape trees v) js ≡ chained_from side c.used.shape trees later v js
      shown Left h = refl
      shown Right h = absurd cc

  linked_right : (ms : Setting) (c : Chain) (n trees later : ℕ) (from : RoundStart) (ts : List OnTask) (entered : List ℕ) (a : Spot) (v : List Tree) (items : List TrailItem) (e : End) → c.side ≡ Right →
      Leads g text ms (links c n later ∷ fold c.used trees ∷ ts) entered a v items e → Leads g text ms (linked c n trees later from ∷ ts) entered a v items e
  linked_right ms c n trees later from ts entered a v items e is (refuses (refuses_links h)) = refuses (refuses_linked h)
  linked_right ms c n trees later from ts entered a v items e is (does (does_links ds ps) (refuses h)) = elim h [ ]
  linked_right ms c n trees later from ts entered a v items e is (does {b = m} {u = u} (does_links {js = js} {ls = ls} ds ps) (does {items = rest} does_fold k)) =
      does (does_linked ds ps) (subst (λ z. Leads g text ms ts (still_entered a m u entered) m z rest e) (shown c.side is) k)
    where
      shown : (side : Side) → side ≡ Right → folded_after c.used.shape trees (chained side c.used.shape later v js) ≡ chained_from side c.used.shape trees later v js
      shown Left h = absurd cc
      shown Right h = refl

  linked_over : (ms : Setting) (c : Chain) (n trees later : ℕ) (from : RoundStart) (ts : List OnTask) (entered : List ℕ) (a : Spot) (v : List Tree) (items : List TrailItem) (e : End) → IsIdle ms.loose c.used.shape from a v items →
      Leads g text ms (fold c.used trees ∷ ts) entered a v items e → Leads g text ms (linked c n trees later from ∷ ts) entered a v items e
  linked_over ms c n trees later from ts entered a v items e h (refuses x) = elim x [ ]
  linked_over ms c n trees later from ts entered a v items e h (does does_fold k) = idle h k

  by_side : (side : Side) (c : Chain) (n trees later : ℕ) (from : RoundStart) (s : State) → c.side ≡ side → Follows g text (linked c n trees later from) s (on (with_links side c n trees later s))
  by_side Left c n trees later from s is = λ e k. linked_left s.setting c n trees later from s.tasks s.entered (spot_of s) s.forest s.rest e is k
  by_side Right c n trees later from s is = λ e k. linked_right s.setting c n trees later from s.tasks s.entered (spot_of s) s.forest s.rest e is k

  found_idle : (shape : Shape) (from : RoundStart) (s : State) → is_idle shape from s ≡ true → IsIdle s.setting.loose shape from (spot_of s) s.forest s.rest
  found_idle shape from s e =
      let parts = both (is_steady shape s.setting.loose) (is_unchanged from.place from.trees from.items s) e in
      let same = both (is_still from.place from.items s) ((from.trees == length s.forest) || is_text s.setting.loose) parts.1 in
      let still = both (from.place == s.place) (from.items == length s.rest) same.0 in
      record {
        steady = parts.0;
        place = eqb-true from.place s.place still.0;
        many = as_many s.setting.loose from.trees (length s.forest) same.1;
        counted = eqb-true from.items (length s.rest) still.1;
      }

  pub linked_follows : (c : Chain) (n trees later : ℕ) (from : RoundStart) (s : State) → Follows g text (linked c n trees later from) s (linked_turn c n trees later from s)
  linked_follows c n trees later from s = follows_if g text (linked c n trees later from) s (is_idle c.used.shape from s) _ _
      (λ h. λ e k. linked_over s.setting c n trees later from s.tasks s.entered (spot_of s) s.forest s.rest e (found_idle c.used.shape from s h) k)
      (λ h. by_side c.side c n trees later from s refl)

  -- ---- chains

  some_round : (c : Chain) (n : ℕ) (l : Looseness) → inside_chain c (suc n) l ≡ inside c.used.shape l
  some_round c n l = go (suc n == 0) refl
    where
      go : (b : Bool) → (suc n == 0) ≡ b → (if b then l else inside c.used.shape l) ≡ inside c.used.shape l
      go true e = let none : suc n ≡ 0 = eqb-true (suc n) 0 e in absurd (omega arith)
      go false e = refl

  -- what the chain makes of alike trees is alike
  alike_chain : (c : Chain) (loose : Looseness) (n : ℕ) (b m : Spot) (x w : List Tree) (js ls : List Link) (u : List TrailItem) → derives.DerivesLinks g text c.part c.separator n b m ls u →
      Alike (inside_chain c n loose) x w → AreAlike c.used.shape (inside_chain c n loose) js ls → Alike loose (folded c.side c.used.shape x js) (folded c.side c.used.shape w ls)
  alike_chain c loose zero b m x w js ls u derives.no_link h no_round = h
  alike_chain c loose (suc n) b m x w js ls u (derives.first_link f k ds) h (one_round {j = j} {l = l} {js = others} {ls = more} p q hs) =
      let some = some_round c n loose in
      alike_folded loose c.side c.used.shape x w j l (subst (λ d. Alike d x w) some h)
      (subst (λ d. Alike d j.0 l.0) some p) (subst (λ d. Alike d j.1 l.1) some q) (subst (λ d. AreAlike c.used.shape d others more) some hs)
  alike_chain c loose (suc n) b m x w js ls u (derives.first_link f k ds) h (idle_rounds {j = j} {l = l} {ls = more} s p q i) =
      let some = some_round c n loose in
      alike_idle loose c.side c.used.shape x w j l more (subst (λ d. is_steady c.used.shape d ≡ true) some s) (subst (λ d. Alike d x w) some h)
      (subst (λ d. Alike d j.0 l.0) some p) (subst (λ d. Alike d j.1 l.1) some q) (subst (λ d. AreIdle d (l ∷ more)) some i)

  chain_leads : (ms : Setting) (p n : ℕ) (c : Chain) (ts : List OnTask) (entered : List ℕ) (a : Spot) (v : List Tree) (items : List TrailItem) (e : End) → slice_get g.nodes p ≡ Some (form.Chain c.side c.used c.part c.separator) →
      Leads g text (loosened (inside_chain c n ms.loose) ms) (node c.part ∷ links c n (length v) ∷ settle ms.loose ∷ ts) [] a v items e → Leads g text ms (node p ∷ ts) entered a v (Rounds n ∷ items) e
  chain_leads ms p n c ts entered a v items e is (refuses (refuses_node h)) = refuses (refuses_node (refusal.at_node is (refusal.operand h)))
  chain_leads ms p n c ts entered a v items e is (does {b = b} {u = t} (does_node d i) (refuses {items = rest} {s = s} (refuses_links h))) =
      refuses (refuses_node (refusal.at_node is (refusal.links d (subst (λ o. RefusesLinks g text o c.part c.separator n b rest s) (still_none a b t) h))))
  chain_leads ms p n c ts entered a v items e is (does (does_node d i) (does (does_links ds is_alike) (refuses h))) = elim h [ ]
  chain_leads ms p n c ts entered a v items e is (does {b = b} {u = t} (does_node {w = w} {x = l} d h) (does {b = m} {u = u} (does_links {js = js} {ls = ls} ds hs) (does {items = rest} does_settle k))) =
      let closed : still_entered b m u (still_entered a b t []) ≡ still_entered a m (Rounds n ∷ (t ++ u)) entered =
      ap (still_entered b m u) (still_none a b t) ∙ still_none b m u ∙ sym (still_after_item a m (Rounds n) (t ++ u) entered) in
      subst (λ z. Leads g text ms (node p ∷ ts) entered a v (Rounds n ∷ z) e) (append_assoc t u rest)
      (does (does_node (derives.at_node is (derives.chain d ds)) (alike_chain c ms.loose n b m l w js ls u ds h hs))
      (subst (λ o. Leads g text ms ts o m (v ++ folded c.side c.used.shape l js) rest e) closed
      (subst (λ x. Leads g text ms ts (still_entered b m u (still_entered a b t [])) m x rest e) (chained_folded c.side c.used.shape v l js) k)))

  pub chain_follows : (p : ℕ) (c : Chain) (items : List TrailItem) (s : State) → slice_get g.nodes p ≡ Some (form.Chain c.side c.used c.part c.separator) → s.rest ≡ items →
      Follows g text (node p) s (chain_turn c items s)
  chain_follows p c [] s is e = refuses (refuses_node (refusal.at_node is (refusal.no_links (no_count_at_end s.rest e))))
  chain_follows p c (Alt k ∷ rest) s is e = refuses (refuses_node (refusal.at_node is (refusal.no_links (no_count_for_choice k s.rest rest e))))
  chain_follows p c (Rounds n ∷ rest) s is e = λ end k.
      subst (λ items. Leads g text s.setting (node p ∷ s.tasks) s.entered (spot_of s) s.forest items end) (sym e)
      (chain_leads s.setting p n c s.tasks s.entered (spot_of s) s.forest rest end is k)
  chain_follows p c (Ops o ∷ rest) s is e = refuses (refuses_node (refusal.at_node is (refusal.no_links (no_count_for_operators o s.rest rest e))))
