-- A trail along which a derivation goes stops nowhere in it.
use Rattle.std.proofs.Common.{◌≡◌, ◌≤◌, ◌+◌, ◌==◌, ℕ, zero, suc, Bool, true, false, List, [], ◌∷◌, ◌++◌, refl, sym, ap, subst, ◌∙◌, eqb-true, arith, append_assoc, if◌then◌else◌}
use Rattle.std.specs.Prelude.{Some, slice_get}
use Rattle.pg_tree.specs.Trees.{Tree}
use Rattle.pg_grammar_form.specs.Forms.{Node}
use Rattle.pg_grammar_form.specs.declared.operators_item.OperatorsItem.{OperatorsItem}
use Rattle.pg_grammar_form.specs.declared.used.OperatorBuilders.{OperatorBuilders}
use Rattle.pg_grammar_value.specs.Grammar.{Grammar}
use Rattle.pg_grammar_value.specs.declared.grammar.Rule as declared
use Rattle.pg_grammar_value.specs.declared.trail.TrailItem.{TrailItem}
use Rattle.pg_table.specs.Fitting.{Expression}
use Rattle.pg_table.specs.Trails.{operators_read}
use Rattle.pg_language.specs.Runs.{IsOperatorAt}
use Rattle.pg_language.specs.Derives.{Spot, at, Link}
use Rattle.pg_language.specs.Onward.{LeadsOn}
use Rattle.pg_language.proofs.Onward.{leads_on, expression_on, joins}
use Rattle.pg_trail_replay.specs.Refusals as refusal
use Rattle.pg_trail_replay.specs.Refusals.{Stop, if_no_item, still_entered, Refuses, RefusesForm, RefusesParts, RefusesRounds, RefusesLinks, RefusesExpression}
use Rattle.pg_trail_replay.proofs.ProperTables.{IsProper}
use Rattle.pg_trail_replay.proofs.SameReads.{not_unread}
use Rattle.pg_trail_replay.proofs.SameDerivation.{same, same_expression, same_rest, proper_on, one_tree, one_end}
use Rattle.pg_trail_replay.proofs.Sized as sized
use Rattle.pg_trail_replay.proofs.Sized.{Sized, SizedForm, SizedParts, SizedRounds, SizedLinks, SizedExpression, sized as with_size, sized_expression, plain, plain_expression}

-- ---- rules that are open

-- the rule's body is derived from here along these items, and is no smaller than this
pub record IsOpen (g : Grammar) (text : List ℕ) (m r : ℕ) (a : Spot) (items : List TrailItem) : Type 0 where
  pub named : declared.Rule
  pub there : slice_get g.rules r ≡ Some named
  pub size : ℕ
  pub larger : m ≤ size
  pub end : Spot
  pub forest : List Tree
  pub trail : List TrailItem
  pub rest : List TrailItem
  pub derived : Sized g text size named.body a end forest trail
  pub taken : items ≡ trail ++ rest

-- each of these is
abbrev pub AreOpen : Grammar → List ℕ → ℕ → List ℕ → Spot → List TrailItem → Type 0
AreOpen g text m entered a items = (k r : ℕ) → slice_get entered k ≡ Some r → IsOpen g text m r a items

pub none_open : (g : Grammar) (text : List ℕ) (m : ℕ) (a : Spot) (items : List TrailItem) → AreOpen g text m [] a items
none_open g text m a items k r e = absurd cc

pub smaller_open : (g : Grammar) (text : List ℕ) (m n : ℕ) (entered : List ℕ) (a : Spot) (items : List TrailItem) → n ≤ m → AreOpen g text m entered a items → AreOpen g text n entered a items
smaller_open g text m n entered a items less h k r e =
    let x = h k r e in
    let larger = x.larger in
    record { named = x.named; there = x.there; size = x.size; larger = omega arith; end = x.end; forest = x.forest; trail = x.trail; rest = x.rest; derived = x.derived; taken = x.taken }

-- one rule more
more_open : (g : Grammar) (text : List ℕ) (m q : ℕ) (entered : List ℕ) (a : Spot) (items : List TrailItem) → IsOpen g text m q a items → AreOpen g text m entered a items → AreOpen g text m (q ∷ entered) a items
more_open g text m q entered a items x h zero r e = subst (λ r. IsOpen g text m r a items) (let one : q ≡ r = cc in one) x
more_open g text m q entered a items x h (suc k) r e = h k r e

-- where nothing was taken they still are
still_open : (g : Grammar) (text : List ℕ) (m : ℕ) (entered : List ℕ) (a b : Spot) (trail items : List TrailItem) → LeadsOn text a b → AreOpen g text m entered a (trail ++ items) →
    AreOpen g text m (still_entered a b trail entered) b items
still_open g text m entered a b trail items on h = go (a.place == b.place) refl trail h
  where
    go : (q : Bool) → (a.place == b.place) ≡ q → (trail : List TrailItem) → AreOpen g text m entered a (trail ++ items) →
        AreOpen g text m (if q then if_no_item trail entered else []) b items
    go true e [] h = subst (λ b. AreOpen g text m entered b items) (on.still (eqb-true a.place b.place e)) h
    go true e (i ∷ trail) h = none_open g text m b items
    go false e trail h = none_open g text m b items

-- ---- nodes

mutual
  pub not_refused : {g : Grammar} {text : List ℕ} {m p : ℕ} {a b : Spot} {v : List Tree} {u : List TrailItem} (r items : List TrailItem) (entered : List ℕ) (s : Stop) → IsProper a.table →
      Sized g text m p a b v u → Refuses g text entered p a items s → items ≡ u ++ r → AreOpen g text m entered a items → ⊥
  not_refused {g} {text} {a = a} r items entered s proper (sized.at_node {n = f} is d) (refusal.at_node {n = h} has x) e o =
      let one : h ≡ f = cc in not_refused_form r items entered s proper d (subst (λ (f : Node). RefusesForm g text entered f a items s) one x) e o
  not_refused r items entered s proper (sized.at_node is d) (refusal.no_node none) e o = cc

  not_refused_form : {g : Grammar} {text : List ℕ} {m : ℕ} {f : Node} {a b : Spot} {v : List Tree} {u : List TrailItem} (r items : List TrailItem) (entered : List ℕ) (s : Stop) → IsProper a.table →
      SizedForm g text m f a b v u → RefusesForm g text entered f a items s → items ≡ u ++ r → AreOpen g text (suc m) entered a items → ⊥
  not_refused_form r items entered s proper (sized.leaf x) (refusal.leaf y) e o = not_unread x y
  not_refused_form {g} {text} {m} {a = a} r items entered s proper (sized.seq d) (refusal.seq x) e o =
      not_refused_parts r items entered s proper d x e (smaller_open g text (suc m) m entered a items (omega arith) o)
  not_refused_form r items entered s proper (sized.choice {k = k} {p = p} {trail = t} got d) (refusal.no_choice none) e o = none k p (t ++ r) e got
  not_refused_form {g} {text} {m} {a = a} r all entered s proper (sized.choice {k = i} {p = p} {trail = t} got d) (refusal.choice {k = j} {p = q} {items = items} has x) e o =
      let number : j ≡ i = cc in
      let one : q ≡ p = cc in
      not_refused r items [] s proper d (subst (λ p. Refuses g text [] p a items s) one x) (let tail : items ≡ t ++ r = cc in tail) (none_open g text m a items)
  not_refused_form r items entered s proper (sized.many {n = n} {trail = t} d) (refusal.no_count none) e o = none n (t ++ r) e
  not_refused_form {g} {text} {m} {a = a} r all entered s proper (sized.many {p = p} {n = i} {trail = t} d) (refusal.many {n = j} {items = items} x) e o =
      let number : j ≡ i = cc in
      not_refused_rounds r items [] s proper d (subst (λ i. RefusesRounds g text [] p i a items s) number x) (let tail : items ≡ t ++ r = cc in tail) (none_open g text m a items)
  not_refused_form r items entered s proper (sized.chain {n = n} {trail = t} {items = i} d ds) (refusal.no_links none) e o = none n ((t ++ i) ++ r) e
  not_refused_form {g} {text} {a = a} r all entered s proper (sized.chain {m = m} {trail = t} {items = i} d ds) (refusal.operand {items = items} x) e o =
      let tail : items ≡ (t ++ i) ++ r = cc in
      not_refused (i ++ r) items [] s proper d x (tail ∙ append_assoc t i r) (none_open g text m a items)
  not_refused_form {g} {text} {a = a} r all entered s proper (sized.chain {l = l} {p = p} {s = q} {n = n} {b = b} {trail = t} {items = i} d ds)
      (refusal.links {n = k} {b = c} {trail = u} {items = items} f x) e o =
      let number : k ≡ n = cc in
      let tail : u ++ items ≡ (t ++ i) ++ r = cc in
      let parts : t ++ (i ++ r) ≡ u ++ items = sym (tail ∙ append_assoc t i r) in
      let first = same (i ++ r) items proper d (with_size f).1 parts in
      not_refused_links r items [] s (proper_on text a b (leads_on (plain d)) proper) ds
      (subst (λ n. RefusesLinks g text [] p q n b items s) number (subst (λ b. RefusesLinks g text [] p q k b items s) (sym first.spots) x))
      (sym (same_rest t u (i ++ r) items first.trails parts)) (none_open g text l b items)
  not_refused_form {g} {text} {m} {a = a} r items entered s proper (sized.rule {r = q} {named = named} {trail = t} is d) (refusal.again entry) e o =
      let x = o entry.0 q entry.1 in
      let there = x.there in
      let one : x.named ≡ named = cc in
      let other = same r x.rest proper d (subst (λ (named : declared.Rule). Sized g text x.size named.body a x.end x.forest x.trail) one x.derived) (sym e ∙ x.taken) in
      let sizes = other.sizes in
      let larger = x.larger in
      omega arith
  not_refused_form r items entered s proper (sized.rule is d) (refusal.no_rule none) e o = cc
  not_refused_form {g} {text} {m} {a = a} {b = b} {v = v} r items entered s proper (sized.rule {r = q} {named = named} {trail = t} is d) (refusal.rule {named = other} new has x) e o =
      let one : other ≡ named = cc in
      not_refused r items (q ∷ entered) s proper d (subst (λ (named : declared.Rule). Refuses g text (q ∷ entered) named.body a items s) one x) e
      (more_open g text m q entered a items
      (record { named = named; there = is; size = m; larger = omega arith; end = b; forest = v; trail = t; rest = r; derived = d; taken = e })
      (smaller_open g text (suc m) m entered a items (omega arith) o))
  not_refused_form r items entered s proper (sized.expression is fit d) (refusal.no_operators none) e o = cc
  not_refused_form r items entered s proper (sized.expression {x = x} {trail = t} is fit d) (refusal.no_tree none) e o = none x (t ++ r) fit e
  not_refused_form {g} {text} {m} {a = a} r all entered s proper (sized.expression {builders = builders} {item = item} {p = p} {x = x} {trail = t} is fit d)
      (refusal.expression {item = other} {x = y} {items = items} has fits z) e o =
      let one : other ≡ item = cc in
      let read : operators_read y ≡ operators_read x = cc in
      let tree = one_tree a.table y x proper fits fit read in
      not_refused_expression r items s proper d
      (subst (λ (x : Expression). RefusesExpression g text item builders p x a items s) tree (subst (λ (i : OperatorsItem). RefusesExpression g text i builders p y a items s) one z))
      (let tail : items ≡ t ++ r = cc in tail)
  not_refused_form {g} {text} {m} {a = a} r items entered s proper (sized.around d) (refusal.around x) e o =
      not_refused r items entered s proper d x e (smaller_open g text (suc m) m entered a items (omega arith) o)

  not_refused_parts : {g : Grammar} {text : List ℕ} {m : ℕ} {ps : List ℕ} {a b : Spot} {v : List Tree} {u : List TrailItem} (r items : List TrailItem) (entered : List ℕ) (s : Stop) → IsProper a.table →
      SizedParts g text m ps a b v u → RefusesParts g text entered ps a items s → items ≡ u ++ r → AreOpen g text m entered a items → ⊥
  not_refused_parts r items entered s proper sized.no_part x e o = elim x [ ]
  not_refused_parts {g} {text} {a = a} r items entered s proper (sized.first_part {m = m} {l = l} {trail = t} {items = i} d ds) (refusal.this_part x) e o =
      not_refused (i ++ r) items entered s proper d x (e ∙ append_assoc t i r) (smaller_open g text (m + l) m entered a items (omega arith) o)
  not_refused_parts {g} {text} {a = a} r all entered s proper (sized.first_part {m = m} {l = l} {parts = ps} {b = b} {trail = t} {items = i} d ds)
      (refusal.later_part {b = c} {trail = u} {items = items} f x) e o =
      let parts : t ++ (i ++ r) ≡ u ++ items = sym (e ∙ append_assoc t i r) in
      let first = same (i ++ r) items proper d (with_size f).1 parts in
      let on = leads_on f in
      not_refused_parts r items (still_entered a c u entered) s (proper_on text a b (leads_on (plain d)) proper) ds
      (subst (λ b. RefusesParts g text (still_entered a c u entered) ps b items s) (sym first.spots) x)
      (sym (same_rest t u (i ++ r) items first.trails parts))
      (subst (λ b. AreOpen g text l (still_entered a c u entered) b items) (sym first.spots)
      (still_open g text l entered a c u items on (smaller_open g text (m + l) l entered a (u ++ items) (omega arith) o)))

  not_refused_rounds : {g : Grammar} {text : List ℕ} {m p n : ℕ} {a b : Spot} {v : List Tree} {u : List TrailItem} (r items : List TrailItem) (entered : List ℕ) (s : Stop) → IsProper a.table →
      SizedRounds g text m p n a b v u → RefusesRounds g text entered p n a items s → items ≡ u ++ r → AreOpen g text m entered a items → ⊥
  not_refused_rounds r items entered s proper sized.no_round x e o = elim x [ ]
  not_refused_rounds {g} {text} {a = a} r items entered s proper (sized.first_round {m = m} {l = l} {trail = t} {items = i} d ds) (refusal.this_round x) e o =
      not_refused (i ++ r) items entered s proper d x (e ∙ append_assoc t i r) (smaller_open g text (m + l) m entered a items (omega arith) o)
  not_refused_rounds {g} {text} {p = p} {a = a} r all entered s proper (sized.first_round {m = m} {l = l} {n = n} {b = b} {trail = t} {items = i} d ds)
      (refusal.later_round {b = c} {trail = u} {items = items} f x) e o =
      let parts : t ++ (i ++ r) ≡ u ++ items = sym (e ∙ append_assoc t i r) in
      let first = same (i ++ r) items proper d (with_size f).1 parts in
      let on = leads_on f in
      not_refused_rounds r items (still_entered a c u entered) s (proper_on text a b (leads_on (plain d)) proper) ds
      (subst (λ b. RefusesRounds g text (still_entered a c u entered) p n b items s) (sym first.spots) x)
      (sym (same_rest t u (i ++ r) items first.trails parts))
      (subst (λ b. AreOpen g text l (still_entered a c u entered) b items) (sym first.spots)
      (still_open g text l entered a c u items on (smaller_open g text (m + l) l entered a (u ++ items) (omega arith) o)))

  not_refused_links : {g : Grammar} {text : List ℕ} {m p q n : ℕ} {a b : Spot} {ls : List Link} {u : List TrailItem} (r items : List TrailItem) (entered : List ℕ) (s : Stop) → IsProper a.table →
      SizedLinks g text m p q n a b ls u → RefusesLinks g text entered p q n a items s → items ≡ u ++ r → AreOpen g text m entered a items → ⊥
  not_refused_links r items entered s proper sized.no_link x e o = elim x [ ]
  not_refused_links {g} {text} {a = a} r items entered s proper (sized.first_link {m = m} {l = l} {k = k} {trail = t} {items = i} {others = j} d f ds) (refusal.this_separator x) e o =
      not_refused (i ++ (j ++ r)) items entered s proper d x (e ∙ append_assoc (t ++ i) j r ∙ append_assoc t i (j ++ r))
      (smaller_open g text (m + l + k) m entered a items (omega arith) o)
  not_refused_links {g} {text} {p = p} {a = a} r all entered s proper (sized.first_link {m = m} {l = l} {k = k} {b = b} {trail = t} {items = i} {others = j} d f ds)
      (refusal.this_operand {b = c} {trail = u} {items = items} z x) e o =
      let parts : t ++ (i ++ (j ++ r)) ≡ u ++ items = sym (e ∙ append_assoc (t ++ i) j r ∙ append_assoc t i (j ++ r)) in
      let first = same (i ++ (j ++ r)) items proper d (with_size z).1 parts in
      not_refused (j ++ r) items (still_entered a c u entered) s (proper_on text a b (leads_on (plain d)) proper) f
      (subst (λ b. Refuses g text (still_entered a c u entered) p b items s) (sym first.spots) x)
      (sym (same_rest t u (i ++ (j ++ r)) items first.trails parts))
      (subst (λ b. AreOpen g text l (still_entered a c u entered) b items) (sym first.spots)
      (still_open g text l entered a c u items (leads_on z) (smaller_open g text (m + l + k) l entered a (u ++ items) (omega arith) o)))
  not_refused_links {g} {text} {p = p} {q = q} {a = a} r all entered s proper (sized.first_link {m = m} {l = l} {k = k} {n = n} {b = b} {c = c} {trail = t} {items = i} {others = j} d f ds)
      (refusal.later_link {b = y} {c = z} {operand = forest} {trail = u} {others = w} {items = items} one two x) e o =
      let whole : (t ++ i) ++ (j ++ r) ≡ (u ++ w) ++ items = sym (e ∙ append_assoc (t ++ i) j r) in
      let parts : t ++ (i ++ (j ++ r)) ≡ u ++ (w ++ items) = sym (append_assoc t i (j ++ r)) ∙ whole ∙ append_assoc u w items in
      let first = same (i ++ (j ++ r)) (w ++ items) proper d (with_size one).1 parts in
      let at_b = proper_on text a b (leads_on (plain d)) proper in
      let more = same_rest t u (i ++ (j ++ r)) (w ++ items) first.trails parts in
      let second = same (j ++ r) items at_b f (subst (λ b. Sized g text (with_size two).0 p b z forest w) (sym first.spots) (with_size two).1) more in
      not_refused_links r items (still_entered a z (u ++ w) entered) s (proper_on text b c (leads_on (plain f)) at_b) ds
      (subst (λ c. RefusesLinks g text (still_entered a z (u ++ w) entered) p q n c items s) (sym second.spots) x)
      (sym (same_rest i w (j ++ r) items second.trails more))
      (subst (λ c. AreOpen g text k (still_entered a z (u ++ w) entered) c items) (sym second.spots)
      (still_open g text k entered a z (u ++ w) items (joins text a y z (leads_on one) (leads_on two)) (smaller_open g text (m + l + k) k entered a (u ++ w ++ items) (omega arith) o)))

  not_refused_expression : {g : Grammar} {text : List ℕ} {m p : ℕ} {item : OperatorsItem} {builders : OperatorBuilders} {x : Expression} {a b : Spot} {v : List Tree} {u : List TrailItem}
      (r items : List TrailItem) (s : Stop) → IsProper a.table →
      SizedExpression g text m item builders p x a b v u → RefusesExpression g text item builders p x a items s → items ≡ u ++ r → ⊥
  not_refused_expression {g} {text} {m} {a = a} r items s proper (sized.a_term d) (refusal.in_term x) e = not_refused r items [] s proper d x e (none_open g text m a items)
  not_refused_expression r items s proper (sized.a_prefix {j = j} is d) (refusal.prefix_differs none) e = none j is
  not_refused_expression {g} {text} {p = p} {item = item} {builders = builders} {a = a} r items s proper (sized.a_prefix {o = o} {x = x} {j = i} is d) (refusal.in_prefixed {j = j} has z) e =
      let one = one_end g text item item o.symbol a.place a.place j i refl refl has is in
      not_refused_expression r items s proper d (subst (λ i. RefusesExpression g text item builders p x (at a i) items s) one z) e
  not_refused_expression r items s proper (sized.a_postfix d is) (refusal.in_postfixed x) e = not_refused_expression r items s proper d x e
  not_refused_expression {g} {text} {item = item} r all s proper (sized.a_postfix {o = o} {j = j} {trail = t} d is) (refusal.postfix_differs {b = c} {trail = u} {items = items} f none) e =
      let z = same_expression r items proper d (sized_expression f).1 (sym e) in
      none j (subst (λ (b : Spot). IsOperatorAt g text item o.symbol b.place j) z.spots is)
  not_refused_expression r items s proper (sized.an_infix {trail = t} {items = i} d is f) (refusal.in_left x) e = not_refused_expression (i ++ r) items s proper d x (e ∙ append_assoc t i r)
  not_refused_expression {g} {text} {item = item} r all s proper (sized.an_infix {o = o} {j = j} {trail = t} {items = i} d is f) (refusal.infix_differs {b = c} {trail = u} {items = items} h none) e =
      let z = same_expression (i ++ r) items proper d (sized_expression h).1 (sym (e ∙ append_assoc t i r)) in
      none j (subst (λ (b : Spot). IsOperatorAt g text item o.symbol b.place j) z.spots is)
  not_refused_expression {g} {text} {p = p} {item = item} {builders = builders} {a = a} r all s proper (sized.an_infix {o = o} {y = y} {j = j} {b = b} {trail = t} {items = i} d is f)
      (refusal.in_right {j = k} {b = c} {trail = u} {items = items} h has x) e =
      let parts : t ++ (i ++ r) ≡ u ++ items = sym (e ∙ append_assoc t i r) in
      let z = same_expression (i ++ r) items proper d (sized_expression h).1 parts in
      let place : c.place ≡ b.place = sym (ap (λ (s : Spot). s.place) z.spots) in
      let one = one_end g text item item o.symbol c.place b.place k j refl place has is in
      not_refused_expression r items s (proper_on text a b (expression_on (plain_expression d)) proper) f
      (subst (λ j. RefusesExpression g text item builders p y (at b j) items s) one (subst (λ b. RefusesExpression g text item builders p y (at b k) items s) (sym z.spots) x))
      (sym (same_rest t u (i ++ r) items z.trails parts))
