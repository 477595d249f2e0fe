-- Along one trail there is one derivation: where two take the items of one trail from one spot, they end at one spot, with one
-- forest, the same items and the same size.
use Rattle.std.proofs.Common.{◌≡◌, ◌+◌, ℕ, suc, List, [], ◌∷◌, ◌++◌, length, refl, sym, ap, subst, ◌∙◌, append_assoc}
use Rattle.std.specs.List.{AllByRecursion}
use Rattle.pg_tree.specs.Trees.{Tree}
use Rattle.pg_grammar_form.specs.Operators.{Operator, IsOperator}
use Rattle.pg_grammar_form.specs.Forms.{Node}
use Rattle.pg_grammar_form.specs.declared.operators_item.OperatorsItem.{OperatorsItem}
use Rattle.pg_grammar_form.specs.declared.used.OperatorBuilders.{OperatorBuilders}
use Rattle.pg_grammar_value.specs.Grammar.{Grammar}
use Rattle.pg_grammar_value.specs.declared.grammar.Rule as declared
use Rattle.pg_grammar_value.specs.declared.trail.TrailItem.{TrailItem}
use Rattle.pg_table.specs.Fitting.{Expression, IsFitting}
use Rattle.pg_table.specs.Trails.{operators_read}
use Rattle.pg_table.specs.Tables.{Table, whole, added_from, admit_fault, with_operator}
use Rattle.pg_expand.proofs.Levels.{from_member}
use Rattle.pg_expand.proofs.Symbols.{one_reading, added_whole}
use Rattle.pg_expand.proofs.OperatorsRead.{told_reading}
use Rattle.pg_language.specs.Runs.{past_run, IsOperatorAt}
use Rattle.pg_language.specs.Derives.{Spot, at, Link, folded, applied, made_by, left_by}
use Rattle.pg_language.specs.Onward.{LeadsOn}
use Rattle.pg_language.proofs.Onward.{leads_on, expression_on}
use Rattle.pg_trail_replay.proofs.ProperTables.{IsProper, proper_with}
use Rattle.pg_trail_replay.proofs.SameReads.{same_read}
use Rattle.pg_trail_replay.proofs.Sized as sized
use Rattle.pg_trail_replay.proofs.Sized.{Sized, SizedForm, SizedParts, SizedRounds, SizedLinks, SizedExpression, plain, plain_expression}

-- the same of two derivations
pub record Same (m n : ℕ) (b c : Spot) (v w : List Tree) (t u : List TrailItem) : Type 0 where
  pub sizes : m ≡ n
  pub spots : b ≡ c
  pub forests : v ≡ w
  pub trails : t ≡ u

-- the same of rounds of chains
record SameLinks (m n : ℕ) (b c : Spot) (k l : List Link) (t u : List TrailItem) : Type 0 where
  sizes : m ≡ n
  spots : b ≡ c
  links : k ≡ l
  trails : t ≡ u

-- what follows the same items is the same
pub same_rest : (t u r s : List TrailItem) → t ≡ u → t ++ r ≡ u ++ s → r ≡ s
same_rest t u r s e h = go t (h ∙ ap (λ x. x ++ s) (sym e))
  where
    go : (t : List TrailItem) → t ++ r ≡ t ++ s → r ≡ s
    go [] h = h
    go (i ∷ t) h = go t (let tail : t ++ r ≡ t ++ s = cc in tail)

pub regrouped : (t i r u j s : List TrailItem) → (t ++ i) ++ r ≡ (u ++ j) ++ s → t ++ (i ++ r) ≡ u ++ (j ++ s)
regrouped t i r u j s h = sym (append_assoc t i r) ∙ h ∙ append_assoc u j s

joined_trails : (t i u j : List TrailItem) → t ≡ u → i ≡ j → t ++ i ≡ u ++ j
joined_trails t i u j e h = ap (λ x. x ++ i) e ∙ ap (λ x. u ++ x) h

joined_forests : (v x w y : List Tree) → v ≡ w → x ≡ y → v ++ x ≡ w ++ y
joined_forests v x w y e h = ap (λ z. z ++ x) e ∙ ap (λ z. w ++ z) h

-- ---- tables

proper_added : (k : ℕ) (t u : Table) (ds : List Operator) → IsProper t → AllByRecursion IsOperator ds → added_from k t ds ≡ whole u → IsProper u
proper_added k t u [] h all e = subst IsProper (let same : t ≡ u = cc in same) h
proper_added k t u (d ∷ ds) h all e =
    let step = added_whole (admit_fault t d) k (added_from (suc k) (with_operator t d) ds) u e in
    proper_added (suc k) (with_operator t d) u ds (proper_with t d h step.0 all.0) all.1 step.1

pub proper_on : (text : List ℕ) (a b : Spot) → LeadsOn text a b → IsProper a.table → IsProper b.table
proper_on text a b h proper = proper_added 0 a.table b.table h.further proper h.proper h.added

-- ---- operators

pub one_tree : (table : Table) (x y : Expression) → IsProper table → IsFitting table.operators x → IsFitting table.operators y → operators_read x ≡ operators_read y → x ≡ y
one_tree table x y proper f h e =
    one_reading table.operators (λ o p m n side symbol. proper.told o p (from_member table.operators o m) (from_member table.operators p n) side symbol) x y f h (told_reading x y e)

pub one_end : (g : Grammar) (text : List ℕ) (item other : OperatorsItem) (symbol : List ℕ) (h i j k : ℕ) → item ≡ other → h ≡ i → IsOperatorAt g text item symbol h j → IsOperatorAt g text other symbol i k → j ≡ k
one_end g text item other symbol h i j k e p x y =
    x.past
    ∙ ap (λ z. past_run g text item.gap (z + length symbol)) p
    ∙ ap (λ (it : OperatorsItem). past_run g text it.gap (i + length symbol)) e
    ∙ sym y.past

same_link : (v w x y : List Tree) (ls ks : List Link) → v ≡ w → x ≡ y → ls ≡ ks → (let one : List Link = (v, x) ∷ ls in one) ≡ (w, y) ∷ ks
same_link v w x y ls ks e h k = cc

-- ---- derivations

mutual
  pub same : {g : Grammar} {text : List ℕ} {m n p : ℕ} {a b c : Spot} {v w : List Tree} {t u : List TrailItem} (r s : List TrailItem) → IsProper a.table →
      Sized g text m p a b v t → Sized g text n p a c w u → t ++ r ≡ u ++ s → Same m n b c v w t u
  same {g} {text} {a = a} r s proper (sized.at_node {n = f} is d) (sized.at_node {m = n} {n = h} {b = c} {forest = w} {trail = u} has e) k =
      let one : h ≡ f = cc in
      let z = same_form r s proper d (subst (λ (f : Node). SizedForm g text n f a c w u) one e) k in
      record { sizes = ap suc z.sizes; spots = z.spots; forests = z.forests; trails = z.trails }

  same_form : {g : Grammar} {text : List ℕ} {m n : ℕ} {f : Node} {a b c : Spot} {v w : List Tree} {t u : List TrailItem} (r s : List TrailItem) → IsProper a.table →
      SizedForm g text m f a b v t → SizedForm g text n f a c w u → t ++ r ≡ u ++ s → Same m n b c v w t u
  same_form r s proper (sized.leaf x) (sized.leaf y) k = let z = same_read x y in record { sizes = refl; spots = z.spots; forests = z.forests; trails = refl }
  same_form r s proper (sized.seq d) (sized.seq e) k = same_parts r s proper d e k
  same_form {g} {text} {a = a} r s proper (sized.choice {k = i} {p = p} {trail = t} got d) (sized.choice {m = n} {k = j} {p = q} {b = c} {forest = w} {trail = u} has e) k =
      let number : i ≡ j = cc in
      let one : q ≡ p = cc in
      let z = same r s proper d (subst (λ p. Sized g text n p a c w u) one e) (let tail : t ++ r ≡ u ++ s = cc in tail) in
      let trails = z.trails in
      record { sizes = z.sizes; spots = z.spots; forests = z.forests; trails = cc }
  same_form {g} {text} {a = a} r s proper (sized.many {p = p} {n = i} {trail = t} d) (sized.many {m = n} {n = j} {b = c} {forest = w} {trail = u} e) k =
      let number : j ≡ i = cc in
      let z = same_rounds r s proper d (subst (λ i. SizedRounds g text n p i a c w u) number e) (let tail : t ++ r ≡ u ++ s = cc in tail) in
      let trails = z.trails in
      record { sizes = z.sizes; spots = z.spots; forests = z.forests; trails = cc }
  same_form {g} {text} {a = a} r s proper (sized.chain {l = l} {side = side} {used = used} {p = p} {s = q} {n = i} {b = b} {first = v} {links = ls} {trail = t} {items = x} d ds)
      (sized.chain {m = h} {l = o} {n = j} {b = c} {c = z} {first = w} {links = ks} {trail = u} {items = y} e es) k =
      let number : j ≡ i = cc in
      let tail : (t ++ x) ++ r ≡ (u ++ y) ++ s = cc in
      let parts = regrouped t x r u y s tail in
      let first = same (x ++ r) (y ++ s) proper d e parts in
      let rest = same_links r s (proper_on text a b (leads_on (plain d)) proper) ds
      (subst (λ i. SizedLinks g text o p q i b z ks y) number (subst (λ b. SizedLinks g text o p q j b z ks y) (sym first.spots) es))
      (same_rest t u (x ++ r) (y ++ s) first.trails parts) in
      let trails = joined_trails t x u y first.trails rest.trails in
      record {
        sizes = ap (λ m. m + l) first.sizes ∙ ap (λ m. h + m) rest.sizes;
        spots = rest.spots;
        forests = ap (λ v. folded side used.shape v ls) first.forests ∙ ap (folded side used.shape w) rest.links;
        trails = cc;
      }
  same_form {g} {text} {a = a} r s proper (sized.rule {named = named} is d) (sized.rule {m = n} {named = other} {b = c} {forest = w} {trail = u} has e) k =
      let one : other ≡ named = cc in
      same r s proper d (subst (λ (named : declared.Rule). Sized g text n named.body a c w u) one e) k
  same_form {g} {text} {a = a} r s proper (sized.expression {builders = builders} {item = item} {p = p} {x = x} {trail = t} is fit d)
      (sized.expression {m = n} {item = other} {x = y} {b = c} {forest = w} {trail = u} has fits e) k =
      let items : other ≡ item = cc in
      let read : operators_read y ≡ operators_read x = cc in
      let one = one_tree a.table y x proper fits fit read in
      let z = same_expression r s proper d
      (subst (λ (x : Expression). SizedExpression g text n item builders p x a c w u) one (subst (λ (i : OperatorsItem). SizedExpression g text n i builders p y a c w u) items e))
      (let tail : t ++ r ≡ u ++ s = cc in tail) in
      let trails = z.trails in
      record { sizes = z.sizes; spots = z.spots; forests = z.forests; trails = cc }
  same_form {g} {text} {a = a} r s proper (sized.around {k = around} {b = b} {forest = v} d) (sized.around {b = c} {forest = w} e) k =
      let z = same r s proper d e k in
      record {
        sizes = z.sizes;
        spots = ap (left_by around a) z.spots;
        forests = ap (made_by around text a.place b.place) z.forests ∙ ap (λ (b : Spot). made_by around text a.place b.place w) z.spots;
        trails = z.trails;
      }

  same_parts : {g : Grammar} {text : List ℕ} {m n : ℕ} {ps : List ℕ} {a b c : Spot} {v w : List Tree} {t u : List TrailItem} (r s : List TrailItem) → IsProper a.table →
      SizedParts g text m ps a b v t → SizedParts g text n ps a c w u → t ++ r ≡ u ++ s → Same m n b c v w t u
  same_parts r s proper sized.no_part sized.no_part k = record { sizes = refl; spots = refl; forests = refl; trails = refl }
  same_parts {g} {text} {a = a} r s proper (sized.first_part {l = l} {parts = ps} {b = b} {forest = v} {others = y} {trail = t} {items = i} d ds)
      (sized.first_part {m = m} {l = o} {b = c} {c = z} {forest = w} {others = x} {trail = u} {items = j} e es) k =
      let parts = regrouped t i r u j s k in
      let first = same (i ++ r) (j ++ s) proper d e parts in
      let rest = same_parts r s (proper_on text a b (leads_on (plain d)) proper) ds (subst (λ b. SizedParts g text o ps b z x j) (sym first.spots) es)
      (same_rest t u (i ++ r) (j ++ s) first.trails parts) in
      record {
        sizes = ap (λ k. k + l) first.sizes ∙ ap (λ k. m + k) rest.sizes;
        spots = rest.spots;
        forests = joined_forests v y w x first.forests rest.forests;
        trails = joined_trails t i u j first.trails rest.trails;
      }

  same_rounds : {g : Grammar} {text : List ℕ} {m n p k : ℕ} {a b c : Spot} {v w : List Tree} {t u : List TrailItem} (r s : List TrailItem) → IsProper a.table →
      SizedRounds g text m p k a b v t → SizedRounds g text n p k a c w u → t ++ r ≡ u ++ s → Same m n b c v w t u
  same_rounds r s proper sized.no_round sized.no_round k = record { sizes = refl; spots = refl; forests = refl; trails = refl }
  same_rounds {g} {text} {p = p} {a = a} r s proper (sized.first_round {l = l} {n = n} {b = b} {forest = v} {others = y} {trail = t} {items = i} d ds)
      (sized.first_round {m = m} {l = o} {b = c} {c = z} {forest = w} {others = x} {trail = u} {items = j} e es) k =
      let parts = regrouped t i r u j s k in
      let first = same (i ++ r) (j ++ s) proper d e parts in
      let rest = same_rounds r s (proper_on text a b (leads_on (plain d)) proper) ds (subst (λ b. SizedRounds g text o p n b z x j) (sym first.spots) es)
      (same_rest t u (i ++ r) (j ++ s) first.trails parts) in
      record {
        sizes = ap (λ k. k + l) first.sizes ∙ ap (λ k. m + k) rest.sizes;
        spots = rest.spots;
        forests = joined_forests v y w x first.forests rest.forests;
        trails = joined_trails t i u j first.trails rest.trails;
      }

  same_links : {g : Grammar} {text : List ℕ} {m n p q k : ℕ} {a b c : Spot} {ls ks : List Link} {t u : List TrailItem} (r s : List TrailItem) → IsProper a.table →
      SizedLinks g text m p q k a b ls t → SizedLinks g text n p q k a c ks u → t ++ r ≡ u ++ s → SameLinks m n b c ls ks t u
  same_links r s proper sized.no_link sized.no_link k = record { sizes = refl; spots = refl; links = refl; trails = refl }
  same_links {g} {text} {p = p} {q = q} {a = a} r s proper (sized.first_link {m = m} {l = l} {k = h} {n = n} {b = b} {c = c} {separator = v} {operand = w} {links = ls} {trail = t} {items = i} {others = x} d f ds)
      (sized.first_link {m = o} {l = y} {k = z} {b = b'} {c = c'} {d = z'} {separator = v'} {operand = w'} {links = ks} {trail = u} {items = j} {others = x'} d' f' es) k =
      let whole = regrouped (t ++ i) x r (u ++ j) x' s k in
      let parts = regrouped t i (x ++ r) u j (x' ++ s) whole in
      let one = same (i ++ (x ++ r)) (j ++ (x' ++ s)) proper d d' parts in
      let at_b = proper_on text a b (leads_on (plain d)) proper in
      let more = same_rest t u (i ++ (x ++ r)) (j ++ (x' ++ s)) one.trails parts in
      let two = same (x ++ r) (x' ++ s) at_b f (subst (λ b. Sized g text y p b c' w' j) (sym one.spots) f') more in
      let rest = same_links r s (proper_on text b c (leads_on (plain f)) at_b) ds (subst (λ c. SizedLinks g text z p q n c z' ks x') (sym two.spots) es)
      (same_rest i j (x ++ r) (x' ++ s) two.trails more) in
      record {
        sizes = ap (λ k. k + l + h) one.sizes ∙ ap (λ k. o + k + h) two.sizes ∙ ap (λ k. o + y + k) rest.sizes;
        spots = rest.spots;
        links = same_link v v' w w' ls ks one.forests two.forests rest.links;
        trails = joined_trails (t ++ i) x (u ++ j) x' (joined_trails t i u j one.trails two.trails) rest.trails;
      }

  pub same_expression : {g : Grammar} {text : List ℕ} {m n p : ℕ} {item : OperatorsItem} {builders : OperatorBuilders} {x : Expression} {a b c : Spot} {v w : List Tree} {t u : List TrailItem}
      (r s : List TrailItem) → IsProper a.table →
      SizedExpression g text m item builders p x a b v t → SizedExpression g text n item builders p x a c w u → t ++ r ≡ u ++ s → Same m n b c v w t u
  same_expression r s proper (sized.a_term d) (sized.a_term e) k = same r s proper d e k
  same_expression {g} {text} {p = p} {item = item} {builders = builders} {a = a} r s proper (sized.a_prefix {o = o} {x = x} {j = i} is d) (sized.a_prefix {m = n} {j = j} {b = c} {forest = w} {trail = u} has e) k =
      let one = one_end g text item item o.symbol a.place a.place j i refl refl has is in
      let z = same_expression r s proper d (subst (λ i. SizedExpression g text n item builders p x (at a i) c w u) one e) k in
      record { sizes = z.sizes; spots = z.spots; forests = ap (applied builders.prefix o) z.forests; trails = z.trails }
  same_expression {g} {text} {item = item} {builders = builders} r s proper (sized.a_postfix {o = o} {j = i} {b = b} d is) (sized.a_postfix {j = j} {b = c} e has) k =
      let z = same_expression r s proper d e k in
      let one = one_end g text item item o.symbol b.place c.place i j refl (ap (λ (s : Spot). s.place) z.spots) is has in
      record { sizes = z.sizes; spots = ap (λ (s : Spot). at s i) z.spots ∙ ap (at c) one; forests = ap (applied builders.postfix o) z.forests; trails = z.trails }
  same_expression {g} {text} {p = p} {item = item} {builders = builders} {a = a} r s proper
      (sized.an_infix {l = l} {o = o} {y = y} {j = i} {b = b} {left = v} {right = w} {trail = t} {items = x} d is f)
      (sized.an_infix {m = m} {l = n} {j = j} {b = b'} {c = c'} {left = v'} {right = w'} {trail = u} {items = x'} d' has f') k =
      let parts = regrouped t x r u x' s k in
      let first = same_expression (x ++ r) (x' ++ s) proper d d' parts in
      let place : b'.place ≡ b.place = sym (ap (λ (s : Spot). s.place) first.spots) in
      let one = one_end g text item item o.symbol b'.place b.place j i refl place has is in
      let rest = same_expression r s (proper_on text a b (expression_on (plain_expression d)) proper) f
      (subst (λ i. SizedExpression g text n item builders p y (at b i) c' w' x') one (subst (λ b. SizedExpression g text n item builders p y (at b j) c' w' x') (sym first.spots) f'))
      (same_rest t u (x ++ r) (x' ++ s) first.trails parts) in
      record {
        sizes = ap (λ k. k + l) first.sizes ∙ ap (λ k. m + k) rest.sizes;
        spots = rest.spots;
        forests = ap (applied builders.infix o) (joined_forests v w v' w' first.forests rest.forests);
        trails = joined_trails t x u x' first.trails rest.trails;
      }
