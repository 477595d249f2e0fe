-- The nodes of a grammar are numbered in preorder, rule by rule, so a finding's numbers are those of the node that it speaks
-- of.
use Rattle.std.proofs.Common.{◌≡◌, ℕ, zero, suc, ◌+◌, ◌-◌, ◌<◌, ◌≤◌, Bool, true, false, nat_le, cond, List, [], ◌∷◌, ◌++◌, length, map, take, drop, Some, slice_get, refl, sym, ap, subst, ◌∙◌, inl, inr, arith, append-nil, append_assoc}
use Rattle.std.specs.List.{AllByRecursion, Contains, count_by}
use Rattle.std.proofs.lemmas.Bool.{cases_lt}
use Rattle.std.proofs.lemmas.Bool.Decides.{nat_tests}
use Rattle.std.proofs.lemmas.List.Sums.{sum_by-cons}
use Rattle.std.proofs.lemmas.Option.{slice_get_within}
use Rattle.pg_grammar_form.specs.Forms.{Node, parts_of, node_part_count, InPreorder}
use Rattle.pg_grammar_value.specs.Grammar.{Grammar, IsGrammar, rule_body}
use Rattle.pg_grammar_form.specs.Preorder.{roots}
use Rattle.pg_grammar_value.specs.declared.grammar.Rule.{Rule}
use Rattle.pg_grammar_value.proofs.Numbers.{bodies_are_nodes}
use Rattle.pg_grammar_form.proofs.Each.{all-get}
use Rattle.pg_sets_own.specs.declared.listed.ListedStart.{ListedStart}
use Rattle.pg_predict_conditions.specs.Conditions as conditions
use Rattle.pg_predict_conditions.specs.Conditions.{Violates}
use Rattle.pg_predict.specs.Findings.{Finding, AreFindings, finding_of, rule_of, body_of, name_of, number_in_rule, name_text, placed_text, violation_text}
use Rattle.pg_predict.specs.Places.{Preorder, nothing, node, StandsAs, SpeaksOf}
use Rattle.pg_predict_conditions.specs.Violations.{Violation}
use Rattle.pg_predict_conditions.specs.declared.violation.ViolationKind.{ViolationKind}

-- ---- numbers one after another

abbrev numbers : ℕ → ℕ → List ℕ
numbers i zero = []
numbers i (suc m) = i ∷ numbers (suc i) m

number_at : (i m k : ℕ) → k < m → slice_get (numbers i m) k ≡ Some (i + k)
number_at i zero k h = absurd (omega arith)
number_at i (suc m) zero h = let same : i ≡ i + 0 = omega arith in ap (λ (n : ℕ). Some n) same
number_at i (suc m) (suc k) h = let same : suc i + k ≡ i + suc k = omega arith in number_at (suc i) m k (omega arith) ∙ ap (λ (n : ℕ). Some n) same

-- where they are cut in two
record Cut (i m : ℕ) (xs ys : List ℕ) : Type 0 where
  short : length xs ≤ m
  first : xs ≡ numbers i (length xs)
  second : ys ≡ numbers (i + length xs) (m - length xs)

cut : (i m : ℕ) (xs ys : List ℕ) → numbers i m ≡ xs ++ ys → Cut i m xs ys
cut i m [] ys e =
    let start : i ≡ i + 0 = omega arith in
    let count : m ≡ m - 0 = omega arith in
    record { short = omega arith; first = refl; second = sym e ∙ ap (λ (j : ℕ). numbers j m) start ∙ ap (numbers (i + 0)) count }
cut i zero (x ∷ xs) ys e = absurd cc
cut i (suc m) (x ∷ xs) ys e =
    let head : i ≡ x = cc in
    let tail : numbers (suc i) m ≡ xs ++ ys = cc in
    let others = cut (suc i) m xs ys tail in
    let short = others.short in
    let start : suc i + length xs ≡ i + suc (length xs) = omega arith in
    let count : m - length xs ≡ suc m - suc (length xs) = omega arith in
    record {
      short = omega (arith, short);
      first = ap (λ (y : ℕ). y ∷ xs) (sym head) ∙ ap (λ (zs : List ℕ). i ∷ zs) others.first;
      second = others.second ∙ ap (λ (j : ℕ). numbers j (m - length xs)) start ∙ ap (numbers (i + suc (length xs))) count;
    }

module _ (g : Grammar) where
  -- ---- preorder

  record Halves (qs others ps : List ℕ) : Type 0 where
    xs : List ℕ
    ys : List ℕ
    same : ps ≡ xs ++ ys
    one : Preorder g qs xs
    other : Preorder g others ys

  halves : (c : ℕ) {qs ps : List ℕ} → Preorder g qs ps → Halves (take c qs) (drop c qs) ps
  halves zero {qs} {ps} h = record { xs = []; ys = ps; same = refl; one = nothing; other = h }
  halves (suc c) nothing = record { xs = []; ys = []; same = refl; one = nothing; other = nothing }
  halves (suc c) (node {p} {n} {others} {inner} {after} there inside rest) =
      let cuts = halves c rest in
      record {
        xs = p ∷ (inner ++ cuts.xs);
        ys = cuts.ys;
        same = ap (λ (zs : List ℕ). p ∷ (inner ++ zs)) cuts.same ∙ ap (λ (zs : List ℕ). p ∷ zs) (sym (append_assoc inner cuts.xs cuts.ys));
        one = node there inside cuts.one;
        other = cuts.other;
      }

  -- nodes from a number on are numbered in preorder
  in_preorder : (i : ℕ) (ns : List Node) → InPreorder i ns → ((k : ℕ) → slice_get g.nodes (i + k) ≡ slice_get ns k) → Preorder g (roots i (map node_part_count ns)) (numbers i (length ns))
  in_preorder i [] h at = nothing
  in_preorder i (n ∷ ns) h at =
      let here : i ≡ i + 0 = omega arith in
      let there : slice_get g.nodes i ≡ Some n = ap (slice_get g.nodes) here ∙ at 0 in
      let later : (k : ℕ) → slice_get g.nodes (suc i + k) ≡ slice_get ns k =
      λ k. let next : suc i + k ≡ i + suc k = omega arith in ap (slice_get g.nodes) next ∙ at (suc k) in
      let others = halves (node_part_count n) (in_preorder (suc i) ns h.1 later) in
      let inside : Preorder g (parts_of n) others.xs = subst (λ (qs : List ℕ). Preorder g qs others.xs) (sym h.0) others.one in
      subst (λ (zs : List ℕ). Preorder g (i ∷ drop (node_part_count n) (roots (suc i) (map node_part_count ns))) (i ∷ zs)) (sym others.same) (node there inside others.other)

  -- the first of some nodes, and the others
  record First (q : ℕ) (others ps : List ℕ) : Type 0 where
    inner : List ℕ
    after : List ℕ
    same : ps ≡ q ∷ (inner ++ after)
    whole : Preorder g (q ∷ []) (q ∷ inner)
    rest : Preorder g others after

  first : {q : ℕ} {others ps : List ℕ} → Preorder g (q ∷ others) ps → First q others ps
  first {q} {others} {ps} (node {inner = inner} {after = after} there inside rest) =
      record {
        inner = inner;
        after = after;
        same = refl;
        whole = subst (λ (zs : List ℕ). Preorder g (q ∷ []) (q ∷ zs)) (append-nil inner) (node there inside nothing);
        rest = rest;
      }

  -- ---- rules

  abbrev isnt_after : ℕ → Rule → Bool
  isnt_after p rule = nat_le (rule_body rule) p

  -- the first node of numbered ones, and where the others begin
  record Begun (q : ℕ) (others : List ℕ) (i m : ℕ) : Type 0 where
    inner : List ℕ
    body : q ≡ i
    short : length inner < m
    whole : Preorder g (q ∷ []) (numbers i (suc (length inner)))
    rest : Preorder g others (numbers (suc i + length inner) (m - suc (length inner)))

  begun : {q : ℕ} {others : List ℕ} (i m : ℕ) → Preorder g (q ∷ others) (numbers i m) → Begun q others i m
  begun {q} {others} i zero h = let f = first h in let e = f.same in absurd cc
  begun {q} {others} i (suc m) h =
      let f = first h in
      let e = f.same in
      let head : q ≡ i = cc in
      let tail : numbers (suc i) m ≡ f.inner ++ f.after = cc in
      let cuts = cut (suc i) m f.inner f.after tail in
      let short = cuts.short in
      let count : m - length f.inner ≡ suc m - suc (length f.inner) = omega arith in
      record {
        inner = f.inner;
        body = head;
        short = omega (arith, short);
        whole = subst (λ (zs : List ℕ). Preorder g (q ∷ []) zs) (ap (λ (x : ℕ). x ∷ f.inner) head ∙ ap (λ (zs : List ℕ). i ∷ zs) cuts.first) f.whole;
        rest = subst (Preorder g others) (cuts.second ∙ ap (numbers (suc i + length f.inner)) count) f.rest;
      }

  first_counted : (p : ℕ) (rule : Rule) (rules : List Rule) → count_by (isnt_after p) (rule ∷ rules) ≡ cond (nat_le (rule_body rule) p) 1 0 + count_by (isnt_after p) rules
  first_counted p rule rules = sum_by-cons (λ (one : Rule). cond {A = ℕ} (isnt_after p one) 1 0) rule rules

  count_no : (p : ℕ) (rule : Rule) (rules : List Rule) → p < rule_body rule → count_by (isnt_after p) (rule ∷ rules) ≡ count_by (isnt_after p) rules
  count_no p rule rules h =
      let no : nat_le (rule_body rule) p ≡ false = grind (arith, nat_tests) in
      let none : ◌≡◌ {A = ℕ} (cond (nat_le (rule_body rule) p) 1 0) 0 = ap (λ (b : Bool). cond {A = ℕ} b 1 0) no in
      let zero_more : 0 + count_by (isnt_after p) rules ≡ count_by (isnt_after p) rules = omega arith in
      first_counted p rule rules ∙ ap (λ (k : ℕ). k + count_by (isnt_after p) rules) none ∙ zero_more

  count_yes : (p : ℕ) (rule : Rule) (rules : List Rule) → rule_body rule ≤ p → count_by (isnt_after p) (rule ∷ rules) ≡ suc (count_by (isnt_after p) rules)
  count_yes p rule rules h =
      let yes : nat_le (rule_body rule) p ≡ true = grind (arith, nat_tests) in
      let one : ◌≡◌ {A = ℕ} (cond (nat_le (rule_body rule) p) 1 0) 1 = ap (λ (b : Bool). cond {A = ℕ} b 1 0) yes in
      let one_more : 1 + count_by (isnt_after p) rules ≡ suc (count_by (isnt_after p) rules) = omega arith in
      first_counted p rule rules ∙ ap (λ (k : ℕ). k + count_by (isnt_after p) rules) one ∙ one_more

  -- no rule begins before its first node
  none_before : (p : ℕ) (rules : List Rule) (i m : ℕ) → Preorder g (map rule_body rules) (numbers i m) → p < i → count_by (isnt_after p) rules ≡ 0
  none_before p [] i m h low = refl
  none_before p (rule ∷ rules) i m h low =
      let b = begun i m h in
      let body = b.body in
      count_no p rule rules (omega arith) ∙ none_before p rules (suc i + length b.inner) (m - suc (length b.inner)) b.rest (omega arith)

  -- the rule that a node stands in
  record Located (rules : List Rule) (p : ℕ) : Type 0 where
    number : ℕ
    rule : Rule
    there : slice_get rules number ≡ Some rule
    nodes : List ℕ
    body : Preorder g (rule_body rule ∷ []) nodes
    numbered : slice_get nodes (p - rule_body rule) ≡ Some p
    counted : count_by (isnt_after p) rules ≡ suc number

  located_further : (rule : Rule) (rules : List Rule) (p : ℕ) → rule_body rule ≤ p → Located rules p → Located (rule ∷ rules) p
  located_further rule rules p low l =
      record { number = suc l.number; rule = l.rule; there = l.there; nodes = l.nodes; body = l.body; numbered = l.numbered; counted = count_yes p rule rules low ∙ ap suc l.counted }

  locate : (p : ℕ) (rules : List Rule) (i m : ℕ) → Preorder g (map rule_body rules) (numbers i m) → i ≤ p → p < i + m → Located rules p
  locate p [] i zero h low high = absurd (omega arith)
  locate p [] i (suc m) h low high = absurd (none h)
    where
      none : {ps : List ℕ} → Preorder g [] (i ∷ ps) → ⊥
      none h = elim h [ ]
  locate p (rule ∷ rules) i m h low high =
      let b = begun i m h in
      let body = b.body in
      let short = b.short in
      let least : rule_body rule ≤ p = omega arith in
      elim (cases_lt p (suc i + length b.inner)) [
        | inl inside ↦
            let offset : p - i < suc (length b.inner) = omega arith in
            let same : p - rule_body rule ≡ p - i = omega arith in
            let back : i + (p - i) ≡ p = omega arith in
            record {
              number = 0;
              rule = rule;
              there = refl;
              nodes = numbers i (suc (length b.inner));
              body = b.whole;
              numbered = ap (slice_get (numbers i (suc (length b.inner)))) same ∙ number_at i (suc (length b.inner)) (p - i) offset ∙ ap (λ (n : ℕ). Some n) back;
              counted = count_yes p rule rules least ∙ ap suc (none_before p rules (suc i + length b.inner) (m - suc (length b.inner)) b.rest inside);
            }
        | inr later ↦
            located_further rule rules p least (locate p rules (suc i + length b.inner) (m - suc (length b.inner)) b.rest (omega arith) (omega arith))
      ]

  -- a node of a grammar stands as its numbers say
  pub stands : IsGrammar g → (p : ℕ) → p < length g.nodes → StandsAs g (rule_of g.rules p) (number_in_rule g.rules p) p
  stands grammar p below =
      let all : Preorder g (roots 0 (map node_part_count g.nodes)) (numbers 0 (length g.nodes)) =
      in_preorder 0 g.nodes grammar.preorder (λ k. let same : 0 + k ≡ k = omega arith in ap (slice_get g.nodes) same) in
      let l = locate p g.rules 0 (length g.nodes) (subst (λ (qs : List ℕ). Preorder g qs (numbers 0 (length g.nodes))) (sym grammar.bodies) all) (omega arith) (omega arith) in
      let counted = l.counted in
      let number : l.number ≡ rule_of g.rules p = omega arith in
      let there : slice_get g.rules (rule_of g.rules p) ≡ Some l.rule = ap (slice_get g.rules) (sym number) ∙ l.there in
      let body : body_of g.rules (rule_of g.rules p) ≡ rule_body l.rule = rw there refl in
      let index : p - rule_body l.rule ≡ number_in_rule g.rules p - 1 = omega (arith, body) in
      record { rule = l.rule; there = there; nodes = l.nodes; body = l.body; from_one = omega arith; numbered = ap (slice_get l.nodes) (sym index) ∙ l.numbered }

  -- ---- findings

  -- a condition is broken at a node of the grammar
  at_a_node : IsGrammar g → (p : ℕ) (kind : ViolationKind ListedStart) → Violates g p kind → p < length g.nodes
  at_a_node grammar p kind (conditions.left_recursion {rule = rule} at chain) = all-get (λ one. rule_body one < length g.nodes) g.rules _ rule (bodies_are_nodes g.rules g.nodes grammar.bodies) at
  at_a_node grammar p kind (conditions.empty_round at h) = slice_get_within g.nodes _ _ at
  at_a_node grammar p kind (conditions.empty_link at is h k) = slice_get_within g.nodes _ _ at
  at_a_node grammar p kind (conditions.empty_alternative at part last h) = slice_get_within g.nodes _ _ at
  at_a_node grammar p kind (conditions.alternatives_meet at order one other met) = slice_get_within g.nodes _ _ at
  at_a_node grammar p kind (conditions.alternative_meets_follow at part last ends met) = slice_get_within g.nodes _ _ at
  at_a_node grammar p kind (conditions.round_meets_follow at met) = slice_get_within g.nodes _ _ at
  at_a_node grammar p kind (conditions.link_meets_follow at is met) = slice_get_within g.nodes _ _ at
  at_a_node grammar p kind (conditions.empty_operand at h) = slice_get_within g.nodes _ _ at
  at_a_node grammar p kind (conditions.operand_meets_operators at met) = slice_get_within g.nodes _ _ at
  at_a_node grammar p kind (conditions.follow_meets_operators at met) = slice_get_within g.nodes _ _ at
  at_a_node grammar p kind (conditions.expression_gap_meets at met) = slice_get_within g.nodes _ _ at
  at_a_node grammar p kind (conditions.gap_meets at met) = slice_get_within g.nodes _ _ at
  at_a_node grammar p kind (conditions.step_cost_over {rule = rule} at has over) = all-get (λ one. rule_body one < length g.nodes) g.rules _ rule (bodies_are_nodes g.rules g.nodes grammar.bodies) at

  speaks : IsGrammar g → (finding : Finding) (v : Violation ListedStart) → finding ≡ finding_of g v → Violates g v.node v.kind → SpeaksOf g finding
  speaks grammar finding v e h =
      let rule : finding.rule ≡ rule_of g.rules v.node = ap (λ (s : Finding). s.rule) e in
      let number : finding.node ≡ number_in_rule g.rules v.node = ap (λ (s : Finding). s.node) e in
      let standing = stands grammar v.node (at_a_node grammar v.node v.kind h) in
      let name : name_of g.rules (rule_of g.rules v.node) ≡ name_text standing.rule = rw standing.there refl in
      record {
        p = v.node;
        kind = v.kind;
        violates = h;
        stands =
            record {
              rule = standing.rule;
              there = ap (slice_get g.rules) rule ∙ standing.there;
              nodes = standing.nodes;
              body = standing.body;
              from_one = subst (λ (n : ℕ). 1 ≤ n) (sym number) standing.from_one;
              numbered = ap (λ (n : ℕ). slice_get standing.nodes (n - 1)) number ∙ standing.numbered;
            };
        condition = ap (λ (s : Finding). s.number) e;
        line =
            ap (λ (s : Finding). s.line) e ∙ ap (λ (text : List ℕ). placed_text text (number_in_rule g.rules v.node) (violation_text g v.kind)) name
            ∙ ap (λ (n : ℕ). placed_text (name_text standing.rule) n (violation_text g v.kind)) (sym number);
      }

  each_speaks : IsGrammar g → (findings : List Finding) (vs : List (Violation ListedStart)) → findings ≡ map (finding_of g) vs
      → AllByRecursion (λ (v : Violation ListedStart). Violates g v.node v.kind) vs → AllByRecursion (SpeaksOf g) findings
  each_speaks grammar [] vs e h = tt
  each_speaks grammar (finding ∷ findings) [] e h = absurd cc
  each_speaks grammar (finding ∷ findings) (v ∷ vs) e h =
      let head : finding ≡ finding_of g v = cc in
      let tail : findings ≡ map (finding_of g) vs = cc in
      (speaks grammar finding v head h.0, each_speaks grammar findings vs tail h.1)

  all_violate : (vs : List (Violation ListedStart)) → ((v : Violation ListedStart) → Contains vs v → Violates g v.node v.kind)
      → AllByRecursion (λ (v : Violation ListedStart). Violates g v.node v.kind) vs
  all_violate [] each = tt
  all_violate (v ∷ vs) each = (each v (0, omega arith, refl), all_violate vs (λ w h. let short = h.1 in each w (suc h.0, omega (arith, short), h.2)))

  -- so each finding speaks of a node at which a condition is broken
  pub all_speak : IsGrammar g → (findings : List Finding) → AreFindings g findings → AllByRecursion (SpeaksOf g) findings
  all_speak grammar findings are = each_speaks grammar findings are.violations are.says (all_violate are.violations (λ v h. (are.all.members v).0 h))
