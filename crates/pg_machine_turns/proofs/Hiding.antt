-- Trees that are thrown away later are only counted: what is kept, and the count, as trees come, go and are made into one.
use Rattle.std.proofs.Common.{◌≡◌, ◌≤◌, ◌+◌, ℕ, suc, zero, List, [], ◌∷◌, ◌++◌, Bool, true, false, Option, Some, None, length, take, drop, refl, sym, ap, subst, ◌∙◌, arith, append-nil, length-append, if◌then◌else◌}
use Rattle.std.specs.Prelude.{◌==◌}
use Rattle.std.proofs.lemmas.Bool.Decides.{nat_tests}
use Rattle.std.proofs.lemmas.List.{take-append-le, take_all, length-take, drop_all}
use Rattle.pg_tree.specs.Trees.{Tree}
use Rattle.pg_tree.specs.Built.{built}
use Rattle.pg_tree.specs.declared.shape.Shape.{Shape}
use Rattle.pg_grammar_value.specs.declared.trail.TrailItem.{TrailItem}
use Rattle.pg_table.specs.Tables.{Table}
use Rattle.pg_grammar_form.specs.declared.form.Around.{Around}
use Rattle.pg_grammar_form.specs.declared.form.Around.TheVariants as kind
use Rattle.pg_language.specs.Derives.{leaf_of, span, made_by}
use Rattle.pg_message_tape.specs.Messages.{TapeMessage}
use Rattle.pg_message_tape.proofs.Merged.{take_seam, drop_seam}
use Rattle.pg_language.specs.Answers.{Given}
use Rattle.pg_machine_turns.specs.Frames.{Frame}
use Rattle.pg_machine_lists.specs.RunTrees.{no_run_trees, tree_count, rejoined, with_trees, first_trees, hidden_after, built_after, with_hiding, without_hiding}
use Rattle.pg_machine_turns.specs.Shows.{lower, thrown_from, one_if, hiding_in, Keeps, Means, IsPart, KeepsPart, Waits, none_wait, from_left, from_right, ShowsLinks, links, Stands, no_frames, stands_parts, stands_choice, stands_rounds, stands_first, stands_separator, stands_operand, stands_rule, stands_around, stands_expression}
use Rattle.pg_machine_turns.specs.Tape.{OnChain, OnFrame, on_parts, on_choice, on_rounds, on_first, on_separator, on_operand, on_rule, on_around, on_expression, hides, forest_in, forest_made, forest_left}
use Rattle.pg_machine_lists.specs.RunTrees.{RunTrees}

-- ---- trees more

with_kept : (w : List Tree) (f : RunTrees) → f.hiding ≡ 0 → with_trees w f ≡ rejoined w 0 f
with_kept w f none = ap (λ n. if n == 0 then rejoined w 0 f else rejoined [] (length w) f) none

with_counted : (w : List Tree) (f : RunTrees) → 1 ≤ f.hiding → with_trees w f ≡ rejoined [] (length w) f
with_counted w f some =
    let more : (f.hiding == 0) ≡ false = positive f.hiding some in
    ap (λ b. if b then rejoined w 0 f else rejoined [] (length w) f) more
  where
    positive : (n : ℕ) → 1 ≤ n → (n == 0) ≡ false
    positive zero h = absurd (omega (arith, h))
    positive (suc n) h = grind (arith, nat_tests)

keeps_more : (b : Option ℕ) (f : RunTrees) (v w : List Tree) → Keeps b f v → Keeps b (with_trees w f) (v ++ w)
keeps_more None f v w h =
    subst (λ (g : RunTrees). Keeps None g (v ++ w)) (sym (with_kept w f h.0)) (h.0, ap (λ ts. ts ++ w) h.1, omega (arith, h.2))
keeps_more (Some n) f v w h =
    let long = length-append v w in
    let lists : f.kept ++ [] ≡ take n (v ++ w) = append-nil f.kept ∙ h.2 ∙ sym (take-append-le n v w h.1) in
    subst (λ (g : RunTrees). Keeps (Some n) g (v ++ w)) (sym (with_counted w f h.0)) (h.0, omega (arith, h.1, long), lists, omega (arith, h.1, h.3, long))

-- ---- the first trees

-- the index from which trees are discarded is within this number of trees
abbrev pub Under : Option ℕ → ℕ → Type 0
Under None k = Unit {0}
Under (Some n) k = n ≤ k

kept_length : (n : ℕ) (v : List Tree) → n ≤ length v → length (take n v) ≡ n
kept_length n v h = omega (arith, h, length-take n v)

keeps_first : (b : Option ℕ) (f : RunTrees) (v w : List Tree) → Under b (length v) → Keeps b f (v ++ w) → Keeps b (first_trees (length v) f) v
keeps_first None f v w u h = (h.0, ap (take (length v)) h.1 ∙ take_seam v w, omega (arith, h.2))
keeps_first (Some n) f v w u h =
    let same : f.kept ≡ take n v = h.2 ∙ take-append-le n v w u in
    let long : length f.kept ≡ n = ap length same ∙ kept_length n v u in
    let short : length (take n v) ≤ length v = omega (arith, u, kept_length n v u) in
    let lists : take (length v) f.kept ≡ take n v = ap (take (length v)) same ∙ take_all (length v) (take n v) short in
    (h.0, u, lists, omega (arith, u, long, h.3, length-append v w))

keeps_count : (b : Option ℕ) (f : RunTrees) (v : List Tree) → Keeps b f v → tree_count f ≡ length v
keeps_count None f v h = omega (arith, ap length h.1, h.2)
keeps_count (Some n) f v h = omega (arith, h.1, ap length h.2, kept_length n v h.1, h.3)

-- ---- trees that are made into one

-- where they are only counted it doesn't matter which they are
keeps_other : (n : ℕ) (f : RunTrees) (v : List Tree) (s t : Tree) → n ≤ length v → Keeps (Some n) f (v ++ s ∷ []) → Keeps (Some n) f (v ++ t ∷ [])
keeps_other n f v s t u h =
    let one = length-append v (s ∷ []) in
    let two = length-append v (t ∷ []) in
    (h.0, omega (arith, u, two), h.2 ∙ take-append-le n v (s ∷ []) u ∙ sym (take-append-le n v (t ∷ []) u), omega (arith, h.3, one, two))

keeps_built : (b : Option ℕ) (f : RunTrees) (shape : Shape) (symbol : List ℕ) (v w : List Tree) → Under b (length v) → Keeps b f (v ++ w)
    → Keeps b (built_after shape symbol (length v) f) (v ++ built shape symbol w ∷ [])
keeps_built None f shape symbol v w u h =
    let own : drop (length v) f.kept ≡ w = ap (drop (length v)) h.1 ∙ drop_seam v w in
    subst (λ ts. Keeps None (built_after shape symbol (length v) f) (v ++ built shape symbol ts ∷ [])) own
    (keeps_more None (first_trees (length v) f) v (built shape symbol (drop (length v) f.kept) ∷ []) (keeps_first None f v w u h))
keeps_built (Some n) f shape symbol v w u h =
    keeps_other n (built_after shape symbol (length v) f) v (built shape symbol (drop (length v) f.kept)) (built shape symbol w) u
    (keeps_more (Some n) (first_trees (length v) f) v (built shape symbol (drop (length v) f.kept) ∷ []) (keeps_first (Some n) f v w u h))

-- ---- trees that are taken off, and put back

keeps_part : (b : Option ℕ) (f : RunTrees) (v w : List Tree) → Under b (length v) → Keeps b f (v ++ w)
    → IsPart b (drop (length v) f.kept) (hidden_after (length v) f) w
keeps_part None f v w u h = (ap (drop (length v)) h.1 ∙ drop_seam v w, omega (arith, h.2))
keeps_part (Some n) f v w u h =
    let same : f.kept ≡ take n v = h.2 ∙ take-append-le n v w u in
    let long : length f.kept ≡ n = ap length same ∙ kept_length n v u in
    (drop_all (length v) f.kept (omega (arith, long, u)), omega (arith, u, long, h.3, length-append v w))

keeps_rejoined : (b : Option ℕ) (f : RunTrees) (v p w : List Tree) (h : ℕ) → Keeps b f v → IsPart b p h w → Keeps b (rejoined p h f) (v ++ w)
keeps_rejoined None f v p w h k part = (k.0, ap (λ ts. ts ++ p) k.1 ∙ ap (λ ts. v ++ ts) part.0, omega (arith, k.2, part.1))
keeps_rejoined (Some n) f v p w h k part =
    let long = length-append v w in
    let lists : f.kept ++ p ≡ take n (v ++ w) = ap (λ ts. f.kept ++ ts) part.0 ∙ append-nil f.kept ∙ k.2 ∙ sym (take-append-le n v w k.1) in
    (k.0, omega (arith, k.1, long), lists, omega (arith, k.1, k.3, part.1, long))

-- ---- forms that throw trees away begin and end

keeps_hidden : (b : Option ℕ) (f : RunTrees) (v : List Tree) → Keeps b f v → Keeps (lower b true (length v)) (with_hiding f) v
keeps_hidden None f v h = (omega arith, omega arith, h.1 ∙ sym (take_all (length v) v (omega arith)), omega (arith, h.2))
keeps_hidden (Some n) f v h = (omega (arith, h.0), h.1, h.2, h.3)

-- the number of open forms shows whether trees are discarded
abbrev HidesAs : Option ℕ → ℕ → Type 0
HidesAs None k = k ≡ 0
HidesAs (Some n) k = 1 ≤ k

lower_hides : (b : Option ℕ) (h : Bool) (n k : ℕ) → HidesAs b k → HidesAs (lower b h n) (k + one_if h)
lower_hides None true n k is = omega arith
lower_hides None false n k is = omega (arith, is)
lower_hides (Some m) true n k is = omega arith
lower_hides (Some m) false n k is = omega (arith, is)

hides_as : (gs : List OnFrame) → HidesAs (thrown_from gs) (hiding_in gs)
hides_as [] = refl
hides_as (on_parts rest b ∷ gs) = hides_as gs
hides_as (on_choice k ps i q n m o ∷ gs) = hides_as gs
hides_as (on_rounds p k c i slot n m o l ∷ gs) = hides_as gs
hides_as (on_first chain slot n ∷ gs) = hides_as gs
hides_as (on_separator l ∷ gs) = hides_as gs
hides_as (on_operand l b n ∷ gs) = hides_as gs
hides_as (on_rule ∷ gs) = hides_as gs
hides_as (on_expression e levels ∷ gs) = hides_as gs
hides_as (on_around around i n o ∷ gs) = lower_hides (thrown_from gs) (hides around) n (hiding_in gs) (hides_as gs)

keeps_shown : (b : Option ℕ) (k : ℕ) (f : RunTrees) (v w : List Tree) → HidesAs b k → f.hiding ≡ k + 1 → Under b (length v)
    → Keeps (lower b true (length v)) f (v ++ w) → Keeps b (without_hiding (first_trees (length v) f)) v
keeps_shown None k f v w is one u h =
    let same : f.kept ≡ v = h.2 ∙ take_seam v w in
    (omega (arith, one, is), ap (take (length v)) same ∙ take_all (length v) v (omega arith), omega (arith, ap length same))
keeps_shown (Some n) k f v w is one u h =
    let first = keeps_first (Some n) f v w u h in
    (omega (arith, one, is), first.1, first.2, first.3)

-- ---- under frames

-- what waits to be folded lies after what stands below
pub wait_longer : {ch : OnChain} {v y : List Tree} {waiting : List (List Tree × List Tree)} {ns : List ℕ} → Waits ch v waiting ns y → length v ≤ length y
wait_longer none_wait = omega arith
wait_longer (from_left h) = omega arith
wait_longer (from_right {y = y} {a = a} {s = s} h w) = omega (arith, wait_longer w, length-append (y ++ a) s, length-append y a)

links_longer : {v w : List Tree} {t u : List TrailItem} {x z : List TapeMessage} {T U : Table} {linked : _} {i : ℕ} {l : _} → ShowsLinks v t x T linked i l w u z U → length v ≤ length w
links_longer (links {y = y} {w = w} item k kept o) = omega (arith, wait_longer k, length-append y w)

pub under_longer : (b : Option ℕ) (k l : ℕ) → k ≤ l → Under b k → Under b l
under_longer None k l h u = tt
under_longer (Some n) k l h u = omega (arith, h, u)

under_lower : (b : Option ℕ) (h : Bool) (k : ℕ) → Under b k → Under (lower b h k) k
under_lower None true k u = omega arith
under_lower None false k u = tt
under_lower (Some n) h k u = u

-- trees are discarded only after those of the frames below
pub under : {G : Given} {fs : List Frame} {gs : List OnFrame} {v : List Tree} {t : List TrailItem} {x : List TapeMessage} {T : Table} → Stands G fs gs v t x T
    → Under (thrown_from gs) (length v)
under no_frames = tt
under (stands_parts {v = v} {w = w} h k) = under_longer _ (length v) (length (v ++ w)) (omega (arith, length-append v w)) (under h)
under (stands_choice h k) = under h
under (stands_rounds {v = v} {w = w} item h k) = under_longer _ (length v) (length (v ++ w)) (omega (arith, length-append v w)) (under h)
under (stands_first item h) = under h
under (stands_separator {v = v} {w = w} h k) = under_longer _ (length v) (length w) (links_longer k) (under h)
under (stands_operand {v = v} {w = w} {s = s} h k l m) = under_longer _ (length v) (length (w ++ s)) (omega (arith, links_longer k, length-append w s)) (under h)
under (stands_rule h) = under h
under (stands_expression {v = v} {w = w} h e k) = under_longer _ (length v) (length (v ++ w)) (omega (arith, length-append v w)) (under h)
under (stands_around {v = v} {around = around} h) = under_lower _ (hides around) (length v) (under h)

hiding_stays : (w : List Tree) (f : RunTrees) → (with_trees w f).hiding ≡ f.hiding
hiding_stays w f = either (f.hiding == 0)
  where
    either : (b : Bool) → (let g : RunTrees = if b then rejoined w 0 f else rejoined [] (length w) f in g.hiding) ≡ f.hiding
    either true = refl
    either false = refl

-- the first trees, and what is made of the others, wherever trees are thrown away only after the first
pub first_means : {gs : List OnFrame} {v : List Tree} {f : RunTrees} (w : List Tree) → Under (thrown_from gs) (length v) → Means gs f (v ++ w) → Means gs (first_trees (length v) f) v
first_means {gs = gs} {v = v} {f = f} w u m = record { count = m.count; trees = keeps_first (thrown_from gs) f v w u m.trees }

pub built_means : {gs : List OnFrame} {f : RunTrees} (v : List Tree) (shape : Shape) (symbol : List ℕ) (w : List Tree) → Under (thrown_from gs) (length v) → Means gs f (v ++ w)
    → Means gs (built_after shape symbol (length v) f) (v ++ built shape symbol w ∷ [])
built_means {gs = gs} {f = f} v shape symbol w u m = record {
  count = hiding_stays (built shape symbol (drop (length v) f.kept) ∷ []) (first_trees (length v) f) ∙ m.count;
  trees = keeps_built (thrown_from gs) f shape symbol v w u m.trees;
}

-- the same trees
pub relisted : {gs : List OnFrame} {f : RunTrees} {v w : List Tree} → v ≡ w → Means gs f v → Means gs f w
relisted {gs = gs} {f = f} is m = subst (Means gs f) is m

-- where no frame is left all trees are kept
pub none_mean : Means [] no_run_trees []
none_mean = record { count = refl; trees = (refl, refl, refl) }

pub all_kept : {f : RunTrees} {v : List Tree} → Means [] f v → f.kept ≡ v
all_kept m = m.trees.1

-- a frame that throws no trees away
module _ {g : OnFrame} {gs : List OnFrame} {f : RunTrees} {v : List Tree} where
  pub framed : thrown_from (g ∷ gs) ≡ thrown_from gs → hiding_in (g ∷ gs) ≡ hiding_in gs → Means gs f v → Means (g ∷ gs) f v
  framed thrown hiding m = record { count = m.count ∙ sym hiding; trees = subst (λ b. Keeps b f v) (sym thrown) m.trees }

  pub unframed : thrown_from (g ∷ gs) ≡ thrown_from gs → hiding_in (g ∷ gs) ≡ hiding_in gs → Means (g ∷ gs) f v → Means gs f v
  unframed thrown hiding m = record { count = m.count ∙ hiding; trees = subst (λ b. Keeps b f v) thrown m.trees }

module _ {gs : List OnFrame} {v : List Tree} {f : RunTrees} where
  pub means_count : Means gs f v → tree_count f ≡ length v
  means_count m = keeps_count (thrown_from gs) f v m.trees

  pub means_rejoined : {p w : List Tree} {h : ℕ} → Means gs f v → KeepsPart (thrown_from gs) p h w → Means gs (rejoined p h f) (v ++ w)
  means_rejoined {p = p} {w = w} {h = h} m part = record { count = m.count; trees = keeps_rejoined (thrown_from gs) f v p w h m.trees part.is }

  pub means_more : (w : List Tree) → Means gs f v → Means gs (with_trees w f) (v ++ w)
  means_more w m = record { count = hiding_stays w f ∙ m.count; trees = keeps_more (thrown_from gs) f v w m.trees }

  pub means_hidden : {o : ℕ} (around : Around) (i : ℕ) → hides around ≡ true → Means gs f v → Means (on_around around i (length v) o ∷ gs) (with_hiding f) v
  means_hidden around i is m = record {
    count = let one : one_if (hides around) ≡ 1 = ap one_if is in omega (arith, m.count, one);
    trees = subst (λ b. Keeps (lower (thrown_from gs) b (length v)) (with_hiding f) v) (sym is) (keeps_hidden (thrown_from gs) f v m.trees);
  }

module _ {G : Given} {fs : List Frame} {gs : List OnFrame} {v : List Tree} {t : List TrailItem} {x : List TapeMessage} {T : Table} where
  pub means_first : {f : RunTrees} (w : List Tree) → Stands G fs gs v t x T → Means gs f (v ++ w) → Means gs (first_trees (length v) f) v
  means_first w h m = first_means w (under h) m

  pub means_part : {f : RunTrees} (w : List Tree) → Stands G fs gs v t x T → Means gs f (v ++ w)
      → KeepsPart (thrown_from gs) (drop (length v) f.kept) (hidden_after (length v) f) w
  means_part {f = f} w h m = record { is = keeps_part (thrown_from gs) f v w (under h) m.trees }

  pub means_shown : {f : RunTrees} {o : ℕ} (around : Around) (i : ℕ) (w : List Tree) → hides around ≡ true → Stands G fs gs v t x T → Means (on_around around i (length v) o ∷ gs) f (v ++ w)
      → Means gs (without_hiding (first_trees (length v) f)) v
  means_shown {f = f} around i w is h m =
      let one : f.hiding ≡ hiding_in gs + 1 = m.count ∙ ap (λ b. hiding_in gs + one_if b) is in
      record {
        count = omega (arith, one);
        trees = keeps_shown (thrown_from gs) (hiding_in gs) f v w (hides_as gs) one (under h) (subst (λ b. Keeps (lower (thrown_from gs) b (length v)) f (v ++ w)) is m.trees);
      }

-- trees after those of a frame are cut
pub means_cut : {G : Given} {fs : List Frame} {g : OnFrame} {gs : List OnFrame} {v : List Tree} {t : List TrailItem} {x : List TapeMessage} {T : Table} {f : RunTrees} (w : List Tree)
    → thrown_from (g ∷ gs) ≡ thrown_from gs → Stands G fs (g ∷ gs) v t x T → Means gs f (v ++ w) → Means gs (first_trees (length v) f) v
means_cut {v = v} w same h m = first_means w (subst (λ b. Under b (length v)) same (under h)) m

-- ---- forms around a part

lower_stays : (b : Option ℕ) (n : ℕ) → lower b false n ≡ b
lower_stays None n = refl
lower_stays (Some m) n = refl

-- a form that throws nothing away
means_within : {gs : List OnFrame} {f : RunTrees} {v : List Tree} {o : ℕ} (around : Around) (i n : ℕ) → hides around ≡ false → Means (on_around around i n o ∷ gs) f v → Means gs f v
means_within {gs = gs} {f = f} {v = v} around i n is m =
    let same : lower (thrown_from gs) (hides around) n ≡ thrown_from gs = ap (λ b. lower (thrown_from gs) b n) is ∙ lower_stays (thrown_from gs) n in
    let none : one_if (hides around) ≡ 0 = ap one_if is in
    record { count = omega (arith, m.count, none); trees = subst (λ b. Keeps b f v) same m.trees }

means_around : {gs : List OnFrame} {f : RunTrees} {v : List Tree} {o : ℕ} (around : Around) (i n : ℕ) → hides around ≡ false → Means gs f v → Means (on_around around i n o ∷ gs) f v
means_around {gs = gs} {f = f} {v = v} around i n is m =
    let same : lower (thrown_from gs) (hides around) n ≡ thrown_from gs = ap (λ b. lower (thrown_from gs) b n) is ∙ lower_stays (thrown_from gs) n in
    let none : one_if (hides around) ≡ 0 = ap one_if is in
    record { count = omega (arith, m.count, none); trees = subst (λ b. Keeps b f v) (sym same) m.trees }

-- a form begins
pub means_in : {gs : List OnFrame} {f : RunTrees} {v : List Tree} {o : ℕ} (around : Around) (i : ℕ) → Means gs f v → Means (on_around around i (length v) o ∷ gs) (forest_in around f) v
means_in {v = v} kind.Try i m = means_around kind.Try i (length v) refl m
means_in kind.Text i m = means_hidden kind.Text i refl m
means_in kind.Skip i m = means_hidden kind.Skip i refl m
means_in {v = v} (kind.Build used symbol) i m = means_around (kind.Build used symbol) i (length v) refl m
means_in {v = v} (kind.Label message) i m = means_around (kind.Label message) i (length v) refl m
means_in {v = v} kind.Local i m = means_around kind.Local i (length v) refl m

-- after a part that failed others may lie behind what stands below
pub record Failing (gs : List OnFrame) (v : List Tree) (g : RunTrees) : Type 0 where
  pub others : List Tree
  pub means : Means gs g (v ++ others)

module _ {G : Given} {fs : List Frame} {gs : List OnFrame} {v : List Tree} {t : List TrailItem} {x : List TapeMessage} {T : Table} where
  -- a form's part was ok
  pub means_made : {f : RunTrees} {o : ℕ} (around : Around) (text : List ℕ) (i j : ℕ) (s : List Tree) → Stands G fs gs v t x T → Means (on_around around i (length v) o ∷ gs) f (v ++ s)
      → Means gs (forest_made around text i j (length v) f) (v ++ made_by around text i j s)
  means_made kind.Try text i j s h m = means_within kind.Try i (length v) refl m
  means_made kind.Text text i j s h m = means_more (leaf_of (span text i j) ∷ []) (means_shown kind.Text i s refl h m)
  means_made kind.Skip text i j s h m = relisted (sym (append-nil v)) (means_shown kind.Skip i s refl h m)
  means_made (kind.Build used symbol) text i j s h m = built_means v used.shape symbol s (under h) (means_within (kind.Build used symbol) i (length v) refl m)
  means_made (kind.Label message) text i j s h m = means_within (kind.Label message) i (length v) refl m
  means_made kind.Local text i j s h m = means_within kind.Local i (length v) refl m

  -- it failed
  pub means_failed : {f : RunTrees} {o : ℕ} (around : Around) (i : ℕ) (s : List Tree) → Stands G fs gs v t x T → Means (on_around around i (length v) o ∷ gs) f (v ++ s)
      → Failing gs v (forest_left around (length v) f)
  means_failed kind.Try i s h m = record { others = s; means = means_within kind.Try i (length v) refl m }
  means_failed kind.Text i s h m = record { others = []; means = relisted (sym (append-nil v)) (means_shown kind.Text i s refl h m) }
  means_failed kind.Skip i s h m = record { others = []; means = relisted (sym (append-nil v)) (means_shown kind.Skip i s refl h m) }
  means_failed (kind.Build used symbol) i s h m = record { others = s; means = means_within (kind.Build used symbol) i (length v) refl m }
  means_failed (kind.Label message) i s h m = record { others = s; means = means_within (kind.Label message) i (length v) refl m }
  means_failed kind.Local i s h m = record { others = s; means = means_within kind.Local i (length v) refl m }
