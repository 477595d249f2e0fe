-- What is noted going back over the steps gives the text going forward.
use Rattle.std.proofs.Common.{◌≡◌, ◌+◌, ◌-◌, ◌<◌, ◌≤◌, ◌&&◌, ℕ, zero, suc, Bool, true, false, cond, List, [], ◌∷◌, ◌++◌, length, drop, get_or, codes, refl, ap, sym, ◌∙◌, append_assoc, arith, subst}
use Rattle.std.specs.Prelude.{reverse}
use Rattle.std.proofs.lemmas.Bool.{eq-eqb, ne_eqb}
use Rattle.std.proofs.lemmas.List.{append-nil, drop_more, drop_all}
use Rattle.json.specs.Print.{escape}
use Rattle.pg_tree.specs.Json.{json, quoted}
use Rattle.pg_tree.specs.Written.{braces}
use Rattle.pg_tree_placed.specs.Named.{label_at}
use Rattle.pg_tree_placed.specs.Made.{text_between, kids_taken, made_on}
use Rattle.pg_tree_placed.specs.Forward.{joined_text, way_text, steps_inside, begins_tree, has_ended, step_text, forward, noted_text}
use Rattle.pg_tree_placed.specs.Noted.{with_node, StepsBack, way_of, note_of, with_note, StartFrom, Shows, AreNoted, AreJoined, inside_text}
use Rattle.pg_tree_placed.specs.Written.{added_text, closing, comma, less, lifts, with_one_less, HaveKids, IsWritten, GoesBack, NodeBack, outside, within, finished, unfinished, still_later, single_text_if}
use Rattle.pg_tree_placed.specs.declared.entry.Entry.{Entry}
use Rattle.pg_tree_placed.specs.declared.entry.Entry.TheVariants.{Leaf, Node, Flat, Single, Join}
use Rattle.pg_tree_placed.specs.declared.note.Note.{Note}
use Rattle.pg_tree_placed.specs.declared.note.Way.{Way}
use Rattle.pg_tree_placed.specs.declared.note.Way.TheVariants.{Shown, Lifted, Joined}
use Rattle.pg_tree_placed.specs.declared.pending.Around.{Around}
use Rattle.pg_tree_placed.proofs.AllSteps.{written_first, written_more, written_settled}
use Rattle.pg_tree_placed.proofs.Back.{around, true_no, leaf_back, join_back, inside_back, node_back, flat_back, single_back}
use Rattle.pg_tree_placed.proofs.Settling.{still_true, kids_unfinished, settled_outside, settled_joined}

-- ---- the text of a step going forward

-- a step with a note
front : (text : List ℕ) (labels : List (List ℕ)) (ended : Bool) (j : ℕ) (e : Entry) (es : List Entry) (n : ℕ) (w : Way) (ns : List Note)
    → forward text labels ended 0 j (e ∷ es) (note_of j n w ∷ ns)
    ≡ step_text text labels ended n w e ++ forward text labels (has_ended ended n w e) (steps_inside w) (j + 1) es ns
front text labels ended j e es n w ns =
    ap (λ b. cond b (step_text text labels ended n w e ++ forward text labels (has_ended ended n w e) (steps_inside w) (j + 1) es ns)
    (step_text text labels ended 0 Shown e ++ forward text labels true 0 (j + 1) es (note_of j n w ∷ ns))) (eq-eqb j j refl)

-- a step without a note
usual : (text : List ℕ) (labels : List (List ℕ)) (ended : Bool) (j : ℕ) (e : Entry) (es : List Entry) (ns : List Note) → StartFrom (j + 1) ns
    → forward text labels ended 0 j (e ∷ es) ns ≡ step_text text labels ended 0 Shown e ++ forward text labels true 0 (j + 1) es ns
usual text labels ended j e es [] h = refl
usual text labels ended j e es (n ∷ ns) h =
    ap (λ b. cond b (step_text text labels ended n.begins n.way e ++ forward text labels (has_ended ended n.begins n.way e) (steps_inside n.way) (j + 1) es ns)
    (step_text text labels ended 0 Shown e ++ forward text labels true 0 (j + 1) es (n ∷ ns)))
    (ne_eqb n.step j (λ is. let no : ⊥ = omega (arith, h, is) in no))

-- a step with a note if it needs one
noted : (text : List ℕ) (labels : List (List ℕ)) (ended : Bool) (j : ℕ) (e : Entry) (es : List Entry) (n : ℕ) (b : Bool) (ns : List Note) → StartFrom (j + 1) ns
    → forward text labels ended 0 j (e ∷ es) (with_note j n (way_of b) ns)
    ≡ step_text text labels ended n (way_of b) e ++ forward text labels (has_ended ended n (way_of b) e) 0 (j + 1) es ns
noted text labels ended j e es zero false ns h = usual text labels ended j e es ns h
noted text labels ended j e es zero true ns h = front text labels ended j e es zero Lifted ns
noted text labels ended j e es (suc n) false ns h = front text labels ended j e es (suc n) Shown ns
noted text labels ended j e es (suc n) true ns h = front text labels ended j e es (suc n) Lifted ns

start_noted : (j n : ℕ) (w : Way) (ns : List Note) → StartFrom j (note_of j n w ∷ ns)
start_noted j n w ns = omega arith

start_less : (j : ℕ) (ns : List Note) → StartFrom (j + 1) ns → StartFrom j ns
start_less j [] h = tt
start_less j (n ∷ ns) h = omega (arith, h)

start_with : (j n : ℕ) (b : Bool) (ns : List Note) → StartFrom (j + 1) ns → StartFrom j (with_note j n (way_of b) ns)
start_with j zero false ns h = start_less j ns h
start_with j zero true ns h = omega arith
start_with j (suc n) b ns h = omega arith

-- a step from which on the text is known
step_at : (es : List Entry) (j : ℕ) → j < length es → drop j es ≡ get_or es j (Leaf 0 0) ∷ drop (j + 1) es
step_at es j h = drop_more es j (Leaf 0 0) h

-- ---- a step back

inside_none : (b : Bool) (e : Entry) (n : ℕ) → has_ended false n (way_of b) e ≡ has_ended false 0 (way_of b) e
inside_none false e n = refl
inside_none true e zero = refl
inside_none true e (suc n) = refl

ended_more : (b : Bool) (e : Entry) (n : ℕ) → has_ended true (suc n) (way_of b) e ≡ has_ended false 0 (way_of b) e
ended_more false e n = refl
ended_more true e n = refl

begins_more : (b : Bool) (e : Entry) (n : ℕ) → begins_tree (suc n) (way_of b) e ≡ true
begins_more false e n = refl
begins_more true e n = refl

-- a tree comes next if a node begins there, or else if one came next without those
parted_step : (text : List ℕ) (labels : List (List ℕ)) (e : Entry) (b z : Bool) (n : ℕ) (F : Bool → List ℕ)
    → comma (begins_tree 0 (way_of b) e) ++ (way_text text labels (way_of b) e ++ F (has_ended true 0 (way_of b) e))
    ≡ comma z ++ (way_text text labels (way_of b) e ++ F (has_ended false 0 (way_of b) e))
    → step_text text labels true n (way_of b) e ++ F (has_ended true n (way_of b) e)
    ≡ comma (still_later z n) ++ (step_text text labels false n (way_of b) e ++ F (has_ended false n (way_of b) e))
parted_step text labels e b z zero F parted =
    append_assoc (comma (begins_tree 0 (way_of b) e)) (way_text text labels (way_of b) e) (F (has_ended true 0 (way_of b) e)) ∙ parted
parted_step text labels e b z (suc n) F parted =
    let own = braces (suc n) ++ way_text text labels (way_of b) e in
    ap (λ c. (comma c ++ own) ++ F (has_ended true (suc n) (way_of b) e)) (begins_more b e n)
    ∙ ap (λ c. 44 ∷ (own ++ F c)) (ended_more b e n ∙ sym (inside_none b e (suc n)))

-- a step back with its note, if it needs one, and the nodes that begin there
stepped : (text : List ℕ) (labels : List (List ℕ)) (es : List Entry) (j : ℕ) (later b z : Bool) (cs ds : List Around) (ns : List Note) (e : Entry)
    → j < length es → e ≡ get_or es j (Leaf 0 0) → StartFrom (j + 1) ns
    → let F : Bool → List ℕ = λ ended. forward text labels ended 0 (j + 1) (drop (j + 1) es) ns in
    let own = way_text text labels (way_of b) e in
    IsWritten text labels es (j + 1) (outside later) cs (F false ++ codes "]")
    → GoesBack text labels (outside later) cs e (F false ++ codes "]") (outside z) ds (own ++ (F (has_ended false 0 (way_of b) e) ++ codes "]"))
    → comma (begins_tree 0 (way_of b) e) ++ (own ++ F (has_ended true 0 (way_of b) e)) ≡ comma z ++ (own ++ F (has_ended false 0 (way_of b) e))
    → Shows text labels es j (unfinished ds) (with_note j (finished ds) (way_of b) ns)
stepped text labels es j later b z cs ds ns e within is start so back parted =
    let F : Bool → List ℕ = λ ended. forward text labels ended 0 (j + 1) (drop (j + 1) es) ns in
    let n = finished ds in
    let w = way_of b in
    let own = way_text text labels w e in
    let end = codes "]" in
    let rest = F (has_ended false 0 w e) in
    let text_from : (ended : Bool) → forward text labels ended 0 j (drop j es) (with_note j n w ns) ≡ step_text text labels ended n w e ++ F (has_ended ended n w e) =
    λ ended. ap (λ xs. forward text labels ended 0 j xs (with_note j n w ns)) (step_at es j within ∙ ap (λ x. x ∷ drop (j + 1) es) (sym is))
    ∙ noted text labels ended j e (drop (j + 1) es) n b ns start in
    let new : forward text labels false 0 j (drop j es) (with_note j n w ns) ++ end ≡ braces n ++ (own ++ (rest ++ end)) =
    ap (λ xs. xs ++ end) (text_from false ∙ ap (λ c. (braces n ++ own) ++ F c) (inside_none b e n))
    ∙ append_assoc (braces n ++ own) rest end ∙ append_assoc (braces n) own (rest ++ end) in
    record {
      later = still_later z n;
      parted = text_from true ∙ parted_step text labels e b z n F parted ∙ ap (λ xs. comma (still_later z n) ++ xs) (sym (text_from false));
      so = written_settled text labels es j (outside z) (outside (still_later z n)) ds (unfinished ds) (own ++ (rest ++ end))
          (forward text labels false 0 j (drop j es) (with_note j n w ns) ++ end)
          (settled_outside labels (outside z) (outside (still_later z n)) ds (unfinished ds) (own ++ (rest ++ end))
          (forward text labels false 0 j (drop j es) (with_note j n w ns) ++ end) refl refl refl new)
          (written_more text labels es j (outside later) (outside z) cs ds e (Leaf 0 0) (F false ++ end) (own ++ (rest ++ end)) within is back so);
    }

-- what comes next with its comma
with_comma : (later : Bool) (none some : List ℕ) → some ≡ comma later ++ none → some ++ codes "]" ≡ comma later ++ (none ++ codes "]")
with_comma later none some is = ap (λ xs. xs ++ codes "]") is ∙ append_assoc (comma later) none (codes "]")

single_own : (text : List ℕ) (labels : List (List ℕ)) (label from to : ℕ) (b : Bool) (F : Bool → List ℕ) (old : List ℕ) → F true ++ codes "]" ≡ old
    → way_text text labels (way_of b) (Single label from to) ++ (F (has_ended false 0 (way_of b) (Single label from to)) ++ codes "]")
    ≡ single_text_if b text labels label from to ++ old
single_own text labels label from to false F old is = ap (λ xs. single_text_if false text labels label from to ++ xs) is
single_own text labels label from to true F old is = ap (λ xs. single_text_if true text labels label from to ++ xs) is

single_parted : (text : List ℕ) (labels : List (List ℕ)) (label from to : ℕ) (b : Bool) (F : Bool → List ℕ)
    → let e = Single label from to in
    let own = way_text text labels (way_of b) e in
    comma (begins_tree 0 (way_of b) e) ++ (own ++ F (has_ended true 0 (way_of b) e)) ≡ comma true ++ (own ++ F (has_ended false 0 (way_of b) e))
single_parted text labels label from to false F = refl
single_parted text labels label from to true F = refl

-- a node is open, or its kids stand in its place
node_shown : (labels : List (List ℕ)) (later : Bool) (cs ds : List Around) (node : Around) (old new : List ℕ) → false ≡ lifts labels cs (label_at labels node.label)
    → ds ≡ with_node false node cs → new ≡ closing (label_at labels node.label) ++ (comma later ++ old) → NodeBack labels later cs node old false ds new
node_shown labels later cs ds node old new is e n = record {
  is_open = λ no. (refl, e, n);
  is_gone = λ yes. true_no (is ∙ yes);
}

node_gone : (labels : List (List ℕ)) (later : Bool) (cs ds : List Around) (node : Around) (old : List ℕ) → true ≡ lifts labels cs (label_at labels node.label)
    → ds ≡ with_node true node cs → NodeBack labels later cs node old later ds old
node_gone labels later cs ds node old is e = record {
  is_open = λ no. true_no (sym (is ∙ no));
  is_gone = λ yes. (refl, e, refl);
}

-- a step back by its kind
step_shows : (text : List ℕ) (labels : List (List ℕ)) (es : List Entry) (j : ℕ) (b : Bool) (cs ds : List Around) (ns : List Note) (e : Entry)
    → j < length es → e ≡ get_or es j (Leaf 0 0) → HaveKids cs → StartFrom (j + 1) ns → StepsBack labels cs e b ds → Shows text labels es (j + 1) cs ns
    → Shows text labels es j (unfinished ds) (with_note j (finished ds) (way_of b) ns)
step_shows text labels es j b cs ds ns (Leaf from to) within is kids start back shows =
    let F : Bool → List ℕ = λ ended. forward text labels ended 0 (j + 1) (drop (j + 1) es) ns in
    let later = shows.later in
    let own = quoted (text_between text from to) in
    subst (λ (x : Bool). Shows text labels es j (unfinished ds) (with_note j (finished ds) (way_of x) ns)) (sym back.0)
    (stepped text labels es j later false true cs ds ns (Leaf from to) within is start shows.so
    (leaf_back text labels (outside later) (outside true) cs ds from to (F false ++ codes "]") (own ++ (F true ++ codes "]")) refl kids refl back.1
    (ap (λ xs. own ++ xs) (with_comma later (F false) (F true) shows.parted)))
    refl)
step_shows text labels es j b cs ds ns (Single label from to) within is kids start back shows =
    let F : Bool → List ℕ = λ ended. forward text labels ended 0 (j + 1) (drop (j + 1) es) ns in
    let later = shows.later in
    let e = Single label from to in
    stepped text labels es j later b true cs ds ns e within is start shows.so
    (single_back text labels (outside later) (outside true) cs ds label from to b (F false ++ codes "]")
    (way_text text labels (way_of b) e ++ (F (has_ended false 0 (way_of b) e) ++ codes "]")) refl kids (sym back.0) refl back.1
    (single_own text labels label from to b F (comma later ++ (F false ++ codes "]")) (with_comma later (F false) (F true) shows.parted)))
    (single_parted text labels label from to b F)
step_shows text labels es j false cs ds ns (Node label kids_of) within is kids start back shows =
    let F : Bool → List ℕ = λ ended. forward text labels ended 0 (j + 1) (drop (j + 1) es) ns in
    let later = shows.later in
    let own = closing (label_at labels label) in
    stepped text labels es j later false false cs ds ns (Node label kids_of) within is start shows.so
    (node_back text labels (outside later) false cs ds label kids_of (F false ++ codes "]") (own ++ (F true ++ codes "]")) refl kids
    (node_shown labels later cs ds (around kids_of 0 label) (F false ++ codes "]") (own ++ (F true ++ codes "]")) back.0 back.1
    (ap (λ xs. own ++ xs) (with_comma later (F false) (F true) shows.parted))))
    refl
step_shows text labels es j true cs ds ns (Node label kids_of) within is kids start back shows =
    let F : Bool → List ℕ = λ ended. forward text labels ended 0 (j + 1) (drop (j + 1) es) ns in
    let later = shows.later in
    stepped text labels es j later true later cs ds ns (Node label kids_of) within is start shows.so
    (node_back text labels (outside later) later cs ds label kids_of (F false ++ codes "]") (F false ++ codes "]") refl kids
    (node_gone labels later cs ds (around kids_of 0 label) (F false ++ codes "]") back.0 back.1))
    shows.parted
step_shows text labels es j false cs ds ns (Flat label kids_of) within is kids start back shows =
    let F : Bool → List ℕ = λ ended. forward text labels ended 0 (j + 1) (drop (j + 1) es) ns in
    let later = shows.later in
    let own = closing (label_at labels label) in
    stepped text labels es j later false false cs ds ns (Flat label kids_of) within is start shows.so
    (flat_back text labels (outside later) false cs ds label kids_of (F false ++ codes "]") (own ++ (F true ++ codes "]")) refl kids
    (node_shown labels later cs ds (around 0 kids_of label) (F false ++ codes "]") (own ++ (F true ++ codes "]")) back.0 back.1
    (ap (λ xs. own ++ xs) (with_comma later (F false) (F true) shows.parted))))
    refl
step_shows text labels es j true cs ds ns (Flat label kids_of) within is kids start back shows =
    let F : Bool → List ℕ = λ ended. forward text labels ended 0 (j + 1) (drop (j + 1) es) ns in
    let later = shows.later in
    stepped text labels es j later true later cs ds ns (Flat label kids_of) within is start shows.so
    (flat_back text labels (outside later) later cs ds label kids_of (F false ++ codes "]") (F false ++ codes "]") refl kids
    (node_gone labels later cs ds (around 0 kids_of label) (F false ++ codes "]") back.0 back.1))
    shows.parted
step_shows text labels es j b cs ds ns (Join k) within is kids start back shows = absurd back

pub step_noted : (labels : List (List ℕ)) (es : List Entry) (j n : ℕ) (b : Bool) (cs ds fs : List Around) (ns ms : List Note) (e : Entry)
    → n ≡ j + 1 → j < length es → e ≡ get_or es j (Leaf 0 0) → StepsBack labels cs e b ds → fs ≡ unfinished ds → ms ≡ with_note j (finished ds) (way_of b) ns
    → AreNoted labels es n cs ns → AreNoted labels es j fs ms
step_noted labels es j n b cs ds fs ns ms e count within is back f m it =
    let all : AreNoted labels es (j + 1) cs ns = subst (λ (i : ℕ). AreNoted labels es i cs ns) count it in
    let so : AreNoted labels es j (unfinished ds) (with_note j (finished ds) (way_of b) ns) =
    record {
      within = omega (arith, within);
      unfinished = kids_unfinished ds;
      start = start_with j (finished ds) b ns all.start;
      shows = λ text. step_shows text labels es j b cs ds ns e within is all.unfinished all.start back (all.shows text);
    } in
    subst (λ (xs : List Around). AreNoted labels es j xs ms) (sym f) (subst (λ (xs : List Note). AreNoted labels es j (unfinished ds) xs) (sym m) so)

-- ---- a joined leaf

-- the text from a step of it on, by how many steps are left after that one
inside_at : (text : List ℕ) (labels : List (List ℕ)) (es : List Entry) (j last left : ℕ) (e : Entry) (ns : List Note) → j < length es → e ≡ get_or es j (Leaf 0 0)
    → last + 1 - j ≡ suc left
    → inside_text text labels es j last ns ≡ joined_text text left e ++ (forward text labels true left (j + 1) (drop (j + 1) es) ns ++ codes "]")
inside_at text labels es j last left e ns within is count =
    let rest = forward text labels true left (j + 1) (drop (j + 1) es) ns in
    ap (λ n. forward text labels true n j (drop j es) ns ++ codes "]") count
    ∙ ap (λ xs. forward text labels true (suc left) j xs ns ++ codes "]") (step_at es j within ∙ ap (λ x. x ∷ drop (j + 1) es) (sym is))
    ∙ append_assoc (joined_text text left e) rest (codes "]")

inside_step : (text : List ℕ) (labels : List (List ℕ)) (es : List Entry) (j last : ℕ) (e : Entry) (ns : List Note) → j < last → j < length es
    → e ≡ get_or es j (Leaf 0 0) → inside_text text labels es j last ns ≡ escape (added_text text e) ++ inside_text text labels es (j + 1) last ns
inside_step text labels es j last e ns before within is =
    let left = last - (j + 1) in
    let count : last + 1 - j ≡ suc (suc left) = omega (arith, before) in
    let next : suc left ≡ last + 1 - (j + 1) = omega (arith, before) in
    inside_at text labels es j last (suc left) e ns within is count
    ∙ ap (λ xs. xs ++ (forward text labels true (suc left) (j + 1) (drop (j + 1) es) ns ++ codes "]")) (append-nil (escape (added_text text e)))
    ∙ ap (λ n. escape (added_text text e) ++ (forward text labels true n (j + 1) (drop (j + 1) es) ns ++ codes "]")) next

-- one more step of it
pub joined_more : (text : List ℕ) (labels : List (List ℕ)) (es : List Entry) (n j last left more : ℕ) (cs : List Around) (e : Entry) (ns : List Note) → n ≡ j + 1
    → j < last → j < length es → e ≡ get_or es j (Leaf 0 0) → 0 < left → more ≡ kids_taken e + (left - 1)
    → IsWritten text labels es n (within left) cs (inside_text text labels es n last ns)
    → IsWritten text labels es j (within more) cs (inside_text text labels es j last ns)
joined_more text labels es n j last left more cs e ns count before inside is some next so =
    let old = inside_text text labels es (j + 1) last ns in
    let new = inside_text text labels es j last ns in
    let all : IsWritten text labels es (j + 1) (within left) cs old =
    subst (λ (i : ℕ). IsWritten text labels es i (within left) cs (inside_text text labels es i last ns)) count so in
    written_more text labels es j (within left) (within more) cs cs e (Leaf 0 0) old new inside is
    (inside_back text labels (within left) (within more) cs e old new refl some (ap within next) (inside_step text labels es j last e ns before inside is)) all

-- the leaf ends with its own step
join_last : (text : List ℕ) (labels : List (List ℕ)) (es : List Entry) (last k : ℕ) (cs : List Around) (ns : List Note) → last < length es
    → get_or es last (Leaf 0 0) ≡ Join k → HaveKids cs → Shows text labels es (last + 1) cs ns
    → IsWritten text labels es last (within k) (with_one_less cs) (inside_text text labels es last last ns)
join_last text labels es last k cs ns inside is kids shows =
    let F : Bool → List ℕ = λ ended. forward text labels ended 0 (last + 1) (drop (last + 1) es) ns in
    let later = shows.later in
    let new = inside_text text labels es last last ns in
    let text_from : new ≡ codes "\"" ++ (comma later ++ (F false ++ codes "]")) =
    inside_at text labels es last last 0 (Join k) ns inside (sym is) (let one : last + 1 - last ≡ suc 0 = omega arith in one)
    ∙ ap (λ xs. 34 ∷ xs) (with_comma later (F false) (F true) shows.parted) in
    written_more text labels es last (outside later) (within k) cs (with_one_less cs) (Join k) (Leaf 0 0) (F false ++ codes "]") new inside (sym is)
    (join_back text labels (outside later) (within k) cs (with_one_less cs) k (F false ++ codes "]") new refl kids refl refl text_from) shows.so

-- the note at its first step
join_first : (text : List ℕ) (labels : List (List ℕ)) (es : List Entry) (first last steps : ℕ) (cs : List Around) (ns : List Note) → first ≤ last → last < length es
    → steps ≡ last - first + 1 → IsWritten text labels es first (within 0) cs (inside_text text labels es first last ns)
    → Shows text labels es first (unfinished cs) (note_of first (finished cs) (Joined steps) ∷ ns)
join_first text labels es first last steps cs ns before inside size so =
    let e = get_or es first (Leaf 0 0) in
    let n = finished cs in
    let left = last - first in
    let here : first < length es = omega (arith, before, inside) in
    let notes = note_of first n (Joined steps) ∷ ns in
    let rest = forward text labels true left (first + 1) (drop (first + 1) es) ns in
    let own = braces n ++ (codes "\"" ++ joined_text text left e) in
    let count : less steps ≡ left = ap less size ∙ (let one : last - first + 1 ≡ suc (last - first) = omega arith in ap less one) in
    let old : inside_text text labels es first last ns ≡ joined_text text left e ++ (rest ++ codes "]") =
    inside_at text labels es first last left e ns here refl (let one : last + 1 - first ≡ suc (last - first) = omega (arith, before) in one) in
    let text_from : (ended : Bool) → forward text labels ended 0 first (drop first es) notes ≡ (comma (ended && true) ++ own) ++ rest =
    λ ended. ap (λ xs. forward text labels ended 0 first xs notes) (step_at es first here) ∙ front text labels ended first e (drop (first + 1) es) n (Joined steps) ns
    ∙ ap (λ m. (comma (ended && true) ++ (braces n ++ (codes "\"" ++ joined_text text m e))) ++ forward text labels true m (first + 1) (drop (first + 1) es) ns) count in
    let new : forward text labels false 0 first (drop first es) notes ++ codes "]" ≡ braces n ++ (codes "\"" ++ inside_text text labels es first last ns) =
    ap (λ xs. xs ++ codes "]") (text_from false) ∙ append_assoc own rest (codes "]")
    ∙ append_assoc (braces n) (codes "\"" ++ joined_text text left e) (rest ++ codes "]")
    ∙ ap (λ xs. braces n ++ (34 ∷ xs)) (sym old) in
    record {
      later = true;
      parted = text_from true ∙ ap (λ xs. 44 ∷ xs) (sym (text_from false));
      so = written_settled text labels es first (within 0) (outside true) cs (unfinished cs) (inside_text text labels es first last ns)
          (forward text labels false 0 first (drop first es) notes ++ codes "]")
          (settled_joined labels (within 0) (outside true) cs (unfinished cs) (inside_text text labels es first last ns)
          (forward text labels false 0 first (drop first es) notes ++ codes "]") refl refl (ap outside (sym (still_true n))) refl new) so;
    }

pub join_noted : (labels : List (List ℕ)) (es : List Entry) (first last k steps : ℕ) (cs ds fs : List Around) (ns ms : List Note) → last < length es
    → get_or es last (Leaf 0 0) ≡ Join k → first ≤ last → AreJoined es k first last → steps ≡ last - first + 1 → ds ≡ with_one_less cs → fs ≡ unfinished ds
    → ms ≡ note_of first (finished ds) (Joined steps) ∷ ns → AreNoted labels es (last + 1) cs ns → AreNoted labels es first fs ms
join_noted labels es first last k steps cs ds fs ns ms inside is before joined size d f m it =
    let xs = with_one_less cs in
    let at : fs ≡ unfinished xs = f ∙ ap (λ ys. unfinished ys) d in
    let made : ms ≡ note_of first (finished xs) (Joined steps) ∷ ns = m ∙ ap (λ ys. note_of first (finished ys) (Joined steps) ∷ ns) d in
    let so : AreNoted labels es first (unfinished xs) (note_of first (finished xs) (Joined steps) ∷ ns) =
    record {
      within = omega (arith, before, inside);
      unfinished = kids_unfinished xs;
      start = omega arith;
      shows = λ text. join_first text labels es first last steps xs ns before inside size
          (joined text labels xs ns (join_last text labels es last k cs ns inside is it.unfinished (it.shows text)));
    } in
    subst (λ (ys : List Around). AreNoted labels es first ys ms) (sym at) (subst (λ (ys : List Note). AreNoted labels es first (unfinished xs) ys) (sym made) so)

-- ---- all steps

-- none is noted yet
pub noted_none : (labels : List (List ℕ)) (es : List Entry) (n : ℕ) (cs : List Around) (ns : List Note) → n ≡ length es → cs ≡ [] → ns ≡ [] → AreNoted labels es n cs ns
noted_none labels es n cs ns count none empty =
    let all : drop n es ≡ [] = drop_all n es (omega (arith, count)) in
    let so : AreNoted labels es n [] [] =
    record {
      within = omega (arith, count);
      unfinished = tt;
      start = tt;
      shows = λ text. record {
        later = false;
        parted = ap (λ xs. forward text labels true 0 n xs []) all ∙ sym (ap (λ xs. forward text labels false 0 n xs []) all);
        so = written_first text labels es n (forward text labels false 0 n (drop n es) [] ++ codes "]") (omega (arith, count))
            (ap (λ xs. forward text labels false 0 n xs [] ++ codes "]") all);
      };
    } in
    subst (λ (xs : List Around). AreNoted labels es n xs ns) (sym none) (subst (λ (xs : List Note). AreNoted labels es n [] xs) (sym empty) so)

-- all are noted, and no node is open
pub noted_all : (text : List ℕ) (labels : List (List ℕ)) (es : List Entry) (n : ℕ) (cs : List Around) (notes : List Note) → n ≡ 0 → cs ≡ []
    → AreNoted labels es n cs (reverse notes) → noted_text text labels es notes ≡ json (reverse (made_on text labels [] es))
noted_all text labels es n cs notes none empty it =
    let at : AreNoted labels es 0 [] (reverse notes) =
    subst (λ (xs : List Around). AreNoted labels es 0 xs (reverse notes)) empty (subst (λ (i : ℕ). AreNoted labels es i cs (reverse notes)) none it) in
    sym (at.shows text).so
