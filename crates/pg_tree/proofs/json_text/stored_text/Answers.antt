use Rattle.std.proofs.Common.{◌≡◌, ◌+◌, ◌≤◌, ◌<◌, ◌++◌, ◌∷◌, [], false, length, drop, arith, ap, sym, ◌∙◌}
use Rattle.std.proofs.lemmas.List.{append-nil, drop_all}
use Rattle.pg_tree.specs.Kept.{kepts_of}
use Rattle.pg_tree.specs.Stored.{kept_in, own_text}
use Rattle.pg_tree.specs.Written.{kids_openings, openings_on, still, ended, entries_json}
use Rattle.pg_tree.proofs.Written.{json-more, json-stored}
use Rattle.pg_tree.proofs.Beginnings.{length-kids_openings, openings_on-stored, within-stored}
use Rattle.pg_tree.proofs.json_text.stored_text.Goals as goal

pub openings-requires : goal.openings-requires
openings-requires c = rw c.as_slice.ensures.value (within-stored _ (kept_in c.args.store.now) c.requires.entries_are)

pub index-requires-in-loop-i : goal.index-requires-in-loop-i
index-requires-in-loop-i c =
    let ts = kept_in c.args.store.now in
    let counts : c.in_ok-openings.openings.items ≡ kids_openings (kepts_of ts) =
    c.in_ok-openings.ensures ∙ ap (λ es. openings_on [] es) c.as_slice.ensures.value ∙ openings_on-stored _ ts c.requires.entries_are in
    omega (
      arith,
      ap length c.requires.entries_are,
      ap length counts,
      length-kids_openings (kepts_of ts),
      c.args.store.now.entries.ok.0,
      c.len-i-end.ensures,
      c.in_ok-openings.openings.ok.0,
    )

pub loop-i-preserved : goal.loop-i-preserved
loop-i-preserved c =
    let ts = kept_in c.args.store.now in
    let es = c.args.store.now.entries.items in
    let counts = c.in_ok-openings.openings.items in
    let i = c.loop-i.i in
    let text = c.push_own.new.text.items in
    let openings : counts ≡ kids_openings (kepts_of ts) =
    c.in_ok-openings.ensures ∙ ap (λ es. openings_on [] es) c.as_slice.ensures.value ∙ openings_on-stored _ ts c.requires.entries_are in
    let within : i < length es = omega (arith, c.args.store.now.entries.ok.0, c.len-i-end.ensures) in
    let counted : i < length counts = omega (arith, within, ap length c.requires.entries_are, ap length openings, length-kids_openings (kepts_of ts)) in
    let texts = c.rest-texts.ensures ∙ ap (λ n. drop n c.loop-i.texts.now) c.own_text.ensures in
    let labels = c.rest-labels.ensures ∙ ap (λ n. drop n c.loop-i.labels.now) c.own_label.ensures in
    let later = ended (still c.loop-i.later c.index-in-loop-i.result.now) c.index.result.now in
    ap (λ b. text ++ entries_json b (drop (i + 1) es) (drop (i + 1) counts) c.rest-texts.result.now c.rest-labels.result.now) c.ended-later.ensures
    ∙ ap (λ xs. text ++ entries_json later (drop (i + 1) es) (drop (i + 1) counts) xs c.rest-labels.result.now) texts
    ∙ ap (λ xs. text ++ entries_json later (drop (i + 1) es) (drop (i + 1) counts) (drop (own_text c.index.result.now) c.loop-i.texts.now) xs) labels
    ∙ json-more es counts c.loop-i.texts.now c.loop-i.labels.now c.loop-i.text.items _ _ _ _ c.loop-i.later i c.index-in-loop-i.result.now c.index.result.now
    within counted c.index.ensures c.index-in-loop-i.ensures c.in_ok-push_separator.ensures c.in_ok-push_braces.ensures c.in_ok-push_own.ensures c.loop-i.invariant

pub returns : goal.returns
returns c =
    let ts = kept_in c.args.store.now in
    let es = c.args.store.now.entries.items in
    let counts = c.in_ok-openings.openings.items in
    let text = c.loop-i.text.items in
    let openings : counts ≡ kids_openings (kepts_of ts) =
    c.in_ok-openings.ensures ∙ ap (λ es. openings_on [] es) c.as_slice.ensures.value ∙ openings_on-stored _ ts c.requires.entries_are in
    let over : length es ≤ c.loop-i.i = omega (arith, c.args.store.now.entries.ok.0, c.len-i-end.ensures) in
    let texts = c.as_slice-texts.ensures.value ∙ c.requires.texts_are in
    let labels = c.as_slice-labels.ensures.value ∙ c.requires.labels_are in
    let kids = json-stored es counts c.as_slice-texts.result.now c.as_slice-labels.result.now ts c.requires.entries_are openings texts labels in
    let written =
    sym (append-nil text)
    ∙ ap (λ xs. text ++ entries_json c.loop-i.later xs (drop c.loop-i.i counts) c.loop-i.texts.now c.loop-i.labels.now) (sym (drop_all c.loop-i.i es over))
    ∙ c.loop-i.invariant
    ∙ ap (λ xs. xs ++ entries_json false es counts c.as_slice-texts.result.now c.as_slice-labels.result.now) c.in_ok-text.ensures.items
    ∙ ap (λ xs. 91 ∷ xs) kids in
    c.in_ok-push.ensures.items ∙ ap (λ xs. xs ++ 93 ∷ []) written
