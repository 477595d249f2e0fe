use Rattle.std.proofs.Common.{◌≡◌, ◌++◌, ℕ, List, true, false, cond, Some, inl, inr, [], length, refl, sym, ap, subst, ◌∙◌, arith}
use Rattle.std.specs.Prelude.{◌↔◌, ◌⊎◌}
use Rattle.std.specs.BTreeMap.{get}
use Rattle.std.specs.Ordering.{is_eq}
use Rattle.pg_sets_own.specs.Listed.{start_order}
use Rattle.pg_sets_own.specs.declared.listed.ListedStart.{ListedStart}
use Rattle.pg_graph.specs.Graphs.{has}
use Rattle.pg_sets.specs.Origins.{Origins, HoldsIt, sets_of}
use Rattle.pg_sets.proofs.Adding.{tied_if_same}
use Rattle.pg_sets.proofs.Mixed.{HasMore, held_several, there_several, nothing_more}
use Rattle.pg_sets.proofs.readers.add_readers.Goals as goal

added : (before taken after : Origins) (listed : ListedStart) (more : List ℕ)
    → ((other : ListedStart) → is_eq (start_order listed other) ≡ false → get start_order taken other ≡ get start_order before other)
    → ((other : ListedStart) → get start_order after other ≡ cond (is_eq (start_order listed other)) (Some (sets_of before listed ++ more)) (get start_order taken other))
    → HasMore before after listed more
added before taken after listed more kept put = record {
  here = put listed ∙ ap (λ b. cond b (Some (sets_of before listed ++ more)) (get start_order taken listed)) (tied_if_same listed listed refl);
  others = λ other apart. put other ∙ (ap (λ b. cond b (Some (sets_of before listed ++ more)) (get start_order taken other)) apart ∙ kept other apart);
}

pub returns-clause-held : goal.returns-clause-held
returns-clause-held c =
    let before = c.args.origins.now in
    let taken = c.taken_sets-sets.new.origins in
    let sets : c.push_all.new.numbers ≡ sets_of before c.args.listed ++ c.args.readers.now = c.in_ok-push_all.ensures ∙ ap (λ ns. ns ++ c.args.readers.now) c.taken_sets-sets.ensures.sets in
    held_several before c.insert.new.self c.args.listed c.args.readers.now
    (added before taken c.insert.new.self c.args.listed c.args.readers.now c.taken_sets-sets.ensures.others
    (λ other. c.in_ok-insert.ensures.updates.0 other ∙ ap (λ ns. cond (is_eq (start_order c.args.listed other)) (Some ns) (get start_order taken other)) sets))

pub returns-clause-there : goal.returns-clause-there
returns-clause-there c =
    let before = c.args.origins.now in
    let taken = c.taken_sets-sets.new.origins in
    let sets : c.push_all.new.numbers ≡ sets_of before c.args.listed ++ c.args.readers.now = c.in_ok-push_all.ensures ∙ ap (λ ns. ns ++ c.args.readers.now) c.taken_sets-sets.ensures.sets in
    there_several before c.insert.new.self c.args.listed c.args.readers.now
    (added before taken c.insert.new.self c.args.listed c.args.readers.now c.taken_sets-sets.ensures.others
    (λ other. c.in_ok-insert.ensures.updates.0 other ∙ ap (λ ns. cond (is_eq (start_order c.args.listed other)) (Some ns) (get start_order taken other)) sets))
