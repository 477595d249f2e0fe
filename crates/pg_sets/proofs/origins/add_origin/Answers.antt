use Rattle.std.proofs.Common.{◌≡◌, ◌∷◌, ◌++◌, [], ℕ, false, cond, Some, ap, ◌∙◌, refl}
use Rattle.std.specs.BTreeMap.{get}
use Rattle.std.specs.Ordering.{is_eq}
use Rattle.pg_sets_own.specs.Listed.{start_order}
use Rattle.pg_sets.specs.Origins.{Origins, sets_of}
use Rattle.pg_sets_own.specs.declared.listed.ListedStart.{ListedStart}
use Rattle.pg_sets.proofs.Adding.{IsAdded, held_more, there_more, tied_if_same}
use Rattle.pg_sets.proofs.origins.add_origin.Goals as goal

added : (before taken after : Origins) (listed : ListedStart) (v : ℕ)
    → ((other : ListedStart) → is_eq (start_order listed other) ≡ false → get start_order taken other ≡ get start_order before other)
    → ((other : ListedStart) → get start_order after other ≡ cond (is_eq (start_order listed other)) (Some (sets_of before listed ++ v ∷ [])) (get start_order taken other))
    → IsAdded before after listed v
added before taken after listed v kept put = record {
  here = put listed ∙ ap (λ b. cond b (Some (sets_of before listed ++ v ∷ [])) (get start_order taken listed)) (tied_if_same listed listed refl);
  others = λ other apart. put other ∙ (ap (λ b. cond b (Some (sets_of before listed ++ v ∷ [])) (get start_order taken other)) apart ∙ kept other apart);
}

is_added : (c : goal.Joined-branch-3) → IsAdded c.args.origins.now c.insert.new.self c.args.listed c.args.set
is_added c =
    let sets : c.push.new.self ≡ sets_of c.args.origins.now c.args.listed ++ c.args.set ∷ [] = c.in_ok-push.ensures ∙ ap (λ ns. ns ++ c.args.set ∷ []) c.taken_sets-sets.ensures.sets in
    added c.args.origins.now c.taken_sets-sets.new.origins c.insert.new.self c.args.listed c.args.set c.taken_sets-sets.ensures.others
    (λ other. c.in_ok-insert.ensures.updates.0 other ∙ ap (λ ns. cond (is_eq (start_order c.args.listed other)) (Some ns) (get start_order c.taken_sets-sets.new.origins other)) sets)

pub returns-clause-held : goal.returns-clause-held
returns-clause-held c = held_more c.args.origins.now c.insert.new.self c.args.listed c.args.set (is_added c)

pub returns-clause-there : goal.returns-clause-there
returns-clause-there c = there_more c.args.origins.now c.insert.new.self c.args.listed c.args.set (is_added c)
