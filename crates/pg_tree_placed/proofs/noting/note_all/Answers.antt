use Rattle.std.proofs.Common.{◌≡◌, ◌<◌, ◌+◌, ◌-◌, ℕ, false, length, get_or, arith, ap, refl, sym, subst, reverse}
use Rattle.pg_tree_placed.specs.declared.entry.Entry.{Entry}
use Rattle.pg_tree_placed.specs.declared.entry.Entry.TheVariants.{Leaf}
use Rattle.pg_tree_placed.specs.Noted.{AreNoted, StepsBack}
use Rattle.pg_tree_placed.specs.Written.{open_in}
use Rattle.pg_tree_placed.proofs.Noted.{step_noted, noted_none, noted_all}
use Rattle.pg_tree_placed.proofs.noting.note_all.Goals as goal

pub loop-steps-init : goal.loop-steps-init
loop-steps-init c =
    noted_none c.args.labels.now c.args.entries.now (length c.args.entries.now) (open_in c.new-pending.result) (reverse c.args.notes.now.items) refl c.new-pending.ensures
    (ap (λ ns. reverse ns) c.requires)

pub loop-steps-preserved-in-Leaf : goal.loop-steps-preserved-in-Leaf
loop-steps-preserved-in-Leaf c =
    let labels = c.args.labels.now in
    let es = c.args.entries.now in
    let steps = c.loop-steps.steps - 1 in
    let cs = open_in c.loop-steps.pending in
    let ds = open_in c.take_one.new.self in
    let step : c.loop-steps.steps ≡ steps + 1 = omega (arith, c.loop-steps-test.true) in
    let within : steps < length es = omega (arith, c.loop-steps-test.true, c.loop-steps.invariant.within) in
    step_noted labels es steps c.loop-steps.steps false cs ds (open_in c.note.new.pending) (reverse c.loop-steps.notes.items) (reverse c.note.new.notes.items)
    (get_or es steps (Leaf 0 0)) step within refl (subst (λ (e : Entry). StepsBack labels cs e false ds) (sym c.in-Leaf.is) (refl, c.take_one.ensures))
    c.in_ok-note.ensures.open c.in_ok-note.ensures.noted c.loop-steps.invariant

pub loop-steps-preserved-in-Join : goal.loop-steps-preserved-in-Join
loop-steps-preserved-in-Join c =
    let labels = c.args.labels.now in
    let es = c.args.entries.now in
    let step : c.loop-steps.steps ≡ c.loop-steps.steps - 1 + 1 = omega (arith, c.loop-steps-test.true) in
    c.in_ok-steps.ensures.noted labels
    (subst (λ (n : ℕ). AreNoted labels es n (open_in c.loop-steps.pending) (reverse c.loop-steps.notes.items)) step c.loop-steps.invariant)

pub loop-steps-preserved : goal.loop-steps-preserved
loop-steps-preserved c =
    let es = c.args.entries.now in
    let steps = c.loop-steps.steps - 1 in
    let step : c.loop-steps.steps ≡ steps + 1 = omega (arith, c.loop-steps-test.true) in
    let within : steps < length es = omega (arith, c.loop-steps-test.true, c.loop-steps.invariant.within) in
    step_noted c.args.labels.now es steps c.loop-steps.steps c.in_ok-is_lifted.is_lifted (open_in c.loop-steps.pending) (open_in c.go_back.new.pending)
    (open_in c.note-in-loop-steps.new.pending) (reverse c.loop-steps.notes.items) (reverse c.note-in-loop-steps.new.notes.items) (get_or es steps (Leaf 0 0)) step within refl
    c.in_ok-is_lifted.ensures c.in_ok-note-2.ensures.open c.in_ok-note-2.ensures.noted c.loop-steps.invariant

pub returns-then-is_empty : goal.returns-then-is_empty
returns-then-is_empty c = λ text.
    noted_all text c.args.labels.now c.args.entries.now c.loop-steps.steps (open_in c.loop-steps.pending) c.loop-steps.notes.items
    (omega (arith, c.loop-steps-test.false)) (c.is_empty.ensures.0 c.if-is_empty.true) c.loop-steps.invariant
