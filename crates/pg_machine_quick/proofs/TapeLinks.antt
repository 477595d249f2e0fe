-- What links of chains do to tapes, and what folds do to trees.
use Rattle.std.proofs.Common.{◌≡◌, ◌∙◌, ◌+◌, ℕ, List, [], ◌∷◌, ◌++◌, Bool, refl, sym, ap, Option, Some, None, length, drop, append_assoc, append-nil}
use Rattle.pg_tree.specs.Trees.{Tree}
use Rattle.pg_tree.specs.Built.{built}
use Rattle.pg_grammar_form.specs.Forms.{Node}
use Rattle.pg_grammar_form.specs.declared.decl.Role.{Role}
use Rattle.pg_grammar_form.specs.declared.decl.Role.TheVariants.{InfixRight}
use Rattle.pg_grammar_form.specs.declared.form.Form.TheVariants as form
use Rattle.pg_grammar_form.specs.declared.used.ChainBuilder.{ChainBuilder}
use Rattle.pg_language.specs.Derives.{Spot}
use Rattle.pg_table.specs.Tables.{Table}
use Rattle.pg_machine_quick.specs.Tape.{tape, tape_folded_by, tape_linked, tape_last_unlinked, tape_unlinked_from, tape_links_folded, begin_of}
use Rattle.pg_machine_quick.specs.Turns.{Frame, returns, encloses, holds, operates, marks, State, state, folded_by, linked, unlinked, links_folded}
use Rattle.pg_machine_plan.specs.declared.instruction.Keep.{Keep}
use Rattle.pg_machine_plan.specs.declared.instruction.Keep.TheVariants.{Kept, Hidden}
use Rattle.pg_machine_quick.proofs.TapeStates.{below, waiting, flat, IsFine, Follows, kept_front, dropped_front}
use Rattle.pg_machine_quick.proofs.TapeRows.{passed_follows}

pub folded_trees : (keep : Keep) (used : ChainBuilder) (z f : List Tree) → tape_folded_by keep used (length z) (z ++ f) ≡ z ++ folded_by keep used f
folded_trees Kept used z f = ap (λ v. v ++ built used.shape [] (drop (length z) (z ++ f)) ∷ []) (kept_front z f)
    ∙ ap (λ v. z ++ built used.shape [] v ∷ []) (dropped_front z f)
folded_trees Hidden used z f = refl

linked_trees : (keep : Keep) (used : ChainBuilder) (z g f : List Tree) → tape_folded_by keep used (length z) ((z ++ g) ++ f) ≡ z ++ folded_by keep used (g ++ f)
linked_trees keep used z g f = ap (tape_folded_by keep used (length z)) (append_assoc z g f) ∙ folded_trees keep used z (g ++ f)

pub linked_follows : (table : Table) (s : State) → IsFine table s → Follows table (tape_linked (flat s)) (linked s)
linked_follows table s fine =
    let k : List Frame = operates 0 InfixRight s.spot.place 0 s.forest s.spot.table ∷ s.stack in (
      state (s.pc + 1) s.spot k [] s.nodes s.taken,
      refl,
      ap (λ z. tape (s.pc + 1) s.spot.place (waiting k) z s.nodes s.taken) (sym (append-nil (below s.stack ++ s.forest))),
      record { spot = fine.spot; stack = (fine.spot, fine.stack) },
    )

unlinked_above : (table : Table) (keep : Keep) (used : ChainBuilder) (rank i c : ℕ) (role : Role) (g : List Tree) (T : Table) (pc : ℕ) (a : Spot) (k : List Frame) (f : List Tree) (n : ℕ) (x : Bool) →
    IsFine table (state pc a (operates rank role i c g T ∷ k) f n x) →
    Follows table (tape_unlinked_from keep used (flat (state pc a (operates rank role i c g T ∷ k) f n x)) (waiting k) (begin_of (waiting k)))
    (unlinked keep used (state pc a (operates rank role i c g T ∷ k) f n x) (operates rank role i c g T ∷ k))
unlinked_above table keep used rank i c role g T pc a [] f n x fine = tt
unlinked_above table keep used rank i c role g T pc a (returns target ∷ k) f n x fine = tt
unlinked_above table keep used rank i c role g T pc a (encloses counts h b y ∷ k) f n x fine = tt
unlinked_above table keep used rank i c role g T pc a (holds h U ∷ k) f n x fine = (
  state pc a (holds h U ∷ k) (folded_by keep used (g ++ f)) n x,
  refl,
  ap (λ z. tape pc a.place (waiting (holds h U ∷ k)) z n x) (linked_trees keep used (below k ++ h) g f),
  record { spot = fine.spot; stack = fine.stack.1 },
)
unlinked_above table keep used rank i c role g T pc a (operates rank' role' j d h U ∷ k) f n x fine = (
  state pc a (operates rank' role' j d h U ∷ k) (folded_by keep used (g ++ f)) n x,
  refl,
  ap (λ z. tape pc a.place (waiting (operates rank' role' j d h U ∷ k)) z n x) (linked_trees keep used (below k ++ h) g f),
  record { spot = fine.spot; stack = fine.stack.1 },
)
unlinked_above table keep used rank i c role g T pc a (marks target h b y ∷ k) f n x fine = tt

unlinked_by : (table : Table) (keep : Keep) (used : ChainBuilder) (pc : ℕ) (a : Spot) (k : List Frame) (f : List Tree) (n : ℕ) (x : Bool) → IsFine table (state pc a k f n x) →
    Follows table (tape_last_unlinked keep used (flat (state pc a k f n x)) (waiting k)) (unlinked keep used (state pc a k f n x) k)
unlinked_by table keep used pc a [] f n x fine = passed_follows table 1 (state pc a [] f n x) fine
unlinked_by table keep used pc a (returns target ∷ k) f n x fine = passed_follows table 1 (state pc a (returns target ∷ k) f n x) fine
unlinked_by table keep used pc a (encloses counts g b y ∷ k) f n x fine = passed_follows table 1 (state pc a (encloses counts g b y ∷ k) f n x) fine
unlinked_by table keep used pc a (holds g T ∷ k) f n x fine = passed_follows table 1 (state pc a (holds g T ∷ k) f n x) fine
unlinked_by table keep used pc a (operates rank role i c g T ∷ k) f n x fine = unlinked_above table keep used rank i c role g T pc a k f n x fine
unlinked_by table keep used pc a (marks target g b y ∷ k) f n x fine = passed_follows table 1 (state pc a (marks target g b y ∷ k) f n x) fine

pub links_folded_follow : (table : Table) (keep : Keep) (s : State) (n : Option Node) → IsFine table s →
    Follows table (tape_links_folded keep (flat s) n) (links_folded keep s n)
links_folded_follow table keep s None fine = tt
links_folded_follow table keep s (Some (form.Leaf l)) fine = tt
links_folded_follow table keep s (Some (form.Seq ps)) fine = tt
links_folded_follow table keep s (Some (form.Choice ps)) fine = tt
links_folded_follow table keep s (Some (form.Many p)) fine = tt
links_folded_follow table keep s (Some (form.Chain side used p q)) fine = unlinked_by table keep used s.pc s.spot s.stack s.forest s.nodes s.taken fine
links_folded_follow table keep s (Some (form.Rule r)) fine = tt
links_folded_follow table keep s (Some (form.Expression builders p)) fine = tt
links_folded_follow table keep s (Some (form.Around k p)) fine = tt
