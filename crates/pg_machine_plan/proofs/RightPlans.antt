-- A plan whose stretches have their shapes, and whose arms are right whatever comes next, is right for its grammar.
use Rattle.std.proofs.Common.{◌≡◌, ◌<◌, ◌==◌, ℕ, Bool, true, false, refl, sym, Option, Some, None, slice_get, if◌then◌else◌, arith, lit<}
use Rattle.std.specs.Prelude.{nat_lt}
use Rattle.std.proofs.lemmas.Bool.Decides.{nat_tests}
use Rattle.pg_grammar_value.specs.Grammar.{Grammar}
use Rattle.pg_machine_plan.specs.Columns.{next_at}
use Rattle.pg_machine_plan.specs.Judged.{IsRightFor, HasShape, HasArmsAt, BeginsRight}
use Rattle.pg_machine_plan.specs.Plans.{Plan}
use Rattle.pg_machine_plan.specs.Verdicts.{next_of, slot}
use Rattle.pg_machine_plan.specs.declared.next.Next.TheVariants.{Ascii, Other}

-- what comes next has a place in a table of 130, and no other has that place
has_place : (x : Option ℕ) → (slot (next_of x) < 130) × (next_at (slot (next_of x)) ≡ next_of x)
has_place None = (lit< tt, refl)
has_place (Some c) = by_range (nat_lt c 128) refl
  where
    by_range : (b : Bool) → nat_lt c 128 ≡ b → (slot (if b then Ascii c else Other) < 130) × (next_at (slot (if b then Ascii c else Other)) ≡ (if b then Ascii c else Other))
    by_range true e = (grind (arith, nat_tests), rw e refl)
    by_range false e = (lit< tt, refl)

-- the arms of all tables are right, whatever comes next
abbrev pub HasAllArms : Grammar → Plan → Type 0
HasAllArms g plan = (k : ℕ) → k < 130 → (pc : ℕ) → HasArmsAt g plan (next_at k) pc

pub right_plan : (g : Grammar) (plan : Plan) → BeginsRight g plan → ((pc : ℕ) → HasShape g plan pc) → HasAllArms g plan → IsRightFor g plan
right_plan g plan begins shapes arms = λ text. record {
  library = refl;
  laid = λ keep q pc end noted.
      let shape = shapes pc (record { keep = keep; node = q; end = end }) noted in
      record {
        node = shape.0;
        is = shape.1;
        laid = shape.2 text (λ a.
            let place = has_place (slice_get text a.place) in
            arms (slot (next_of (slice_get text a.place))) place.0 pc (record { keep = keep; node = q; end = end }) noted shape.0 shape.1 text a (sym place.1));
      };
  start = begins.start;
  is_start = begins.is_start;
  exit = begins.body.0;
  body = begins.body.1;
  back = begins.body.2;
  stop = begins.stop;
}
