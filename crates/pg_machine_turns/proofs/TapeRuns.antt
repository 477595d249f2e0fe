-- Turns of the machine after one another, one by one.
use Rattle.std.proofs.Common.{◌≡◌, ◌≤◌, ◌<◌, ◌+◌, ◌-◌, ◌^◌, ℕ, suc, false, refl, sym, subst, arith}
use Rattle.pg_pred.specs.Offer.{Offer}
use Rattle.pg_grammar_value.specs.Fits.{Fits}
use Rattle.pg_language.specs.Answers.{Given}
use Rattle.pg_machine_turns.specs.Ready.{IsTapeReady}
use Rattle.pg_machine_turns.specs.Tape.{Tape, tape_turn, tape_is_last}
use Rattle.pg_machine_turns.specs.TapeRuns.{IsAfter, IsTapeReadyFor}
use Rattle.pg_machine_turns.proofs.Ready.{turn_ready, tape_more}

-- a number of turns was made, of at most `most`
pub record Going (offer : Offer) (G : Given) (x : Tape) (most steps : ℕ) (y : Tape) : Type 0 where
  pub after : IsAfter G x steps y
  pub room : ℕ
  pub ready : IsTapeReady offer G.grammar (suc (room + steps)) y
  pub bound : room + most ≤ 2 ^ 64 - 1
  pub within : steps ≤ most

pub going_begins : (offer : Offer) (G : Given) (x : Tape) (most : ℕ) → IsTapeReadyFor offer G.grammar most x → Going offer G x most 0 x
going_begins offer G x most r = let room : suc r.0 ≡ suc (r.0 + 0) = omega arith in record {
  after = refl;
  room = r.0;
  ready = subst (λ n. IsTapeReady offer G.grammar n x) room r.1;
  bound = r.2;
  within = omega arith;
}

pub going_turn : (offer : Offer) (G : Given) (x : Tape) (most n : ℕ) (y z : Tape) → Fits offer G.grammar → Going offer G x most n y → n < most → tape_is_last y ≡ false → z ≡ tape_turn G y →
    Going offer G x most (n + 1) z
going_turn offer G x most n y z fits r l f e =
    let one : suc n ≡ n + 1 = omega arith in
    let positive : 0 < suc (r.room + n) = omega arith in
    let more : suc (suc (r.room + n)) ≡ suc (r.room + suc n) = omega arith in
    let next : Going offer G x most (suc n) z = record {
      after = (y, r.after, f, e);
      room = r.room;
      ready = subst (IsTapeReady offer G.grammar (suc (r.room + suc n))) (sym e)
          (subst (λ k. IsTapeReady offer G.grammar k (tape_turn G y)) more (turn_ready offer G.grammar (suc (r.room + n)) G y refl fits positive r.ready));
      bound = r.bound;
      within = omega arith;
    } in
    subst (λ k. Going offer G x most k z) one next

pub going_ready : (offer : Offer) (G : Given) (x : Tape) (most n : ℕ) (y : Tape) → Going offer G x most n y → n < most → IsTapeReady offer G.grammar (2 ^ 64 - 1) y
going_ready offer G x most n y r l =
    let b = r.bound in
    let m : suc (r.room + n) ≤ 2 ^ 64 - 1 = omega arith in
    tape_more offer G.grammar (suc (r.room + n)) (2 ^ 64 - 1) m y r.ready
