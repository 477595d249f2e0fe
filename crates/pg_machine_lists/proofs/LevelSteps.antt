-- One step of the loops over rows that begin and over levels that are handed a stretch.
use Rattle.std.proofs.Common.{◌≡◌, ◌<◌, ◌-◌, ◌+◌, ℕ, zero, suc, List, ◌∷◌, ◌++◌, ap, ◌∙◌, arith}
use Rattle.pg_language.specs.Answers.{Given}
use Rattle.pg_machine_lists.specs.TapeLevels.{OnPreceding, on_nothing, OnLevel, OnSetting, OnStretch, Lists, Down, on_hands, on_runs, on_again, row_begun, down, operand_down, level_on, on_followed, on_climb}
use Rattle.pg_machine_lists.specs.ViewLevels.{down_on}

module _ (G : Given) (e : OnSetting) where
  pub down_onward : (row i : ℕ) (levels : List OnLevel) (l : Lists) (d : Down) → 0 < row → d ≡ down_on (row_begun G e row i on_nothing l) levels →
      down G e (row - 1) d.place d.levels d.lists ≡ down G e row i levels l
  down_onward zero i levels l d some h = absurd (omega arith)
  down_onward (suc k) i levels l d some h =
      let less : suc k - 1 ≡ k = omega arith in
      ap (λ n. down G e n d.place d.levels d.lists) less ∙ ap (λ (d : Down). down G e k d.place d.levels d.lists) h

  pub operand_onward : (k row i : ℕ) (before : OnPreceding) (levels : List OnLevel) (l : Lists) (d : Down) → row ≡ k + 1 →
      d ≡ down_on (row_begun G e row i before l) levels → down G e k d.place d.levels d.lists ≡ operand_down G e k i before levels l
  operand_onward k row i before levels l d one h =
      let next : row ≡ suc k = omega arith in
      ap (λ (d : Down). down G e k d.place d.levels d.lists) (h ∙ ap (λ n. down_on (row_begun G e n i before l) levels) next)

  pub climb_hands : (l : OnLevel) (levels : List OnLevel) (z y : OnStretch) → on_hands y ≡ level_on G e l z → on_climb G e levels y ≡ on_climb G e (l ∷ levels) z
  climb_hands l levels z y h = ap (on_followed G e (λ y. on_climb G e levels y) levels) h

  pub climb_runs : (l : OnLevel) (levels : List OnLevel) (z : OnStretch) (k i : ℕ) (before : OnPreceding) (between : List OnLevel) (x : Lists) →
      on_runs k i before between x ≡ level_on G e l z → on_again (operand_down G e k i before (between ++ levels) x) ≡ on_climb G e (l ∷ levels) z
  climb_runs l levels z k i before between x h = ap (on_followed G e (λ y. on_climb G e levels y) levels) h
