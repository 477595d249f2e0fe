-- Ranges are equal where their ends are.
use Rattle.std.proofs.Common.{◌≡◌, ℕ, ◌==◌, ◌&&◌, ap, ◌∙◌}
use Rattle.std.proofs.lemmas.Bool.Decides.{Decides-eqb, Decides-and, Decides-like}
use Rattle.std.specs.Bool.{Decides}
use Rattle.pg_class.specs.Ranges.{Range}

-- the test of both ends
pub Decides-ends : (r s : Range) → Decides (r.0 == s.0 && r.1 == s.1) (r ≡ s)
Decides-ends r s =
    Decides-like (r.0 == s.0 && r.1 == s.1)
    (λ e. ap (λ (a : ℕ). (a, r.1)) e.0 ∙ ap (λ (b : ℕ). (s.0, b)) e.1)
    (λ (e : r ≡ s). (ap (λ (t : Range). t.0) e, ap (λ (t : Range). t.1) e))
    (Decides-and (r.0 == s.0) (r.1 == s.1) (Decides-eqb r.0 s.0) (Decides-eqb r.1 s.1))
